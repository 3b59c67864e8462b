-- Codes in bytes and the errors of the tables, computed from the definitions; document 01's starred cases are in `demands`.
-- Assumes nothing.
use Rattle.std.specs.Prelude.{◌≡◌, refl, List, [], ◌∷◌, map, ℕ, pos, replicate}
use Rattle.ground.specs.Paper.{accepted, refused_with}
use Rattle.ground.specs.Outcome.{accept}
use Rattle.code.specs.Meaning.{nought, small, led, error, unpack_means, pack_means, shape_of, leading_in, parse, after_sign, bytes_from, bits_that_count}
use Rattle.code.specs.Meaning.{greatest_place, completed, missing}
use Rattle.code.specs.Missing.{missing_after_sign, missing_computed}

-- 100 read at bit 8, with another code's bits before it
reads_hundred : unpack_means (0b11110000 ∷ 0b10110110 ∷ 0 ∷ []) 8 0 ≡ accepted (record { value = pos 99; next = 17 })
unfolding parse after_sign bits_that_count
reads_hundred = refl

-- 100 written at bit 5 of ones: the bits before it stay, the rest of its last byte is 0, later bytes stay
writes_hundred : pack_means (255 ∷ 255 ∷ 255 ∷ 255 ∷ []) 5 (pos 100) 0 ≡ accept 14 (0b11111101 ∷ 0b10110000 ∷ 255 ∷ 255 ∷ [])
unfolding shape_of leading_in bytes_from bits_that_count
writes_hundred = refl

-- 2026-02, by the sentence's own search: what is missing of bits that were read, with drop 0 and with drop 3
abbrev pub missing_of : List ℕ → ℕ × ℕ
missing_of read = (missing greatest_place 0 read, missing greatest_place 3 read)

-- at the end, after `1`, after the sign, after one 1, after two, and after two and their zero
pub missing_at_first : map missing_of
    ([] ∷ (1 ∷ []) ∷ (1 ∷ 0 ∷ []) ∷ (1 ∷ 0 ∷ 1 ∷ []) ∷ (1 ∷ 0 ∷ 1 ∷ 1 ∷ []) ∷ (1 ∷ 0 ∷ 1 ∷ 1 ∷ 0 ∷ []) ∷ [])
    ≡ (1, 1) ∷ (6, 3) ∷ (5, 2) ∷ (4, 1) ∷ (5, 2) ∷ (4, 1) ∷ []
unfolding missing completed parse after_sign
missing_at_first = refl

-- within drop 0's four bits, where only zeros have come: 1 completes them, the redundant zero does not
pub missing_in_zeros : map (missing greatest_place 0)
    ((1 ∷ 0 ∷ 0 ∷ []) ∷ (1 ∷ 0 ∷ 0 ∷ 0 ∷ []) ∷ (1 ∷ 0 ∷ 0 ∷ 0 ∷ 0 ∷ []) ∷ (1 ∷ 0 ∷ 0 ∷ 0 ∷ 0 ∷ 0 ∷ []) ∷ [])
    ≡ 4 ∷ 3 ∷ 2 ∷ 1 ∷ []
unfolding missing completed parse after_sign
missing_in_zeros = refl

-- after twelve ones 15 bits are missing, after eleven 14
pub missing_at_most : (missing_computed 0 (1 ∷ 0 ∷ replicate 12 1) ≡ 15) × (missing_computed 0 (1 ∷ 0 ∷ replicate 11 1) ≡ 14)
unfolding missing_computed missing_after_sign
missing_at_most = (refl, refl)

-- 100 cut after eight of its nine bits: one bit is missing, and after `1` at bit 7 six are
cut_hundred : (unpack_means (0b10110110 ∷ []) 0 0 ≡ refused_with 9 1) × (unpack_means (0b10110111 ∷ []) 7 0 ≡ refused_with 9 6)
unfolding parse after_sign bits_that_count missing completed
cut_hundred = (refl, refl)

-- the second column of a table, from the row of 0 to that of 65536 to 131071
abbrev pub column : ℕ → List ℕ
column d = error d nought ∷ error d (small 0 1) ∷ map (λ (k : ℕ). error d (led 0 k 0)) (4 ∷ 5 ∷ 6 ∷ 7 ∷ 8 ∷ 9 ∷ 10 ∷ 11 ∷ 12 ∷ 13 ∷ 14 ∷ 15 ∷ 16 ∷ [])

-- table 14 of 000
pub table_14 : column 0 ≡ 0 ∷ 0 ∷ 1 ∷ 2 ∷ 4 ∷ 4 ∷ 8 ∷ 8 ∷ 16 ∷ 16 ∷ 32 ∷ 32 ∷ 64 ∷ 64 ∷ 128 ∷ []
table_14 = refl

-- table 15 of 000
pub table_15 : column 3 ≡ 3 ∷ 4 ∷ 8 ∷ 16 ∷ 32 ∷ 32 ∷ 64 ∷ 64 ∷ 128 ∷ 128 ∷ 256 ∷ 256 ∷ 512 ∷ 512 ∷ 1024 ∷ []
table_15 = refl
