-- Small counts, the last count and the first one past it, and some bytes, by computing.
-- Assumes nothing.
use Rattle.std.specs.Prelude.{◌≡◌, refl, List, [], ◌∷◌, ◌++◌, ℕ, zero, suc}
use Rattle.std.proofs.Common.{le_refl, lit<}
use Rattle.ground.specs.Paper.{accepted, refused}
use Rattle.logarithm.specs.Meaning.{twice_to_eighth, Log8Given, between, no_count, log8_of, log8_means}
use Rattle.logarithm.specs.Eighths.{first_computed, ends_given, none_given}

-- 2026-01: the logarithm bytes of the counts before n, in order
abbrev pub bytes_before : ℕ → List ℕ
bytes_before zero = []
bytes_before (suc n) = bytes_before n ++ (log8_of n ∷ [])

-- those of 0 to 9
pub log8_small : bytes_before 10 ≡ 0 ∷ 8 ∷ 16 ∷ 20 ∷ 24 ∷ 26 ∷ 28 ∷ 30 ∷ 32 ∷ 33 ∷ []
unfolding twice_to_eighth
log8_small = refl

-- the last count of the logarithm has the last byte
pub log8_last : log8_means 2147483647 ≡ accepted 255
unfolding twice_to_eighth
log8_last = refl

-- the first count past it is refused
pub log8_refused : log8_means 2147483648 ≡ refused 12
unfolding twice_to_eighth
log8_refused = refl

-- the counts of byte 61, which is the byte of 100
pub log8_of_61 : Log8Given 61 (between 99 107)
unfolding twice_to_eighth
log8_of_61 = ends_given (lit< tt) (lit< tt) (first_computed 61 {count = 99} refl) (first_computed 62 {count = 108} refl) (lit< tt)

-- those of the last byte
pub log8_of_255 : Log8Given 255 (between 1969251188 2147483647)
unfolding twice_to_eighth
log8_of_255 = ends_given (lit< tt) (lit< tt) (first_computed 255 {count = 1969251188} refl) (first_computed 256 {count = 2147483648} refl) (lit< tt)

-- no count gives byte 9: one count has 8, two have 16
pub log8_of_9 : Log8Given 9 no_count
unfolding twice_to_eighth
log8_of_9 = none_given (lit< tt) (lit< tt) (first_computed 9 {count = 2} refl) (first_computed 10 {count = 2} refl) (le_refl 2)
