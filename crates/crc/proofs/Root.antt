-- The polynomial x^16 + x^12 + x^5 + 1 makes nothing of a register: sixteen bits are twelve, five and none together. So do its
-- powers of two, whose terms are twice as far apart each time.
-- Assumes nothing.
use mathlib.Core.Path.{◌≡◌, refl, sym, ap, ap₂, ◌∙◌, subst}
use Prim.Native.Nat.{ℕ, zero, suc, ◌+◌, ◌/◌, ◌%◌, ◌^◌, ◌<◌}
use native.Mathlib.Nat.{mod-lt, zero-lt-suc, add_comm, not-suc-le-zero, le_of_suc-le-suc}
use native.Mathlib.Omega.{arith}
use lib.Arith.{bin_ind}
use lib.Pow.{shr_lt, split}
use lib.Bits.{bit_xor, xor_lt, xor_shifted}
use Rattle.crc.specs.Meaning.{shift, shifts}
use Rattle.crc.specs.Laws.{shift_lt, shifts_lt}
use Rattle.crc.proofs.Xor.{xor_middle, xor_shared}
use Rattle.crc.proofs.Linear.{shift_xor, shifts_xor, shifts_add, shift_small}

-- so many bits are fewer, fewer still and none together
pub record Root (n m k : ℕ) : Type 0 where
  pub at : (x : ℕ) → x < 2 ^ 16 → shifts n x ≡ bit_xor (bit_xor (shifts m x) (shifts k x)) x

-- the polynomial at one register
abbrev Holds : ℕ → Type 0
Holds x = shifts 16 x ≡ bit_xor (bit_xor (shifts 12 x) (shifts 5 x)) x

-- three sums are one of three sums
three : (a b c d e f : ℕ) → bit_xor (bit_xor (bit_xor a b) (bit_xor c d)) (bit_xor e f) ≡ bit_xor (bit_xor (bit_xor a c) e) (bit_xor (bit_xor b d) f)
three a b c d e f =
    ap (λ (x : ℕ). bit_xor x (bit_xor e f)) (xor_middle a b c d) ∙ xor_middle (bit_xor a c) (bit_xor b d) e f

-- of two registers that hold it, the sum holds it
holds_xor : (a b : ℕ) → a < 2 ^ 16 → b < 2 ^ 16 → Holds a → Holds b → Holds (bit_xor a b)
holds_xor a b ha hb pa pb =
    shifts_xor 16 a b ha hb
    ∙ ap₂ bit_xor pa pb
    ∙ sym (three (shifts 12 a) (shifts 12 b) (shifts 5 a) (shifts 5 b) a b)
    ∙ ap (λ (x : ℕ). bit_xor x (bit_xor a b)) (ap₂ bit_xor (sym (shifts_xor 12 a b ha hb)) (sym (shifts_xor 5 a b ha hb)))

-- one bit further it still holds
holds_shift : (a : ℕ) → a < 2 ^ 16 → Holds a → Holds (shift a)
holds_shift a h p =
    let twelve : shifts 12 a < 2 ^ 16 = shifts_lt 12 a h in
    let five : shifts 5 a < 2 ^ 16 = shifts_lt 5 a h in
    ap shift p
    ∙ shift_xor (bit_xor (shifts 12 a) (shifts 5 a)) a (xor_lt 16 (shifts 12 a) (shifts 5 a) twelve five) h
    ∙ ap (λ (x : ℕ). bit_xor x (shift a)) (shift_xor (shifts 12 a) (shifts 5 a) twelve five)

-- it holds of one bit
holds_bit : (b : ℕ) → b < 2 → Holds b
unfolding shift
holds_bit zero h = refl
holds_bit (suc zero) h = refl
holds_bit (suc (suc b)) h = absurd (not-suc-le-zero (le_of_suc-le-suc (le_of_suc-le-suc h)))

-- a register is its upper digits moved by one, and its last digit
digits : (n : ℕ) → n < 2 ^ 16 → bit_xor (shift (n / 2)) (n % 2) ≡ n
digits n h =
    ap (λ (x : ℕ). bit_xor x (n % 2)) (shift_small (n / 2) (shr_lt 15 1 h))
    ∙ xor_shifted (n / 2) 1 (n % 2) (mod-lt n (zero-lt-suc 1))
    ∙ split n 1

-- it holds of every register, bit by bit
holds : (n : ℕ) → n < 2 ^ 16 → Holds n
holds =
    bin_ind (λ (n : ℕ). n < 2 ^ 16 → Holds n) (λ h. holds_bit 0 (zero-lt-suc 1))
    (λ n ih h.
    let half : n / 2 < 2 ^ 16 = omega arith in
    let bit : n % 2 < 2 = mod-lt n (zero-lt-suc 1) in
    subst Holds (digits n h)
    (holds_xor (shift (n / 2)) (n % 2) (shift_lt (n / 2)) (omega arith) (holds_shift (n / 2) half (ih half)) (holds_bit (n % 2) bit)))

-- the polynomial itself
pub root : Root 16 12 5
root = record { at = holds }

-- what both middle terms make falls out
squared : (a b c d e x : ℕ)
    → bit_xor (bit_xor (bit_xor (bit_xor a b) d) (bit_xor (bit_xor b c) e)) (bit_xor (bit_xor d e) x) ≡ bit_xor (bit_xor a c) x
squared a b c d e x =
    ap (λ (y : ℕ). bit_xor y (bit_xor (bit_xor d e) x))
    (xor_middle (bit_xor a b) d (bit_xor b c) e ∙ ap (λ (y : ℕ). bit_xor y (bit_xor d e)) (xor_shared a b c))
    ∙ xor_shared (bit_xor a c) (bit_xor d e) x

-- its square: the terms are twice as far apart
pub square : (n m k : ℕ) → Root n m k → Root (n + n) (m + m) (k + k)
square n m k root =
    record {
      at = λ x h.
          let u = shifts m x in
          let v = shifts k x in
          let hu : u < 2 ^ 16 = shifts_lt m x h in
          let hv : v < 2 ^ 16 = shifts_lt k x h in
          let crossed : shifts m v ≡ shifts k u = shifts_add m k x ∙ ap (λ (j : ℕ). shifts j x) (add_comm k m) ∙ sym (shifts_add k m x) in
          sym (shifts_add n n x)
          ∙ ap (shifts n) (root.at x h)
          ∙ shifts_xor n (bit_xor u v) x (xor_lt 16 u v hu hv) h
          ∙ ap (λ (y : ℕ). bit_xor y (shifts n x)) (shifts_xor n u v hu hv)
          ∙ ap₂ bit_xor
          (ap₂ bit_xor (root.at u hu) (root.at v hv ∙ ap (λ (y : ℕ). bit_xor (bit_xor y (shifts k v)) v) crossed))
          (root.at x h)
          ∙ squared (shifts m u) (shifts k u) (shifts k v) u v x
          ∙ ap (λ (y : ℕ). bit_xor y x) (ap₂ bit_xor (shifts_add m m x) (shifts_add k k x));
    }

-- its eighth power
pub eighth : Root 128 96 40
eighth = square 64 48 20 (square 32 24 10 (square 16 12 5 root))
