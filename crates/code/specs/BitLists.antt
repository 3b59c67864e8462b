-- Laws of bits: a number and its bits, joined bits, bits back to the number.
-- Assumes nothing.
use Rattle.std.specs.Prelude.{◌≡◌, refl, List, [], ◌∷◌, ◌++◌, ℕ, zero, suc, ◌+◌, ◌*◌, ◌-◌, ◌/◌, ◌%◌, ◌^◌, ◌<◌, length, take, drop, replicate}
use Rattle.std.proofs.Common.{sym, ap, ap₂, ◌∙◌, arith, length-append, pow_pos, shr-shr}
use native.Mathlib.Nat.{pow-suc, mul_comm, mul_assoc, mul-add-div_right, mul-add-mod_self_right, mod-lt, suc-add, zero-add, mod-eq_of_lt, mod-one}
use Rattle.std.proofs.Math.Pow.{high, ones_lt}
use Rattle.std.proofs.lemmas.Nat.{mod-pow-add}
use Rattle.std.proofs.Math.Arith.{digits_lt}
use Rattle.ground.specs.Bits.{to_bits, bits_of}
use Rattle.code.specs.Meaning.{from_bits}

-- every element is a bit
abbrev pub all_bits : List ℕ → Type 0
all_bits [] = Unit {0}
all_bits (b ∷ l) = (b < 2) × all_bits l

-- so many bits were asked, so many are there
pub length-to_bits : (w x : ℕ) → length (to_bits w x) ≡ w
length-to_bits zero x = refl
length-to_bits (suc w) x = ap suc (length-to_bits w x)

-- the bits of a number are bits
pub all_bits-to_bits : (w x : ℕ) → all_bits (to_bits w x)
all_bits-to_bits zero x = tt
all_bits-to_bits (suc w) x = (mod-lt (x / 2 ^ w) (pow_pos 1), all_bits-to_bits w x)

-- bits after bits are bits
pub all_bits-append : (l k : List ℕ) → all_bits l → all_bits k → all_bits (l ++ k)
all_bits-append [] k p q = q
all_bits-append (b ∷ l) k p q = (p.0, all_bits-append l k p.1 q)

-- the first of bits are bits
pub all_bits-take : (n : ℕ) (l : List ℕ) → all_bits l → all_bits (take n l)
all_bits-take zero l p = tt
all_bits-take (suc n) [] p = tt
all_bits-take (suc n) (b ∷ l) p = (p.0, all_bits-take n l p.1)

-- the rest of bits are bits
pub all_bits-drop : (n : ℕ) (l : List ℕ) → all_bits l → all_bits (drop n l)
all_bits-drop zero l p = p
all_bits-drop (suc n) [] p = tt
all_bits-drop (suc n) (b ∷ l) p = all_bits-drop n l p.1

-- the bits of bytes are bits
pub all_bits-bits_of : (l : List ℕ) → all_bits (bits_of l)
all_bits-bits_of [] = tt
all_bits-bits_of (b ∷ l) = all_bits-append (to_bits 8 b) (bits_of l) (all_bits-to_bits 8 b) (all_bits-bits_of l)

-- eight bits a byte
pub length-bits_of : (l : List ℕ) → length (bits_of l) ≡ 8 * length l
length-bits_of [] = refl
length-bits_of (b ∷ l) = omega (arith, length-append (to_bits 8 b) (bits_of l), length-to_bits 8 b, length-bits_of l)

-- what stands above the bits asked for does not show in them
pub to_bits_low : (w h y : ℕ) → to_bits w (h * 2 ^ w + y) ≡ to_bits w y
to_bits_low zero h y = refl
to_bits_low (suc w) h y =
    let e : h * 2 ^ suc w ≡ h * 2 * 2 ^ w = ap (λ (k : ℕ). h * k) (pow-suc 2 w ∙ mul_comm (2 ^ w) 2) ∙ sym (mul_assoc h 2 (2 ^ w)) in
    rw e
    (ap₂ ◌∷◌
    (ap (λ (k : ℕ). k % 2) (mul-add-div_right (pow_pos w) (h * 2) y) ∙ mul-add-mod_self_right h 2 (y / 2 ^ w))
    (to_bits_low w (h * 2) y))

-- two fields side by side
pub to_bits_join : (a b x y : ℕ) → y < 2 ^ b → to_bits (a + b) (x * 2 ^ b + y) ≡ to_bits a x ++ to_bits b y
to_bits_join zero b x y h = ap (λ (k : ℕ). to_bits k (x * 2 ^ b + y)) (zero-add b) ∙ to_bits_low b x y
to_bits_join (suc a) b x y h =
    ap (λ (k : ℕ). to_bits k (x * 2 ^ b + y)) (suc-add a b)
    ∙ ap₂ ◌∷◌
    (ap (λ (k : ℕ). k % 2)
    (ap (λ (k : ℕ). (x * 2 ^ b + y) / 2 ^ k) (omega arith)
    ∙ sym (shr-shr (x * 2 ^ b + y) b a)
    ∙ ap (λ (k : ℕ). k / 2 ^ a) (high x b h)))
    (to_bits_join a b x y h)

-- a number is its low bits' number
pub from_bits-to_bits : (w x : ℕ) → from_bits (to_bits w x) ≡ x % 2 ^ w
from_bits-to_bits zero x = sym (mod-one x)
from_bits-to_bits (suc w) x =
    ap₂ (λ (a b : ℕ). x / 2 ^ w % 2 * 2 ^ a + b) (length-to_bits w x) (from_bits-to_bits w x)
    ∙ sym (mod-pow-add x 1 w)
    ∙ ap (λ (k : ℕ). x % 2 ^ k) (omega arith)

-- so many bits mean a number under that power of two
pub from_bits_lt : (l : List ℕ) → all_bits l → from_bits l < 2 ^ length l
from_bits_lt [] p = pow_pos 0
from_bits_lt (b ∷ l) p =
    rw (pow-suc, mul_comm (2 ^ length l) 2) (digits_lt p.0 (from_bits_lt l p.1))

-- bits are the bits of their number
pub to_bits-from_bits : (l : List ℕ) → all_bits l → to_bits (length l) (from_bits l) ≡ l
to_bits-from_bits [] p = refl
to_bits-from_bits (b ∷ l) p =
    ap₂ ◌∷◌
    (ap (λ (k : ℕ). k % 2) (high b (length l) (from_bits_lt l p.1)) ∙ mod-eq_of_lt p.0)
    (to_bits_low (length l) b (from_bits l) ∙ to_bits-from_bits l p.1)

-- j ones are the bits of 2^j - 1
pub to_bits_ones : (j : ℕ) → to_bits j (2 ^ j - 1) ≡ replicate j 1
to_bits_ones zero = refl
to_bits_ones (suc j) =
    let e : 2 ^ suc j - 1 ≡ 1 * 2 ^ j + (2 ^ j - 1) = omega (arith, pow-suc 2 j, pow_pos j) in
    rw e
    (ap₂ ◌∷◌
    (ap (λ (k : ℕ). k % 2) (high 1 j (ones_lt j)))
    (to_bits_low j 1 (2 ^ j - 1) ∙ to_bits_ones j))

-- zeros are the bits of 0
pub to_bits-zeros : (j : ℕ) → to_bits j 0 ≡ replicate j 0
to_bits-zeros zero = refl
to_bits-zeros (suc j) = ap₂ ◌∷◌ (ap (λ (k : ℕ). k % 2) (native.Mathlib.Nat.zero-div (2 ^ j))) (to_bits-zeros j)
