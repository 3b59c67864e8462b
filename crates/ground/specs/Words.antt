-- "Numbers are big endian": bytes to a number, a number to its bytes, and back.
-- Assumes nothing.
use Rattle.std.specs.Prelude.{◌≡◌, refl, List, [], ◌∷◌, ◌++◌, ℕ, zero, suc, ◌+◌, ◌*◌, ◌/◌, ◌%◌, ◌^◌, ◌<◌, ◌≤◌, length, take, drop, get_or}
use Rattle.std.proofs.Common.{sym, ap, ap₂, ◌∙◌, pow-suc, mul_comm, mul_assoc, add_assoc, add-mul, mod-eq_of_lt, add-zero, mul-one, zero-lt-suc, add-one}
use Rattle.std.proofs.Common.{arith, length-append, drop-cons}
use Rattle.std.specs.Int.{bytes_high_first}
use Rattle.std.proofs.Math.Nat.{div-one, one-le-pow}
use Rattle.std.proofs.Math.Arith.{mod-mul}

-- the number that bytes mean, the first byte counting most
abbrev pub number : List ℕ → ℕ
number [] = 0
number (b ∷ bs) = b * 256 ^ length bs + number bs

-- the w bytes of a number, the first byte counting most
abbrev pub bytes_of : ℕ → ℕ → List ℕ
bytes_of zero x = []
bytes_of (suc w) x = (x / 256 ^ w % 256) ∷ bytes_of w x

-- the 16-bit word at a place
abbrev pub word_at : List ℕ → ℕ → ℕ
word_at l at = number (take 2 (drop at l))

-- the library's bytes of a number, the highest first, are these
pub high_first : (w x : ℕ) → bytes_high_first w x ≡ bytes_of w x
high_first zero x = refl
high_first (suc zero) x = ap (λ (y : ℕ). y % 256 ∷ []) (sym (div-one x))
high_first (suc (suc w)) x = ap (λ (l : List ℕ). (x / 256 ^ suc w % 256) ∷ l) (high_first (suc w) x)

pub length-bytes_of : (w x : ℕ) → length (bytes_of w x) ≡ w
length-bytes_of zero x = refl
length-bytes_of (suc w) x = ap suc (length-bytes_of w x)

-- one byte more at the end counts least
pub number_snoc : (bs : List ℕ) (b : ℕ) → number (bs ++ (b ∷ [])) ≡ number bs * 256 + b
number_snoc [] b = omega arith
number_snoc (a ∷ bs) b =
    let longer : 256 ^ length (bs ++ (b ∷ [])) ≡ 256 ^ length bs * 256 =
    ap (λ (n : ℕ). 256 ^ n) (length-append bs (b ∷ []) ∙ add-one (length bs)) ∙ pow-suc 256 (length bs) in
    ap₂ (λ (x y : ℕ). a * x + y) longer (number_snoc bs b)
    ∙ ap (λ (x : ℕ). x + (number bs * 256 + b)) (sym (mul_assoc a (256 ^ length bs) 256))
    ∙ sym (add_assoc (a * 256 ^ length bs * 256) (number bs * 256) b)
    ∙ ap (λ (x : ℕ). x + b) (sym (add-mul (a * 256 ^ length bs) (number bs) 256))

-- the w lowest bytes of a number mean what is left of it below 256 to the power of w
below : (w x : ℕ) → number (bytes_of w x) ≡ x % 256 ^ w
below zero x = omega arith
below (suc w) x =
    ap₂ (λ (n y : ℕ). x / 256 ^ w % 256 * 256 ^ n + y) (length-bytes_of w x) (below w x)
    ∙ sym (mod-mul x {m = 256} {c = 256 ^ w} (zero-lt-suc 255) (one-le-pow w 256 (zero-lt-suc 255)))
    ∙ ap (λ (m : ℕ). x % m) (mul_comm 256 (256 ^ w) ∙ sym (pow-suc 256 w))

-- what the bytes of a number mean is the number
pub number-bytes_of : (w x : ℕ) → x < 256 ^ w → number (bytes_of w x) ≡ x
number-bytes_of w x h = below w x ∙ mod-eq_of_lt h

-- a word that lies within a list, by its two bytes
pub word_bytes : (l : List ℕ) (at : ℕ) → at + 2 ≤ length l → word_at l at ≡ get_or l at 0 * 256 + get_or l (at + 1) 0
word_bytes l at h =
    let first : at < length l = omega arith in
    let second : suc at < length l = omega arith in
    ap (λ (x : List ℕ). number (take 2 x)) (drop-cons l at 0 first ∙ ap (λ (x : List ℕ). get_or l at 0 ∷ x) (drop-cons l (suc at) 0 second))
    ∙ ap (λ (x : ℕ). get_or l at 0 * 256 + x) (add-zero (get_or l (suc at) 0 * 1) ∙ mul-one (get_or l (suc at) 0))
    ∙ ap (λ (n : ℕ). get_or l at 0 * 256 + get_or l n 0) (sym (add-one at))
