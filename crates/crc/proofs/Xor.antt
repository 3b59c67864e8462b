-- Exclusive or is associative, and two sums of it exchange their middle parts.
-- Assumes nothing.
use mathlib.Core.Path.{◌≡◌, refl, sym, ap, ap₂, ◌∙◌}
use Prim.Native.Nat.{ℕ, zero, suc, ◌+◌, ◌*◌, ◌/◌, ◌%◌, ◌<◌}
use native.Mathlib.Nat.{not-suc-le-zero, le_of_suc-le-suc, mod-lt, zero-lt-suc}
use lib.Arith.{bin_ind, digits_div, digits_mod}
use lib.Bits.{bit_xor, differ, xor_step, xor_comm, xor_zero_l, xor_zero_r, xor_self}

-- a digit is 0 or 1
differ_lt : (x y : ℕ) → x < 2 → y < 2 → differ x y < 2
differ_lt zero y hx hy = hy
differ_lt (suc zero) zero hx hy = hx
differ_lt (suc zero) (suc zero) hx hy = zero-lt-suc 1
differ_lt (suc zero) (suc (suc y)) hx hy = absurd (not-suc-le-zero (le_of_suc-le-suc (le_of_suc-le-suc hy)))
differ_lt (suc (suc x)) y hx hy = absurd (not-suc-le-zero (le_of_suc-le-suc (le_of_suc-le-suc hx)))

-- of three bits it does not matter which two are held against each other first
differ_assoc : (x y z : ℕ) → x < 2 → y < 2 → z < 2 → differ (differ x y) z ≡ differ x (differ y z)
differ_assoc zero y z hx hy hz = refl
differ_assoc (suc zero) zero z hx hy hz = refl
differ_assoc (suc zero) (suc zero) zero hx hy hz = refl
differ_assoc (suc zero) (suc zero) (suc zero) hx hy hz = refl
differ_assoc (suc zero) (suc zero) (suc (suc z)) hx hy hz = absurd (not-suc-le-zero (le_of_suc-le-suc (le_of_suc-le-suc hz)))
differ_assoc (suc zero) (suc (suc y)) z hx hy hz = absurd (not-suc-le-zero (le_of_suc-le-suc (le_of_suc-le-suc hy)))
differ_assoc (suc (suc x)) y z hx hy hz = absurd (not-suc-le-zero (le_of_suc-le-suc (le_of_suc-le-suc hx)))

-- a last bit is 0 or 1
digit : (a : ℕ) → a % 2 < 2
digit a = mod-lt a (zero-lt-suc 1)

-- all digits but the last, and the last, of an exclusive or
xor_half : (a b : ℕ) → bit_xor a b / 2 ≡ bit_xor (a / 2) (b / 2)
xor_half a b =
    ap (λ (x : ℕ). x / 2) (xor_step a b)
    ∙ digits_div (bit_xor (a / 2) (b / 2)) (differ_lt (a % 2) (b % 2) (digit a) (digit b))

-- the last bit of a sum
xor_last : (a b : ℕ) → bit_xor a b % 2 ≡ differ (a % 2) (b % 2)
xor_last a b =
    ap (λ (x : ℕ). x % 2) (xor_step a b)
    ∙ digits_mod (bit_xor (a / 2) (b / 2)) (differ_lt (a % 2) (b % 2) (digit a) (digit b))

-- two halves that are the same
join : {r q s t : ℕ} → r ≡ q → s ≡ t → r * 2 + s ≡ q * 2 + t
join p q = ap₂ (λ (x y : ℕ). x * 2 + y) p q

-- of three numbers it does not matter which two are added first
pub xor_assoc : (a b c : ℕ) → bit_xor (bit_xor a b) c ≡ bit_xor a (bit_xor b c)
xor_assoc a =
    bin_ind (λ (n : ℕ). (b c : ℕ) → bit_xor (bit_xor n b) c ≡ bit_xor n (bit_xor b c))
    (λ b c. ap (λ (x : ℕ). bit_xor x c) (xor_zero_l b) ∙ sym (xor_zero_l (bit_xor b c)))
    (λ n ih b c.
    xor_step (bit_xor n b) c
    ∙ join
    (ap (λ (x : ℕ). bit_xor x (c / 2)) (xor_half n b) ∙ ih (b / 2) (c / 2) ∙ ap (λ (x : ℕ). bit_xor (n / 2) x) (sym (xor_half b c)))
    (ap (λ (x : ℕ). differ x (c % 2)) (xor_last n b)
    ∙ differ_assoc (n % 2) (b % 2) (c % 2) (digit n) (digit b) (digit c)
    ∙ ap (λ (x : ℕ). differ (n % 2) x) (sym (xor_last b c)))
    ∙ sym (xor_step n (bit_xor b c)))
    a

-- the middle parts of two sums change places
pub xor_middle : (a b c d : ℕ) → bit_xor (bit_xor a b) (bit_xor c d) ≡ bit_xor (bit_xor a c) (bit_xor b d)
xor_middle a b c d =
    xor_assoc a b (bit_xor c d)
    ∙ ap (λ (x : ℕ). bit_xor a x) (sym (xor_assoc b c d) ∙ ap (λ (x : ℕ). bit_xor x d) (xor_comm b c) ∙ xor_assoc c b d)
    ∙ sym (xor_assoc a c (bit_xor b d))

-- what two sums share falls out
pub xor_shared : (a b c : ℕ) → bit_xor (bit_xor a b) (bit_xor b c) ≡ bit_xor a c
xor_shared a b c =
    xor_assoc a b (bit_xor b c)
    ∙ ap (λ (x : ℕ). bit_xor a x) (sym (xor_assoc b b c) ∙ ap (λ (x : ℕ). bit_xor x c) (xor_self b) ∙ xor_zero_l c)

-- what is added twice falls out
pub xor_twice : (a b : ℕ) → bit_xor (bit_xor a b) b ≡ a
xor_twice a b = xor_assoc a b b ∙ ap (λ (x : ℕ). bit_xor a x) (xor_self b) ∙ xor_zero_r a
