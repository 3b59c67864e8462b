-- The checksum is linear: bits go through two registers apart as they go through their exclusive or.
-- Assumes nothing.
use mathlib.Core.Path.{◌≡◌, refl, sym, ap, ap₂, ◌∙◌, subst}
use Prim.Native.Nat.{ℕ, zero, suc, ◌+◌, ◌*◌, ◌/◌, ◌%◌, ◌^◌, ◌<◌, ◌≤◌}
use native.Mathlib.Nat.{zero-add, suc-add, not-suc-le-zero, le_of_suc-le-suc, mod-eq_of_lt, mul_assoc, mul_comm, pow-suc, div-eq_of_lt, mul-one}
use native.Mathlib.Nat.{add-zero, le-mul_of_pos_right}
use native.Mathlib.Omega.{arith}
use lib.Pow.{shr_lt, pow_pos}
use lib.Bits.{bit_xor, xor_shr, xor_mod, xor_block, xor_zero_r}
use Rattle.crc.specs.Meaning.{polynomial, shift, shifts}
use Rattle.crc.specs.Laws.{shift_lt}
use Rattle.crc.proofs.Xor.{xor_middle}

-- the bits that fall out of two registers add what the bit that falls out of both adds
polynomial_xor : (a b : ℕ) → a < 2 → b < 2 → polynomial (bit_xor a b) ≡ bit_xor (polynomial a) (polynomial b)
polynomial_xor zero zero ha hb = refl
polynomial_xor zero (suc zero) ha hb = refl
polynomial_xor (suc zero) zero ha hb = refl
polynomial_xor (suc zero) (suc zero) ha hb = refl
polynomial_xor zero (suc (suc b)) ha hb = absurd (not-suc-le-zero (le_of_suc-le-suc (le_of_suc-le-suc hb)))
polynomial_xor (suc zero) (suc (suc b)) ha hb = absurd (not-suc-le-zero (le_of_suc-le-suc (le_of_suc-le-suc hb)))
polynomial_xor (suc (suc a)) b ha hb = absurd (not-suc-le-zero (le_of_suc-le-suc (le_of_suc-le-suc ha)))

-- a move goes through both registers
pub moved_xor : (k a b : ℕ) → bit_xor a b * 2 ^ k ≡ bit_xor (a * 2 ^ k) (b * 2 ^ k)
moved_xor k a b =
    sym (add-zero (bit_xor a b * 2 ^ k)) ∙ sym (xor_block k a b 0 0 (pow_pos k) (pow_pos k))
    ∙ ap₂ bit_xor (add-zero (a * 2 ^ k)) (add-zero (b * 2 ^ k))

-- the register that is left, without what is added
left_xor : (a b : ℕ) → bit_xor a b * 2 % 2 ^ 16 ≡ bit_xor (a * 2 % 2 ^ 16) (b * 2 % 2 ^ 16)
left_xor a b = ap (λ (x : ℕ). x % 2 ^ 16) (moved_xor 1 a b) ∙ xor_mod (a * 2) (b * 2) 16

-- one bit goes through both registers
pub shift_xor : (a b : ℕ) → a < 2 ^ 16 → b < 2 ^ 16 → shift (bit_xor a b) ≡ bit_xor (shift a) (shift b)
unfolding shift
shift_xor a b ha hb =
    ap₂ bit_xor (left_xor a b)
    (ap polynomial (xor_shr a b 15) ∙ polynomial_xor (a / 2 ^ 15) (b / 2 ^ 15) (shr_lt 1 15 ha) (shr_lt 1 15 hb))
    ∙ xor_middle (a * 2 % 2 ^ 16) (b * 2 % 2 ^ 16) (polynomial (a / 2 ^ 15)) (polynomial (b / 2 ^ 15))

-- so many bits go through both registers
pub shifts_xor : (k a b : ℕ) → a < 2 ^ 16 → b < 2 ^ 16 → shifts k (bit_xor a b) ≡ bit_xor (shifts k a) (shifts k b)
shifts_xor zero a b ha hb = refl
shifts_xor (suc k) a b ha hb = ap (shifts k) (shift_xor a b ha hb) ∙ shifts_xor k (shift a) (shift b) (shift_lt a) (shift_lt b)

-- bits after bits
pub shifts_add : (j k a : ℕ) → shifts j (shifts k a) ≡ shifts (k + j) a
shifts_add j zero a = ap (λ (n : ℕ). shifts n a) (sym (zero-add j))
shifts_add j (suc k) a = shifts_add j k (shift a) ∙ ap (λ (n : ℕ). shifts n a) (sym (suc-add k j))

-- no bit, no register
pub shifts_zero : (k : ℕ) → shifts k 0 ≡ 0
unfolding shift
shifts_zero zero = refl
shifts_zero (suc k) = shifts_zero k

-- where no one falls out, a bit only moves the register
pub shift_small : (a : ℕ) → a < 2 ^ 15 → shift a ≡ a * 2
unfolding shift
shift_small a h =
    let held : a * 2 < 2 ^ 16 = omega arith in
    ap₂ bit_xor (mod-eq_of_lt held) (ap polynomial (div-eq_of_lt h)) ∙ xor_zero_r (a * 2)

-- a register whose bits do not fall out only moves up
pub shifts_small : (k a : ℕ) → a * 2 ^ k < 2 ^ 16 → shifts k a ≡ a * 2 ^ k
shifts_small zero a h = sym (mul-one a)
shifts_small (suc k) a h =
    let moved : a * 2 ^ suc k ≡ a * 2 * 2 ^ k = ap (λ (x : ℕ). a * x) (pow-suc 2 k ∙ mul_comm (2 ^ k) 2) ∙ sym (mul_assoc a 2 (2 ^ k)) in
    let held : a * 2 * 2 ^ k < 2 ^ 16 = subst (λ (x : ℕ). x < 2 ^ 16) moved h in
    let whole : a * 2 ≤ a * 2 * 2 ^ k = le-mul_of_pos_right (a * 2) (pow_pos k) in
    ap (shifts k) (shift_small a (omega arith)) ∙ shifts_small k (a * 2) held ∙ sym moved
