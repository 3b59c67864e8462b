-- Laws of numbers as the machine computes them: a power of two by a shift, a bit of a byte, a magnitude with its sign; for pack, unpack and lines.
-- Assumes nothing.
use Rattle.std.specs.Prelude.{◌≡◌, refl, Bool, ℕ, zero, suc, ◌*◌, ◌-◌, ◌/◌, ◌%◌, ◌^◌, ◌<◌, ◌≤◌, ℤ, pos, negsuc, neg_ℤ, ◌-ℤ◌}
use Rattle.std.proofs.Common.{sym, ap, ◌∙◌, subst, mod-eq_of_lt, mod-lt, div-one, one-mul, arith, pow_pos, to_z, of_z, SFits, lt-ltb, le-ltb}
use Rattle.std.proofs.Math.IntN.{+ℤ_idl}
use Rattle.std.proofs.Math.Pow.{pow-lt}
use Rattle.std.specs.Int.{w32}
use Rattle.std.proofs.lemmas.Int.{to_z_pos, to_z-of_z}
use Rattle.ground.specs.Choice.{pick}
use Rattle.code.specs.Meaning.{signed, largest}
use Rattle.code.specs.Promise.{PowerPromise, BitPromise}

-- a power of two as a shift gives it, at any width that holds it
pub shift_is : (k w : ℕ) → k < w → 1 * 2 ^ k % 2 ^ w ≡ 2 ^ k
shift_is k w h = ap (λ (n : ℕ). n % 2 ^ w) (one-mul (2 ^ k)) ∙ mod-eq_of_lt (pow-lt h)

-- one can be taken from it
pub shift_positive : (k w : ℕ) → k < w → 1 ≤ 1 * 2 ^ k % 2 ^ w
shift_positive k w h = subst (λ (n : ℕ). 1 ≤ n) (sym (shift_is k w h)) (pow_pos k)

-- the last bits of a number, as the code computes them, and that they lie in their width
pub last_is : (number width : ℕ) → width < 64
    → (number % (1 * 2 ^ width % 2 ^ 64) ≡ number % 2 ^ width) × (number % (1 * 2 ^ width % 2 ^ 64) < 2 ^ width)
last_is number width h =
    let e = ap (λ (n : ℕ). number % n) (shift_is width 64 h) in
    (e, subst (λ (n : ℕ). n < 2 ^ width) (sym e) (mod-lt number (pow_pos width)))

-- a power that 32 bits hold
pub power_held : (k : ℕ) → k < 32 → PowerPromise k (1 * 2 ^ k % 2 ^ 32)
power_held k h = record { answer = shift_is k 32 h ∙ ap (λ (b : Bool). pick b (2 ^ k) 0) (sym (lt-ltb k 32 h)) }

-- a power that they do not hold
pub power_none : (k : ℕ) → 32 ≤ k → PowerPromise k 0
power_none k h = record { answer = ap (λ (b : Bool). pick b (2 ^ k) 0) (sym (le-ltb k 32 h)) }

-- what a caller asked for
pub power_is : (k r : ℕ) → PowerPromise k r → k < 32 → r ≡ 2 ^ k
power_is k r p h = p.answer ∙ ap (λ (b : Bool). pick b (2 ^ k) 0) (lt-ltb k 32 h)

-- from place 8 on the last bit is asked
pub last_bit : (byte place : ℕ) → 8 ≤ place → BitPromise byte place (byte % 2)
last_bit byte place h =
    let none : 7 - place ≡ 0 = omega arith in
    record { answer = sym (ap (λ (n : ℕ). byte / 2 ^ n % 2) none ∙ ap (λ (n : ℕ). n % 2) (div-one byte)); bit = mod-lt byte (pow_pos 1) }

-- a magnitude inside the rule is read back from its bits
pub plus : (s m : ℕ) → s ≡ 0 → m ≤ largest → to_z w32 m ≡ signed s m
plus s m e h = to_z_pos w32 m (omega arith) ∙ ap (λ (n : ℕ). signed n m) (sym e)

-- nothing less a magnitude is its negation
zero_less : (m : ℕ) → pos 0 -ℤ pos m ≡ neg_ℤ (pos m)
zero_less zero = refl
zero_less (suc m) = +ℤ_idl (negsuc m)

-- nothing less a magnitude as the code computes it
minus_is : (m : ℕ) → m ≤ largest → pos 0 -ℤ to_z w32 m ≡ neg_ℤ (pos m)
minus_is m h = ap (λ (z : ℤ). pos 0 -ℤ z) (to_z_pos w32 m (omega arith)) ∙ zero_less m

-- a negation fits
negated_fits : (m : ℕ) → m ≤ largest → SFits w32 (neg_ℤ (pos m))
negated_fits zero h = record { sfits = omega arith }
negated_fits (suc m) h = record { sfits = omega arith }

-- and it fits an i32
pub minus_fits : (m : ℕ) → m ≤ largest → SFits w32 (pos 0 -ℤ to_z w32 m)
minus_fits m h = subst (SFits w32) (sym (minus_is m h)) (negated_fits m h)

-- a magnitude negated back
pub minus : (s m : ℕ) → (s ≡ 0 → ⊥) → m ≤ largest → to_z w32 (of_z w32 (pos 0 -ℤ to_z w32 m)) ≡ signed s m
minus zero m e h = absurd (e refl)
minus (suc s) m e h = to_z-of_z w32 (pos 0 -ℤ to_z w32 m) (minus_fits m h) ∙ minus_is m h
