-- No quotient of a rate is a NaN: each is one value with one bit pattern, so that a rate is the same by its bits.
-- Assumes nothing.
use Rattle.std.specs.Prelude.{◌≡◌, refl, Bool, true, false, cond, ltb, Float}
use Prim.Native.Nat.{ℕ, zero, suc, ◌+◌, ◌-◌, ◌*◌, ◌/◌, ◌%◌, ◌^◌, ◌<◌, ◌≤◌, compare}
use Rattle.std.proofs.Common.{mul-pos, zero-mul, arith, ne_eqb}
use Rattle.std.specs.Float.{nan, inf, fin, Format, binary64}
use Rattle.std.specs.Float.Ieee.{low, emax, prec, up, down, unlike, size, nearest, odd, units, round, div, is_nan}
use Rattle.std.specs.Float.Ieee.Exact.{HasValue}
use Rattle.std.specs.Float.Ieee.Fits.{down_pos}
use Rattle.cadence.specs.Meaning.{length_of}
use Rattle.cadence.specs.Lengths.{lasts}
use Rattle.rate.specs.Meaning.{as_float}
use Rattle.rate.specs.Lossless.{same_value}

-- a number with its trailing zeros cut off is a number
odd_number : (d : ℕ) (s : Bool) (q k l : ℕ) → is_nan (odd d s q k l) ≡ false
unfolding odd is_nan
odd_number d s zero k l = refl
odd_number d s (suc q) k l = refl

-- a number or an infinity is no NaN
number_or_infinity : (b s : Bool) (v : Float) → is_nan v ≡ false → is_nan (cond b v (inf s)) ≡ false
unfolding is_nan
number_or_infinity true s v h = h
number_or_infinity false s v h = refl

-- so many units of the smallest value are no NaN
some_units : (f : Format) (s : Bool) (q k : ℕ) → is_nan (units f s q k) ≡ false
unfolding units
some_units f s q k =
    number_or_infinity (ltb (q * 2 ^ k) (2 ^ (low f + suc (emax f)))) s (odd (suc (prec f)) s q k (low f)) (odd_number (suc (prec f)) s q k (low f))

-- what is rounded is no NaN
pub rounded : (f : Format) (s : Bool) (num den : ℕ) → is_nan (round f s num den) ≡ false
unfolding round
rounded f s num den =
    let n : ℕ = num * 2 ^ low f in
    let k : ℕ = size (n / den) - prec f in
    let u : ℕ = den * 2 ^ k in
    some_units f s (nearest (n / u) (compare (n % u * 2) u)) k

-- a number by a number that is not 0
divides : (f : Format) (x y : Float) (a b : ℕ) → HasValue x false a 1 → HasValue y false b 1 → 1 ≤ b → is_nan (div f x y) ≡ false
unfolding div
divides f nan y a b p q h = absurd p
divides f (inf t) y a b p q h = absurd p
divides f (fin t m e) nan a b p q h = absurd q
divides f (fin t m e) (inf u) a b p q h = absurd q
divides f (fin t m e) (fin u zero d) a b p q h =
    let some : 0 < b * down d = mul-pos h (down_pos d) in
    let none : zero * up d ≡ 0 = zero-mul (up d) in
    absurd (omega (arith, q.1))
divides f (fin t m e) (fin u (suc n) d) a b p q h =
    rw (ne_eqb (suc n) 0 (λ z. omega arith)) (rounded f (unlike t u) (m * up e * down d) (suc n * up d * down e))

-- no count over a level's seconds is a NaN
pub no_nan : (n level : ℕ) → n < 2 ^ 32 → level ≤ 7 → is_nan (div binary64 (as_float n) (as_float (length_of level))) ≡ false
no_nan n level h k =
    let l = lasts level k in
    divides binary64 (as_float n) (as_float (length_of level)) n (length_of level) (same_value n h)
    (same_value (length_of level) (omega (arith, l.hour))) l.some
