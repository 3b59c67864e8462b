-- What holds of every float format, over the number w of its mantissa bits.
-- Assumes nothing.
use Rattle.std.specs.Prelude.{◌≡◌, refl, ◌⊎◌, ℕ, zero, suc, ◌+◌, ◌-◌, ◌*◌, ◌/◌, ◌^◌, ◌≤◌, ◌<◌, ltb}
use Rattle.std.proofs.Common.{sym, ap, ap₂, ◌∙◌, subst, inl, inr, ⊎_elim, le_of_eq, zero-lt-suc, div-le_self, zero-add, add-suc, zero-mul, suc-mul, add-mul}
use Rattle.std.proofs.Common.{mul_assoc, pow-suc, div-one, mod-lt, div-mul-le_self, le-div_iff_mul-le, div-lt_iff_lt-mul, lt_of_lt_of_le, lt_irrefl, arith}
use Rattle.std.proofs.Common.{pow_pos, pow-add, pow_mono, ltb-true, ltb-false}
use Rattle.std.proofs.Math.Nat.{zero-div, lt-div-mul-add, suc-sub-suc, sub-zero}
use Rattle.std.proofs.Math.Decide.{dec_lt, le_ind}
use Rattle.std.proofs.Math.Pow.{split, high, low}
use Rattle.std.specs.Int.Count.{count_leading_zeros, leading_of_zero}
use Rattle.std.proofs.lemmas.Nat.{leading_top}
use Rattle.std.proofs.Math.Dec.{eqb-suc-zero}
use Rattle.ground.specs.Choice.{pick_elim}
use Rattle.ground.specs.Greatest.{GrowsStrictly, strictly_grows, between_greatest, value_greatest, greatest_one}
use Rattle.ground.specs.Paper.{Paper, accepted, refused}
use Rattle.format.specs.Codes.{takes_one}
use Rattle.format.specs.Meaning.{exponent, mantissa, float_value, Largest, Takes, halvings_of, code_of, code_means}

-- the value of exponent and mantissa, by the two kinds of exponent
abbrev fields : ℕ → ℕ → ℕ → ℕ
fields w zero f = f
fields w (suc e) f = (f + 2 ^ w) * 2 ^ e

-- the value of a code whose exponent and mantissa are known
value_fields : (w e : ℕ) {f : ℕ} → f < 2 ^ w → float_value w (e * 2 ^ w + f) ≡ fields w e f
value_fields w zero {f} h = rw (high zero w h, low zero w h)
value_fields w (suc e) {f} h = rw (high (suc e) w h, low (suc e) w h, eqb-suc-zero e, suc-sub-suc e 0, sub-zero e)

-- the step from a code's value to the next
abbrev pub gap : ℕ → ℕ → ℕ
gap w code = 2 ^ (exponent w code - 1)

-- one more in the mantissa is a step
inside : (w e f : ℕ) → fields w e (suc f) ≡ fields w e f + 2 ^ (e - 1)
inside w zero f = omega arith
inside w (suc e) f =
    let q : suc f + 2 ^ w ≡ suc (f + 2 ^ w) = omega arith in
    rw (suc-sub-suc e 0, sub-zero e) (ap (λ (x : ℕ). x * 2 ^ e) q ∙ suc-mul (f + 2 ^ w) (2 ^ e))

-- from the last mantissa over to the next exponent is a step too
over : (w e f : ℕ) → suc f ≡ 2 ^ w → fields w (suc e) 0 ≡ fields w e f + 2 ^ (e - 1)
over w zero f h = omega arith
over w (suc e) f h =
    let q : suc (f + 2 ^ w) ≡ 2 ^ w + 2 ^ w = omega arith in
    let a : (0 + 2 ^ w) * 2 ^ suc e ≡ 2 ^ w * 2 ^ e * 2 = ap₂ (λ (x y : ℕ). x * y) (zero-add (2 ^ w)) (pow-suc 2 e) ∙ sym (mul_assoc (2 ^ w) (2 ^ e) 2) in
    let b : (f + 2 ^ w) * 2 ^ e + 2 ^ e ≡ 2 ^ w * 2 ^ e + 2 ^ w * 2 ^ e =
    sym (suc-mul (f + 2 ^ w) (2 ^ e)) ∙ ap (λ (x : ℕ). x * 2 ^ e) q ∙ add-mul (2 ^ w) (2 ^ w) (2 ^ e) in
    rw (suc-sub-suc e 0, sub-zero e) (omega arith)

-- the next code's value, by exponent and mantissa
next_fields : (w e f : ℕ) → f < 2 ^ w → float_value w (suc (e * 2 ^ w + f)) ≡ float_value w (e * 2 ^ w + f) + 2 ^ (e - 1)
next_fields w e f h =
    elim (dec_lt (suc f) (2 ^ w)) [
      | yes k ↦ ap (float_value w) (sym (add-suc (e * 2 ^ w) f)) ∙ value_fields w e k ∙ inside w e f
          ∙ ap (λ (x : ℕ). x + 2 ^ (e - 1)) (sym (value_fields w e h))
      | no k ↦
          ap (float_value w) (omega (arith, suc-mul e (2 ^ w))) ∙ value_fields w (suc e) {f = 0} (pow_pos w) ∙ over w e f (omega arith)
          ∙ ap (λ (x : ℕ). x + 2 ^ (e - 1)) (sym (value_fields w e h))
    ]

-- the next code's value is a step above
pub value_next : (w code : ℕ) → float_value w (suc code) ≡ float_value w code + gap w code
value_next w code =
    subst (λ (x : ℕ). float_value w (suc x) ≡ float_value w x + gap w code) (split code w)
    (next_fields w (exponent w code) (mantissa w code) (mod-lt code (pow_pos w)))

-- a greater code has a greater value
pub value_grows : (w : ℕ) → GrowsStrictly (float_value w)
value_grows w a b h =
    le_ind (λ (m : ℕ). float_value w a < float_value w m) (omega (arith, value_next w a, pow_pos (exponent w a - 1)))
    (λ m k e. omega (arith, value_next w m, e)) b h

-- what lies between the values of a code and the next takes that code
between_largest : (w : ℕ) {count code : ℕ} → float_value w code ≤ count → count < float_value w (suc code) → Largest (float_value w) count code
between_largest w = between_greatest {value = float_value w} (strictly_grows {value = float_value w} (value_grows w))

-- a code without exponent means itself
low_value : (w : ℕ) {f : ℕ} → f < 2 ^ w → float_value w f ≡ f
low_value w {f} h = let q : f ≡ 0 * 2 ^ w + f = omega arith in ap (float_value w) q ∙ value_fields w zero h

-- a count of at most w bits takes itself
small_largest : (w : ℕ) {count : ℕ} → count < 2 ^ w → Largest (float_value w) count count
small_largest w {count} h =
    between_largest w (le_of_eq (low_value w h)) (omega (arith, low_value w h, value_next w count, pow_pos (exponent w count - 1)))

-- a count whose leading w + 1 bits are t, with s bits below them
large_largest : (w s t count : ℕ) → 2 ^ w ≤ t → t < 2 ^ w + 2 ^ w → t * 2 ^ s ≤ count → count < t * 2 ^ s + 2 ^ s
    → Largest (float_value w) count (s * 2 ^ w + t)
large_largest w s t count a b c d =
    let f : t - 2 ^ w < 2 ^ w = omega arith in
    let code : suc s * 2 ^ w + (t - 2 ^ w) ≡ s * 2 ^ w + t = omega (arith, suc-mul s (2 ^ w)) in
    let back : t - 2 ^ w + 2 ^ w ≡ t = omega arith in
    let v : float_value w (suc s * 2 ^ w + (t - 2 ^ w)) ≡ t * 2 ^ s = value_fields w (suc s) f ∙ ap (λ (x : ℕ). x * 2 ^ s) back in
    let n : float_value w (suc (suc s * 2 ^ w + (t - 2 ^ w))) ≡ t * 2 ^ s + 2 ^ s =
    next_fields w (suc s) (t - 2 ^ w) f ∙ ap₂ (λ (x y : ℕ). x + 2 ^ y) v (suc-sub-suc s 0 ∙ sub-zero s) in
    subst (λ (x : ℕ). Largest (float_value w) count x) code
    (between_largest w (subst (λ (x : ℕ). x ≤ count) (sym v) c) (subst (λ (x : ℕ). count < x) (sym n) d))

-- s halvings leave at most w + 1 bits, and no fewer unless there were none
record Scaled (w s count : ℕ) : Type 0 where
  held : count / 2 ^ s < 2 ^ w + 2 ^ w
  full : (s ≡ 0) ⊎ (2 ^ w ≤ count / 2 ^ s)

-- the code that the halvings give is the largest
scaled_largest : (w s count : ℕ) → Scaled w s count → Largest (float_value w) count (s * 2 ^ w + count / 2 ^ s)
scaled_largest w s count p =
    elim (dec_lt (count / 2 ^ s) (2 ^ w)) [
      | yes h ↦ ⊎_elim (λ (e : s ≡ 0). none e h) (λ (l : 2 ^ w ≤ count / 2 ^ s). absurd (lt_irrefl (2 ^ w) (omega arith))) p.full
      | no h ↦ large_largest w s (count / 2 ^ s) count (omega arith) p.held (div-mul-le_self count (2 ^ s)) (lt-div-mul-add (pow_pos s))
    ]
  where
    none : s ≡ 0 → count / 2 ^ s < 2 ^ w → Largest (float_value w) count (s * 2 ^ w + count / 2 ^ s)
    none e h =
        let q : count / 2 ^ s ≡ count = ap (λ (x : ℕ). count / 2 ^ x) e ∙ div-one count in
        let code : s * 2 ^ w + count / 2 ^ s ≡ count = ap₂ (λ (x y : ℕ). x * 2 ^ w + y) e q ∙ ap (λ (x : ℕ). x + count) (zero-mul (2 ^ w)) ∙ zero-add count in
        subst (λ (x : ℕ). Largest (float_value w) count x) (sym code) (small_largest w (subst (λ (x : ℕ). x < 2 ^ w) q h))

-- z zeros above the leading bit, and j bits below it, of 64
top_scaled : (w z j count : ℕ) → w < 64 → z + suc j ≡ 64 → 2 ^ j ≤ count → count < 2 ^ suc j → Scaled w (63 - w - z) count
top_scaled w z j count a e c d =
    elim (dec_lt w j) [
      | yes k ↦
          let s : w + (63 - w - z) ≡ j = omega arith in
          let p : 2 ^ w * 2 ^ (63 - w - z) ≡ 2 ^ j = sym (pow-add 2 w (63 - w - z)) ∙ ap (λ (x : ℕ). 2 ^ x) s in
          record {
            held = (div-lt_iff_lt-mul (pow_pos (63 - w - z))).1 (omega (arith, add-mul (2 ^ w) (2 ^ w) (2 ^ (63 - w - z)), pow-suc 2 j));
            full = inr ((le-div_iff_mul-le (pow_pos (63 - w - z))).1 (subst (λ (x : ℕ). x ≤ count) (sym p) c));
          }
      | no k ↦
          let s : 63 - w - z ≡ 0 = omega arith in
          let l : suc j ≤ suc w = omega arith in
          record { held = omega (arith, div-le_self count (2 ^ (63 - w - z)), pow_mono l, pow-suc 2 w); full = inl s }
    ]

-- the halvings by the leading zeros are those
halvings_scaled : (w count : ℕ) → w < 64 → count < 2 ^ 64 → Scaled w (halvings_of w count) count
halvings_scaled w zero a h =
    let s : halvings_of w zero ≡ 0 = omega (arith, leading_of_zero 64) in
    record { held = subst (λ (x : ℕ). x < 2 ^ w + 2 ^ w) (sym (zero-div (2 ^ halvings_of w zero))) (omega (arith, pow_pos w)); full = inl s }
halvings_scaled w (suc n) a h =
    let t = leading_top 64 (suc n) (zero-lt-suc n) h in top_scaled w (count_leading_zeros 64 (suc n)) t.0 (suc n) a t.1 t.2 t.3

-- the computed code is the largest whose value is not above the count
pub code_largest : (w count : ℕ) → w < 64 → count < 2 ^ 64 → Largest (float_value w) count (code_of w count)
code_largest w count a h = scaled_largest w (halvings_of w count) count (halvings_scaled w count a h)

-- the computed code of a value is that code
pub code_of_value : (w code : ℕ) → w < 64 → float_value w code < 2 ^ 64 → code_of w (float_value w code) ≡ code
code_of_value w code a h = greatest_one (code_largest w (float_value w code) a h) (value_greatest {value = float_value w} (value_grows w) code)

-- the computed answer is the sentence's
pub means_takes : (w limit count : ℕ) → w < 64 → limit ≤ 2 ^ 64 → Takes (float_value w) limit count (code_means w limit count)
means_takes w limit count a l =
    pick_elim (λ (p : Paper ℕ). Takes (float_value w) limit count p) (ltb count limit) (accepted (code_of w count)) (refused 12)
    (λ e. (ltb-true count limit e, code_largest w count a (lt_of_lt_of_le (ltb-true count limit e) l)))
    (λ e. (ltb-false count limit e, refl))

-- the sentence's answer is the computed one
pub takes_means : (w limit count : ℕ) → w < 64 → limit ≤ 2 ^ 64 → (p : Paper ℕ) → Takes (float_value w) limit count p → p ≡ code_means w limit count
takes_means w limit count a l p t = takes_one (float_value w) limit count p (code_means w limit count) t (means_takes w limit count a l)
