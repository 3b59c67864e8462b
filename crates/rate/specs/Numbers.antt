-- Every f64 that a reading or a rate holds is a number, no NaN: it has one bit pattern, and a place that it is written to holds that pattern.
-- Assumes nothing.
use Rattle.std.specs.Prelude.{◌≡◌, refl, Bool, true, false, not, List, ℕ, ◌+◌, ◌^◌, ◌<◌, ◌≤◌, T, ltb, Float}
use Rattle.std.proofs.Common.{sym, subst, arith, ltb-false, ap, ◌∙◌}
use Rattle.std.specs.Float.{binary64}
use Rattle.std.specs.Float.Ieee.{div, is_nan, of_int}
use Rattle.ground.specs.Choice.{pick_elim}
use Rattle.ground.specs.Paper.{Paper, accepted, refusal, refused, onward}
use Rattle.code.specs.Meaning.{ShapeValues, number_read, shape_means}
use Rattle.code.specs.Theorems.{read_fits}
use Rattle.cadence.specs.Meaning.{length_of}
use Rattle.rate.specs.declared.record.Rate.{Rate}
use Rattle.rate.specs.declared.record.Reading.{Reading}
use Rattle.rate.specs.declared.record.Reading.TheVariants.{Exact, Between}
use Rattle.rate.specs.Meaning.{RateValues, ReadingValues, as_float, band, exact, negative, rate_means, rate_of}
use Rattle.rate.specs.Meaning.{reading_means, reading_of, shape_reads}
use Rattle.rate.specs.Quotients.{no_nan, rounded}

-- a number
abbrev pub Number : Float → Type 0
Number x = T (not (is_nan x))

-- what is no NaN is a number
number : (x : Float) → is_nan x ≡ false → Number x
number x e = subst (λ (b : Bool). T (not b)) (sym e) tt

-- a count as f64 is a number
pub count_number : (n : ℕ) → Number (as_float n)
unfolding of_int
count_number n = number (as_float n) (rounded binary64 false n 1)

-- the edges of a reading are numbers
abbrev pub ReadingNumbers : Reading → Type 0
ReadingNumbers (Exact count) = Number count
ReadingNumbers (Between low high) = Number low × Number high

-- both quotients of a rate and its seconds are
abbrev pub RateNumbers : Rate → Type 0
RateNumbers r = Number r.low × Number r.high × Number r.seconds

-- whatever is read
abbrev Reads : Paper ReadingValues → Type 0
Reads (accepted v) = ReadingNumbers v.reading
Reads (refusal n carried) = Unit {0}

-- whatever is formed
abbrev Forms : Paper RateValues → Type 0
Forms (accepted v) = RateNumbers v.rate
Forms (refusal n carried) = Unit {0}

module _ (bytes : List ℕ) (at d : ℕ) where
  reads : Reads (reading_means bytes at d)
  reads = go (shape_means bytes at d)
    where
      go : (p : Paper ShapeValues) → Reads (onward shape_reads p)
      go (accepted v) =
          pick_elim Reads (negative (number_read v).value) _ _
          (λ e. tt)
          (λ e. pick_elim ReadingNumbers (exact v.error) (Exact (as_float v.magnitude)) _ (λ f. count_number v.magnitude)
          (λ f. (count_number (band v.magnitude v.error).low, count_number (band v.magnitude v.error).high)))
      go (refusal n carried) = tt

  -- every reading that is answered
  pub reading_numbers : {v : ReadingValues} → reading_means bytes at d ≡ accepted v → ReadingNumbers v.reading
  reading_numbers e = subst Reads e reads

  forms : (level : ℕ) → Forms (rate_means bytes at d level)
  forms level = go (shape_means bytes at d) refl
    where
      -- a count over the level's seconds
      quotient : (n : ℕ) → n < 2 ^ 32 → level ≤ 7 → Number (div binary64 (as_float n) (as_float (length_of level)))
      quotient n h k = number _ (no_nan n level h k)

      by_band : (m e : ℕ) → m + e < 2 ^ 32 → level ≤ 7 → RateNumbers (rate_of (reading_of m e) (length_of level))
      by_band m e h k =
          pick_elim (λ (r : Reading). RateNumbers (rate_of r (length_of level))) (exact e) (Exact (as_float m)) _
          (λ f. (quotient m (omega arith) k, quotient m (omega arith) k, count_number (length_of level)))
          (λ f. (quotient (band m e).low (omega arith) k, quotient (band m e).high h k, count_number (length_of level)))

      -- no reading, no rate, whatever the level
      unread : {n : ℕ} {carried : List ℕ} → reading_means bytes at d ≡ refusal n carried → (b : Bool) → ltb 7 level ≡ b → Forms (rate_means bytes at d level)
      unread e true f = simp (e, f) tt
      unread e false f = simp (e, f) tt

      -- of a reading, a rate where there is such a level
      by_level : (m e next : ℕ) → m + e < 2 ^ 32 → reading_means bytes at d ≡ accepted (record { reading = reading_of m e; next = next })
          → (b : Bool) → ltb 7 level ≡ b → Forms (rate_means bytes at d level)
      by_level m e next h g true f = simp (g, f) tt
      by_level m e next h g false f = simp (g, f) (by_band m e h (ltb-false 7 level f))

      -- a negative number has no reading
      by_sign : (v : ShapeValues) → shape_means bytes at d ≡ accepted v → (b : Bool) → negative (number_read v).value ≡ b → Forms (rate_means bytes at d level)
      by_sign v e true g =
          let r : reading_means bytes at d ≡ refused 8 = ap (onward shape_reads) e ∙ rw g in
          unread r (ltb 7 level) refl
      by_sign v e false g =
          let f = read_fits bytes at d e in
          by_level v.magnitude v.error v.next (omega (arith, f.in_rule_lem, f.error_few)) (ap (onward shape_reads) e ∙ rw g) (ltb 7 level) refl

      go : (p : Paper ShapeValues) → shape_means bytes at d ≡ p → Forms (rate_means bytes at d level)
      go (accepted v) e = by_sign v e (negative (number_read v).value) refl
      go (refusal n carried) e =
          let r : reading_means bytes at d ≡ refusal n carried = ap (onward shape_reads) e in
          unread r (ltb 7 level) refl

  -- every rate that is answered
  pub rate_numbers : (level : ℕ) {v : RateValues} → rate_means bytes at d level ≡ accepted v → RateNumbers v.rate
  rate_numbers level e = subst Forms e (forms level)
