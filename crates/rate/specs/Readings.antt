-- What callers use of readings and rates: what a shape that was read gives, and which refusal comes when.
-- Assumes nothing.
use Rattle.std.specs.Prelude.{◌≡◌, refl, true, false, List, ℕ, zero, suc, ◌<◌, ◌≤◌}
use Rattle.std.proofs.Common.{ap, ◌∙◌, arith, lt-ltb, le-ltb}
use Rattle.ground.specs.Paper.{accepted, refusal, refused, onward}
use Rattle.code.specs.Meaning.{ShapeValues, signed, number_read, shape_means}
use Rattle.code.specs.Theorems.{read_fits}
use Rattle.cadence.specs.Meaning.{length_of, seconds_means}
use Rattle.rate.specs.declared.record.Reading.TheVariants.{Exact, Between}
use Rattle.rate.specs.Meaning.{band, exact, as_float, reading_of, rate_of, ReadingValues, negative, shape_reads, reading_means}
use Rattle.rate.specs.Meaning.{rate_means}

-- a code with no error is read as its magnitude
pub reads_one : (m error : ℕ) → exact error ≡ true → reading_of m error ≡ Exact (as_float m)
reads_one m error t = rw t

-- any other is read as its band
pub reads_two : (m error : ℕ) → exact error ≡ false → reading_of m error ≡ Between (as_float (band m error).low) (as_float (band m error).high)
reads_two m error t = rw t

-- "an exact count gives two equal quotients"
pub equal_quotients : (count : lib.Ieee.Float) (seconds : ℕ) → (rate_of (Exact count) seconds).low ≡ (rate_of (Exact count) seconds).high
equal_quotients count seconds = refl

-- what is negated back is under 0
below : (m : ℕ) → 1 ≤ m → negative (signed 1 m) ≡ true
below zero h = absurd (omega arith)
below (suc m) h = refl

module _ (bytes : List ℕ) (at d : ℕ) where
  -- the code's refusal is the reading's, with what it carries
  pub code_refused : {n : ℕ} {carried : List ℕ} → shape_means bytes at d ≡ refusal n carried → reading_means bytes at d ≡ refusal n carried
  code_refused e = ap (onward shape_reads) e

  module _ {v : ShapeValues} (e : shape_means bytes at d ≡ accepted v) where
    -- a code with the sign 0 has its reading, and the position after the code
    pub count_reads : v.sign ≡ 0 → reading_means bytes at d ≡ accepted (record { reading = reading_of v.magnitude v.error; next = v.next })
    count_reads z =
        let plus : negative (number_read v).value ≡ false = ap (λ (s : ℕ). negative (signed s v.magnitude)) z in
        ap (onward shape_reads) e ∙ rw plus

    -- a code with the sign 1 means a negative number, which has no reading
    pub negative_refused : v.sign ≡ 1 → reading_means bytes at d ≡ refused 8
    negative_refused o =
        let minus : negative (number_read v).value ≡ true
        = ap (λ (s : ℕ). negative (signed s v.magnitude)) o ∙ below v.magnitude ((read_fits bytes at d e).some o) in
        ap (onward shape_reads) e ∙ rw minus

  -- where there is a reading, a level over 7 is refused by 19
  pub level_refused : (level : ℕ) {r : ReadingValues} → reading_means bytes at d ≡ accepted r → 7 < level → rate_means bytes at d level ≡ refused 19
  level_refused level {r} e h =
      let over : seconds_means level ≡ refused 19 = rw (lt-ltb 7 level h) in
      simp (e, over)

  -- and any other forms the rate
  pub rate_formed : (level : ℕ) {r : ReadingValues} → reading_means bytes at d ≡ accepted r → level ≤ 7
      → rate_means bytes at d level ≡ accepted (record { rate = rate_of r.reading (length_of level); next = r.next })
  rate_formed level {r} e h =
      let under : seconds_means level ≡ accepted (length_of level) = rw (le-ltb 7 level h) in
      simp (e, under)
