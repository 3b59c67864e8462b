-- Laws that the proofs of `reading` and `rate` cite: the counts of a shape that was read, and a reading over a level's seconds.
-- Assumes nothing.
use mathlib.Core.Path.{◌≡◌, sym, ap, ◌∙◌}
use mathlib.Core.List.{List}
use Prim.Native.Nat.{ℕ, ◌+◌, ◌^◌, ◌<◌}
use native.Mathlib.Omega.{arith}
use Rattle.ground.specs.Paper.{Paper, accepted, refused, onward}
use Rattle.code.specs.Meaning.{shape_means}
use Rattle.code.specs.Answers.{shape_values}
use Rattle.code.specs.Promise.{ShapePromise}
use Rattle.code.specs.Theorems.{read_fits}
use Rattle.code.specs.declared.Shape.{Shape}
use Rattle.cadence.specs.Meaning.{seconds_means}
use Rattle.rate.specs.declared.record.Reading.{Reading}
use Rattle.rate.specs.declared.record.Rate.{Rate}
use Rattle.rate.specs.declared.Counts.{Counts}
use Rattle.rate.specs.Meaning.{ReadingValues, reading_of, reading_means, rate_of, rate_values, rate_means}
use Rattle.rate.specs.Answers.{counts_values}
use Rattle.rate.specs.Promise.{ReadingPromise}
use Rattle.rate.specs.Readings.{count_reads, negative_refused}
use Rattle.std.specs.Prelude.{Ok}

-- ---- a reading

module _ (bytes : List ℕ) (at d : ℕ) (s : Shape) (p : ShapePromise bytes at d (Ok s)) where
  -- what was read, as the definitions have it
  was_read : shape_means bytes at d ≡ accepted (shape_values s)
  was_read = sym p.answer

  -- a negative number has no reading
  pub negative_read : s.sign ≡ 1 → refused 8 ≡ reading_means bytes at d
  negative_read o = sym (negative_refused bytes at d was_read o)

  -- the edges of any other fit
  pub edges_fit : s.magnitude + s.error < 2 ^ 32
  edges_fit = let f = read_fits bytes at d was_read in omega (arith, f.in_rule_lem, f.error_few)

  -- and it is read as its counts
  pub count_read : (reading : Reading) → (s.sign ≡ 1 → ⊥) → reading ≡ reading_of s.magnitude s.error
      → accepted (record { reading = reading; next = s.next }) ≡ reading_means bytes at d
  count_read reading o g =
      let f = read_fits bytes at d was_read in
      let plus : s.sign ≡ 0 = bit s.sign f.sign_fits o in
      ap (λ (x : Reading). accepted (record { reading = x; next = s.next })) g ∙ sym (count_reads bytes at d was_read plus)
    where
      bit : (s : ℕ) → s < 2 → (s ≡ 1 → ⊥) → s ≡ 0
      bit s h n = omega arith

-- ---- a rate

module _ (bytes : List ℕ) (at d level : ℕ) (c : Counts) (p : ReadingPromise bytes at d (Ok c)) where
  -- the seconds decide
  by_length : {p : Paper ℕ} → p ≡ seconds_means level → onward (rate_values (counts_values c)) p ≡ rate_means bytes at d level
  by_length e =
      ap (onward (rate_values (counts_values c))) e
      ∙ ap (onward (λ (r : ReadingValues). onward (rate_values r) (seconds_means level))) p.answer

  -- the rate over the level's seconds
  pub forms : (seconds : ℕ) (rate : Rate) → accepted seconds ≡ seconds_means level → rate ≡ rate_of c.reading seconds
      → accepted (record { rate = rate; next = c.next }) ≡ rate_means bytes at d level
  forms seconds rate e g = ap (λ (x : Rate). accepted (record { rate = x; next = c.next })) g ∙ by_length e
