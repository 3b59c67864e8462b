-- The tests of a byte, one after the other.
-- Assumes nothing.
use mathlib.Core.Path.{◌≡◌}
use mathlib.Core.Bool.{true, false, not}
use Prim.Native.Nat.{ℕ}
use borrow.Author.Tests.{eq-eqb, ne_eqb}
use Rattle.lines.specs.declared.Line.{Line}
use Rattle.lines.specs.Reading.{digit_step, step}

module _ (s : Line) (b : ℕ) where
  -- a byte after the first
  pub step_later : not s.begun ≡ false → digit_step s b ≡ step s b
  unfolding step
  step_later e = rw e

  -- a minus at the start
  pub step_minus : not s.begun ≡ true → b ≡ 45
      → record { begun = true; minus = true; digits = s.digits; value = s.value; other = s.other } ≡ step s b
  unfolding step
  step_minus e h = rw (e, eq-eqb b 45 h)

  -- any other first byte
  pub step_first : not s.begun ≡ true → (b ≡ 45 → ⊥) → digit_step s b ≡ step s b
  unfolding step
  step_first e h = rw (e, ne_eqb b 45 h)
