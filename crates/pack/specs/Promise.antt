-- What `field` promises; what `pack` promises stands in `code`, beside what is promised of reading.
-- Assumes nothing.
use Rattle.std.specs.Prelude.{◌≡◌, List, ℕ, Result}
use Rattle.ground.specs.Outcome.{outcome_of}
use Rattle.code.specs.Answers.{packed_paper}
use Rattle.code.specs.declared.NotPacked.{NotPacked}
use Rattle.pack.specs.Meaning.{field_means}

-- putting a field answers what it means, and leaves the bits at their place or, on a refusal, what was there
pub record FieldPromise (buffer : List ℕ) (at x w : ℕ) (r : Result ℕ NotPacked) (after : List ℕ) : Type 0 where
  pub outcome : outcome_of (packed_paper r) after ≡ field_means buffer at x w
