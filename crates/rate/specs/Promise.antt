-- What each public call promises.
-- Assumes nothing.
use Rattle.std.specs.Prelude.{◌≡◌, List, ℕ, Result}
use Rattle.code.specs.declared.Refusal.{Refusal}
use Rattle.rate.specs.declared.Counts.{Counts}
use Rattle.rate.specs.declared.Formed.{Formed}
use Rattle.rate.specs.declared.NotFormed.{NotFormed}
use Rattle.rate.specs.Meaning.{reading_means, rate_means}
use Rattle.rate.specs.Answers.{reading_paper, rate_paper}

-- the reading of the code at the position and the next position, or 8, 9, 10, 11
pub record ReadingPromise (bytes : List ℕ) (at d : ℕ) (r : Result Counts Refusal) : Type 0 where
  pub answer : reading_paper r ≡ reading_means bytes at d

-- the rate of the code at the position over the level's seconds and the next position, or 8, 9, 10, 11, 19
pub record RatePromise (bytes : List ℕ) (at d level : ℕ) (r : Result Formed NotFormed) : Type 0 where
  pub answer : rate_paper r ≡ rate_means bytes at d level
