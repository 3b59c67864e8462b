-- What each public call promises.
-- Assumes nothing.
use Rattle.std.specs.Prelude.{◌≡◌, ℕ, Result}
use Rattle.cadence.specs.declared.NoLevel.{NoLevel}
use Rattle.cadence.specs.declared.OutOfRange.{OutOfRange}
use Rattle.cadence.specs.Answers.{length_paper, level_paper}
use Rattle.cadence.specs.Meaning.{Begins, Ends, seconds_means}

-- the seconds that the level lasts, or 19
pub record SecondsPromise (level : ℕ) (r : Result ℕ NoLevel) : Type 0 where
  pub answer : length_paper r ≡ seconds_means level

-- the level that begins in the second, or 19
pub record BeginningPromise (second : ℕ) (r : Result ℕ OutOfRange) : Type 0 where
  pub answer : Begins second (level_paper r)

-- the level that ends with the second, or 19
pub record EndingPromise (second : ℕ) (r : Result ℕ OutOfRange) : Type 0 where
  pub answer : Ends second (level_paper r)
