-- What the parts of sending answer for: bits put at a position, and a result put in a format.
-- Assumes nothing.
use Rattle.std.specs.Prelude.{◌≡◌, List, ℕ, Result}
use Rattle.ground.specs.Outcome.{outcome_of}
use Rattle.code.specs.Meaning.{place_means}
use Rattle.item.specs.Answers.{sent_paper}
use Rattle.item.specs.Meaning.{format_means}
use Rattle.item.specs.declared.NotSent.{NotSent}

-- putting bits answers and leaves what it means
pub record PlacePromise (buffer : List ℕ) (at : ℕ) (l : List ℕ) (s : Result ℕ NotSent) (after : List ℕ) : Type 0 where
  pub outcome : outcome_of (sent_paper s) after ≡ place_means buffer at l

-- a result in a format answers and leaves what it means
pub record FormatPromise (buffer : List ℕ) (at comp r : ℕ) (s : Result ℕ NotSent) (after : List ℕ) : Type 0 where
  pub outcome : outcome_of (sent_paper s) after ≡ format_means buffer at comp r
