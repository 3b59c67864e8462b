-- What each public call promises; the calls that ask for a field promise that it is the definition's.
-- Assumes nothing.
use Rattle.std.specs.Prelude.{◌≡◌, List, ℕ, Result}
use Rattle.ground.specs.Outcome.{outcome_of}
use Rattle.item.specs.Meaning.{send_means}
use Rattle.item.specs.Answers.{sent_paper}
use Rattle.item.specs.declared.NotSent.{NotSent}

-- sending answers the next position, and leaves the item's bits at their place or, on a refusal, what was there
pub record SendPromise (buffer : List ℕ) (at x r : ℕ) (s : Result ℕ NotSent) (after : List ℕ) : Type 0 where
  pub outcome : outcome_of (sent_paper s) after ≡ send_means buffer at x r
