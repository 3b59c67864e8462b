-- What each public call promises, of its answer and of the memory that was lent to it.
-- Assumes nothing.
use Rattle.std.specs.Prelude.{◌≡◌, List, ℕ, Result}
use Rattle.ground.specs.Outcome.{outcome_of}
use Rattle.message.specs.declared.Message.{Message}
use Rattle.message.specs.declared.NotRead.{NotRead}
use Rattle.message.specs.declared.NotWritten.{NotWritten}
use Rattle.message.specs.Answers.{read_paper, written_paper}
use Rattle.message.specs.Meaning.{read_means, write_means}

-- `read` answers what reading means
pub record ReadPromise (bytes : List ℕ) (r : Result Message NotRead) : Type 0 where
  pub answer : read_paper r ≡ read_means bytes

-- `write` answers what writing means, and leaves the buffer as it says
pub record WritePromise (buffer : List ℕ) (address tag value : ℕ) (r : Result ℕ NotWritten) (after : List ℕ) : Type 0 where
  pub outcome : outcome_of (written_paper r) after ≡ write_means buffer address tag value
