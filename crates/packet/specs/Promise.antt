-- What each public call promises, of its answer and of the memory that was lent to it.
-- Assumes nothing.
use Rattle.std.specs.Prelude.{◌≡◌, List, ℕ, ◌+◌, Result}
use Rattle.std.specs.Borrow.{Bor}
use Rattle.ground.specs.Outcome.{outcome_of}
use Rattle.packet.specs.declared.Found.{Found}
use Rattle.packet.specs.declared.Headed.{Headed}
use Rattle.packet.specs.declared.NotFound.{NotFound}
use Rattle.packet.specs.declared.NoHeader.{NoHeader}
use Rattle.packet.specs.declared.NotWritten.{NotWritten}
use Rattle.packet.specs.Answers.{found_paper, headed_paper, written_paper}
use Rattle.packet.specs.Meaning.{find_means, header_means, payload_start, payload_means, write_means}

-- `find` answers what finding means
pub record FindPromise (capture : List ℕ) (r : Result Found NotFound) : Type 0 where
  pub answer : found_paper r ≡ find_means capture

-- `header` answers what stands at the place
pub record HeaderPromise (capture : List ℕ) (at : ℕ) (r : Result Headed NoHeader) : Type 0 where
  pub answer : headed_paper r ≡ header_means capture at

-- `payload` hands back the data where it lies: its bytes, and its place in the caller's own memory
pub record PayloadPromise (capture : Bor (List ℕ)) (at : ℕ) (r : Bor (List ℕ)) : Type 0 where
  pub bytes : r.now ≡ payload_means capture.now at
  pub block : r.ref_ptr.0 ≡ capture.ref_ptr.0
  pub place : r.ref_ptr.1 ≡ capture.ref_ptr.1 + payload_start capture.now at

-- `write` answers what writing means, and leaves the buffer as it says
pub record WritePromise (buffer : List ℕ) (apid : ℕ) (payload : List ℕ) (r : Result ℕ NotWritten) (after : List ℕ) : Type 0 where
  pub outcome : outcome_of (written_paper r) after ≡ write_means buffer apid payload
