-- What a packet ask promises of its answer, and of the memory, the state's words and the buffer at exit: one equation.
-- Assumes nothing.
use Rattle.std.specs.Prelude.{◌≡◌, List, ℕ, ◌≤◌, length, Result}
use Rattle.ground.specs.Outcome.{outcome_of}
use Rattle.ground.specs.Paper.{Paper, accepted, refusal}
use Rattle.item.specs.Inputs.{Inputs}
use Rattle.state.specs.Words.{most_bytes, most_items}
use Rattle.data_packet.specs.Meaning.{PacketValues}
use Rattle.packet_ask.specs.Answers.{packet_paper}
use Rattle.packet_ask.specs.Meaning.{again_means, handing, packet_lent, packet_means}
use Rattle.packet_ask.specs.declared.Answered.{Answered}
use Rattle.packet_ask.specs.declared.NotAsked.{NotAsked}

-- what a repeat promises, which is no public call: whatever the memory, which it is not lent
pub record AgainPromise (state buffer : List ℕ) (total : ℕ) (r : Result Answered NotAsked) (buffer' : List ℕ) : Type 0 where
  pub outcome : (memory : List ℕ) → outcome_of (packet_paper r) (packet_lent memory state buffer') ≡ handing memory state total (again_means state buffer)

-- a packet that was built can be kept: not too many items, and as many bytes in the buffer as are said, and not too many
abbrev pub Keepable : List ℕ → List ℕ → Paper PacketValues → Type 0
Keepable items buffer (accepted v) = (length items ≤ most_items) × (v.written ≤ length buffer) × (v.written ≤ most_bytes)
Keepable items buffer (refusal n carried) = Unit {0}

-- what a packet ask promises
pub record PacketPromise (memory state buffer : List ℕ) (number : ℕ) (i : Inputs) (r : Result Answered NotAsked)
    (memory' state' buffer' : List ℕ) : Type 0 where
  pub outcome : outcome_of (packet_paper r) (packet_lent memory' state' buffer') ≡ packet_means memory state buffer number i
