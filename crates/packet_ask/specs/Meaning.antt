-- The numbered ask for a packet, in document 02's words and order (2026-07): built once for each number, and the kept bytes handed out again.
-- Assumes nothing.
use Rattle.std.specs.Prelude.{not, List, ℕ, leb, length, take, Result, Ok, Err}
use Rattle.ground.specs.Choice.{pick}
use Rattle.ground.specs.Outcome.{Outcome, accept, onward_to, refuse}
use Rattle.ground.specs.Paper.{Paper, accepted, refusal}
use Rattle.ground.specs.Putting.{put}
use Rattle.item.specs.Inputs.{Inputs}
use Rattle.state.specs.Answers.{no_turn}
use Rattle.state.specs.Turns.{turn_of}
use Rattle.state.specs.Words.{packet, bytes_in, keep_packet_in, kept_in, page_in}
use Rattle.state.specs.declared.NoTurn.{NoTurn}
use Rattle.state.specs.declared.Turn.{Turn}
use Rattle.state.specs.declared.Turn.TheVariants.{NewAsk, LastAsk}
use Rattle.histogram.specs.Meaning.{admission}
use Rattle.data_packet.specs.Meaning.{MemoryAndBuffer, PacketValues, build_means}

-- what an accepted packet ask answers: the bytes written and the total, new or again
pub data PacketValue : Type 0 where
  new_packet : PacketValues → PacketValue
  packet_again : PacketValues → PacketValue

-- what a packet ask is lent, and what it leaves of it: the memory, the state's words, and the buffer that the packet goes to
pub record PacketLent : Type 0 where
  pub memory : List ℕ
  pub state : List ℕ
  pub buffer : List ℕ

-- the same from its three parts
abbrev pub packet_lent : List ℕ → List ℕ → List ℕ → PacketLent
packet_lent memory state buffer = record { memory = memory; state = state; buffer = buffer }

-- what a packet ask answers and leaves
abbrev pub PacketOutcome : Type 0
PacketOutcome = Outcome PacketValue PacketLent

-- "The state keeps its inputs (low byte, table, flags, initial level, second) and bytes": the words after a packet that was built, or refused
abbrev pub kept_after : List ℕ → ℕ → Inputs → List ℕ → Paper PacketValues → List ℕ
kept_after state number i buffer (accepted v) = keep_packet_in state number i v.total (take v.written buffer)
kept_after state number i buffer (refusal n carried) = state

-- a packet that was built, answered as new and kept; or refused with the state as it was
abbrev pub building : List ℕ → ℕ → Inputs → Outcome PacketValues MemoryAndBuffer → PacketOutcome
building state number i o =
    onward_to (λ v. accept (new_packet v) (packet_lent o.leaves.memory (kept_after state number i o.leaves.buffer (accepted v)) o.leaves.buffer))
    (packet_lent o.leaves.memory state o.leaves.buffer) o.answer

-- a new packet ask works on the idle page, as every ask does; refusals 23, 22, 19, then per item 14, 16, 12, then 3
unfoldable pub new_packet_means : List ℕ → List ℕ → List ℕ → ℕ → Inputs → PacketOutcome
new_packet_means memory state buffer number i = building state number i (build_means memory (not (page_in state)) i buffer)

-- "writes the same bytes into the lent buffer if they fit": how many, at its front; refusal 3
abbrev pub again_means : List ℕ → List ℕ → Outcome ℕ (List ℕ)
again_means state buffer =
    pick (leb (length (bytes_in state)) (length buffer)) (accept (length (bytes_in state)) (put buffer 0 (bytes_in state))) (refuse 3 buffer)

-- the kept bytes handed out again with the kept total, or not; memory and state as they were
abbrev pub handing : List ℕ → List ℕ → ℕ → Outcome ℕ (List ℕ) → PacketOutcome
handing memory state total o =
    onward_to (λ n. accept (packet_again (record { written = n; total = total })) (packet_lent memory state o.leaves)) (packet_lent memory state o.leaves)
    o.answer

-- "A repeat with all of them the same answers "again" with the same total .. and changes neither histogram memory nor state"; refusals 18 or 17
abbrev pub packet_turn_means : Result Turn NoTurn → List ℕ → List ℕ → List ℕ → ℕ → Inputs → PacketOutcome
packet_turn_means (Ok NewAsk) memory state buffer number i = new_packet_means memory state buffer number i
packet_turn_means (Ok (LastAsk total)) memory state buffer number i = handing memory state total (again_means state buffer)
packet_turn_means (Err why) memory state buffer number i = refuse (no_turn.number why) (packet_lent memory state buffer)

-- a packet ask: "Order 13, 18 or 17, 23, 22, 19, then per item 14, 16, 12 (sent items only), then 3; a repeat meets only 13 and 3"
unfoldable pub packet_means : List ℕ → List ℕ → List ℕ → ℕ → Inputs → PacketOutcome
packet_means memory state buffer number i =
    onward_to (λ x. packet_turn_means (turn_of (kept_in state) number (packet i)) memory state buffer number i) (packet_lent memory state buffer)
    (admission memory state)
