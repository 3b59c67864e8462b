-- A packet that was built can be kept, and a packet ask does what its turn says.
-- Assumes nothing.
use mathlib.Core.Path.{◌≡◌, sym, subst}
use mathlib.Core.Bool.{Bool}
use mathlib.Core.List.{List}
use Prim.Native.Nat.{ℕ, ◌+◌}
use native.Mathlib.Omega.{arith}
use lib.ListN.{drop, length, length-append}
use Rattle.std.specs.Prelude.{Result, Ok}
use Rattle.ground.specs.Outcome.{Outcome}
use Rattle.ground.specs.Paper.{accepted}
use Rattle.item.specs.Inputs.{Inputs}
use Rattle.packet.specs.Meaning.{packet_of}
use Rattle.packet.specs.ReadBack.{packet_length}
use Rattle.state.specs.Laws.{turn_kept}
use Rattle.state.specs.Meaning.{turn_in}
use Rattle.state.specs.Words.{packet}
use Rattle.state.specs.declared.NoTurn.{NoTurn}
use Rattle.state.specs.declared.Turn.{Turn}
use Rattle.histogram.specs.Meaning.{Admits}
use Rattle.histogram.specs.States.{admits_long}
use Rattle.data_packet.specs.Answers.{packet_values}
use Rattle.data_packet.specs.Meaning.{MemoryAndBuffer, PacketValues, apid_of, data_of}
use Rattle.data_packet.specs.Outcomes.{build_elim}
use Rattle.data_packet.specs.Promise.{BuildPromise}
use Rattle.data_packet.specs.Sizes.{run_sized}
use Rattle.data_packet.specs.declared.Packet.{Packet}
use Rattle.packet_ask.specs.Meaning.{packet_means, packet_turn_means}
use Rattle.packet_ask.specs.Promise.{Keepable}

-- not too many items, and as many bytes in the buffer as are said, and not too many
pub keepable : (m : List ℕ) (page : Bool) (i : Inputs) (b : List ℕ) (p : Packet) (m' b' : List ℕ) → BuildPromise m page i b (Ok p) m' b'
    → Keepable i.items b' (accepted (packet_values p))
keepable m page i b p m' b' k =
    subst (λ (o : Outcome PacketValues MemoryAndBuffer). Keepable i.items o.leaves.buffer o.answer) (sym k.outcome)
    (build_elim m page i b (λ (o : Outcome PacketValues MemoryAndBuffer). Keepable i.items o.leaves.buffer o.answer)
    (λ r h e l.
    let s = run_sized m page i r h e in
    let packet = packet_length (apid_of i.low) (data_of i r.bits) in
    let joined = length-append (packet_of (apid_of i.low) (data_of i r.bits)) (drop (length (data_of i r.bits) + 10) b) in
    (h, omega (arith, packet, joined), omega (arith, s.few)))
    (λ n z. tt))

-- where it may go on, a packet ask does what its turn says
pub asks : (m w b : List ℕ) (number : ℕ) (i : Inputs) → Admits m w → {t : Result Turn NoTurn} → t ≡ turn_in w number (packet i)
    → packet_turn_means t m w b number i ≡ packet_means m w b number i
unfolding packet_means
asks m w b number i h e = rw (h, ← turn_kept w number (packet i) (admits_long m w h), ← e)
