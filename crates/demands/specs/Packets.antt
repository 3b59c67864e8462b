-- 2026-07, "Build the board's data packet": what a packet ask wrote is found, read and checked by the packet calls, and holds what its items sent.
-- Assumes nothing.
use Rattle.std.specs.Prelude.{not, List, ◌≡◌, refl, ℕ, ◌+◌, ◌≤◌, ◌<◌, length, drop}
use Rattle.std.proofs.Common.{subst, arith}
use Rattle.ground.specs.Paper.{accepted, refused_not}
use Rattle.data_packet.specs.Meaning.{PacketValues, Run, apid_of, data_of, first_run, run_items}
use Rattle.data_packet.specs.Sizes.{run_sized}
use Rattle.item.specs.Inputs.{Inputs}
use Rattle.ledger.specs.Repeat.{packet_not, packet_values}
use Rattle.packet_ask.specs.Meaning.{PacketOutcome, new_packet, packet_means}
use Rattle.packet_ask.specs.Outcomes.{built_packet, packet_elim}
use Rattle.state.specs.Words.{page_in}
use Rattle.demands.specs.ReadBack.{PacketAgain, packet_again_lem}

-- the items that a new packet ask ran on the idle page, in order, and what the packet calls answer of the buffer that it wrote
pub record PacketStands (m w : List ℕ) (i : Inputs) (v : PacketValues) (after : List ℕ) : Type 0 where
  pub items : Run
  pub ran : run_items (not (page_in w)) (first_run m) i.items ≡ accepted items
  pub total : v.total ≡ items.total
  pub written : v.written ≡ length (data_of i items.bits) + 10
  pub few : v.written ≤ 243
  pub stands : length after ≤ 65536 → PacketAgain (apid_of i.low) (data_of i items.bits) after

-- "it is found, read and checked by packet's own calls": at place 0 of the buffer, with APID 0x03 and the low byte, and the data that the items sent
pub packet_stands : (m w buffer : List ℕ) (number : ℕ) (i : Inputs) (v : PacketValues) → i.low < 256
    → (packet_means m w buffer number i).answer ≡ accepted (new_packet v) → PacketStands m w i v (packet_means m w buffer number i).leaves.buffer
packet_stands m w buffer number i v low =
    packet_elim m w buffer number i (λ (o : PacketOutcome). o.answer ≡ accepted (new_packet v) → PacketStands m w i v o.leaves.buffer)
    (λ n z e. absurd (refused_not e))
    (λ h r few ran t k e.
    let s = run_sized m (not (page_in w)) i r few ran in
    let count = length (data_of i r.bits) + 10 in
    subst (λ (x : PacketValues). PacketStands m w i x (built_packet w buffer number i r).leaves.buffer) (packet_values e)
    (record {
      items = r;
      ran = ran;
      total = refl;
      written = refl;
      few = omega (arith, s.few);
      stands = λ fits. packet_again_lem (apid_of i.low) (data_of i r.bits) (drop count buffer) _ refl (omega (arith, s.few)) (omega arith) fits;
    }))
    (λ h total t k e. absurd (packet_not e))
