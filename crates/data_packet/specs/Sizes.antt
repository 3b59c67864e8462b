-- How large a packet can be: at most 233 bytes of data, 243 bytes in all; and all of them are bytes.
-- Assumes nothing.
use Rattle.std.specs.Prelude.{Bool, List, ◌++◌, ◌≡◌, refl, ℕ, ◌+◌, ◌≤◌, length}
use Rattle.std.proofs.Common.{arith, length-append}
use Rattle.ground.specs.Bits.{to_bits}
use Rattle.ground.specs.Bytes.{Bytes}
use Rattle.ground.specs.Paper.{accepted}
use Rattle.cadence.specs.Meaning.{highest_dividing}
use Rattle.code.specs.BitLists.{all_bits, all_bits-append, all_bits-to_bits}
use Rattle.item.specs.Filling.{bytes_of_bits_lem, length-bytes_of_bits}
use Rattle.item.specs.Inputs.{Inputs}
use Rattle.item.specs.Meaning.{bytes_of_bits}
use Rattle.packet.specs.Meaning.{packet_of}
use Rattle.packet.specs.ReadBack.{packet_bytes, packet_length}
use Rattle.data_packet.specs.Meaning.{Run, apid_of, data_of, first_bits, first_run, most_items, run_items}
use Rattle.data_packet.specs.Runs.{Sends, run_has, run_sends}

-- the first byte has eight bits
pub first_eight : (i : Inputs) → length (first_bits i) ≡ 8
unfolding first_bits
first_eight i = refl

-- and they are bits
first_fine : (i : Inputs) → all_bits (first_bits i)
unfolding first_bits
first_fine i =
    let ending = highest_dividing (i.second + 1) in
    all_bits-append (to_bits 2 i.flags) (to_bits 3 i.initial ++ to_bits 3 ending) (all_bits-to_bits 2 i.flags)
    (all_bits-append (to_bits 3 i.initial) (to_bits 3 ending) (all_bits-to_bits 3 i.initial) (all_bits-to_bits 3 ending))

-- the data of a packet: at most 233 bytes, all of them bytes; and the packet, at most 243
pub record Sized (i : Inputs) (r : Run) : Type 0 where
  pub few : length (data_of i r.bits) ≤ 233
  pub fine : Bytes (data_of i r.bits)
  pub packet_few : length (packet_of (apid_of i.low) (data_of i r.bits)) ≤ 243
  pub packet_fine : Bytes (packet_of (apid_of i.low) (data_of i r.bits))

-- so it is for every accepted run of a table of at most 64 items
pub run_sized : (m : List ℕ) (page : Bool) (i : Inputs) (r : Run) → length i.items ≤ most_items → run_items page (first_run m) i.items ≡ accepted r
    → Sized i r
unfolding data_of
run_sized m page i r h e =
    let s : Sends (length i.items) r = run_has (Sends (length i.items)) (run_sends m page i.items) e in
    let all = first_bits i ++ r.bits in
    let few : length (bytes_of_bits all) ≤ 233 =
    omega (arith, length-bytes_of_bits all, length-append (first_bits i) r.bits, first_eight i, s.few) in
    let fine : Bytes (bytes_of_bits all) = bytes_of_bits_lem all (all_bits-append (first_bits i) r.bits (first_fine i) s.fine) in
    record {
      few = few;
      fine = fine;
      packet_few = omega (arith, few, packet_length (apid_of i.low) (bytes_of_bits all));
      packet_fine = packet_bytes (apid_of i.low) (bytes_of_bits all) fine;
    }
