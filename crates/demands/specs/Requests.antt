-- What the requests of document 02 ask to be shown, request by request. The theorems themselves, of the definitions and of the calls' outcomes.
-- Assumes nothing.

-- 2026-01, "the largest v with 2^(v-8) not above c to the eighth power", to the letter
pub use Rattle.logarithm.specs.Logarithms.{log8_to_the_letter, log8_from_the_letter}
-- "Order of bytes must follow order of counts"
pub use Rattle.logarithm.specs.RoundTrip.{log8_order}
-- "from a byte, the smallest and largest counts that give it, or a plain word that no count does": one relation seen from two sides
pub use Rattle.logarithm.specs.RoundTrip.{log8_encloses, log8_enclosed, log8_ends, log8_none}
-- 2026-02, "the least number of further bits with which some accepted code could be completed from what was read", over every list of bits; as it is computed
pub use Rattle.code.specs.Missing.{Completion, missing_is_least, missing_computed_lem, missing_few}
-- "at the end exactly, under 2^63, it carries 1, and from any other position past the end, 0"
pub use Rattle.code.specs.Missing.{runs_out, at_the_end, past_the_end}
-- "Everything that reads codes hands this number on unchanged: rates and the code reader"; no other refusal carries one
pub use Rattle.demands.specs.MissingBits.{unpack_hands_on, reader_hands_on, reading_hands_on, rate_hands_on, no_other_carries}
-- and so do the exported calls
pub use Rattle.demands.specs.MissingBits.{plv_code_unpack_tells, plv_reading_tells, plv_rate_tells}
-- 2026-06, "Codes already on file keep their bits and meaning: show that every code accepted before decodes as before"
pub use Rattle.code.specs.OnFile.{reads_as_before, onward_as_before, decodes_as_before, packs_as_before, unpack_as_before, pack_as_before}
-- and no other answer moved: every answer of the old reader but 11, and every outcome of the old writer but 8, is today's
pub use Rattle.code.specs.OnFile.{shape_stands, onward_stands, pack_stands}
-- "New ones have 12 ones, a zero, a zero and, for drop 0, 13 further bits, 29 in all. The old reader refuses those by 11"
pub use Rattle.code.specs.OnFile.{new_codes, new_too_long, written_too_long, new_was_refused}
-- "11 now comes at the 13th one, or after 12 ones, a zero and a one"
pub use Rattle.code.specs.OnFile.{thirteenth_one, one_after_twelve, twelve_and_nothing}
-- 2026-07, "Build the board's data packet, APID 0x03 and a low byte from the caller": it stands at place 0 of the buffer, with its items' data
pub use Rattle.demands.specs.Packets.{PacketStands, packet_stands}
-- "One ask number covers the whole packet .. demand 3 counts that total"; "A repeat with all of them the same .."
pub use Rattle.demands.specs.Ledger.{nothing_lost, packet_nothing_twice}
-- "Items run in order": whatever they are, the other page's counters stay, and what they leave and clear is what was there
pub use Rattle.data_packet.specs.Runs.{run_conserves, run_leaves}
-- the two kinds of ask share one row of numbers
pub use Rattle.ledger.specs.Numbers.{new_bears, new_packet_bears}
