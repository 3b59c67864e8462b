-- "Every public call states a result, and that statement leaves one possible outcome, memory and state included, refusals too": for
-- every public call of every crate, two outcomes that meet its promise are equal. The theorems themselves, under the call's name.
-- Assumes nothing.

-- the checksum, and bytes sealed by it
pub use Rattle.crc.specs.OneOutcome.{checksum_one, sealed_one, seal_one}
-- the number of a refusal, and of an answer: `number` of every error, and `number_of`
pub use Rattle.ground.specs.Refusals.{refusal_one, answer_number_one, paper_number_one}
-- 16-bit words
pub use Rattle.ground.specs.OneOutcome.{lies_one, word_one, put_one}
-- packets
pub use Rattle.packet.specs.OneOutcome.{find_one, header_one, payload_one, write_one as packet_write_one, found_number_one, headed_number_one}
pub use Rattle.packet.specs.OneOutcome.{written_number_one as packet_written_number_one}
-- messages
pub use Rattle.message.specs.OneOutcome.{read_one as message_read_one, write_one as message_write_one, read_number_one}
pub use Rattle.message.specs.OneOutcome.{written_number_one as message_written_number_one}
-- packed codes: pack; shape; unpack, and a reader's next_code, read_at and read_moved; magnitude; sign; the small questions that both ask
pub use Rattle.code.specs.OneOutcome.{pack_one, shape_one, unpack_one, magnitude_one, sign_one, packed_number_one, unpacked_number_one}
-- so many bits of a number
pub use Rattle.pack.specs.OneOutcome.{field_one}
pub use Rattle.code.specs.OneOutcome.{drop_known_one, in_rule_one, wide_one, end_of_one, power_one, bit_of_one, refusal_number_one, reason_one}
-- the reader: reader_at and moved_to
pub use Rattle.reader.specs.OneOutcome.{reader_one}
-- plain formats
pub use Rattle.format.specs.OneOutcome.{float16_code_one, float16_count_one, float8_code_one, float8_count_one, int24_code_one, int24_count_one}
pub use Rattle.format.specs.OneOutcome.{code16_number_one, code8_number_one, code24_number_one, count24_number_one}
pub use Rattle.logarithm.specs.OneOutcome.{log8_code_one, log8_counts_one, log8_code_number_one}
-- the cadence
pub use Rattle.cadence.specs.OneOutcome.{seconds_one, beginning_one, ending_one, length_number_one, level_number_one}
-- readings and rates
pub use Rattle.rate.specs.OneOutcome.{reading_one, rate_one, reading_number_one, rate_number_one}
-- two pages of counters
pub use Rattle.pages.specs.OneOutcome.{sized_one, clear_one, count_one, check_one, take_one, go_over_one}
-- items, and the packet built of them
pub use Rattle.item.specs.OneOutcome.{window_of_one, plain_one, adds_one, sends_one, send_one}
pub use Rattle.data_packet.specs.OneOutcome.{build_one}
-- histogram memory
pub use Rattle.state.specs.OneOutcome.{fitting_one, second_active_one, lent_of_one, is_last_one, turn_one, turn_by_one, next_one, next_number_one}
pub use Rattle.histogram.specs.OneOutcome.{admit_one, open_one, increment_one, increments_one, flip_one}
pub use Rattle.histogram.specs.OneOutcome.{open_number_one, increment_number_one, increments_number_one, flip_number_one}
pub use Rattle.window_ask.specs.OneOutcome.{ask_one, ask_number_one}
-- packet asks
pub use Rattle.packet_ask.specs.OneOutcome.{ask_packet_one, packet_number_one}
-- the code program's lines
pub use Rattle.lines.specs.OneOutcome.{fresh_one, with_byte_one, header_one as lines_header_one, put_answer_one, run_one}
-- what the code program prints with
pub use Rattle.printing.specs.OneOutcome.{print_header_one as printing_header_one, print_piece_one as piece_one, print_last_one as last_one}
-- the C interface: packets and messages; the checksum has the promise above
pub use Rattle.plavotesk.specs.OneOutcome.{plv_packet_find_one, plv_packet_header_one, plv_packet_payload_one, plv_packet_write_one}
pub use Rattle.plavotesk.specs.OneOutcome.{plv_message_read_one, plv_message_write_one}
-- the C interface: codes, readings and rates
pub use Rattle.plavotesk.specs.OneOutcome.{plv_code_pack_one, plv_code_unpack_one, plv_reading_one, plv_rate_one}
-- the C interface: formats and cadence; the counts of floats have the promises above
pub use Rattle.plavotesk.specs.OneOutcome.{plv_float16_code_one, plv_float8_code_one, plv_int24_code_one, plv_int24_count_one}
pub use Rattle.plavotesk.specs.OneOutcome.{plv_log8_code_one, plv_log8_counts_one}
pub use Rattle.plavotesk.specs.OneOutcome.{plv_level_seconds_one, plv_second_beginning_one, plv_second_ending_one}
-- the C interface: histogram memory
pub use Rattle.plavotesk.specs.OneOutcome.{plv_histogram_open_one, plv_histogram_increment_one, plv_histogram_increments_one, plv_histogram_next_one}
pub use Rattle.plavotesk.specs.OneOutcome.{plv_histogram_flip_one, plv_histogram_ask_one, plv_histogram_packet_one, plv_version_one}
