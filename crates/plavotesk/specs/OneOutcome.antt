-- Two outcomes that meet an exported call's promise are equal: number, lent places and memory.
-- Assumes nothing.
use Rattle.std.specs.Prelude.{◌≡◌, List, ℕ, ◌+◌, ◌^◌, ℤ}
use Rattle.std.proofs.Common.{sym, ap, ◌∙◌}
use Rattle.ground.specs.Paper.{Paper, one_value}
use Rattle.packet.specs.Meaning.{FoundValues, HeaderValues}
use Rattle.message.specs.Meaning.{ReadValues}
use Rattle.code.specs.Meaning.{UnpackValues}
use Rattle.format.specs.Meaning.{float_value}
use Rattle.format.specs.Codes.{takes_one}
use Rattle.logarithm.specs.Logarithms.{log8_one, given_one}
use Rattle.cadence.specs.Sentence.{level_one}
use Rattle.item.specs.Inputs.{Inputs}
use Rattle.pages.specs.declared.Window.{Window}
use Rattle.plavotesk.specs.Meaning.{told, interface, AskValues, Edges, PacketPlaces, Quotients, count_ends}
use Rattle.plavotesk.specs.Promise.{PacketFindPromise, PacketHeaderPromise, PacketPayloadPromise, PacketWritePromise}
use Rattle.plavotesk.specs.Promise.{MessageReadPromise, MessageWritePromise, CodePackPromise, CodeUnpackPromise, ReadingPromise, RatePromise}
use Rattle.plavotesk.specs.Promise.{Sentence, Float16CodePromise, Float8CodePromise, Int24Promise, Log8CodePromise, Log8CountsPromise}
use Rattle.plavotesk.specs.Promise.{LevelSecondsPromise, SecondBeginningPromise, SecondEndingPromise}
use Rattle.plavotesk.specs.Promise.{HistogramOpenPromise, HistogramIncrementPromise, HistogramFlipPromise, HistogramAskPromise}
use Rattle.plavotesk.specs.Promise.{HistogramIncrementsPromise, HistogramNextPromise, HistogramPacketPromise}
use Rattle.histogram.specs.Meaning.{Fed}

-- a promise that one outcome meets
abbrev pub One : {O : Type 0} → (O → Type 0) → Type 0
One {O} Promise = (o p : O) → Promise o → Promise p → o ≡ p

-- a sentence that holds of one answer leaves one outcome
sentence_one : {Holds : Paper ℕ → Type 0} {held : ℕ} → ((p q : Paper ℕ) → Holds p → Holds q → p ≡ q) → One (Sentence Holds held)
sentence_one {Holds} {held} unique o p x y =
    x.outcome ∙ ap (λ (q : Paper ℕ). told q held) (unique x.answer y.answer x.holds y.holds) ∙ sym y.outcome

-- packets
pub plv_packet_find_one : (capture : List ℕ) (held : FoundValues) → One (PacketFindPromise capture held)
plv_packet_find_one capture held o p = one_value

pub plv_packet_header_one : (capture : List ℕ) (place : ℕ) (held : HeaderValues) → One (PacketHeaderPromise capture place held)
plv_packet_header_one capture place held o p = one_value

pub plv_packet_payload_one : (capture : List ℕ) (place : ℕ) → One (PacketPayloadPromise capture place)
plv_packet_payload_one capture place o p = one_value

pub plv_packet_write_one : (buffer : List ℕ) (apid : ℕ) (payload : List ℕ) (held : ℕ) → One (PacketWritePromise buffer apid payload held)
plv_packet_write_one buffer apid payload held o p = one_value

-- messages
pub plv_message_read_one : (bytes : List ℕ) (held : ReadValues) → One (MessageReadPromise bytes held)
plv_message_read_one bytes held o p = one_value

pub plv_message_write_one : (buffer : List ℕ) (address tag value held : ℕ) → One (MessageWritePromise buffer address tag value held)
plv_message_write_one buffer address tag value held o p = one_value

-- codes, readings and rates
pub plv_code_pack_one : (buffer : List ℕ) (at : ℕ) (value : ℤ) (drop held : ℕ) → One (CodePackPromise buffer at value drop held)
plv_code_pack_one buffer at value drop held o p = one_value

pub plv_code_unpack_one : (bytes : List ℕ) (at drop : ℕ) (held : UnpackValues) (missing : ℕ) → One (CodeUnpackPromise bytes at drop held missing)
plv_code_unpack_one bytes at drop held missing o p = one_value

pub plv_reading_one : (bytes : List ℕ) (at drop : ℕ) (held : Edges) (missing : ℕ) → One (ReadingPromise bytes at drop held missing)
plv_reading_one bytes at drop held missing o p = one_value

pub plv_rate_one : (bytes : List ℕ) (at drop level : ℕ) (held : Quotients) (missing : ℕ) → One (RatePromise bytes at drop level held missing)
plv_rate_one bytes at drop level held missing o p = one_value

-- formats
pub plv_float16_code_one : (count held : ℕ) → One (Float16CodePromise count held)
plv_float16_code_one count held = sentence_one (takes_one (float_value 12) (2 ^ 27) count)

pub plv_float8_code_one : (count held : ℕ) → One (Float8CodePromise count held)
plv_float8_code_one count held = sentence_one (takes_one (float_value 3) (2 ^ 34) count)

pub plv_int24_code_one : (count held : ℕ) → One (Int24Promise count held)
plv_int24_code_one count held o p = one_value

pub plv_int24_count_one : (code held : ℕ) → One (Int24Promise code held)
plv_int24_count_one code held o p = one_value

pub plv_log8_code_one : (count held : ℕ) → One (Log8CodePromise count held)
plv_log8_code_one count held = sentence_one (log8_one count)

pub plv_log8_counts_one : (code : ℕ) → One (Log8CountsPromise code)
plv_log8_counts_one code o p x y =
    x.outcome ∙ ap count_ends (given_one code x.answer y.answer x.holds y.holds) ∙ sym y.outcome

-- the cadence
pub plv_level_seconds_one : (level held : ℕ) → One (LevelSecondsPromise level held)
plv_level_seconds_one level held o p = one_value

pub plv_second_beginning_one : (second held : ℕ) → One (SecondBeginningPromise second held)
plv_second_beginning_one second held = sentence_one (level_one second second)

pub plv_second_ending_one : (second held : ℕ) → One (SecondEndingPromise second held)
plv_second_ending_one second held = sentence_one (level_one second (second + 1))

-- histogram memory
pub plv_histogram_open_one : (memory state : List ℕ) → One (HistogramOpenPromise memory state)
plv_histogram_open_one memory state o p = one_value

pub plv_histogram_increment_one : (memory state : List ℕ) (address : ℕ) → One (HistogramIncrementPromise memory state address)
plv_histogram_increment_one memory state address o p = one_value

pub plv_histogram_increments_one : (memory state addresses : List ℕ) (held : Fed) → One (HistogramIncrementsPromise memory state addresses held)
plv_histogram_increments_one memory state addresses held o p = one_value

pub plv_histogram_next_one : (state : List ℕ) (held : ℕ) → One (HistogramNextPromise state held)
plv_histogram_next_one state held o p = one_value

pub plv_histogram_flip_one : (memory state : List ℕ) → One (HistogramFlipPromise memory state)
plv_histogram_flip_one memory state o p = one_value

pub plv_histogram_ask_one : (memory state : List ℕ) (number : ℕ) (window : Window) (held : AskValues)
    → One (HistogramAskPromise memory state number window held)
plv_histogram_ask_one memory state number window held o p = one_value

pub plv_histogram_packet_one : (memory state buffer : List ℕ) (number : ℕ) (i : Inputs) (held : PacketPlaces)
    → One (HistogramPacketPromise memory state buffer number i held)
plv_histogram_packet_one memory state buffer number i held o p = one_value

-- the version
pub plv_version_one : {m n : ℕ} → m ≡ interface → n ≡ interface → m ≡ n
plv_version_one p q = one_value p q
