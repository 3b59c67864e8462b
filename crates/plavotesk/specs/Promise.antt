-- What each exported call promises of its outcome o: the number that it answers with what the lent places hold, and the memory that it leaves. One equation
-- over the library's own definitions; held is what the lent places held.
-- Assumes nothing.
use Rattle.std.specs.Prelude.{◌≡◌, List, ℕ, ◌^◌, ℤ}
use Rattle.ground.specs.Paper.{Paper, number_of}
use Rattle.packet.specs.Meaning.{FoundValues, HeaderValues, find_means, header_means, write_means}
use Rattle.message.specs.Meaning.{ReadValues, read_means, write_means as message_means}
use Rattle.code.specs.Meaning.{UnpackValues, pack_means, unpack_means}
use Rattle.rate.specs.Meaning.{ReadingValues, RateValues, reading_means, rate_means}
use Rattle.format.specs.Meaning.{float_value, Takes, int24_means}
use Rattle.logarithm.specs.Meaning.{Giving, Log8Takes, Log8Given}
use Rattle.cadence.specs.Meaning.{Begins, Ends, seconds_means}
use Rattle.item.specs.Inputs.{Inputs}
use Rattle.pages.specs.declared.Window.{Window}
use Rattle.state.specs.Meaning.{next_means}
use Rattle.histogram.specs.Meaning.{CallOutcome, Fed, Lent, flip_means, increment_means, increments_means, open_means}
use Rattle.window_ask.specs.Meaning.{ask_means}
use Rattle.plavotesk.specs.Meaning.{told, told_missing, told_with, told_found, part_of, Edges, edges_of, AskValues, told_ask, Quotients, quotients_of}
use Rattle.packet_ask.specs.Meaning.{PacketOutcome, packet_means}
use Rattle.plavotesk.specs.Meaning.{CountEnds, count_ends, PacketPlaces, told_packet}

-- finding: the first packet's place, and the bytes skipped before it, with 20 as well
abbrev pub PacketFindPromise : List ℕ → FoundValues → ℕ × FoundValues → Type 0
PacketFindPromise capture held o = o ≡ told_found (find_means capture) held

-- a header: the APID, and the bytes of data
abbrev pub PacketHeaderPromise : List ℕ → ℕ → HeaderValues → ℕ × HeaderValues → Type 0
PacketHeaderPromise capture place held o = o ≡ told (header_means capture place) held

-- the data of a packet: where it starts, and its bytes
abbrev pub PacketPayloadPromise : List ℕ → ℕ → ℕ × ℕ → Type 0
PacketPayloadPromise capture place o = o ≡ part_of capture place

-- writing a packet: the bytes written; the buffer
abbrev pub PacketWritePromise : List ℕ → ℕ → List ℕ → ℕ → (ℕ × ℕ) × List ℕ → Type 0
PacketWritePromise buffer apid payload held o = o ≡ told_with (write_means buffer apid payload) held

-- reading a message: the address, the size tag, the value, the bytes used
abbrev pub MessageReadPromise : List ℕ → ReadValues → ℕ × ReadValues → Type 0
MessageReadPromise bytes held o = o ≡ told (read_means bytes) held

-- writing a message: the bytes written; the buffer
abbrev pub MessageWritePromise : List ℕ → ℕ → ℕ → ℕ → ℕ → (ℕ × ℕ) × List ℕ → Type 0
MessageWritePromise buffer address tag value held o = o ≡ told_with (message_means buffer address tag value) held

-- writing a code: the next position; the buffer
abbrev pub CodePackPromise : List ℕ → ℕ → ℤ → ℕ → ℕ → (ℕ × ℕ) × List ℕ → Type 0
CodePackPromise buffer at value drop held o = o ≡ told_with (pack_means buffer at value drop) held

-- reading a code: the number, and the next position; the bits missing, with 9
abbrev pub CodeUnpackPromise : List ℕ → ℕ → ℕ → UnpackValues → ℕ → (ℕ × UnpackValues) × ℕ → Type 0
CodeUnpackPromise bytes at drop held missing o = o ≡ told_missing (λ (v : UnpackValues). v) (unpack_means bytes at drop) held missing

-- reading counts: the edges, whether they are one exact count, and the next position; the bits missing, with 9
abbrev pub ReadingPromise : List ℕ → ℕ → ℕ → Edges → ℕ → (ℕ × Edges) × ℕ → Type 0
ReadingPromise bytes at drop held missing o =
    o ≡ told_missing (λ (v : ReadingValues). edges_of v.reading v.next) (reading_means bytes at drop) held missing

-- forming a rate: both quotients, the seconds, and the next position; the bits missing, with 9
abbrev pub RatePromise : List ℕ → ℕ → ℕ → ℕ → Quotients → ℕ → (ℕ × Quotients) × ℕ → Type 0
RatePromise bytes at drop level held missing o =
    o ≡ told_missing (λ (v : RateValues). quotients_of v.rate v.next) (rate_means bytes at drop level) held missing

-- a call by a sentence of document 01 that is no equation: an answer of which the sentence holds, and what is told of it
pub record Sentence (Holds : Paper ℕ → Type 0) (held : ℕ) (o : ℕ × ℕ) : Type 0 where
  pub answer : Paper ℕ
  pub holds : Holds answer
  pub outcome : o ≡ told answer held

-- the 16-bit float of a count
abbrev pub Float16CodePromise : ℕ → ℕ → ℕ × ℕ → Type 0
Float16CodePromise count held o = Sentence (Takes (float_value 12) (2 ^ 27) count) held o

-- the 8-bit float of a count
abbrev pub Float8CodePromise : ℕ → ℕ → ℕ × ℕ → Type 0
Float8CodePromise count held o = Sentence (Takes (float_value 3) (2 ^ 34) count) held o

-- the 24-bit integer of a count, and the count of a 24-bit integer
abbrev pub Int24Promise : ℕ → ℕ → ℕ × ℕ → Type 0
Int24Promise given held o = o ≡ told (int24_means given) held

-- the logarithm byte of a count
abbrev pub Log8CodePromise : ℕ → ℕ → ℕ × ℕ → Type 0
Log8CodePromise count held o = Sentence (Log8Takes count) held o

-- the counts of a logarithm byte: an answer of which the sentence holds, and its two counts
pub record Log8CountsPromise (code : ℕ) (o : CountEnds) : Type 0 where
  pub answer : Giving
  pub holds : Log8Given code answer
  pub outcome : o ≡ count_ends answer

-- a level's seconds
abbrev pub LevelSecondsPromise : ℕ → ℕ → ℕ × ℕ → Type 0
LevelSecondsPromise level held o = o ≡ told (seconds_means level) held

-- the level that begins in a second
abbrev pub SecondBeginningPromise : ℕ → ℕ → ℕ × ℕ → Type 0
SecondBeginningPromise second held o = Sentence (Begins second) held o

-- the level that ends with a second
abbrev pub SecondEndingPromise : ℕ → ℕ → ℕ × ℕ → Type 0
SecondEndingPromise second held o = Sentence (Ends second) held o

-- what a histogram call leaves: its number, the memory, the state's words
pub record Left : Type 0 where
  pub number : ℕ
  pub memory : List ℕ
  pub state : List ℕ

-- the same of what the library's call means
abbrev pub left_by : CallOutcome → Left
left_by o = record { number = number_of o.answer; memory = o.leaves.memory; state = o.leaves.state }

-- opening: memory and state
abbrev pub HistogramOpenPromise : List ℕ → List ℕ → Left → Type 0
HistogramOpenPromise memory state o = o ≡ left_by (open_means memory state)

-- an increment: the memory; the state is lent unchangeable
abbrev pub HistogramIncrementPromise : List ℕ → List ℕ → ℕ → Left → Type 0
HistogramIncrementPromise memory state address o = o ≡ left_by (increment_means memory state address)

-- a run of increments: how many were counted, and by which number it ended; the memory; the state is lent unchangeable
abbrev pub HistogramIncrementsPromise : List ℕ → List ℕ → List ℕ → Fed → (ℕ × Fed) × Lent → Type 0
HistogramIncrementsPromise memory state addresses held o = o ≡ told_with (increments_means memory state addresses) held

-- the next ask: its number
abbrev pub HistogramNextPromise : List ℕ → ℕ → ℕ × ℕ → Type 0
HistogramNextPromise state held o = o ≡ told (next_means state) held

-- a flip: the state; the memory is lent unchangeable
abbrev pub HistogramFlipPromise : List ℕ → List ℕ → Left → Type 0
HistogramFlipPromise memory state o = o ≡ left_by (flip_means memory state)

-- an ask: the sum, and whether it was answered again; memory and state
abbrev pub HistogramAskPromise : List ℕ → List ℕ → ℕ → Window → AskValues → Left × AskValues → Type 0
HistogramAskPromise memory state number window held o =
    o ≡ (left_by (ask_means memory state number window), told_ask (ask_means memory state number window).answer held)

-- what a packet ask leaves: its number, the memory, the state's words, the buffer
pub record PacketLeft : Type 0 where
  pub number : ℕ
  pub memory : List ℕ
  pub state : List ℕ
  pub buffer : List ℕ

-- the same of what the library's call means
abbrev pub packet_left_by : PacketOutcome → PacketLeft
packet_left_by o = record { number = number_of o.answer; memory = o.leaves.memory; state = o.leaves.state; buffer = o.leaves.buffer }

-- a packet ask: the bytes written, the total, and whether it was answered again; memory, state and buffer
abbrev pub HistogramPacketPromise : List ℕ → List ℕ → List ℕ → ℕ → Inputs → PacketPlaces → PacketLeft × PacketPlaces → Type 0
HistogramPacketPromise memory state buffer number i held o =
    o ≡ (packet_left_by (packet_means memory state buffer number i), told_packet (packet_means memory state buffer number i).answer held)
