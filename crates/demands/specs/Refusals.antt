-- Demand 1: "on a refusal changes neither memory nor state". For every call that may change what it is lent, of the crates and exported: where it
-- answers another number than 0, all that it was lent is as it was. What is not named here is lent unchangeable, or has no refusals.
-- Assumes nothing.
use Rattle.std.specs.Prelude.{Bool, ◌≡◌, refl, List, ℕ, ◌^◌, ℤ, Result}
use Rattle.std.proofs.Common.{ap, ◌∙◌}
use Rattle.ground.specs.Outcome.{Outcome, Refuses, Stays, refused_left}
use Rattle.ground.specs.Paper.{Paper, accepted, refusal, number_of}
use Rattle.packet.specs.declared.NotWritten.{NotWritten}
use Rattle.packet.specs.Answers as packets
use Rattle.packet.specs.Laws as packet
use Rattle.packet.specs.Meaning.{FoundValues, HeaderValues, find_means, header_means, write_means}
use Rattle.packet.specs.Promise.{WritePromise}
use Rattle.message.specs.declared.NotWritten as unwritten
use Rattle.message.specs.Answers as messages
use Rattle.message.specs.Laws as message
use Rattle.message.specs.Meaning.{ReadValues, read_means, write_means as message_means}
use Rattle.message.specs.Promise as said
use Rattle.code.specs.declared.NotPacked.{NotPacked}
use Rattle.code.specs.Answers.{packed_paper}
use Rattle.code.specs.Meaning.{UnpackValues, pack_means, unpack_means}
use Rattle.code.specs.Promise.{PackPromise}
use Rattle.code.specs.Theorems.{pack_stays}
use Rattle.pack.specs.OneOutcome.{field_stays}
use Rattle.pack.specs.Promise.{FieldPromise}
use Rattle.item.specs.declared.NotSent.{NotSent}
use Rattle.item.specs.Answers.{sent_paper}
use Rattle.item.specs.Inputs.{Inputs}
use Rattle.item.specs.OneOutcome.{send_stays}
use Rattle.item.specs.Promise.{SendPromise}
use Rattle.data_packet.specs.Meaning.{build_means, memory_and_buffer}
use Rattle.data_packet.specs.Outcomes.{build_stays}
use Rattle.packet_ask.specs.Meaning.{PacketValue, packet_lent, packet_means}
use Rattle.packet_ask.specs.Outcomes.{packet_stays}
use Rattle.rate.specs.Meaning.{RateValues, ReadingValues, rate_means, reading_means}
use Rattle.format.specs.Meaning.{float_value, Takes, int24_means}
use Rattle.logarithm.specs.Meaning.{Log8Takes}
use Rattle.cadence.specs.Meaning.{Begins, Ends, seconds_means}
use Rattle.pages.specs.declared.NotCounted.{NotCounted}
use Rattle.pages.specs.declared.NotTaken.{NotTaken}
use Rattle.pages.specs.declared.Pass.{Pass}
use Rattle.pages.specs.declared.Window.{Window}
use Rattle.pages.specs.declared.WrongCell.{WrongCell}
use Rattle.pages.specs.Answers.{count_paper, passed_paper, taken_paper}
use Rattle.pages.specs.Outcomes.{count_stays, pass_stays, take_stays}
use Rattle.pages.specs.Promise.{CountPromise, PassPromise, TakePromise}
use Rattle.state.specs.Meaning.{next_means}
use Rattle.histogram.specs.Meaning.{CallOutcome, Fed, Lent, Value, increments_means, lent, open_means}
use Rattle.histogram.specs.Outcomes.{open_stays}
use Rattle.ledger.specs.Feeding.{increments_stays}
use Rattle.ledger.specs.Outcomes.{call_stays}
use Rattle.ledger.specs.Runs.{Call, increment, flip, ask, call_means}
use Rattle.plavotesk.specs.Meaning.{AskValues, Edges, PacketPlaces, Quotients, edges_of, quotients_of, told_as, told_ask, told_found, told_missing, told_packet}
use Rattle.plavotesk.specs.Meaning.{told_with}
use Rattle.plavotesk.specs.Promise.{Sentence, PacketFindPromise, PacketHeaderPromise, PacketWritePromise, MessageReadPromise, MessageWritePromise}
use Rattle.plavotesk.specs.Promise.{CodePackPromise, CodeUnpackPromise, ReadingPromise, RatePromise, Float16CodePromise, Float8CodePromise, Int24Promise}
use Rattle.plavotesk.specs.Promise.{Log8CodePromise, LevelSecondsPromise, SecondBeginningPromise, SecondEndingPromise, Left, left_by}
use Rattle.plavotesk.specs.Promise.{HistogramOpenPromise, HistogramIncrementPromise, HistogramFlipPromise, HistogramAskPromise}
use Rattle.plavotesk.specs.Promise.{HistogramIncrementsPromise, HistogramNextPromise, HistogramPacketPromise, PacketLeft, packet_left_by}

-- ---- the crates' calls

-- writing a packet
pub packet_write_refused : (buffer : List ℕ) (apid : ℕ) (payload : List ℕ) (r : Result ℕ NotWritten) (after : List ℕ)
    → WritePromise buffer apid payload r after → Refuses (number_of (packets.written_paper r)) → after ≡ buffer
packet_write_refused buffer apid payload r after p = refused_left p.outcome (packet.write_stays buffer apid payload)

-- writing a message
pub message_write_refused : (buffer : List ℕ) (address tag value : ℕ) (r : Result ℕ unwritten.NotWritten) (after : List ℕ)
    → said.WritePromise buffer address tag value r after → Refuses (number_of (messages.written_paper r)) → after ≡ buffer
message_write_refused buffer address tag value r after p = refused_left p.outcome (message.write_stays buffer address tag value)

-- writing a code
pub pack_refused : (buffer : List ℕ) (at : ℕ) (v : ℤ) (d : ℕ) (r : Result ℕ NotPacked) (after : List ℕ) → PackPromise buffer at v d r after
    → Refuses (number_of (packed_paper r)) → after ≡ buffer
pack_refused buffer at v d r after p = refused_left p.outcome (pack_stays buffer at v d)

-- so many bits of a number put at a position
pub field_refused : (buffer : List ℕ) (at x w : ℕ) (r : Result ℕ NotPacked) (after : List ℕ) → FieldPromise buffer at x w r after
    → Refuses (number_of (packed_paper r)) → after ≡ buffer
field_refused buffer at x w r after p = refused_left p.outcome (field_stays buffer at x w)

-- sending an item's result
pub send_refused : (buffer : List ℕ) (at x result : ℕ) (s : Result ℕ NotSent) (after : List ℕ) → SendPromise buffer at x result s after
    → Refuses (number_of (sent_paper s)) → after ≡ buffer
send_refused buffer at x result s after p = refused_left p.outcome (send_stays buffer at x result)

-- counting on a page
pub count_refused : (m : List ℕ) (page : Bool) (address : ℕ) (r : Result (Unit {0}) NotCounted) (after : List ℕ) → CountPromise m page address r after
    → Refuses (number_of (count_paper r)) → after ≡ m
count_refused m page address r after p = refused_left p.outcome (count_stays m page address)

-- taking a window of a page
pub take-refused : (m : List ℕ) (page : Bool) (w : Window) (r : Result ℕ NotTaken) (after : List ℕ) → TakePromise m page w r after
    → Refuses (number_of (taken_paper r)) → after ≡ m
take-refused m page w r after p = refused_left p.outcome (take_stays m page w)

-- going over a window of a page
pub go_over_refused : (m : List ℕ) (page : Bool) (rule : Pass) (w : Window) (r : Result ℕ WrongCell) (after : List ℕ) → PassPromise m page rule w r after
    → Refuses (number_of (passed_paper r)) → after ≡ m
go_over_refused m page rule w r after p = refused_left p.outcome (pass_stays m page rule w)

-- building a packet: memory and buffer
pub build_refused : (m : List ℕ) (page : Bool) (i : Inputs) (buffer : List ℕ) → Stays (memory_and_buffer m buffer) (build_means m page i buffer)
build_refused = build_stays

-- a packet ask: memory, state and buffer
pub packet_refused : (m w buffer : List ℕ) (number : ℕ) (i : Inputs) → Stays (packet_lent m w buffer) (packet_means m w buffer number i)
packet_refused = packet_stays

-- opening a histogram's memory; an increment, a flip, an ask: memory and state
pub open_refused : (m w : List ℕ) → Stays (lent m w) (open_means m w)
open_refused = open_stays

pub increments_refused : (m w addresses : List ℕ) → Stays (lent m w) (increments_means m w addresses)
increments_refused = increments_stays

pub call_refused : (m w : List ℕ) (c : Call) → Stays (lent m w) (call_means m w c)
call_refused = call_stays

-- ---- the exported calls

-- what is told of a refusal: its number, and what the places held
pub told_stays : {A X : Type 0} (places : A → X) (p : Paper A) (held : X) → Refuses (number_of p)
    → ◌≡◌ {A = ℕ × X} (told_as places p held) (number_of p, held)
unfolding told_as
told_stays places (accepted v) held f = absurd (f refl)
told_stays places (refusal n carried) held f = refl

-- its number is the answer's
told_number : {A X : Type 0} (places : A → X) (p : Paper A) (held : X) → (told_as places p held).0 ≡ number_of p
unfolding told_as
told_number places (accepted v) held = refl
told_number places (refusal n carried) held = refl

-- a call whose promise is what is told: its lent places keep what they held
pub exported_refused : {A X : Type 0} (places : A → X) (p : Paper A) (held : X) (o : ℕ × X) → o ≡ told_as places p held → Refuses o.0 → o.1 ≡ held
exported_refused {A} {X} places p held o e f =
    ap (λ (y : ℕ × X). y.1) e
    ∙ ap (λ (y : ℕ × X). y.1) (told_stays places p held (λ z. f (ap (λ (y : ℕ × X). y.0) e ∙ told_number places p held ∙ z)))

-- the same by a sentence
pub sentence_refused : (Holds : Paper ℕ → Type 0) (held : ℕ) (o : ℕ × ℕ) → Sentence Holds held o → Refuses o.0 → o.1 ≡ held
sentence_refused Holds held o s f = exported_refused (λ (v : ℕ). v) s.answer held o s.outcome f

-- the same with a buffer
exported_writes : {A L : Type 0} (means : Outcome A L) (held : A) (buffer : L) → Stays buffer means → (o : (ℕ × A) × L) → o ≡ told_with means held
    → Refuses o.0.0 → (o.0.1 ≡ held) × (o.1 ≡ buffer)
exported_writes {A} {L} means held buffer stays o e f =
    let first : o.0 ≡ (told_with means held).0 = ap (λ (y : (ℕ × A) × L). y.0) e in
    let number : o.0.0 ≡ number_of means.answer = ap (λ (y : ℕ × A). y.0) first ∙ told_number (λ (v : A). v) means.answer held in
    (exported_refused (λ (v : A). v) means.answer held o.0 first f, ap (λ (y : (ℕ × A) × L). y.1) e ∙ stays (λ z. f (number ∙ z)))

-- finding: the place keeps what it held; the bytes skipped come with 20 alone
pub plv_packet_find_refused : (capture : List ℕ) (held : FoundValues) (o : ℕ × FoundValues) → PacketFindPromise capture held o
    → Refuses o.0 → o.1.place ≡ held.place
plv_packet_find_refused capture held o e f =
    ap (λ (y : ℕ × FoundValues). y.1.place) e ∙ place (find_means capture) (λ z. f (ap (λ (y : ℕ × FoundValues). y.0) e ∙ z))
  where
    place : (p : Paper FoundValues) → Refuses (told_found p held).0 → (told_found p held).1.place ≡ held.place
    place (accepted v) g = absurd (g refl)
    place (refusal n carried) g = refl

-- a header
pub plv_packet_header_refused : (capture : List ℕ) (place : ℕ) (held : HeaderValues) (o : ℕ × HeaderValues) → PacketHeaderPromise capture place held o
    → Refuses o.0 → o.1 ≡ held
plv_packet_header_refused capture place held o = exported_refused (λ (v : HeaderValues). v) (header_means capture place) held o

-- writing a packet
pub plv_packet_write_refused : (buffer : List ℕ) (apid : ℕ) (payload : List ℕ) (held : ℕ) (o : (ℕ × ℕ) × List ℕ) → PacketWritePromise buffer apid payload held o
    → Refuses o.0.0 → (o.0.1 ≡ held) × (o.1 ≡ buffer)
plv_packet_write_refused buffer apid payload held o = exported_writes (write_means buffer apid payload) held buffer (packet.write_stays buffer apid payload) o

-- reading a message
pub plv_message_read_refused : (bytes : List ℕ) (held : ReadValues) (o : ℕ × ReadValues) → MessageReadPromise bytes held o → Refuses o.0 → o.1 ≡ held
plv_message_read_refused bytes held o = exported_refused (λ (v : ReadValues). v) (read_means bytes) held o

-- writing a message
pub plv_message_write_refused : (buffer : List ℕ) (address tag value held : ℕ) (o : (ℕ × ℕ) × List ℕ) → MessageWritePromise buffer address tag value held o
    → Refuses o.0.0 → (o.0.1 ≡ held) × (o.1 ≡ buffer)
plv_message_write_refused buffer address tag value held o =
    exported_writes (message_means buffer address tag value) held buffer (message.write_stays buffer address tag value) o

-- writing a code
pub plv_code_pack_refused : (buffer : List ℕ) (at : ℕ) (v : ℤ) (d held : ℕ) (o : (ℕ × ℕ) × List ℕ) → CodePackPromise buffer at v d held o
    → Refuses o.0.0 → (o.0.1 ≡ held) × (o.1 ≡ buffer)
plv_code_pack_refused buffer at v d held o = exported_writes (pack_means buffer at v d) held buffer (pack_stays buffer at v d) o

-- a call that reads codes: the bits missing come with 9 alone
missing_refused : {A X : Type 0} (places : A → X) (p : Paper A) (held : X) (missing : ℕ) (o : (ℕ × X) × ℕ) → o ≡ told_missing places p held missing
    → Refuses o.0.0 → o.0.1 ≡ held
missing_refused {A} {X} places p held missing o e = exported_refused places p held o.0 (ap (λ (y : (ℕ × X) × ℕ). y.0) e)

-- reading a code
pub plv_code_unpack_refused : (bytes : List ℕ) (at d : ℕ) (held : UnpackValues) (missing : ℕ) (o : (ℕ × UnpackValues) × ℕ)
    → CodeUnpackPromise bytes at d held missing o → Refuses o.0.0 → o.0.1 ≡ held
plv_code_unpack_refused bytes at d = missing_refused (λ (v : UnpackValues). v) (unpack_means bytes at d)

-- reading counts
pub plv_reading_refused : (bytes : List ℕ) (at d : ℕ) (held : Edges) (missing : ℕ) (o : (ℕ × Edges) × ℕ) → ReadingPromise bytes at d held missing o
    → Refuses o.0.0 → o.0.1 ≡ held
plv_reading_refused bytes at d = missing_refused (λ (v : ReadingValues). edges_of v.reading v.next) (reading_means bytes at d)

-- forming a rate
pub plv_rate_refused : (bytes : List ℕ) (at d level : ℕ) (held : Quotients) (missing : ℕ) (o : (ℕ × Quotients) × ℕ)
    → RatePromise bytes at d level held missing o → Refuses o.0.0 → o.0.1 ≡ held
plv_rate_refused bytes at d level = missing_refused (λ (v : RateValues). quotients_of v.rate v.next) (rate_means bytes at d level)

-- the codes of the floats
pub plv_float16_code_refused : (count held : ℕ) (o : ℕ × ℕ) → Float16CodePromise count held o → Refuses o.0 → o.1 ≡ held
plv_float16_code_refused count held o = sentence_refused (Takes (float_value 12) (2 ^ 27) count) held o

pub plv_float8_code_refused : (count held : ℕ) (o : ℕ × ℕ) → Float8CodePromise count held o → Refuses o.0 → o.1 ≡ held
plv_float8_code_refused count held o = sentence_refused (Takes (float_value 3) (2 ^ 34) count) held o

-- the 24-bit integer of a count, and the count of one
pub plv_int24_refused : (given held : ℕ) (o : ℕ × ℕ) → Int24Promise given held o → Refuses o.0 → o.1 ≡ held
plv_int24_refused given held o = exported_refused (λ (v : ℕ). v) (int24_means given) held o

-- the logarithm byte of a count
pub plv_log8_code_refused : (count held : ℕ) (o : ℕ × ℕ) → Log8CodePromise count held o → Refuses o.0 → o.1 ≡ held
plv_log8_code_refused count held o = sentence_refused (Log8Takes count) held o

-- the cadence
pub plv_level_seconds_refused : (level held : ℕ) (o : ℕ × ℕ) → LevelSecondsPromise level held o → Refuses o.0 → o.1 ≡ held
plv_level_seconds_refused level held o = exported_refused (λ (v : ℕ). v) (seconds_means level) held o

pub plv_second_beginning_refused : (second held : ℕ) (o : ℕ × ℕ) → SecondBeginningPromise second held o → Refuses o.0 → o.1 ≡ held
plv_second_beginning_refused second held o = sentence_refused (Begins second) held o

pub plv_second_ending_refused : (second held : ℕ) (o : ℕ × ℕ) → SecondEndingPromise second held o → Refuses o.0 → o.1 ≡ held
plv_second_ending_refused second held o = sentence_refused (Ends second) held o

-- a histogram call: memory and state
left_refused : (m w : List ℕ) (x : CallOutcome) → Stays (lent m w) x → (o : Left) → o ≡ left_by x → Refuses o.number → (o.memory ≡ m) × (o.state ≡ w)
left_refused m w x stays o e f =
    let s : x.leaves ≡ lent m w = stays (λ z. f (ap (λ (y : Left). y.number) e ∙ z)) in
    (ap (λ (y : Left). y.memory) e ∙ ap (λ l. l.memory) s, ap (λ (y : Left). y.state) e ∙ ap (λ l. l.state) s)

-- opening
pub plv_histogram_open_refused : (m w : List ℕ) (o : Left) → HistogramOpenPromise m w o → Refuses o.number → (o.memory ≡ m) × (o.state ≡ w)
plv_histogram_open_refused m w = left_refused m w (open_means m w) (open_stays m w)

-- an increment
pub plv_histogram_increment_refused : (m w : List ℕ) (a : ℕ) (o : Left) → HistogramIncrementPromise m w a o → Refuses o.number
    → (o.memory ≡ m) × (o.state ≡ w)
plv_histogram_increment_refused m w a = left_refused m w (call_means m w (increment a)) (call_stays m w (increment a))

-- a run of increments: its lent places too
pub plv_histogram_increments_refused : (m w addresses : List ℕ) (held : Fed) (o : (ℕ × Fed) × Lent) → HistogramIncrementsPromise m w addresses held o
    → Refuses o.0.0 → (o.0.1 ≡ held) × (o.1 ≡ lent m w)
plv_histogram_increments_refused m w addresses held =
    exported_writes (increments_means m w addresses) held (lent m w) (increments_stays m w addresses)

-- the number of the next ask
pub plv_histogram_next_refused : (w : List ℕ) (held : ℕ) (o : ℕ × ℕ) → HistogramNextPromise w held o → Refuses o.0 → o.1 ≡ held
plv_histogram_next_refused w held o = exported_refused (λ (v : ℕ). v) (next_means w) held o

-- a flip
pub plv_histogram_flip_refused : (m w : List ℕ) (o : Left) → HistogramFlipPromise m w o → Refuses o.number → (o.memory ≡ m) × (o.state ≡ w)
plv_histogram_flip_refused m w = left_refused m w (call_means m w flip) (call_stays m w flip)

-- an ask: its lent places too
pub plv_histogram_ask_refused : (m w : List ℕ) (n : ℕ) (v : Window) (held : AskValues) (o : Left) (values : AskValues)
    → HistogramAskPromise m w n v held (o, values) → Refuses o.number → (o.memory ≡ m) × (o.state ≡ w) × (values ≡ held)
plv_histogram_ask_refused m w n v held o values e f =
    let left : o ≡ left_by (call_means m w (ask n v)) = ap (λ (y : Left × AskValues). y.0) e in
    let s = left_refused m w (call_means m w (ask n v)) (call_stays m w (ask n v)) o left f in
    (s.0, s.1, ap (λ (y : Left × AskValues). y.1) e ∙ places (call_means m w (ask n v)).answer (λ z. f (ap (λ (y : Left). y.number) left ∙ z)))
  where
    places : (p : Paper Value) → Refuses (number_of p) → told_ask p held ≡ held
    places (accepted x) g = absurd (g refl)
    places (refusal k carried) g = refl

-- what a packet ask is lent, as it was: memory, state, buffer and the lent places
pub record PacketStays (m w buffer : List ℕ) (held : PacketPlaces) (o : PacketLeft) (values : PacketPlaces) : Type 0 where
  pub memory : o.memory ≡ m
  pub state : o.state ≡ w
  pub bytes : o.buffer ≡ buffer
  pub places : values ≡ held

-- a packet ask
pub plv_histogram_packet_refused : (m w buffer : List ℕ) (n : ℕ) (i : Inputs) (held : PacketPlaces) (o : PacketLeft) (values : PacketPlaces)
    → HistogramPacketPromise m w buffer n i held (o, values) → Refuses o.number → PacketStays m w buffer held o values
plv_histogram_packet_refused m w buffer n i held o values e f =
    let x = packet_means m w buffer n i in
    let left : o ≡ packet_left_by x = ap (λ (y : PacketLeft × PacketPlaces). y.0) e in
    let g : Refuses (number_of x.answer) = λ z. f (ap (λ (y : PacketLeft). y.number) left ∙ z) in
    let s : x.leaves ≡ packet_lent m w buffer = packet_stays m w buffer n i g in
    record {
      memory = ap (λ (y : PacketLeft). y.memory) left ∙ ap (λ l. l.memory) s;
      state = ap (λ (y : PacketLeft). y.state) left ∙ ap (λ l. l.state) s;
      bytes = ap (λ (y : PacketLeft). y.buffer) left ∙ ap (λ l. l.buffer) s;
      places = ap (λ (y : PacketLeft × PacketPlaces). y.1) e ∙ kept x.answer g;
    }
  where
    kept : (p : Paper PacketValue) → Refuses (number_of p) → told_packet p held ≡ held
    kept (accepted x) g = absurd (g refl)
    kept (refusal k carried) g = refl
