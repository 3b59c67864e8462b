-- Demand 3, second sentence: the last accepted ask, asked again, answers the same sum and changes nothing; a packet ask, the same total and bytes.
-- Assumes nothing.
use Rattle.std.specs.Prelude.{◌≡◌, refl, List, ◌∷◌, ◌++◌, ℕ, ◌+◌, ◌≤◌, ◌<◌, drop, length, take, Ok}
use Rattle.std.proofs.Common.{ap, sym, subst, ◌∙◌, arith, eq-eqb, le-leb, take_at}
use Rattle.std.proofs.lemmas.Bool.{lt-leb}
use Rattle.ground.specs.Outcome.{accept, refuse}
use Rattle.ground.specs.Paper.{Paper, accepted, accepted_same, refused_not}
use Rattle.ground.specs.Putting.{put}
use Rattle.data_packet.specs.Meaning.{PacketValues, apid_of, data_of}
use Rattle.data_packet.specs.Sizes.{run_sized}
use Rattle.item.specs.Inputs.{Inputs}
use Rattle.packet.specs.ReadBack.{packet_length}
use Rattle.packet_ask.specs.Keeping.{packet_bytes, packet_says}
use Rattle.packet_ask.specs.Meaning.{PacketOutcome, PacketValue, new_packet, packet_again, packet_lent, packet_means}
use Rattle.packet_ask.specs.Outcomes.{built_packet, packet_elim, packet_for}
use Rattle.pages.specs.declared.Window.{Window}
use Rattle.state.specs.Laws.{inputs_same, window_same}
use Rattle.state.specs.Turns.{turn_of}
use Rattle.state.specs.Words.{Asked, window, Last, bytes_in, kept_in}
use Rattle.state.specs.declared.Turn.TheVariants.{NewAsk}
use Rattle.histogram.specs.Meaning.{Admits, CallOutcome, Value, new, again, lent}
use Rattle.ledger.specs.Outcomes.{call_elim}
use Rattle.ledger.specs.Runs.{Call, increment, flip, ask, ask_packet, Ledger, NoNew, answered, opening, run, run-append, step}
use Rattle.histogram.specs.States.{admits_long, keep_says}
use Rattle.window_ask.specs.Meaning.{ask_means}
use Rattle.ledger.specs.Stays.{call_admits, run_stays}

-- a ledger on which calls may go on, and whose state keeps this ask
pub record KeepsAsk (l : Ledger) (number : ℕ) (a : Asked) (sum : ℕ) : Type 0 where
  pub admits : Admits l.memory l.state
  pub kept : kept_in l.state ≡ Last number a sum

-- an ask answers this sum as again, and leaves memory and state as they are
abbrev pub AnsweredAgain : Ledger → ℕ → Window → ℕ → Type 0
AnsweredAgain l number v sum = answered l (ask number v) ≡ accept (again sum) (lent l.memory l.state)

-- the ask that is kept, asked again
pub kept_again : (l : Ledger) {number sum : ℕ} {v : Window} → KeepsAsk l number (window v) sum → AnsweredAgain l number v sum
unfolding ask_means
kept_again l {number} {sum} {v} k = rw (k.admits, k.kept, eq-eqb number number refl, window_same v)

-- what an ask answered as new on a ledger tells: it was admitted, it was its turn, and it is what is kept
pub record IsNew (l : Ledger) (number sum : ℕ) (a : Asked) (o : CallOutcome) : Type 0 where
  pub admits : Admits l.memory l.state
  pub turn : turn_of (kept_in l.state) number a ≡ Ok NewAsk
  pub kept : kept_in o.leaves.state ≡ Last number a sum

-- a sum answered again is not one answered as new
pub again_not : {x sum : ℕ} → ◌≡◌ {A = Paper Value} (accepted (again x)) (accepted (new sum)) → ⊥
again_not e = let z : ◌≡◌ {A = ℕ} 0 1 = cc in omega arith

-- two new sums answered alike are one sum
pub new_sums : {x sum : ℕ} → ◌≡◌ {A = Paper Value} (accepted (new x)) (accepted (new sum)) → x ≡ sum
new_sums e = cc

-- what an outcome tells of an ask of either kind; nothing of another call
abbrev pub Told : Ledger → ℕ → Call → CallOutcome → Type 0
Told l sum (increment address) o = Unit {0}
Told l sum flip o = Unit {0}
Told l sum (ask number v) o = o.answer ≡ accepted (new sum) → IsNew l number sum (window v) o
Told l sum (ask_packet number i buffer) o = o.answer ≡ accepted (new sum) → IsNew l number sum (Asked.packet i) o

-- a refusal tells nothing
refusal_told : (l : Ledger) (sum : ℕ) (c : Call) (n : ℕ) → Told l sum c (refuse n (lent l.memory l.state))
refusal_told l sum (increment address) n = tt
refusal_told l sum flip n = tt
refusal_told l sum (ask number v) n = λ e. absurd (refused_not e)
refusal_told l sum (ask_packet number i buffer) n = λ e. absurd (refused_not e)

-- every call: an ask that was accepted as new was admitted, was its turn, and is what is kept
call_told : (l : Ledger) (sum : ℕ) (c : Call) → Told l sum c (answered l c)
call_told l sum =
    call_elim (Told l sum) l.memory l.state (λ c n z. refusal_told l sum c n)
    (λ h a k. tt)
    (λ h. tt)
    (λ h n u k t e. record {
      admits = h;
      turn = t;
      kept = (keep_says l.state n u _ (admits_long l.memory l.state h)).1 ∙ ap (λ (x : ℕ). Last n (window u) x) (new_sums e);
    })
    (λ h n x u e. absurd (again_not e))
    (λ h n i buffer r few ran t e. record {
      admits = h;
      turn = t;
      kept =
          (packet_says l.state n i r.total (packet_for i r) (admits_long l.memory l.state h) few (run_sized _ _ i r few ran).packet_few).1
          ∙ ap (λ (x : ℕ). Last n (Asked.packet i) x) (new_sums e);
    })
    (λ h n x i buffer e. absurd (again_not e))

-- an ask that was accepted as new was admitted, was its turn, and is what is kept
pub is_new_lem : (l : Ledger) (number sum : ℕ) (v : Window) → (answered l (ask number v)).answer ≡ accepted (new sum)
    → IsNew l number sum (window v) (answered l (ask number v))
is_new_lem l number sum v = call_told l sum (ask number v)

-- and so a packet ask
pub is_new_packet : (l : Ledger) (number total : ℕ) (i : Inputs) (buffer : List ℕ) → (answered l (ask_packet number i buffer)).answer ≡ accepted (new total)
    → IsNew l number total (Asked.packet i) (answered l (ask_packet number i buffer))
is_new_packet l number total i buffer = call_told l total (ask_packet number i buffer)

-- after a new ask, and whatever calls with no new ask among them, calls may go on and the ask is kept
pub kept_later : (l : Ledger) (c : Call) {number sum : ℕ} {a : Asked} (later : List Call) → IsNew l number sum a (answered l c) → NoNew (step l c) later
    → KeepsAsk (run (step l c) later) number a sum
kept_later l c later i n =
    let r = run_stays (step l c) later n in
    record { admits = r.0 ∙ call_admits l c ∙ i.admits; kept = r.1 ∙ i.kept }

module _ (l : Ledger) (number sum : ℕ) (v : Window) (later : List Call) where
  -- after a new ask, and whatever calls with no new ask among them, calls may go on and the ask is kept
  pub stays_kept : (answered l (ask number v)).answer ≡ accepted (new sum) → NoNew (step l (ask number v)) later
      → KeepsAsk (run (step l (ask number v)) later) number (window v) sum
  stays_kept e n = kept_later l (ask number v) later (is_new_lem l number sum v e) n

  -- demand 3: an ask accepted as new, and no later ask so: asked again with its number and window, whatever increments, flips and refused calls
  -- lie between, it answers the same sum as again, and leaves memory and state as they are
  pub repeat : (answered l (ask number v)).answer ≡ accepted (new sum) → NoNew (step l (ask number v)) later
      → AnsweredAgain (run (step l (ask number v)) later) number v sum
  repeat e n = kept_again (run (step l (ask number v)) later) (stays_kept e n)

-- the same over a whole sequence from freshly opened memory
pub repeat_from_opening : (m w : List ℕ) (earlier later : List Call) (number sum : ℕ) (v : Window)
    → (answered (run (opening m w) earlier) (ask number v)).answer ≡ accepted (new sum) → NoNew (step (run (opening m w) earlier) (ask number v)) later
    → AnsweredAgain (run (opening m w) (earlier ++ (ask number v ∷ later))) number v sum
repeat_from_opening m w earlier later number sum v e n =
    rw (run-append (opening m w) earlier (ask number v ∷ later)) (repeat (run (opening m w) earlier) number sum v later e n)

-- ---- packet asks

-- what a packet ask answered as new tells: it was admitted, it was its turn, and it is kept with the bytes that it wrote
pub record IsNewPacket (m w : List ℕ) (number : ℕ) (i : Inputs) (v : PacketValues) (o : PacketOutcome) : Type 0 where
  pub admits : Admits m w
  pub turn : turn_of (kept_in w) number (Asked.packet i) ≡ Ok NewAsk
  pub kept : kept_in o.leaves.state ≡ Last number (Asked.packet i) v.total
  pub bytes : bytes_in o.leaves.state ≡ take v.written o.leaves.buffer
  pub count : length (take v.written o.leaves.buffer) ≡ v.written

-- a packet answered again is not one answered as new
pub packet_not : {x v : PacketValues} → ◌≡◌ {A = Paper PacketValue} (accepted (packet_again x)) (accepted (new_packet v)) → ⊥
packet_not e = let z : ◌≡◌ {A = ℕ} 0 1 = cc in omega arith

-- two new packets answered alike have the same values
pub packet_values : {x v : PacketValues} → ◌≡◌ {A = Paper PacketValue} (accepted (new_packet x)) (accepted (new_packet v)) → x ≡ v
packet_values {x} e = ap out (accepted_same e)
  where
    out : PacketValue → PacketValues
    out (new_packet y) = y
    out (packet_again y) = x

module _ (m w buffer : List ℕ) (number : ℕ) (i : Inputs) (v : PacketValues) where
  -- every packet ask that was accepted as new
  pub packet_told : (packet_means m w buffer number i).answer ≡ accepted (new_packet v) → IsNewPacket m w number i v (packet_means m w buffer number i)
  packet_told =
      packet_elim m w buffer number i (λ (o : PacketOutcome). o.answer ≡ accepted (new_packet v) → IsNewPacket m w number i v o)
      (λ n z e. absurd (refused_not e))
      (λ h r few ran t k e.
      let long = admits_long m w h in
      let s = run_sized m _ i r few ran in
      let count = length (data_of i r.bits) + 10 in
      let whole : length (packet_for i r) ≡ count = packet_length (apid_of i.low) (data_of i r.bits) in
      let front : take count (packet_for i r ++ drop count buffer) ≡ packet_for i r = take_at (packet_for i r) (drop count buffer) count whole in
      subst (λ (x : PacketValues). IsNewPacket m w number i x (built_packet w buffer number i r)) (packet_values e)
      (record {
        admits = h;
        turn = t;
        kept = (packet_says w number i r.total (packet_for i r) long few s.packet_few).1;
        bytes = packet_bytes w number i r.total (packet_for i r) long few s.packet_few s.packet_fine ∙ sym front;
        count = ap length front ∙ whole;
      }))
      (λ h total t k e. absurd (packet_not e))

-- the packet that is kept, asked for again into a buffer that it fits: the same bytes, and nothing else changes
kept_packet_again : (l : Ledger) {number total : ℕ} {i : Inputs} (bytes buffer : List ℕ) → KeepsAsk l number (Asked.packet i) total
    → bytes_in l.state ≡ bytes → length bytes ≤ length buffer
    → packet_means l.memory l.state buffer number i
    ≡ accept (packet_again (record { written = length bytes; total = total })) (packet_lent l.memory l.state (put buffer 0 bytes))
unfolding packet_means
kept_packet_again l {number} {total} {i} bytes buffer k e h =
    rw (k.admits, k.kept, eq-eqb number number refl, inputs_same i, e, le-leb (length bytes) (length buffer) h)

-- demand 3: a packet ask accepted as new, and no later ask so: asked again with its number and all its inputs, whatever increments, flips and refused calls
-- lie between, it answers the same total as again, writes the same bytes into a buffer that they fit, and leaves memory and state as they are
pub packet_repeat : (l : Ledger) (number : ℕ) (i : Inputs) (buffer : List ℕ) (v : PacketValues) (later : List Call)
    → (packet_means l.memory l.state buffer number i).answer ≡ accepted (new_packet v) → NoNew (step l (ask_packet number i buffer)) later
    → (room : List ℕ) → v.written ≤ length room
    → packet_means (run (step l (ask_packet number i buffer)) later).memory (run (step l (ask_packet number i buffer)) later).state room number i
    ≡ accept (packet_again v)
    (packet_lent (run (step l (ask_packet number i buffer)) later).memory (run (step l (ask_packet number i buffer)) later).state
    (put room 0 (take v.written (packet_means l.memory l.state buffer number i).leaves.buffer)))
packet_repeat l number i buffer v later e n room h =
    let c = ask_packet number i buffer in
    let p = packet_told l.memory l.state buffer number i v e in
    let bytes = take v.written (packet_means l.memory l.state buffer number i).leaves.buffer in
    let after = run (step l c) later in
    let keeps : KeepsAsk after number (Asked.packet i) v.total =
    kept_later l c later (record { admits = p.admits; turn = p.turn; kept = p.kept }) n in
    kept_packet_again after bytes room keeps ((run_stays (step l c) later n).2 ∙ p.bytes) (omega (arith, p.count))
    ∙ ap (λ (k : ℕ). accept (packet_again (record { written = k; total = v.total })) (packet_lent after.memory after.state (put room 0 bytes))) p.count

-- into a buffer that its packet does not fit the same ask is refused by 3, and leaves all as it is: it can be asked again into a longer one
pub packet_repeat_short : (l : Ledger) (number : ℕ) (i : Inputs) (buffer : List ℕ) (v : PacketValues) (later : List Call)
    → (packet_means l.memory l.state buffer number i).answer ≡ accepted (new_packet v) → NoNew (step l (ask_packet number i buffer)) later
    → (room : List ℕ) → length room < v.written
    → packet_means (run (step l (ask_packet number i buffer)) later).memory (run (step l (ask_packet number i buffer)) later).state room number i
    ≡ refuse 3 (packet_lent (run (step l (ask_packet number i buffer)) later).memory (run (step l (ask_packet number i buffer)) later).state room)
unfolding packet_means
packet_repeat_short l number i buffer v later e n room h =
    let c = ask_packet number i buffer in
    let p = packet_told l.memory l.state buffer number i v e in
    let bytes = take v.written (packet_means l.memory l.state buffer number i).leaves.buffer in
    let keeps : KeepsAsk (run (step l c) later) number (Asked.packet i) v.total =
    kept_later l c later (record { admits = p.admits; turn = p.turn; kept = p.kept }) n in
    let short : length room < length bytes = omega (arith, p.count) in
    let held = (run_stays (step l c) later n).2 ∙ p.bytes in
    rw (keeps.admits, keeps.kept, eq-eqb number number refl, inputs_same i, held, lt-leb (length bytes) (length room) short)
