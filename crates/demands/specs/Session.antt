-- Sessions of exported calls, by what a bench in C, Rust or Python sees of them: the numbers that they answer, the sums in their lent places, memory and state.
-- Assumes nothing.
use Rattle.std.specs.Prelude.{Bool, true, false, ◌&&◌, ◌≡◌, refl, List, [], ◌∷◌, ◌++◌, map, ℕ, ◌+◌, ◌≤◌, ◌<◌, eqb, length, take}
use Rattle.std.proofs.Common.{sym, ap, ap₂, ◌∙◌, subst, add-zero, zero-add, arith, ne_eqb}
use Rattle.ground.specs.Choice.{pick}
use Rattle.ground.specs.Outcome.{accept, refuse}
use Rattle.ground.specs.Paper.{Paper, accepted, refusal, mapped, number_of}
use Rattle.ground.specs.Putting.{put}
use Rattle.data_packet.specs.Meaning.{PacketValues}
use Rattle.item.specs.Inputs.{Inputs}
use Rattle.packet_ask.specs.Meaning.{PacketOutcome, PacketValue, new_packet, packet_again, packet_lent, packet_means}
use Rattle.packet_ask.specs.Outcomes.{packet_elim}
use Rattle.pages.specs.Totals.{total}
use Rattle.pages.specs.declared.Window.{Window}
use Rattle.state.specs.Words.{page_in}
use Rattle.histogram.specs.Meaning.{CallOutcome, Fed, Lent, Value, again, done, feed_of, feeding, lent, new, open_means}
use Rattle.histogram.specs.Outcomes.{increments_elim, open_elim}
use Rattle.window_ask.specs.Meaning.{ask_means}
use Rattle.ledger.specs.Conservation.{Balanced, opened_balanced, run_balanced}
use Rattle.ledger.specs.Feeding.{FedRun, feed_run, run_old}
use Rattle.ledger.specs.Outcomes.{call_elim}
use Rattle.ledger.specs.Repeat.{packet_repeat, repeat}
use Rattle.ledger.specs.Runs.{Call, increment, flip, ask, ask_packet, Ledger, NoNew, accepted_by, call_means, cleared_by, is_new, opening}
use Rattle.ledger.specs.Runs.{run, run-append, step, total_in}
use Rattle.plavotesk.specs.Meaning.{AskValues, PacketPlaces, told, told_as, told_ask, told_packet, told_with}
use Rattle.plavotesk.specs.Promise.{HistogramAskPromise, HistogramFlipPromise, HistogramIncrementPromise, HistogramIncrementsPromise}
use Rattle.plavotesk.specs.Promise.{HistogramOpenPromise, HistogramPacketPromise, Left, PacketLeft, left_by, packet_left_by}

-- a call that a bench made, with what it left; asks of both kinds and a run of increments also with what their lent places held, and hold
pub data Made : Type 0 where
  incremented : ℕ → Left → Made
  fed : List ℕ → Fed → (ℕ × Fed) × Lent → Made
  flipped : Left → Made
  asked : ℕ → Window → AskValues → Left → AskValues → Made
  packeted : ℕ → Inputs → List ℕ → PacketPlaces → PacketLeft → PacketPlaces → Made

-- what it left: its number, memory and state
abbrev pub left_of : Made → Left
left_of (incremented address o) = o
left_of (fed addresses held o) = record { number = o.0.0; memory = o.1.memory; state = o.1.state }
left_of (flipped o) = o
left_of (asked number v held o values) = o
left_of (packeted number i buffer held o values) = record { number = o.number; memory = o.memory; state = o.state }

-- made on memory and state, it kept its promise
abbrev pub Meets : List ℕ → List ℕ → Made → Type 0
Meets m w (incremented address o) = HistogramIncrementPromise m w address o
Meets m w (fed addresses held o) = HistogramIncrementsPromise m w addresses held o
Meets m w (flipped o) = HistogramFlipPromise m w o
Meets m w (asked number v held o values) = HistogramAskPromise m w number v held (o, values)
Meets m w (packeted number i buffer held o values) = HistogramPacketPromise m w buffer number i held (o, values)

-- calls one after the other, each on what the one before it left
abbrev pub Session : Left → List Made → Type 0
Session o [] = Unit {0}
Session o (x ∷ xs) = Meets o.memory o.state x × Session (left_of x) xs

-- what is left at the end
abbrev pub last_left : Left → List Made → Left
last_left o [] = o
last_left o (x ∷ xs) = last_left (left_of x) xs

-- an increment that answered 0 was accepted; of a run that answered 0, as many as it says
abbrev pub accepted_in : Made → ℕ
accepted_in (incremented address o) = pick (eqb o.number 0) 1 0
accepted_in (fed addresses held o) = pick (eqb o.0.0 0) o.0.1.count 0
accepted_in (flipped o) = 0
accepted_in (asked number v held o values) = 0
accepted_in (packeted number i buffer held o values) = 0

-- an ask that answered 0, and not again, was new
abbrev pub new_in : Made → Bool
new_in (incremented address o) = false
new_in (fed addresses held o) = false
new_in (flipped o) = false
new_in (asked number v held o values) = eqb o.number 0 && eqb values.again 0
new_in (packeted number i buffer held o values) = eqb o.number 0 && eqb values.again 0

-- what a call cleared and handed out: the sum of a new clearing ask, the total of a new packet ask
abbrev pub cleared_in : Made → ℕ
cleared_in (incremented address o) = 0
cleared_in (fed addresses held o) = 0
cleared_in (flipped o) = 0
cleared_in (asked number v held o values) = pick (eqb o.number 0 && eqb values.again 0) (pick v.clear values.sum 0) 0
cleared_in (packeted number i buffer held o values) = pick (eqb o.number 0 && eqb values.again 0) values.total 0

-- a number summed over the calls of a session
abbrev pub sum_over : (Made → ℕ) → List Made → ℕ
sum_over f [] = 0
sum_over f (x ∷ xs) = f x + sum_over f xs

-- no call of a session was a new ask
abbrev pub NoneNew : List Made → Type 0
NoneNew [] = Unit {0}
NoneNew (x ∷ xs) = (new_in x ≡ false) × NoneNew xs

-- which calls of the library it was: a run is its single increments
abbrev calls_of : Made → List Call
calls_of (incremented address o) = increment address ∷ []
calls_of (fed addresses held o) = pick (eqb o.0.0 0) (map increment (take o.0.1.count addresses)) []
calls_of (flipped o) = flip ∷ []
calls_of (asked number v held o values) = ask number v ∷ []
calls_of (packeted number i buffer held o values) = ask_packet number i buffer ∷ []

-- those of a session
abbrev calls_over : List Made → List Call
calls_over [] = []
calls_over (x ∷ xs) = calls_of x ++ calls_over xs

-- what a number and lent places tell of an outcome is what its answer says
abbrev Tells : Call → CallOutcome → Type 0
Tells (increment address) o = (pick (eqb (number_of o.answer) 0) 1 0 ≡ accepted_by (increment address) o.answer) × (is_new o.answer ≡ false)
Tells flip o = is_new o.answer ≡ false
Tells (ask number v) o = (held : AskValues) → (eqb (number_of o.answer) 0 && eqb (told_ask o.answer held).again 0 ≡ is_new o.answer)
    × (pick (is_new o.answer) (pick v.clear (told_ask o.answer held).sum 0) 0 ≡ cleared_by (ask number v) o.answer)
Tells (ask_packet number i buffer) o = Unit {0}

-- a refusal's number is not 0
refusal_tells : (m w : List ℕ) (c : Call) (n : ℕ) → 0 < n → Tells c (refuse n (lent m w))
refusal_tells m w (increment address) n z = (rw (ne_eqb n 0 (λ e. omega arith)), refl)
refusal_tells m w flip n z = refl
refusal_tells m w (ask number v) n z = λ held. (rw (ne_eqb n 0 (λ e. omega arith)), refl)
refusal_tells m w (ask_packet number i buffer) n z = tt

-- every call
tells : (m w : List ℕ) (c : Call) → Tells c (call_means m w c)
tells m w =
    call_elim Tells m w (refusal_tells m w)
    (λ h address k. (refl, refl))
    (λ h. refl)
    (λ h number v k t held. (refl, refl))
    (λ h number sum v held. (refl, refl))
    (λ h number i buffer r few e t. tt)
    (λ h number total i buffer. tt)

-- and what they tell of a packet ask
record PacketTells (number : ℕ) (i : Inputs) (buffer : List ℕ) (held : PacketPlaces) (o : PacketOutcome) : Type 0 where
  new_told : eqb (number_of o.answer) 0 && eqb (told_packet o.answer held).again 0 ≡ is_new (mapped total_in o.answer)
  cleared_told : pick (is_new (mapped total_in o.answer)) (told_packet o.answer held).total 0
      ≡ cleared_by (ask_packet number i buffer) (mapped total_in o.answer)

-- every packet ask
packet_tells : (m w : List ℕ) (number : ℕ) (i : Inputs) (buffer : List ℕ) (held : PacketPlaces)
    → PacketTells number i buffer held (packet_means m w buffer number i)
packet_tells m w number i buffer held =
    packet_elim m w buffer number i (PacketTells number i buffer held)
    (λ n z. record { new_told = rw (ne_eqb n 0 (λ e. omega arith)); cleared_told = refl })
    (λ h r few e t k. record { new_told = refl; cleared_told = refl })
    (λ h total t k. record { new_told = refl; cleared_told = refl })

-- what a bench's call does to a ledger: what the library's calls do
record Goes (l : Ledger) (x : Made) : Type 0 where
  memory : (left_of x).memory ≡ (run l (calls_of x)).memory
  state : (left_of x).state ≡ (run l (calls_of x)).state
  increments : (run l (calls_of x)).increments ≡ l.increments + accepted_in x
  cleared : (run l (calls_of x)).cleared ≡ l.cleared + cleared_in x
  none : new_in x ≡ false → NoNew l (calls_of x)

-- a run of increments
fed_goes : (l : Ledger) (addresses : List ℕ) (held : Fed) (o : (ℕ × Fed) × Lent) → Meets l.memory l.state (fed addresses held o)
    → Goes l (fed addresses held o)
unfolding told_as
fed_goes l addresses held o =
    increments_elim l.memory l.state addresses (λ x. o ≡ told_with x held → Goes l (fed addresses held o))
    (λ h q. ran (feed_run addresses 0 l h) q)
    (λ n z q. subst (λ y. Goes l (fed addresses held y)) (sym q) (refused n z))
  where
    refused : (n : ℕ) → 0 < n → Goes l (fed addresses held ((n, held), lent l.memory l.state))
    refused n z =
        let some = ne_eqb n 0 (λ e. omega arith) in
        record {
          memory = rw some;
          state = rw some;
          increments = rw some (sym (add-zero l.increments));
          cleared = rw some (sym (add-zero l.cleared));
          none = λ e. rw some tt;
        }

    ran : FedRun 0 l addresses (feed_of 0 l.memory (page_in l.state) addresses)
        → o ≡ told_with (feeding l.state (feed_of 0 l.memory (page_in l.state) addresses)) held → Goes l (fed addresses held o)
    ran r q =
        let said : Fed = record { count = r.fed; ended = r.ended } in
        let answer : (feed_of 0 l.memory (page_in l.state) addresses).answer ≡ accepted said
        = r.answer ∙ ap (λ (k : ℕ). accepted (record { count = k; ended = r.ended })) (zero-add r.fed) in
        let left : Lent = lent (feed_of 0 l.memory (page_in l.state) addresses).leaves l.state in
        let whole : o ≡ ((0, said), left) = q ∙ ap (λ (p : Paper Fed). (told p held, left)) answer in
        let is : Goes l (fed addresses held ((0, said), left)) =
        record {
          memory = ap (λ (y : Ledger). y.memory) (sym r.same);
          state = ap (λ (y : Ledger). y.state) (sym r.same);
          increments = ap (λ (y : Ledger). y.increments) r.same;
          cleared = ap (λ (y : Ledger). y.cleared) r.same ∙ sym (add-zero l.cleared);
          none = λ e. run_old l (take r.fed addresses);
        } in
        subst (λ y. Goes l (fed addresses held y)) (sym whole) is

-- every call
goes : (l : Ledger) (x : Made) → Meets l.memory l.state x → Goes l x
goes l (incremented address o) e =
    let t = tells l.memory l.state (increment address) in
    record {
      memory = ap (λ (y : Left). y.memory) e;
      state = ap (λ (y : Left). y.state) e;
      increments = ap (λ (k : ℕ). l.increments + k) (sym (ap (λ (y : Left). pick (eqb y.number 0) 1 0) e ∙ t.0));
      cleared = refl;
      none = λ n. (t.1, tt);
    }
goes l (fed addresses held o) e = fed_goes l addresses held o e
goes l (flipped o) e =
    record {
      memory = ap (λ (y : Left). y.memory) e;
      state = ap (λ (y : Left). y.state) e;
      increments = refl;
      cleared = refl;
      none = λ n. (tells l.memory l.state flip, tt);
    }
goes l (asked number v held o values) e =
    let t = tells l.memory l.state (ask number v) held in
    let told = told_ask (ask_means l.memory l.state number v).answer held in
    let new_same : eqb o.number 0 && eqb values.again 0 ≡ is_new (ask_means l.memory l.state number v).answer
    = ap (λ (y : Left × AskValues). eqb y.0.number 0 && eqb y.1.again 0) e ∙ t.0 in
    record {
      memory = ap (λ (y : Left × AskValues). y.0.memory) e;
      state = ap (λ (y : Left × AskValues). y.0.state) e;
      increments = refl;
      cleared =
          ap (λ (k : ℕ). l.cleared + k)
          (sym
          (ap (λ (y : Left × AskValues). pick (eqb y.0.number 0 && eqb y.1.again 0) (pick v.clear y.1.sum 0) 0) e
          ∙ ap (λ (b : Bool). pick b (pick v.clear told.sum 0) 0) t.0
          ∙ t.1));
      none = λ n. (sym new_same ∙ n, tt);
    }
goes l (packeted number i buffer held o values) e =
    let p = (packet_means l.memory l.state buffer number i).answer in
    let t = packet_tells l.memory l.state number i buffer held in
    let new_same : eqb o.number 0 && eqb values.again 0 ≡ is_new (mapped total_in p)
    = ap (λ (y : PacketLeft × PacketPlaces). eqb y.0.number 0 && eqb y.1.again 0) e ∙ t.new_told in
    record {
      memory = ap (λ (y : PacketLeft × PacketPlaces). y.0.memory) e;
      state = ap (λ (y : PacketLeft × PacketPlaces). y.0.state) e;
      increments = refl;
      cleared =
          ap (λ (k : ℕ). l.cleared + k)
          (sym
          (ap (λ (y : PacketLeft × PacketPlaces). pick (eqb y.0.number 0 && eqb y.1.again 0) y.1.total 0) e
          ∙ ap (λ (b : Bool). pick b (told_packet p held).total 0) t.new_told
          ∙ t.cleared_told));
      none = λ n. (sym new_same ∙ n, tt);
    }

-- lent memory and state are a ledger's
abbrev Same : Left → Ledger → Type 0
Same o l = (o.memory ≡ l.memory) × (o.state ≡ l.state)

-- a call on lent memory and state that are a ledger's
goes_same : (o : Left) (l : Ledger) (x : Made) → Same o l → Meets o.memory o.state x → Goes l x
goes_same o l x s e = goes l x (subst (λ (m : List ℕ). Meets m l.state x) s.0 (subst (λ (w : List ℕ). Meets o.memory w x) s.1 e))

-- what a session does to a ledger
record Follows (o : Left) (l : Ledger) (xs : List Made) : Type 0 where
  same : Same (last_left o xs) (run l (calls_over xs))
  increments : (run l (calls_over xs)).increments ≡ l.increments + sum_over accepted_in xs
  cleared : (run l (calls_over xs)).cleared ≡ l.cleared + sum_over cleared_in xs
  none : NoneNew xs → NoNew l (calls_over xs)

-- none new in two sequences, one after the other
none_append : (l : Ledger) (cs ds : List Call) → NoNew l cs → NoNew (run l cs) ds → NoNew l (cs ++ ds)
none_append l [] ds n k = k
none_append l (c ∷ cs) ds n k = (n.0, none_append (step l c) cs ds n.1 k)

follows : (o : Left) (l : Ledger) (xs : List Made) → Same o l → Session o xs → Follows o l xs
follows o l [] s e = record { same = s; increments = sym (add-zero l.increments); cleared = sym (add-zero l.cleared); none = λ n. tt }
follows o l (x ∷ xs) s e =
    let g = goes_same o l x s e.0 in
    let r = follows (left_of x) (run l (calls_of x)) xs (g.memory, g.state) e.1 in
    let joined : run l (calls_of x ++ calls_over xs) ≡ run (run l (calls_of x)) (calls_over xs) = run-append l (calls_of x) (calls_over xs) in
    record {
      same = subst (Same (last_left (left_of x) xs)) (sym joined) r.same;
      increments = ap (λ (y : Ledger). y.increments) joined ∙ omega (arith, r.increments, g.increments);
      cleared = ap (λ (y : Ledger). y.cleared) joined ∙ omega (arith, r.cleared, g.cleared);
      none = λ n. none_append l (calls_of x) (calls_over xs) (g.none n.0) (r.none n.1);
    }

-- an opening that answers 0 was accepted
open_accepted : (m w : List ℕ) (o : Left) → HistogramOpenPromise m w o → o.number ≡ 0 → (open_means m w).answer ≡ accepted done
open_accepted m w o e z =
    open_elim m w (λ (x : CallOutcome). o ≡ left_by x → x.answer ≡ accepted done)
    (λ h q. refl)
    (λ n some q. absurd (let k : o.number ≡ n = ap (λ (x : Left). x.number) q in omega arith))
    e

-- demand 3 of the exported calls: from an opening that answered 0, after every session, refused calls and runs of increments among them, the counts in
-- lent memory plus the sums that new clearing asks and the totals that new packet asks handed out equal the increments that were accepted
pub session_conserves : (m w : List ℕ) (o : Left) → HistogramOpenPromise m w o → o.number ≡ 0 → (xs : List Made) → Session o xs
    → total (last_left o xs).memory + sum_over cleared_in xs ≡ sum_over accepted_in xs
session_conserves m w o e z xs s =
    let r = follows o (opening m w) xs (ap (λ (y : Left). y.memory) e, ap (λ (y : Left). y.state) e) s in
    let balanced : Balanced (run (opening m w) (calls_over xs))
    = run_balanced (opening m w) (calls_over xs) (opened_balanced m w (open_accepted m w o e z)) in
    let held : total (last_left o xs).memory ≡ total (run (opening m w) (calls_over xs)).memory = ap total r.same.0 in
    omega (arith, balanced, held, r.increments, r.cleared)

-- the answer of a new ask, from its lent sum
new_answer : (p : Paper Value) (held : AskValues) → is_new p ≡ true → p ≡ accepted (new (told_ask p held).sum)
new_answer (accepted done) held e = absurd (let z : ◌≡◌ {A = ℕ} 0 1 = cc in omega arith)
new_answer (accepted (new sum)) held e = refl
new_answer (accepted (again sum)) held e = absurd (let z : ◌≡◌ {A = ℕ} 0 1 = cc in omega arith)
new_answer (refusal n carried) held e = absurd (let z : ◌≡◌ {A = ℕ} 0 1 = cc in omega arith)

-- what a repeat leaves: 0, the same sum as again, memory and state as they were
pub record Repeated (before : Left) (sum : ℕ) (o : Left) (values : AskValues) : Type 0 where
  pub number : o.number ≡ 0
  pub told : values ≡ record { sum = sum; again = 1 }
  pub memory : o.memory ≡ before.memory
  pub state : o.state ≡ before.state

-- demand 3 of the exported calls: a new ask, and no later one new: asked again with its number and window, it answers the same sum as again, and changes
-- nothing
pub session_repeats : (o : Left) (number : ℕ) (v : Window) (held : AskValues) (p : Left) (values : AskValues) (later : List Made)
    → Meets o.memory o.state (asked number v held p values) → new_in (asked number v held p values) ≡ true
    → Session p later → NoneNew later
    → (held' : AskValues) (q : Left) (values' : AskValues) → Meets (last_left p later).memory (last_left p later).state (asked number v held' q values')
    → Repeated (last_left p later) values.sum q values'
session_repeats o number v held p values later e n s none held' q values' e' =
    let l : Ledger = record { memory = o.memory; state = o.state; cleared = 0; increments = 0 } in
    let a : Paper Value = (ask_means o.memory o.state number v).answer in
    let sums : values.sum ≡ (told_ask a held).sum = ap (λ (y : Left × AskValues). y.1.sum) e in
    let is_new_lem : eqb p.number 0 && eqb values.again 0 ≡ is_new a
    = ap (λ (y : Left × AskValues). eqb y.0.number 0 && eqb y.1.again 0) e ∙ (tells o.memory o.state (ask number v) held).0 in
    let was : a ≡ accepted (new values.sum) = new_answer a held (sym is_new_lem ∙ n) ∙ ap (λ (k : ℕ). accepted (new k)) (sym sums) in
    let first = goes l (asked number v held p values) e in
    let r = follows p (step l (ask number v)) later (first.memory, first.state) s in
    let kept = repeat l number values.sum v (calls_over later) was (r.none none) in
    let z : ask_means (last_left p later).memory (last_left p later).state number v
    ≡ accept (again values.sum) (lent (last_left p later).memory (last_left p later).state)
    = ap₂ (λ (m w : List ℕ). ask_means m w number v) r.same.0 r.same.1 ∙ kept
    ∙ ap₂ (λ (m w : List ℕ). accept (again values.sum) (lent m w)) (sym r.same.0) (sym r.same.1) in
    let left : q ≡ left_by (accept (again values.sum) (lent (last_left p later).memory (last_left p later).state))
    = ap (λ (y : Left × AskValues). y.0) e' ∙ ap left_by z in
    record {
      number = ap (λ (y : Left). y.number) left;
      told = ap (λ (y : Left × AskValues). y.1) e' ∙ ap (λ (x : CallOutcome). told_ask x.answer held') z;
      memory = ap (λ (y : Left). y.memory) left;
      state = ap (λ (y : Left). y.state) left;
    }

-- the answer of a new packet ask, from its lent places
new_packet_answer : (p : Paper PacketValue) (held : PacketPlaces) → is_new (mapped total_in p) ≡ true
    → p ≡ accepted (new_packet (record { written = (told_packet p held).written; total = (told_packet p held).total }))
new_packet_answer (accepted (new_packet v)) held e = refl
new_packet_answer (accepted (packet_again v)) held e = absurd (let z : ◌≡◌ {A = ℕ} 0 1 = cc in omega arith)
new_packet_answer (refusal n carried) held e = absurd (let z : ◌≡◌ {A = ℕ} 0 1 = cc in omega arith)

-- what a repeated packet ask leaves: 0, the same total as again, the same bytes in the buffer, memory and state as they were
pub record PacketRepeated (before : Left) (first : PacketPlaces) (bytes room : List ℕ) (o : PacketLeft) (values : PacketPlaces) : Type 0 where
  pub number : o.number ≡ 0
  pub told : values ≡ record { written = first.written; total = first.total; again = 1 }
  pub memory : o.memory ≡ before.memory
  pub state : o.state ≡ before.state
  pub buffer : o.buffer ≡ put room 0 bytes

-- demand 3 of the exported calls: a new packet ask, and no later ask new: asked again with its number and all its inputs, into a buffer that its packet fits,
-- it answers the same total as again, writes the same bytes, and changes neither memory nor state
pub session_packet_repeats : (o : Left) (number : ℕ) (i : Inputs) (buffer : List ℕ) (held : PacketPlaces) (p : PacketLeft) (values : PacketPlaces)
    (later : List Made)
    → Meets o.memory o.state (packeted number i buffer held p values) → new_in (packeted number i buffer held p values) ≡ true
    → Session (left_of (packeted number i buffer held p values)) later → NoneNew later
    → (room : List ℕ) (held' : PacketPlaces) (q : PacketLeft) (values' : PacketPlaces) → values.written ≤ length room
    → Meets (last_left (left_of (packeted number i buffer held p values)) later).memory
    (last_left (left_of (packeted number i buffer held p values)) later).state
    (packeted number i room held' q values')
    → PacketRepeated (last_left (left_of (packeted number i buffer held p values)) later) values (take values.written p.buffer) room q values'
session_packet_repeats o number i buffer held p values later e n s none room held' q values' fits e' =
    let l : Ledger = record { memory = o.memory; state = o.state; cleared = 0; increments = 0 } in
    let first = packeted number i buffer held p values in
    let means : PacketOutcome = packet_means o.memory o.state buffer number i in
    let v : PacketValues = record { written = values.written; total = values.total } in
    let told_first : values ≡ told_packet means.answer held = ap (λ (y : PacketLeft × PacketPlaces). y.1) e in
    let is_new_lem : eqb p.number 0 && eqb values.again 0 ≡ is_new (mapped total_in means.answer)
    = ap (λ (y : PacketLeft × PacketPlaces). eqb y.0.number 0 && eqb y.1.again 0) e
    ∙ (packet_tells o.memory o.state number i buffer held).new_told in
    let was : means.answer ≡ accepted (new_packet v) = new_packet_answer means.answer held (sym is_new_lem ∙ n)
    ∙ ap (λ (x : PacketPlaces). accepted (new_packet (record { written = x.written; total = x.total }))) (sym told_first) in
    let g = goes l first e in
    let r = follows (left_of first) (step l (ask_packet number i buffer)) later (g.memory, g.state) s in
    let after = run (step l (ask_packet number i buffer)) (calls_over later) in
    let bytes = take values.written p.buffer in
    let same_bytes : take values.written means.leaves.buffer ≡ bytes
    = ap (λ (x : List ℕ). take values.written x) (sym (ap (λ (y : PacketLeft × PacketPlaces). y.0.buffer) e)) in
    let z : packet_means (last_left (left_of first) later).memory (last_left (left_of first) later).state room number i
    ≡ accept (packet_again v) (packet_lent (last_left (left_of first) later).memory (last_left (left_of first) later).state (put room 0 bytes))
    = ap₂ (λ (m w : List ℕ). packet_means m w room number i) r.same.0 r.same.1
    ∙ packet_repeat l number i buffer v (calls_over later) was (r.none none) room fits
    ∙ ap (λ (x : List ℕ). accept (packet_again v) (packet_lent after.memory after.state (put room 0 x))) same_bytes
    ∙ ap₂ (λ (m w : List ℕ). accept (packet_again v) (packet_lent m w (put room 0 bytes))) (sym r.same.0) (sym r.same.1) in
    let answer : PacketOutcome =
    accept (packet_again v) (packet_lent (last_left (left_of first) later).memory (last_left (left_of first) later).state (put room 0 bytes)) in
    let left : ◌≡◌ {A = PacketLeft × PacketPlaces} (q, values') (packet_left_by answer, told_packet answer.answer held')
    = e' ∙ ap (λ (x : PacketOutcome). (packet_left_by x, told_packet x.answer held')) z in
    record {
      number = ap (λ (y : PacketLeft × PacketPlaces). y.0.number) left;
      told = ap (λ (y : PacketLeft × PacketPlaces). y.1) left;
      memory = ap (λ (y : PacketLeft × PacketPlaces). y.0.memory) left;
      state = ap (λ (y : PacketLeft × PacketPlaces). y.0.state) left;
      buffer = ap (λ (y : PacketLeft × PacketPlaces). y.0.buffer) left;
    }
