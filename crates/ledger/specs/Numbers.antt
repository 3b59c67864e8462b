-- The numbers of asks: "A new ask bears the number after the last accepted, 1 after opening, 0 after 65535".
-- Assumes nothing.
use Rattle.std.specs.Prelude.{Bool, true, false, ◌≡◌, refl, List, ℕ, ◌+◌, eqb, length, replicate, Result, Ok, Err}
use Rattle.std.proofs.Common.{ap, ◌∙◌, arith}
use Rattle.std.proofs.lemmas.List.{length-replicate}
use borrow.Author.Tests.{eqb-true, ne_eqb}
use Rattle.ground.specs.Choice.{pick_elim}
use Rattle.ground.specs.Paper.{accepted, refused}
use Rattle.ground.specs.Questions.{both_ways}
use Rattle.pages.specs.declared.Window.{Window}
use Rattle.state.specs.Turns.{next_of, same_asked, turn_of}
use Rattle.state.specs.Words.{Asked, window, Kept, Last, Nothing, fresh_in, kept_in}
use Rattle.state.specs.declared.NoTurn.{NoTurn}
use Rattle.state.specs.declared.Turn.TheVariants.{NewAsk, LastAsk}
use Rattle.state.specs.declared.Turn.{Turn}
use Rattle.histogram.specs.Meaning.{Admits, CallOutcome, admission, done, new, open_means}
use Rattle.histogram.specs.Outcomes.{is_opened}
use Rattle.item.specs.Inputs.{Inputs}
use Rattle.ledger.specs.Repeat.{is_new_lem, is_new_packet, stays_kept}
use Rattle.ledger.specs.Runs.{Call, ask, ask_packet, Ledger, NoNew, answered, opening, run, step}
use Rattle.histogram.specs.States.{fresh_admits, fresh_says, framed_admits, framed_same}
use Rattle.window_ask.specs.Meaning.{ask_means}
use Rattle.ledger.specs.Stays.{run_stays}

-- the number that a new ask must bear, beside what is kept: "the number after the last accepted, 1 after opening"
abbrev pub turn_number : Kept → ℕ
turn_number Nothing = 1
turn_number (Last k a sum) = next_of k

-- "0 after 65535", else one more
pub after_65535 : next_of 65535 ≡ 0
after_65535 = refl

-- one more after every other number
pub after_others : (n : ℕ) → (n ≡ 65535 → ⊥) → next_of n ≡ n + 1
after_others n h = rw (ne_eqb n 65535 h)

-- whether a turn is a new ask's
abbrev new_turn : Result Turn NoTurn → Bool
new_turn (Ok NewAsk) = true
new_turn (Ok (LastAsk sum)) = false
new_turn (Err why) = false

-- a turn that is none is not
not_new : {t : Result Turn NoTurn} → new_turn t ≡ false → t ≡ Ok NewAsk → ⊥
not_new f e = both_ways (ap new_turn e) f

-- a turn that is a new ask's bears the number whose turn it is
pub new_number : (k : Kept) (number : ℕ) (a : Asked) → turn_of k number a ≡ Ok NewAsk → number ≡ turn_number k
new_number Nothing number a =
    pick_elim (λ (t : Result Turn NoTurn). t ≡ Ok NewAsk → number ≡ 1) (eqb number 1) _ _
    (λ h e. eqb-true _ _ h)
    (λ h e. absurd (not_new refl e))
new_number (Last k b sum) number a =
    pick_elim (λ (t : Result Turn NoTurn). t ≡ Ok NewAsk → number ≡ next_of k) (eqb number k) _ _
    (λ h. pick_elim (λ (t : Result Turn NoTurn). t ≡ Ok NewAsk → number ≡ next_of k) (same_asked b a) _ _
    (λ g e. absurd (not_new refl e))
    (λ g e. absurd (not_new refl e)))
    (λ h. pick_elim (λ (t : Result Turn NoTurn). t ≡ Ok NewAsk → number ≡ next_of k) (eqb number (next_of k)) _ _
    (λ g e. eqb-true _ _ g)
    (λ g e. absurd (not_new refl e)))

-- a new ask, on any ledger, bears the number whose turn it is
pub new_bears : (l : Ledger) (number sum : ℕ) (v : Window) → (answered l (ask number v)).answer ≡ accepted (new sum)
    → number ≡ turn_number (kept_in l.state)
new_bears l number sum v e = new_number (kept_in l.state) number (window v) (is_new_lem l number sum v e).turn

-- and so a new packet ask: the two kinds share one row of numbers
pub new_packet_bears : (l : Ledger) (number total : ℕ) (i : Inputs) (buffer : List ℕ) → (answered l (ask_packet number i buffer)).answer ≡ accepted (new total)
    → number ≡ turn_number (kept_in l.state)
new_packet_bears l number total i buffer e =
    new_number (kept_in l.state) number (Asked.packet i) (is_new_packet l number total i buffer e).turn

module _ (m w : List ℕ) (o : (open_means m w).answer ≡ accepted done) where
  -- on an opened memory calls may go on
  opened_admits : Admits (opening m w).memory (opening m w).state
  opened_admits =
      let i = is_opened m w o in
      ap (λ (x : CallOutcome). admission x.leaves.memory x.leaves.state) i.left
      ∙ framed_admits m (replicate (length m) 0) (length-replicate (length m) 0) (framed_same (fresh_in w (length m)))
      ∙ fresh_admits m w i.sized

  -- and nothing is kept
  opened_keeps : kept_in (opening m w).state ≡ Nothing
  opened_keeps = ap (λ (x : CallOutcome). kept_in x.leaves.state) (is_opened m w o).left ∙ (fresh_says w (length m)).1

  -- the first new ask after opening bears number 1, whatever calls lie before it
  pub first_number : (cs : List Call) → NoNew (opening m w) cs → (number sum : ℕ) (v : Window)
      → (answered (run (opening m w) cs) (ask number v)).answer ≡ accepted (new sum) → number ≡ 1
  first_number cs n number sum v e =
      new_bears (run (opening m w) cs) number sum v e ∙ ap turn_number ((run_stays (opening m w) cs n).1 ∙ opened_keeps)

  -- after opening, and whatever calls with no new ask among them, every number but 1 is out of turn
  pub out_of_turn : (cs : List Call) → NoNew (opening m w) cs → (number : ℕ) (v : Window) → (number ≡ 1 → ⊥)
      → (answered (run (opening m w) cs) (ask number v)).answer ≡ refused 17
  unfolding ask_means
  out_of_turn cs n number v h =
      let r = run_stays (opening m w) cs n in
      rw (r.0 ∙ opened_admits, r.1 ∙ opened_keeps, ne_eqb number 1 h)

  -- "After opening nothing is kept and number 0 is out of turn"
  pub zero_out_of_turn : (cs : List Call) → NoNew (opening m w) cs → (v : Window) → (answered (run (opening m w) cs) (ask 0 v)).answer ≡ refused 17
  zero_out_of_turn cs n v = out_of_turn cs n 0 v (λ e. omega arith)

-- the next new ask bears the number after the last accepted one's, whatever calls lie between
pub next_number : (l : Ledger) (number sum : ℕ) (v : Window) (later : List Call) → (answered l (ask number v)).answer ≡ accepted (new sum)
    → NoNew (step l (ask number v)) later
    → (number' sum' : ℕ) (v' : Window) → (answered (run (step l (ask number v)) later) (ask number' v')).answer ≡ accepted (new sum')
    → number' ≡ next_of number
next_number l number sum v later e n number' sum' v' e' =
    new_bears (run (step l (ask number v)) later) number' sum' v' e' ∙ ap turn_number (stays_kept l number sum v later e n).kept
