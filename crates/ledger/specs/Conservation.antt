-- Demand 3, first sentence: over every sequence of calls from freshly opened memory, what is held and what was cleared are what was accepted.
-- Assumes nothing.
use Rattle.std.specs.Prelude.{not, ◌≡◌, refl, List, [], ◌∷◌, ℕ, ◌+◌, length}
use Rattle.std.proofs.Common.{ap, arith}
use Rattle.ground.specs.Outcome.{refuse}
use Rattle.ground.specs.Paper.{accepted}
use Rattle.data_packet.specs.Runs.{Conserved, run_conserves, run_has}
use Rattle.pages.specs.Layout.{place_of, within}
use Rattle.pages.specs.Meaning.{cells_of, word_of}
use Rattle.pages.specs.Totals.{total, total_set, total_zeros, walk_conserves}
use Rattle.state.specs.Words.{page_in}
use Rattle.histogram.specs.Meaning.{CallOutcome, done, lent, open_means}
use Rattle.histogram.specs.Outcomes.{is_opened}
use Rattle.ledger.specs.Outcomes.{call_elim}
use Rattle.ledger.specs.Runs.{Call, increment, flip, ask, ask_packet, Ledger, accepted_by, call_means, cleared_by, opening, run, step}

-- what one call keeps: the counts held and cleared grow by the increments accepted
abbrev pub Conserves : List ℕ → Call → CallOutcome → Type 0
Conserves m c o = total o.leaves.memory + cleared_by c o.answer ≡ total m + accepted_by c o.answer

-- a refusal conserves
refusal_conserves : (m w : List ℕ) (c : Call) (n : ℕ) → Conserves m c (refuse n (lent m w))
refusal_conserves m w (increment address) n = refl
refusal_conserves m w flip n = refl
refusal_conserves m w (ask number v) n = refl
refusal_conserves m w (ask_packet number i buffer) n = refl

-- every call conserves, on any memory and any state
pub call_conserves : (m w : List ℕ) (c : Call) → Conserves m c (call_means m w c)
call_conserves m w =
    call_elim (Conserves m) m w (λ c n z. refusal_conserves m w c n)
    (λ h a k. omega (arith, total_set m (place_of (length m) (page_in w) a) (word_of m (page_in w) a + 1) (within (length m) (page_in w) a k)))
    (λ h. refl)
    (λ h number v k t. walk_conserves (not (page_in w)) v.clear m (cells_of v))
    (λ h number sum v. refl)
    (λ h number i buffer r few e t. omega (arith, (run_has (Conserved m) (run_conserves m (not (page_in w)) i.items) e).counts))
    (λ h number total i buffer. refl)

-- the ledger's account: what is held and what was cleared are what was accepted
abbrev pub Balanced : Ledger → Type 0
Balanced l = total l.memory + l.cleared ≡ l.increments

-- a call keeps the account
pub step_balanced : (l : Ledger) (c : Call) → Balanced l → Balanced (step l c)
step_balanced l c b = omega (arith, call_conserves l.memory l.state c)

-- a sequence of calls keeps the account
pub run_balanced : (l : Ledger) (cs : List Call) → Balanced l → Balanced (run l cs)
run_balanced l [] b = b
run_balanced l (c ∷ cs) b = run_balanced (step l c) cs (step_balanced l c b)

-- an opened memory holds zeros alone
pub opened_balanced : (m w : List ℕ) → (open_means m w).answer ≡ accepted done → Balanced (opening m w)
opened_balanced m w e = omega (arith, total_zeros (length m), ap (λ (o : CallOutcome). total o.leaves.memory) (is_opened m w e).left)

-- demand 3: for every N, every sequence of calls from freshly opened memory, refused calls among them, held plus cleared equals accepted
pub conservation : (m w : List ℕ) → (open_means m w).answer ≡ accepted done → (cs : List Call) → Balanced (run (opening m w) cs)
conservation m w e cs = run_balanced (opening m w) cs (opened_balanced m w e)
