-- Histogram memory: what each call means, in document 01's words and order.
-- Assumes nothing.
use Rattle.std.specs.Prelude.{Bool, ◌&&◌, List, [], ◌∷◌, ◌≡◌, ℕ, suc, length, replicate}
use Rattle.ground.specs.Choice.{pick}
use Rattle.ground.specs.Outcome.{Outcome, outcome_of, accept, refuse, onward_to}
use Rattle.ground.specs.Paper.{Paper, accepted, refusal, refused, mapped}
use Rattle.pages.specs.Meaning.{count_means, sized_of}
use Rattle.state.specs.Meaning.{fitting_of, roomy}
use Rattle.state.specs.Words.{flip_in, fresh_in, page_in}

-- what an accepted call answers: nothing more; an ask's sum, new; an ask's kept sum, again
pub data Value : Type 0 where
  done : Value
  new : ℕ → Value
  again : ℕ → Value

-- what a call is lent, and what it leaves of it: the memory, and the state's words
pub record Lent : Type 0 where
  pub memory : List ℕ
  pub state : List ℕ

-- the same from its two parts
abbrev pub lent : List ℕ → List ℕ → Lent
lent memory state = record { memory = memory; state = state }

-- what a call answers and leaves
abbrev pub CallOutcome : Type 0
CallOutcome = Outcome Value Lent

-- opened: "sets all to 0 and makes the lower half active"
abbrev pub freshly : List ℕ → List ℕ → CallOutcome
freshly memory state = accept done (lent (replicate (length memory) 0) (fresh_in state (length memory)))

-- "Opening takes 2N words of 32 bits, N from 1 to 262,144"; refusal 13, also for fewer words than a state takes
unfoldable pub open_means : List ℕ → List ℕ → CallOutcome
open_means memory state = pick (roomy state && sized_of (length memory)) (freshly memory state) (refuse 13 (lent memory state))

-- whether a call on memory and state may go on; refusal 13
unfoldable pub admission : List ℕ → List ℕ → Paper (Unit {0})
admission memory state = pick (fitting_of (length memory) state) (accepted tt) (refused 13)

-- it may
abbrev pub Admits : List ℕ → List ℕ → Type 0
Admits memory state = admission memory state ≡ accepted tt

-- what comes after it
abbrev pub admitted : {A : Type 0} → List ℕ → List ℕ → Outcome A Lent → Outcome A Lent
admitted memory state o = onward_to (λ x. o) (lent memory state) (admission memory state)

-- what a call leaves that counted: counting's answer and memory, the state as it was
abbrev pub counting : List ℕ → Outcome (Unit {0}) (List ℕ) → CallOutcome
counting state o = outcome_of (mapped (λ x. done) o.answer) (lent o.leaves state)

-- "An increment adds 1 to a word of the active page": it counts there; refusals 13, then counting's 14, 16, 15
unfoldable pub increment_means : List ℕ → List ℕ → ℕ → CallOutcome
increment_means memory state address = admitted memory state (counting state (count_means memory (page_in state) address))

-- of a run of increments: how many were counted, and the number of the refusal that ended it, 0 where none did
pub record Fed : Type 0 where
  pub count : ℕ
  pub ended : ℕ

-- a run goes on where an increment is counted, and ends at the first that would be refused
abbrev pub goes_on : Paper (Unit {0}) → Outcome Fed (List ℕ) → ℕ → List ℕ → Outcome Fed (List ℕ)
goes_on (accepted x) rest fed memory = rest
goes_on (refusal n carried) rest fed memory = accept (record { count = fed; ended = n }) memory

-- increments on a page, one address after the other, so many having been counted
abbrev pub feed_of : ℕ → List ℕ → Bool → List ℕ → Outcome Fed (List ℕ)
feed_of fed memory page [] = accept (record { count = fed; ended = 0 }) memory
feed_of fed memory page (a ∷ rest) =
    goes_on (count_means memory page a).answer (feed_of (suc fed) (count_means memory page a).leaves page rest) fed memory

-- what a run leaves: its answer and memory, the state as it was
abbrev pub feeding : List ℕ → Outcome Fed (List ℕ) → Outcome Fed Lent
feeding state o = outcome_of o.answer (lent o.leaves state)

-- many increments in one call: one after the other, up to the first that would be refused; refusal 13
unfoldable pub increments_means : List ℕ → List ℕ → List ℕ → Outcome Fed Lent
increments_means memory state addresses = admitted memory state (feeding state (feed_of 0 memory (page_in state) addresses))

-- "A flip exchanges active and idle"; refusal 13
unfoldable pub flip_means : List ℕ → List ℕ → CallOutcome
flip_means memory state = admitted memory state (accept done (lent memory (flip_in state)))
