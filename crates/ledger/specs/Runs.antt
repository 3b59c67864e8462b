-- Sequences of calls on one opened memory, and the ledger that they leave: what demand 3 speaks of.
-- Assumes nothing.
use Rattle.std.specs.Prelude.{Bool, true, false, ◌≡◌, refl, List, [], ◌∷◌, ◌++◌, ℕ, ◌+◌}
use Rattle.ground.specs.Choice.{pick}
use Rattle.ground.specs.Outcome.{outcome_of}
use Rattle.ground.specs.Paper.{Paper, accepted, refusal, mapped}
use Rattle.item.specs.Inputs.{Inputs}
use Rattle.pages.specs.declared.Window.{Window}
use Rattle.histogram.specs.Meaning.{CallOutcome, Value, done, new, again, flip_means, increment_means, lent, open_means}
use Rattle.window_ask.specs.Meaning.{ask_means}
use Rattle.packet_ask.specs.Meaning.{PacketOutcome, PacketValue, new_packet, packet_again, packet_means}

-- a call on an opened memory
pub data Call : Type 0 where
  increment : ℕ → Call
  flip : Call
  ask : ℕ → Window → Call
  ask_packet : ℕ → Inputs → List ℕ → Call

-- what a packet ask answers as an ask does: its total, new or again
abbrev pub total_in : PacketValue → Value
total_in (new_packet v) = new v.total
total_in (packet_again v) = again v.total

-- a packet ask without its buffer, which is the bench's own
abbrev pub without_buffer : PacketOutcome → CallOutcome
without_buffer o = outcome_of (mapped total_in o.answer) (lent o.leaves.memory o.leaves.state)

-- what a call means on a memory and a state
abbrev pub call_means : List ℕ → List ℕ → Call → CallOutcome
call_means m w (increment address) = increment_means m w address
call_means m w flip = flip_means m w
call_means m w (ask number v) = ask_means m w number v
call_means m w (ask_packet number i buffer) = without_buffer (packet_means m w buffer number i)

-- what an answered call adds to the accepted increments
abbrev pub accepted_by : Call → Paper Value → ℕ
accepted_by (increment address) (accepted v) = 1
accepted_by (increment address) (refusal n carried) = 0
accepted_by flip p = 0
accepted_by (ask number w) p = 0
accepted_by (ask_packet number i buffer) p = 0

-- what an answered call adds to the counts cleared and handed out: the sum of a new clearing ask, the total of a new packet ask
abbrev pub cleared_by : Call → Paper Value → ℕ
cleared_by (increment address) p = 0
cleared_by flip p = 0
cleared_by (ask number w) (accepted done) = 0
cleared_by (ask number w) (accepted (new sum)) = pick w.clear sum 0
cleared_by (ask number w) (accepted (again sum)) = 0
cleared_by (ask number w) (refusal n carried) = 0
cleared_by (ask_packet number i buffer) (accepted done) = 0
cleared_by (ask_packet number i buffer) (accepted (new total)) = total
cleared_by (ask_packet number i buffer) (accepted (again total)) = 0
cleared_by (ask_packet number i buffer) (refusal n carried) = 0

-- whether an answer is that of a new ask
abbrev pub is_new : Paper Value → Bool
is_new (accepted done) = false
is_new (accepted (new sum)) = true
is_new (accepted (again sum)) = false
is_new (refusal n carried) = false

-- memory and state, with the counts cleared and the increments accepted since opening
pub record Ledger : Type 0 where
  pub memory : List ℕ
  pub state : List ℕ
  pub cleared : ℕ
  pub increments : ℕ

-- a freshly opened memory: nothing cleared, nothing accepted
abbrev pub opening : List ℕ → List ℕ → Ledger
opening m w = record { memory = (open_means m w).leaves.memory; state = (open_means m w).leaves.state; cleared = 0; increments = 0 }

-- what a call answers on a ledger's memory and state
abbrev pub answered : Ledger → Call → CallOutcome
answered l c = call_means l.memory l.state c

-- one call
abbrev pub step : Ledger → Call → Ledger
step l c =
    record {
      memory = (answered l c).leaves.memory;
      state = (answered l c).leaves.state;
      cleared = l.cleared + cleared_by c (answered l c).answer;
      increments = l.increments + accepted_by c (answered l c).answer;
    }

-- a sequence of calls
abbrev pub run : Ledger → List Call → Ledger
run l [] = l
run l (c ∷ cs) = run (step l c) cs

-- no call of a sequence is accepted as a new ask
abbrev pub NoNew : Ledger → List Call → Type 0
NoNew l [] = Unit {0}
NoNew l (c ∷ cs) = (is_new (answered l c).answer ≡ false) × NoNew (step l c) cs

-- to run two sequences joined is to run the first and then the second
pub run-append : (l : Ledger) (cs ds : List Call) → run l (cs ++ ds) ≡ run (run l cs) ds
run-append l [] ds = refl
run-append l (c ∷ cs) ds = run-append (step l c) cs ds
