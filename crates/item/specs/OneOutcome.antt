-- Two outcomes that meet a call's promise are equal, answer and buffer, and a refusal leaves the buffer.
-- Assumes nothing.
use Rattle.std.specs.Prelude.{◌≡◌, refl, Bool, List, ℕ, Result}
use Rattle.ground.specs.Choice.{pick_elim}
use Rattle.ground.specs.Outcome.{accept, onward_to, Stays}
use Rattle.ground.specs.Paper.{Paper, paper_elim, one_value}
use Rattle.ground.specs.Refusals.{one_outcome}
use Rattle.code.specs.Meaning.{place_means}
use Rattle.pack.specs.OneOutcome.{place_stays}
use Rattle.pages.specs.declared.Window.{Window}
use Rattle.item.specs.Answers.{not_sent}
use Rattle.item.specs.Meaning.{window_of, plain_of, adds_of, sends_of, comp_of, format_bits, format_means, send_means}
use Rattle.item.specs.Promise.{SendPromise}
use Rattle.item.specs.declared.NotSent.{NotSent}

-- sending has one outcome
pub send_one : {buffer : List ℕ} {at x r : ℕ} {s t : Result ℕ NotSent} {a b : List ℕ} → SendPromise buffer at x r s a → SendPromise buffer at x r t b
    → (s ≡ t) × (a ≡ b)
send_one p q = one_outcome not_sent p.outcome q.outcome

-- one window for an item
pub window_of_one : (x : ℕ) {a b : Window} → a ≡ window_of x → b ≡ window_of x → a ≡ b
window_of_one x p q = one_value p q

-- one answer to whether an item is plain
pub plain_one : (x : ℕ) {a b : Bool} → a ≡ plain_of x → b ≡ plain_of x → a ≡ b
plain_one x p q = one_value p q

-- one answer to whether it adds
pub adds_one : (x : ℕ) {a b : Bool} → a ≡ adds_of x → b ≡ adds_of x → a ≡ b
adds_one x p q = one_value p q

-- one answer to whether it is sent
pub sends_one : (x : ℕ) {a b : Bool} → a ≡ sends_of x → b ≡ sends_of x → a ≡ b
sends_one x p q = one_value p q

-- demand 1 of sending: a refusal leaves the buffer as it was
pub send_stays : (buffer : List ℕ) (at x r : ℕ) → Stays buffer (send_means buffer at x r)
unfolding send_means
send_stays buffer at x r =
    pick_elim (Stays buffer) (sends_of x) (format_means buffer at (comp_of x) r) (accept at buffer)
    (λ t.
    paper_elim (λ (p : Paper (List ℕ)). Stays buffer (onward_to (place_means buffer at) buffer p)) (format_bits (comp_of x) r)
    (λ l e. place_stays buffer at l)
    (λ n carried e f. refl))
    (λ t f. absurd (f refl))
