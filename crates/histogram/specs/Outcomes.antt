-- What a call may answer and leave: to show something of it, show it of a refusal by any number but 0, and of what it accepts.
-- Assumes nothing.
use Rattle.std.specs.Prelude.{true, ◌&&◌, ◌≡◌, refl, List, ℕ, ◌<◌, length}
use Rattle.std.proofs.Common.{arith}
use Rattle.ground.specs.Choice.{pick_elim}
use Rattle.ground.specs.Outcome.{Outcome, Stays, refuse, onward_to}
use Rattle.ground.specs.Paper.{Paper, accepted, refused_not}
use Rattle.ground.specs.Questions.{both_hold}
use Rattle.pages.specs.Meaning.{sized_of}
use Rattle.state.specs.Meaning.{roomy}
use Rattle.state.specs.Words.{page_in}
use Rattle.histogram.specs.Meaning.{Admits, CallOutcome, admission, admitted, done}
use Rattle.histogram.specs.Meaning.{Fed, Lent, feed_of, feeding, increments_means, lent, open_means, freshly}
use Rattle.histogram.specs.States.{admission_elim}

-- an accepted opening: the memory's length is one that opening takes, its words are 0, and the state is fresh
pub record IsOpened (m w : List ℕ) (o : CallOutcome) : Type 0 where
  pub sized : sized_of (length m) ≡ true
  pub left : o ≡ freshly m w

module _ (m w : List ℕ) where
  -- opening: memory and state fresh, or a refusal that leaves both
  pub open_elim : (P : CallOutcome → Type 0) → (sized_of (length m) ≡ true → P (freshly m w)) → ((n : ℕ) → 0 < n → P (refuse n (lent m w)))
      → P (open_means m w)
  unfolding open_means
  open_elim P p q =
      pick_elim P (roomy w && sized_of (length m)) _ _ (λ h. p (both_hold {a = roomy w} h).1) (λ h. q 13 (omega arith))

  -- what an accepted opening tells
  pub is_opened : (open_means m w).answer ≡ accepted done → IsOpened m w (open_means m w)
  is_opened =
      open_elim (λ (o : CallOutcome). o.answer ≡ accepted done → IsOpened m w o)
      (λ h e. record { sized = h; left = refl })
      (λ n z e. absurd (refused_not e))

  -- demand 1 of opening: refused, it leaves memory and state as they were
  pub open_stays : Stays (lent m w) (open_means m w)
  open_stays = open_elim (Stays (lent m w)) (λ h f. absurd (f refl)) (λ n z f. refl)

  -- admission: what comes after it, or a refusal that leaves memory and state
  pub admitted_elim : {A : Type 0} (P : Outcome A Lent → Type 0) (o : Outcome A Lent) → (Admits m w → P o) → ((n : ℕ) → 0 < n → P (refuse n (lent m w)))
      → P (admitted m w o)
  admitted_elim P o p q =
      admission_elim (λ (a : Paper (Unit {0})). admission m w ≡ a → P (onward_to (λ x. o) (lent m w) a)) m w (λ h. p) (λ n z e. q n z) refl

-- many increments in one call: a run on the active page, or a refusal that leaves memory and state
pub increments_elim : (m w addresses : List ℕ) (P : Outcome Fed Lent → Type 0)
    → (Admits m w → P (feeding w (feed_of 0 m (page_in w) addresses)))
    → ((n : ℕ) → 0 < n → P (refuse n (lent m w)))
    → P (increments_means m w addresses)
unfolding increments_means
increments_elim m w addresses P p q = admitted_elim m w P (feeding w (feed_of 0 m (page_in w) addresses)) p q
