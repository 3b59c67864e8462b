-- Laws of a state's words: what they say after a call wrote into them, which words no call changes, and which it looks at.
-- Assumes nothing.
use Rattle.std.specs.Prelude.{Bool, true, false, not, ◌≡◌, refl, List, [], ◌∷◌, ℕ, ◌≤◌, ◌<◌, drop, get_or, length}
use Rattle.std.proofs.Common.{arith, eq-eqb, le-leb, leb-true}
use Rattle.ground.specs.Choice.{pick_elim}
use Rattle.ground.specs.Questions.{both_hold}
use Rattle.ground.specs.Outcome.{Outcome, refuse, onward_to}
use Rattle.ground.specs.Paper.{Paper, accepted, refusal, refused, refused_not}
use Rattle.pages.specs.Meaning.{count_means, sized_of}
use Rattle.pages.specs.declared.Window.{Window}
use Rattle.state.specs.Meaning.{fitting_of, roomy}
use Rattle.state.specs.Words.{window, Kept, Last, Nothing, flag_in, flag_of, flip_in, fresh_in, keep_in, kept_in, page_in, state_words, words_at}
use Rattle.histogram.specs.Meaning.{Admits, Lent, admission, admitted, counting, increment_means, lent}

-- what holds of ten words and any rest holds of a state's words
pub ten : (P : List ℕ → Type 0) → ((a b c d e f g h i j : ℕ) (l : List ℕ) → P (a ∷ b ∷ c ∷ d ∷ e ∷ f ∷ g ∷ h ∷ i ∷ j ∷ l))
    → (l : List ℕ) → state_words ≤ length l → P l
ten P p [] n = absurd (omega arith)
ten P p (a ∷ []) n = absurd (omega arith)
ten P p (a ∷ b ∷ []) n = absurd (omega arith)
ten P p (a ∷ b ∷ c ∷ []) n = absurd (omega arith)
ten P p (a ∷ b ∷ c ∷ d ∷ []) n = absurd (omega arith)
ten P p (a ∷ b ∷ c ∷ d ∷ e ∷ []) n = absurd (omega arith)
ten P p (a ∷ b ∷ c ∷ d ∷ e ∷ f ∷ []) n = absurd (omega arith)
ten P p (a ∷ b ∷ c ∷ d ∷ e ∷ f ∷ g ∷ []) n = absurd (omega arith)
ten P p (a ∷ b ∷ c ∷ d ∷ e ∷ f ∷ g ∷ h ∷ []) n = absurd (omega arith)
ten P p (a ∷ b ∷ c ∷ d ∷ e ∷ f ∷ g ∷ h ∷ i ∷ []) n = absurd (omega arith)
ten P p (a ∷ b ∷ c ∷ d ∷ e ∷ f ∷ g ∷ h ∷ i ∷ j ∷ l) n = p a b c d e f g h i j l

-- admission: given to a memory that fits its state, or refused
pub admission_elim : (P : Paper (Unit {0}) → Type 0) (m w : List ℕ) → (fitting_of (length m) w ≡ true → P (accepted tt))
    → ((n : ℕ) → 0 < n → P (refused n)) → P (admission m w)
unfolding admission
admission_elim P m w p q = pick_elim P (fitting_of (length m) w) _ _ p (λ h. q 13 (omega arith))

-- on a memory that fits its state a call may go on
pub admits : (m w : List ℕ) → fitting_of (length m) w ≡ true → Admits m w
unfolding admission
admits m w h = rw h

-- a memory that does not fit its state is refused by 13, whatever would come after it
pub by13 : (m w : List ℕ) {A : Type 0} (o : Outcome A Lent) → fitting_of (length m) w ≡ false → refuse 13 (lent m w) ≡ admitted m w o
unfolding admission
by13 m w o h = rw h

-- where a call may go on, a state's words were lent
pub admits_long : (m w : List ℕ) → Admits m w → state_words ≤ length w
admits_long m w =
    admission_elim (λ (p : Paper (Unit {0})). p ≡ accepted tt → state_words ≤ length w) m w
    (λ h e. leb-true state_words (length w) (both_hold {a = roomy w} h).0)
    (λ n z e. absurd (refused_not e))

-- a flag's word says the flag
pub flag_home : (b : Bool) → flag_in (flag_of b) ≡ b
flag_home true = refl
flag_home false = refl

-- what words say: which page is active, and what is kept
abbrev pub Says : List ℕ → Bool → Kept → Type 0
Says w page kept = (page_in w ≡ page) × (kept_in w ≡ kept)

-- opened: the first page is active and nothing is kept
pub fresh_says : (w : List ℕ) (n : ℕ) → Says (fresh_in w n) false Nothing
unfolding fresh_in
fresh_says w n = (refl, refl)

-- flipped: the other page is active, and what is kept stays
pub flip_says : (w : List ℕ) → state_words ≤ length w → Says (flip_in w) (not (page_in w)) (kept_in w)
flip_says w = ten (λ l. Says (flip_in l) (not (page_in l)) (kept_in l)) (λ a b c d e f g h i j l. (flag_home (not (flag_in b)), refl)) w

-- a new ask: the page stays, and the ask is kept
pub keep_says : (w : List ℕ) (n : ℕ) (v : Window) (sum : ℕ) → state_words ≤ length w → Says (keep_in w n v sum) (page_in w) (Last n (window v) sum)
keep_says w n v sum =
    ten (λ l. Says (keep_in l n v sum) (page_in l) (Last n (window v) sum)) (λ a b c d e f g h i j l. (refl, rw (flag_home v.clear))) w

-- an opened memory fits its state: calls on the two may go on
pub fresh_admits : (m w : List ℕ) → sized_of (length m) ≡ true → Admits m (fresh_in w (length m))
unfolding admission fresh_in
fresh_admits m w h =
    let n = length m in
    rw (le-leb state_words (length (fresh_in w n)) (omega arith), h, eq-eqb n n refl)

-- no call changes how many words are lent, 2N, or a word past the state's
pub record Framed (w v : List ℕ) : Type 0 where
  pub long : length v ≡ length w
  pub size : get_or v words_at 0 ≡ get_or w words_at 0
  pub rest : drop state_words v ≡ drop state_words w

-- the same words
pub framed_same : (w : List ℕ) → Framed w w
framed_same w = record { long = refl; size = refl; rest = refl }

-- a flip
pub flip_framed : (w : List ℕ) → state_words ≤ length w → Framed w (flip_in w)
flip_framed w = ten (λ l. Framed l (flip_in l)) (λ a b c d e f g h i j l. record { long = refl; size = refl; rest = refl }) w

-- a new ask
pub keep_framed : (w : List ℕ) (n : ℕ) (v : Window) (sum : ℕ) → state_words ≤ length w → Framed w (keep_in w n v sum)
keep_framed w n v sum = ten (λ l. Framed l (keep_in l n v sum)) (λ a b c d e f g h i j l. record { long = refl; size = refl; rest = refl }) w

-- so that a call may go on after another where it might before
pub framed_admits : (m n : List ℕ) {w v : List ℕ} → length n ≡ length m → Framed w v → admission n v ≡ admission m w
unfolding admission
framed_admits m n e f = rw (e, f.long, f.size)

module _ (m w v : List ℕ) (e : admission m w ≡ admission m v) where
  -- an increment looks at 2N and the active page alone
  pub increment_reads : page_in w ≡ page_in v → (a : ℕ) → ((increment_means m w a).answer ≡ (increment_means m v a).answer)
      × ((increment_means m w a).leaves.memory ≡ (increment_means m v a).leaves.memory)
  unfolding increment_means
  increment_reads f a = rw (e, f) (either (admission m v) (count_means m (page_in v) a))
    where
      either : (p : Paper (Unit {0})) (o : Outcome (Unit {0}) (List ℕ))
          → ((onward_to (λ x. counting w o) (lent m w) p).answer ≡ (onward_to (λ x. counting v o) (lent m v) p).answer)
          × ((onward_to (λ x. counting w o) (lent m w) p).leaves.memory ≡ (onward_to (λ x. counting v o) (lent m v) p).leaves.memory)
      either (accepted x) o = (refl, refl)
      either (refusal n carried) o = (refl, refl)
