-- What holds after every item holds after the run: one principle, and what follows by it.
-- Assumes nothing.
use Rattle.std.specs.Prelude.{Bool, not, List, [], ◌∷◌, ◌≡◌, refl, ℕ, suc, ◌+◌, ◌*◌, ◌/◌, ◌≤◌, ◌<◌, length}
use Rattle.std.proofs.Common.{sym, subst, ◌∙◌, arith, length-append}
use Rattle.ground.specs.Outcome.{Outcome}
use Rattle.ground.specs.Paper.{Paper, accepted, refusal, refused, onward}
use Rattle.code.specs.BitLists.{all_bits, all_bits-append}
use Rattle.item.specs.Bits.{bits_bits, bits_elim, bits_few}
use Rattle.item.specs.Meaning.{item_bits, window_of}
use Rattle.pages.specs.Meaning.{cells_of, last_of, walk_at, window_walk, word_of}
use Rattle.pages.specs.Outcomes.{take_elim}
use Rattle.pages.specs.Totals.{total, walk_conserves}
use Rattle.pages.specs.Walks.{cells_all_under, walk_leaves, walk_length}
use Rattle.data_packet.specs.Meaning.{Run, first_run, item_means, next_run, result_of, run_items, taken_item}

-- a run that was accepted has a property, and one that was not was refused by a number but 0, and nothing else
abbrev pub Ends : (Run → Type 0) → Paper Run → Type 0
Ends P (accepted r) = P r
Ends P (refusal n carried) = (0 < n) × (carried ≡ [])

-- a refusal by a number but 0
abbrev refuses : {A : Type 0} → Paper A → Type 0
refuses (accepted x) = Unit {0}
refuses (refusal n carried) = (0 < n) × (carried ≡ [])

-- what follows an accepted run
onward_ends : (P Q : Run → Type 0) (a : Paper Run) (next : Run → Paper Run) → Ends P a → ((r : Run) → P r → Ends Q (next r)) → Ends Q (onward next a)
onward_ends P Q (accepted r) next h f = f r h
onward_ends P Q (refusal n carried) next h f = h

module _ (P : ℕ → Run → Type 0) (page : Bool)
    (each : (k : ℕ) (r : Run) (x : ℕ) (bits : List ℕ) → last_of (window_of x) < length r.memory / 2
    → item_bits x (result_of x r.result (window_walk r.memory page (window_of x)).sum) ≡ accepted bits → P k r
    → P (suc k) (next_run x r (window_walk r.memory page (window_of x)).memory (window_walk r.memory page (window_of x)).sum bits)) where
  -- one item more
  item_ends : (k : ℕ) (r : Run) (x : ℕ) → P k r → Ends (P (suc k)) (item_means page r x)
  item_ends k r x p =
      take_elim (λ (o : Outcome ℕ (List ℕ)). Ends (P (suc k)) (taken_item x r o)) r.memory page (window_of x)
      (λ h. sends h (item_bits x (result_of x r.result (window_walk r.memory page (window_of x)).sum)) refl
      (bits_elim (λ (b : Paper (List ℕ)). refuses b) x _ (λ l. tt) (omega arith, refl)))
      (λ n z. (z, refl))
    where
      sends : last_of (window_of x) < length r.memory / 2 → (b : Paper (List ℕ))
          → item_bits x (result_of x r.result (window_walk r.memory page (window_of x)).sum) ≡ b → refuses b
          → Ends (P (suc k)) (onward (λ bits. accepted
          (next_run x r (window_walk r.memory page (window_of x)).memory (window_walk r.memory page (window_of x)).sum bits)) b)
      sends h (accepted bits) e q = each k r x bits h e p
      sends h (refusal n carried) e q = q

  -- every item of a table, so many having been run
  pub run_ends : (k : ℕ) (r : Run) (xs : List ℕ) → P k r → Ends (P (length xs + k)) (run_items page r xs)
  run_ends k r [] p = let e : k ≡ 0 + k = omega arith in subst (λ (n : ℕ). P n r) e p
  run_ends k r (x ∷ xs) p =
      let e : length xs + suc k ≡ length (x ∷ xs) + k = omega arith in
      subst (λ (n : ℕ). Ends (P n) (run_items page r (x ∷ xs))) e
      (onward_ends (P (suc k)) (P (length xs + suc k)) (item_means page r x) (λ (q : Run). run_items page q xs) (item_ends k r x p)
      (λ q h. run_ends (suc k) q xs h))

-- to show something of a run, show it of an accepted one and of a refusal by any number but 0
pub run_elim : (Q : Paper Run → Type 0) (m : List ℕ) (page : Bool) (xs : List ℕ) → ((r : Run) → run_items page (first_run m) xs ≡ accepted r → Q (accepted r))
    → ((n : ℕ) → 0 < n → Q (refused n)) → Q (run_items page (first_run m) xs)
run_elim Q m page xs p q = go (run_items page (first_run m) xs) refl (run_ends (λ k r. Unit {0}) page (λ k r x bits h e u. tt) 0 (first_run m) xs tt)
  where
    go : (a : Paper Run) → run_items page (first_run m) xs ≡ a → Ends (λ r. Unit {0}) a → Q a
    go (accepted r) e h = p r e
    go (refusal n carried) e h = subst (λ (c : List ℕ). Q (refusal n c)) (sym h.1) (q n h.0)

-- what a property of every accepted run says of one
pub run_has : (P : Run → Type 0) {a : Paper Run} {r : Run} → Ends P a → a ≡ accepted r → P r
run_has P h e = subst (Ends P) e h

-- demand 3 for a table: the memory is as long as it was, and what it holds and the total are what it held
pub record Conserved (m : List ℕ) (r : Run) : Type 0 where
  pub long : length r.memory ≡ length m
  pub counts : total r.memory + r.total ≡ total m

pub run_conserves : (m : List ℕ) (page : Bool) (xs : List ℕ) → Ends (Conserved m) (run_items page (first_run m) xs)
run_conserves m page xs =
    run_ends (λ k. Conserved m) page
    (λ k r x bits h e p. record {
      long = walk_length page (window_of x).clear (walk_at r.memory 0) (cells_of (window_of x)) ∙ p.long;
      counts = omega (arith, walk_conserves page (window_of x).clear r.memory (cells_of (window_of x)), p.counts);
    })
    0 (first_run m) xs (record { long = refl; counts = omega arith })

-- the other page's counters stay
pub record Left (m : List ℕ) (p : Bool) (b : ℕ) (r : Run) : Type 0 where
  pub long : length r.memory ≡ length m
  pub word : word_of r.memory p b ≡ word_of m p b

pub run_leaves : (m : List ℕ) (p : Bool) (xs : List ℕ) (b : ℕ) → b < length m / 2 → Ends (Left m p b) (run_items (not p) (first_run m) xs)
run_leaves m p xs b k =
    run_ends (λ n. Left m p b) (not p)
    (λ n r x bits h e q. record {
      long = walk_length (not p) (window_of x).clear (walk_at r.memory 0) (cells_of (window_of x)) ∙ q.long;
      word =
          walk_leaves p (window_of x).clear (walk_at r.memory 0) (cells_of (window_of x)) b (cells_all_under (length r.memory / 2) (window_of x) h)
          (subst (λ (n : ℕ). b < n / 2) (sym q.long) k)
          ∙ q.word;
    })
    0 (first_run m) xs (record { long = refl; word = refl })

-- what is sent: at most 29 bits an item, and bits
pub record Sends (n : ℕ) (r : Run) : Type 0 where
  pub few : length r.bits ≤ 29 * n
  pub fine : all_bits r.bits

pub run_sends : (m : List ℕ) (page : Bool) (xs : List ℕ) → Ends (Sends (length xs)) (run_items page (first_run m) xs)
run_sends m page xs =
    let e : length xs + 0 ≡ length xs = omega arith in
    subst (λ (n : ℕ). Ends (Sends n) (run_items page (first_run m) xs)) e
    (run_ends Sends page
    (λ k r x bits h e p.
    let result = result_of x r.result (window_walk r.memory page (window_of x)).sum in
    record {
      few = omega (arith, length-append r.bits bits, p.few, bits_few x result e);
      fine = all_bits-append r.bits bits p.fine (bits_bits x result e);
    })
    0 (first_run m) xs (record { few = omega arith; fine = tt }))
