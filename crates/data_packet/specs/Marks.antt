-- Words changed by a rule at the places of cells: one law for marking, unmarking, zeroing and clearing, whatever the cells and however often they meet.
-- Assumes nothing.
use Rattle.std.specs.Prelude.{Bool, true, false, List, [], ◌∷◌, ◌++◌, ◌≡◌, refl, ℕ, ◌+◌, ◌/◌, ◌<◌, eqb, ltb, length, get_or, set}
use Rattle.std.proofs.Common.{sym, ap, subst, ◌∙◌, arith, length-set, get_or-set_same, get_or-set_other, eqb-true}
use Rattle.std.proofs.lemmas.Bool.{eqb-false}
use Rattle.ground.specs.Choice.{pick, pick_elim}
use Rattle.pages.specs.Layout.{place_of, within}
use Rattle.pages.specs.Meaning.{Walk, walk_at}
use Rattle.pages.specs.Passes.{left_of, mark, pass_of, seen, value_of}
use Rattle.pages.specs.Walks.{Under}
use Rattle.pages.specs.declared.Pass.{Pass}

-- a word changed by a rule
abbrev pub changed : (ℕ → ℕ) → List ℕ → ℕ → List ℕ
changed f m at = set m at (f (get_or m at 0))

-- every word at the places of cells changed by a rule, one cell after the other, in a memory of n words
abbrev pub touch : (ℕ → ℕ) → ℕ → Bool → List ℕ → List ℕ → List ℕ
touch f n page m [] = m
touch f n page m (cell ∷ cells) = touch f n page (changed f m (place_of n page cell)) cells

-- whether a place is one of those of cells
abbrev pub hit : ℕ → Bool → List ℕ → ℕ → Bool
hit n page [] i = false
hit n page (cell ∷ cells) i = pick (eqb (place_of n page cell) i) true (hit n page cells i)

-- to touch two lists of cells is to touch the first and then the second
pub touch-append : (f : ℕ → ℕ) (n : ℕ) (page : Bool) (m xs ys : List ℕ) → touch f n page m (xs ++ ys) ≡ touch f n page (touch f n page m xs) ys
touch-append f n page m [] ys = refl
touch-append f n page m (x ∷ xs) ys = touch-append f n page (changed f m (place_of n page x)) xs ys

-- touching keeps the memory's length
pub touch-length : (f : ℕ → ℕ) (n : ℕ) (page : Bool) (m xs : List ℕ) → length (touch f n page m xs) ≡ length m
touch-length f n page m [] = refl
touch-length f n page m (x ∷ xs) =
    let at = place_of n page x in
    touch-length f n page (changed f m at) xs ∙ length-set m at (f (get_or m at 0))

-- what a pass leaves of the memory is its rule at the places of its cells
pub pass_memory : (pass : Pass) (n : ℕ) (page : Bool) (w : Walk) (xs : List ℕ) → (pass_of pass n page w xs).memory ≡ touch (left_of pass) n page w.memory xs
pass_memory pass n page w [] = refl
pass_memory pass n page w (x ∷ xs) =
    let at = place_of n page x in
    pass_memory pass n page (walk_at (changed (left_of pass) w.memory at) (w.sum + value_of pass (get_or w.memory at 0))) xs

module _ (f : ℕ → ℕ) (once : (x : ℕ) → f (f x) ≡ f x) (n : ℕ) (page : Bool) where
  -- a rule that does nothing the second time has changed a word once where its place is one of the cells', else not
  pub touch_at : (m xs : List ℕ) (i : ℕ) → n ≡ length m → Under (n / 2) xs
      → get_or (touch f n page m xs) i 0 ≡ pick (hit n page xs i) (f (get_or m i 0)) (get_or m i 0)
  touch_at m [] i e u = refl
  touch_at m (x ∷ xs) i e u =
      touch_at after xs i (e ∙ sym (length-set m p (f (get_or m p 0)))) u.1
      ∙ pick_elim (λ (b : Bool). pick (hit n page xs i) (f (get_or after i 0)) (get_or after i 0) ≡ pick b (f (get_or m i 0)) (get_or m i 0))
      (eqb p i) true (hit n page xs i) (λ k. same (eqb-true _ _ k)) (λ k. other (eqb-false _ _ k))
    where
      p : ℕ
      p = place_of n page x

      after : List ℕ
      after = changed f m p

      here : p ≡ i → get_or after i 0 ≡ f (get_or m i 0)
      here k =
          ap (λ (j : ℕ). get_or after j 0) (sym k)
          ∙ get_or-set_same m p (f (get_or m p 0)) 0 (subst (λ (j : ℕ). p < j) e (within n page x u.0))
          ∙ ap (λ (j : ℕ). f (get_or m j 0)) k

      picked : (b : Bool) (y z : ℕ) → y ≡ z → f z ≡ z → pick b (f y) y ≡ z
      picked true y z k l = ap f k ∙ l
      picked false y z k l = k

      same : p ≡ i → pick (hit n page xs i) (f (get_or after i 0)) (get_or after i 0) ≡ f (get_or m i 0)
      same k = picked (hit n page xs i) _ (f (get_or m i 0)) (here k) (once (get_or m i 0))

      other : (p ≡ i → ⊥) → pick (hit n page xs i) (f (get_or after i 0)) (get_or after i 0) ≡ pick (hit n page xs i) (f (get_or m i 0)) (get_or m i 0)
      other k = ap (λ (y : ℕ). pick (hit n page xs i) (f y) y) (get_or-set_other m p i (f (get_or m p 0)) 0 (λ l. k (sym l)))

-- a cleared word
abbrev pub nought : ℕ → ℕ
nought x = 0

-- the rules do nothing the second time
pub left_once : (pass : Pass) (x : ℕ) → left_of pass (left_of pass x) ≡ left_of pass x
left_once Pass.Keep x = refl
left_once Pass.Clear x = refl
left_once Pass.Look x = refl
left_once Pass.Mark x = omega arith
left_once Pass.Unmark x = omega arith
left_once Pass.Zero x = pick_elim (λ (y : ℕ). seen y ≡ y) (ltb x mark) x 0 (λ k. rw k) (λ k. refl)
