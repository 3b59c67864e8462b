-- Passes over the cells of a window: what is seen of each word, and what is left of it. Taking a window is a pass that keeps or clears.
-- Assumes nothing.
use Rattle.std.specs.Prelude.{Bool, true, false, ◌≡◌, refl, List, [], ◌∷◌, ◌++◌, ℕ, ◌+◌, ◌/◌, ◌%◌, ◌<◌, ltb, length, get_or, set}
use Rattle.std.proofs.Common.{ap, ap₂, sym, ◌∙◌, lt-ltb}
use Rattle.std.proofs.lemmas.List.{set-get_or}
use Rattle.ground.specs.Choice.{pick}
use Rattle.ground.specs.Outcome.{Outcome, refuse}
use Rattle.pages.specs.Layout.{place_of}
use Rattle.pages.specs.Meaning.{Walk, cells_of, last_of, visit_of, walk_at, walk_of, walk_taken, window_walk}
use Rattle.pages.specs.Walks.{visit_length}
use Rattle.pages.specs.declared.Pass.{Pass}
use Rattle.pages.specs.declared.Window.{Window}

-- the mark of a word that was cleared on trial: bit 31, which no count has
abbrev pub mark : ℕ
mark = 2147483648

-- what a word counts on trial: 0 where it is marked
abbrev pub seen : ℕ → ℕ
seen word = pick (ltb word mark) word 0

-- what a pass leaves of a word
abbrev pub left_of : Pass → ℕ → ℕ
left_of Pass.Keep word = word
left_of Pass.Clear word = 0
left_of Pass.Look word = word
left_of Pass.Mark word = word % mark + mark
left_of Pass.Unmark word = word % mark
left_of Pass.Zero word = seen word

-- what a pass sees of a word
abbrev pub value_of : Pass → ℕ → ℕ
value_of Pass.Keep word = word
value_of Pass.Clear word = word
value_of Pass.Look word = seen word
value_of Pass.Mark word = seen word
value_of Pass.Unmark word = seen word
value_of Pass.Zero word = seen word

-- one word passed: what is seen of it added, and what is left of it put
abbrev pub place_pass : Pass → Walk → ℕ → Walk
place_pass pass w at =
    walk_at (set w.memory at (left_of pass (get_or w.memory at 0))) (w.sum + value_of pass (get_or w.memory at 0))

-- the cells passed one after the other, in a memory of n words
abbrev pub pass_of : Pass → ℕ → Bool → Walk → List ℕ → Walk
pass_of pass n page w [] = w
pass_of pass n page w (cell ∷ cells) = pass_of pass n page (place_pass pass w (place_of n page cell)) cells

-- how a window is taken: each word set to 0 where it clears, else kept
abbrev pub take_pass : Bool → Pass
take_pass clear = pick clear Pass.Clear Pass.Keep

-- the pass over the cells of a window, from nothing
abbrev pub window_pass : List ℕ → Bool → Pass → Window → Walk
window_pass memory page pass w = pass_of pass (length memory) page (walk_at memory 0) (cells_of w)

-- a window gone over; refusal 14
unfoldable pub pass_means : List ℕ → Bool → Pass → Window → Outcome ℕ (List ℕ)
pass_means memory page pass w =
    pick (ltb (last_of w) (length memory / 2)) (walk_taken (window_pass memory page pass w)) (refuse 14 memory)

-- a window whose last cell is inside the page is gone over
pub pass_inside : (m : List ℕ) (page : Bool) (pass : Pass) (w : Window) → last_of w < length m / 2
    → pass_means m page pass w ≡ walk_taken (window_pass m page pass w)
unfolding pass_means
pass_inside m page pass w h = rw (lt-ltb _ _ h)

-- to pass two lists of cells is to pass the first and then the second
pub pass_append : (pass : Pass) (n : ℕ) (page : Bool) (w : Walk) (xs ys : List ℕ)
    → pass_of pass n page w (xs ++ ys) ≡ pass_of pass n page (pass_of pass n page w xs) ys
pass_append pass n page w [] ys = refl
pass_append pass n page w (x ∷ xs) ys = pass_append pass n page (place_pass pass w (place_of n page x)) xs ys

-- a pass that clears or keeps is the walk of taking a window
pub pass_walk : (clear : Bool) (n : ℕ) (page : Bool) (w : Walk) (xs : List ℕ) → n ≡ length w.memory
    → pass_of (take_pass clear) n page w xs ≡ walk_of page clear w xs
pass_walk clear n page w [] e = refl
pass_walk true n page w (x ∷ xs) e =
    ap (λ (k : ℕ). pass_of Pass.Clear n page (place_pass Pass.Clear w (place_of k page x)) xs) e
    ∙ pass_walk true n page (visit_of page true w x) xs (e ∙ sym (visit_length page true w x))
pass_walk false n page w (x ∷ xs) e =
    ap₂ (λ (l : List ℕ) (k : ℕ). pass_of Pass.Keep n page (walk_at l (w.sum + get_or w.memory (place_of k page x) 0)) xs)
    (set-get_or w.memory (place_of n page x) 0) e
    ∙ pass_walk false n page (visit_of page false w x) xs e

-- a window taken is a window passed
pub window_walk_lem : (m : List ℕ) (page : Bool) (w : Window) → window_pass m page (take_pass w.clear) w ≡ window_walk m page w
window_walk_lem m page w = pass_walk w.clear (length m) page (walk_at m 0) (cells_of w) refl
