-- Rows and windows, a cell and a row at a time: the steps of the loops over them.
-- Assumes nothing.
use mathlib.Core.Path.{◌≡◌, refl, sym}
use mathlib.Core.Bool.{Bool, ◌&&◌, and-true}
use mathlib.Core.List.{List}
use Prim.Native.Nat.{ℕ, ◌+◌, ◌/◌, ◌<◌}
use native.Mathlib.Numerals.{add-one}
use Rattle.std.specs.Prelude.{Ok}
use lib.Dec.{leb}
use lib.ListN.{length, get_or, set}
use Rattle.pages.specs.Layout.{place_of}
use Rattle.pages.specs.Meaning.{Walk, full, last_of, row_of, row_start, rows_in, sound_of, walk_at}
use Rattle.pages.specs.Outcomes.{checked_inside}
use Rattle.pages.specs.Passes.{left_of, pass_append, pass_of, value_of}
use Rattle.pages.specs.Promise.{CheckPromise}
use Rattle.pages.specs.Walks.{sound-append}
use Rattle.pages.specs.declared.Pass.{Pass}
use Rattle.pages.specs.declared.Window.{Window}

-- a window that was found sound has its last cell inside the page
pub inside : (m : List ℕ) (page : Bool) (w : Window) → CheckPromise m page w (Ok tt) → last_of w < length m / 2
inside m page w p = (checked_inside m page w (sym p.answer)).0

-- one cell more of a row checked
pub sound_cell : (m : List ℕ) (page : Bool) (start c : ℕ) {at : ℕ} {ok : Bool} → ok ≡ sound_of m page (row_of start c)
    → at ≡ place_of (length m) page (start + c) → (ok && leb (get_or m at 0) full) ≡ sound_of m page (row_of start (c + 1))
sound_cell m page start c i e = rw (add-one, sound-append, and-true, ← e, ← i)

-- one row more of a window checked
pub sound_step : (m : List ℕ) (page : Bool) (v : Window) (k : ℕ) {start width : ℕ} {ok l : Bool} → ok ≡ sound_of m page (rows_in v k)
    → start ≡ row_start v k → width ≡ v.xsize → l ≡ sound_of m page (row_of start (width + 1)) → (ok && l) ≡ sound_of m page (rows_in v (k + 1))
sound_step m page v k i e w f = rw (add-one k, sound-append, ← i, ← e, ← w, ← f)

-- one cell more of a row gone over
pub pass_cell : (pass : Pass) (n : ℕ) (page : Bool) (w : Walk) (m : List ℕ) (total start c at r : ℕ) (after : List ℕ)
    → walk_at m total ≡ pass_of pass n page w (row_of start c) → length m ≡ n → at ≡ place_of (length m) page (start + c)
    → r ≡ value_of pass (get_or m at 0) → after ≡ set m at (left_of pass (get_or m at 0))
    → walk_at after (total + r) ≡ pass_of pass n page w (row_of start (c + 1))
pass_cell pass n page w m total start c at r after i l e f g = rw (add-one, pass_append, ← i, ← l, ← e, ← f, ← g) refl

-- one row more of a window gone over
pub pass_step : (pass : Pass) (n : ℕ) (page : Bool) (w : Walk) (v : Window) (m : List ℕ) (total k : ℕ) {start width r : ℕ} (after : List ℕ)
    → walk_at m total ≡ pass_of pass n page w (rows_in v k) → length m ≡ n → start ≡ row_start v k → width ≡ v.xsize
    → walk_at after r ≡ pass_of pass (length m) page (walk_at m total) (row_of start (width + 1))
    → walk_at after r ≡ pass_of pass n page w (rows_in v (k + 1))
pass_step pass n page w v m total k after i l e x f = rw (add-one k, pass_append, ← i, ← e, ← x, ← l) f
