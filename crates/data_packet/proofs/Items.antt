-- A table's items, one at a time: the steps of the loops over them.
-- Assumes nothing.
use mathlib.Core.Path.{◌≡◌, refl, ap, ap₂, sym, ◌∙◌}
use mathlib.Core.Bool.{Bool, true, false}
use mathlib.Core.List.{List, [], ◌∷◌, ◌++◌, append-nil}
use Prim.Native.Nat.{ℕ, ◌+◌, ◌/◌, ◌≤◌, ◌<◌}
use native.Mathlib.Numerals.{add-one}
use lib.ListN.{length, get_or, take}
use lib.Seq.{take-suc}
use Rattle.std.specs.Prelude.{Result, Ok, Err, is_err}
use Rattle.ground.specs.Outcome.{Outcome, outcome_of}
use Rattle.ground.specs.Paper.{accepted, accepted_same, refused_not}
use Rattle.ground.specs.Questions.{both_ways}
use Rattle.item.specs.Meaning.{window_of}
use Rattle.pages.specs.Meaning.{Walk, cells_of, check_means, last_of, walk_at, walk_taken}
use Rattle.pages.specs.Passes.{left_of, pass_inside, pass_of}
use Rattle.pages.specs.Promise.{CheckPromise, PassPromise}
use Rattle.pages.specs.declared.NotTaken.{NotTaken}
use Rattle.pages.specs.declared.Pass.{Pass}
use Rattle.pages.specs.declared.Window.{Window}
use Rattle.pages.specs.declared.WrongCell.{WrongCell}
use Rattle.data_packet.specs.Marks.{pass_memory, touch, touch-append}
use Rattle.data_packet.specs.Running.{Fair, cleared_by, cleared_of, cleared-append}

-- ---- which items may be taken

-- one more item at the end
fair_append : (o : List ℕ) (page : Bool) (xs : List ℕ) (x : ℕ) → Fair o page xs → check_means o page (window_of x) ≡ accepted tt
    → Fair o page (xs ++ (x ∷ []))
fair_append o page [] x u e = (e, tt)
fair_append o page (y ∷ ys) x u e = (u.0, fair_append o page ys x u.1 e)

-- one item more that may be taken
pub fair_more : (o : List ℕ) (page : Bool) (table : List ℕ) (i : ℕ) {w : Window} (r : Result (Unit {0}) NotTaken) → i < length table
    → Fair o page (take i table) → w ≡ window_of (get_or table i 0) → CheckPromise o page w r → is_err r ≡ false → Fair o page (take (i + 1) table)
fair_more o page table i (Ok x) h u e p k =
    rw (add-one, take-suc table i 0 h)
    (fair_append o page (take i table) (get_or table i 0) u (sym (p.answer ∙ ap (check_means o page) e)))
fair_more o page table i (Err why) h u e p k = absurd (both_ways refl k)

-- ---- passes over windows

-- a pass over a window inside the page answers its sum
pub record PassedInside (m : List ℕ) (page : Bool) (rule : Pass) (w : Window) (q : Result ℕ WrongCell) (after : List ℕ) : Type 0 where
  pub sum : ℕ
  pub is : q ≡ Ok sum
  pub walked : walk_at after sum ≡ pass_of rule (length m) page (walk_at m 0) (cells_of w)
  pub small : sum ≤ 281474976710656

pub passed_inside : (m : List ℕ) (page : Bool) (rule : Pass) (w : Window) (q : Result ℕ WrongCell) (after : List ℕ) → last_of w < length m / 2
    → PassPromise m page rule w q after → PassedInside m page rule w q after
passed_inside m page rule w (Ok r) after h p =
    let a : outcome_of (accepted r) after ≡ walk_taken (pass_of rule (length m) page (walk_at m 0) (cells_of w)) =
    p.outcome ∙ pass_inside m page rule w h in
    record {
      sum = r;
      is = refl;
      walked =
          ap₂ (λ (x : List ℕ) (y : ℕ). walk_at x y) (ap (λ (o : Outcome ℕ (List ℕ)). o.leaves) a)
          (accepted_same (ap (λ (o : Outcome ℕ (List ℕ)). o.answer) a));
      small = p.small r refl;
    }
passed_inside m page rule w (Err why) after h p =
    absurd (refused_not (ap (λ (o : Outcome ℕ (List ℕ)). o.answer) (p.outcome ∙ pass_inside m page rule w h)))

-- one item more passed over, where its window clears
pub settle_more : (pass : Pass) (n : ℕ) (page : Bool) (m₀ m after table : List ℕ) (i r : ℕ) (w : Window) → i < length table → length m ≡ n
    → m ≡ touch (left_of pass) n page m₀ (cleared_of (take i table)) → w ≡ window_of (get_or table i 0) → w.clear ≡ true
    → walk_at after r ≡ pass_of pass (length m) page (walk_at m 0) (cells_of w)
    → after ≡ touch (left_of pass) n page m₀ (cleared_of (take (i + 1) table))
settle_more pass n page m₀ m after table i r w h l e k c f =
    let g : after ≡ touch (left_of pass) (length m) page m (cleared_by w) =
    rw c (ap (λ (x : Walk). x.memory) f ∙ pass_memory pass (length m) page (walk_at m 0) (cells_of w)) in
    rw (add-one, take-suc table i 0 h, cleared-append, append-nil, touch-append, ← e, ← k, ← l) g

-- one that keeps is not passed over
pub settle_kept : (pass : Pass) (n : ℕ) (page : Bool) (m₀ m table : List ℕ) (i : ℕ) (w : Window) → i < length table
    → m ≡ touch (left_of pass) n page m₀ (cleared_of (take i table)) → w ≡ window_of (get_or table i 0) → w.clear ≡ false
    → m ≡ touch (left_of pass) n page m₀ (cleared_of (take (i + 1) table))
settle_kept pass n page m₀ m table i w h e k c =
    rw (add-one, take-suc table i 0 h, cleared-append, append-nil, ← k, c, append-nil) e
