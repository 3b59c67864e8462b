-- The trial of items on marked memory, and what it says of the run of them: the three ways in which a run ends.
-- Assumes nothing.
use Rattle.std.specs.Prelude.{Bool, true, false, ◌&&◌, ◌≡◌, ℕ, ◌/◌, ◌<◌, length, get_or, ltb}
use mathlib.Core.List.{List, [], ◌∷◌, ◌++◌, append_assoc, append-nil}
use Rattle.std.proofs.Math.Path.{refl}
use Rattle.std.proofs.Common.{sym, ap, ap₂, subst, ◌∙◌, ltb-true}
use Rattle.std.proofs.lemmas.List.{set-get_or}
use Rattle.ground.specs.Choice.{pick, pick_elim}
use Rattle.ground.specs.Paper.{Paper, accepted, refusal, refused, onward, mapped, refused_not}
use Rattle.item.specs.Bits.{bits_elim}
use Rattle.item.specs.Meaning.{item_bits, window_of}
use Rattle.pages.specs.Layout.{place_of}
use Rattle.pages.specs.Meaning.{Walk, cells_of, check_means, last_of, sound_of, take_means, walk_at, walk_of, window_walk}
use Rattle.pages.specs.Passes.{left_of, pass_of}
use Rattle.pages.specs.Walks.{Under, cells_all_under, sound-append, under_append}
use Rattle.pages.specs.declared.Pass.{Pass}
use Rattle.pages.specs.declared.Window.{Window}
use Rattle.data_packet.specs.Marks.{changed, nought, pass_memory, touch, touch-append, touch-length}
use Rattle.data_packet.specs.Meaning.{Run, first_run, item_means, next_run, result_of, run_items}
use Rattle.data_packet.specs.Settling.{Alike, Sees, same_check, sees_first, trial_walk, trial_pass, unmarked, walk_memory, zeroed}

-- ---- the trial

-- a trial: the run so far on marked memory, and whether every sent result fits its format
pub record Tried : Type 0 where
  pub run : Run
  pub fits : Bool

-- whether a paper accepts
abbrev pub yes : {A : Type 0} → Paper A → Bool
yes (accepted x) = true
yes (refusal n carried) = false

-- the bits that are sent, none where they are refused
abbrev pub bits_or : Paper (List ℕ) → List ℕ
bits_or (accepted l) = l
bits_or (refusal n carried) = []

-- an item tried after its window was passed over
abbrev pub tried_item : ℕ → Tried → Walk → Tried
tried_item x t w =
    let bits = item_bits x (result_of x t.run.result w.sum) in
    record { run = next_run x t.run w.memory w.sum (bits_or bits); fits = t.fits && yes bits }

-- the pass over an item's window
abbrev pub item_pass : ℕ → Bool → List ℕ → ℕ → Walk
item_pass n page m x = pass_of (trial_pass (window_of x).clear) n page (walk_at m 0) (cells_of (window_of x))

-- one item tried, in a memory of n words
abbrev pub try_item : ℕ → Bool → Tried → ℕ → Tried
try_item n page t x = tried_item x t (item_pass n page t.run.memory x)

-- items tried in order
abbrev pub try_items : ℕ → Bool → Tried → List ℕ → Tried
try_items n page t [] = t
try_items n page t (x ∷ xs) = try_items n page (try_item n page t x) xs

-- before the first item
abbrev pub begun : List ℕ → Tried
begun o = record { run = first_run o; fits = true }

-- to try two tables is to try the first and then the second
pub try_append : (n : ℕ) (page : Bool) (t : Tried) (xs ys : List ℕ) → try_items n page t (xs ++ ys) ≡ try_items n page (try_items n page t xs) ys
try_append n page t [] ys = refl
try_append n page t (x ∷ xs) ys = try_append n page (try_item n page t x) xs ys

-- the cells that an item clears
abbrev pub cleared_by : Window → List ℕ
cleared_by w = pick w.clear (cells_of w) []

-- the cells that items clear
abbrev pub cleared_of : List ℕ → List ℕ
cleared_of [] = []
cleared_of (x ∷ xs) = cleared_by (window_of x) ++ cleared_of xs

-- those of two tables
pub cleared-append : (xs ys : List ℕ) → cleared_of (xs ++ ys) ≡ cleared_of xs ++ cleared_of ys
cleared-append [] ys = refl
cleared-append (x ∷ xs) ys =
    ap (λ (l : List ℕ). cleared_by (window_of x) ++ l) (cleared-append xs ys) ∙ sym (append_assoc (cleared_by (window_of x)) (cleared_of xs) (cleared_of ys))

-- what does not fit is not mended by later items
unfit : (n : ℕ) (page : Bool) (t : Tried) (xs : List ℕ) → t.fits ≡ false → (try_items n page t xs).fits ≡ false
unfit n page t [] e = e
unfit n page t (x ∷ xs) e =
    unfit n page (try_item n page t x) xs
    (ap (λ (b : Bool). b && yes (item_bits x (result_of x t.run.result (item_pass n page t.run.memory x).sum))) e)

-- ---- which items may be taken

-- a window that may be taken has its last cell under N and sound cells
pub record Takable (m : List ℕ) (page : Bool) (w : Window) : Type 0 where
  pub inside : last_of w < length m / 2
  pub sound : sound_of m page (cells_of w) ≡ true

pub takable : (m : List ℕ) (page : Bool) (w : Window) → check_means m page w ≡ accepted tt → Takable m page w
unfolding check_means
takable m page w =
    pick_elim (λ (a : Paper (Unit {0})). a ≡ accepted tt → Takable m page w) (ltb (last_of w) (length m / 2)) _ _
    (λ h. pick_elim (λ (a : Paper (Unit {0})). a ≡ accepted tt → Takable m page w) (sound_of m page (cells_of w)) _ _
    (λ k e. record { inside = ltb-true _ _ h; sound = k })
    (λ k e. absurd (refused_not e)))
    (λ h e. absurd (refused_not e))

-- whether an item's window may be taken
abbrev pub fair_of : List ℕ → Bool → ℕ → Bool
fair_of m page x = yes (check_means m page (window_of x))

-- the windows of the first items of a table end under N
abbrev pub Inside : ℕ → List ℕ → ℕ → Type 0
Inside n table good = (i : ℕ) → i < good → last_of (window_of (get_or table i 0)) < n / 2

-- every item's window may be taken, as the memory is at the start
abbrev pub Fair : List ℕ → Bool → List ℕ → Type 0
Fair o page [] = Unit {0}
Fair o page (x ∷ xs) = (check_means o page (window_of x) ≡ accepted tt) × Fair o page xs

-- ---- trial and run side by side

-- how the trial's memory m and the run's memory d stand to the memory o at the start, after the cells of cs were cleared
pub record Stand (o : List ℕ) (page : Bool) (cs m d : List ℕ) : Type 0 where
  pub under : Under (length o / 2) cs
  pub sound : sound_of o page cs ≡ true
  pub marked : m ≡ touch (left_of Pass.Mark) (length o) page o cs
  pub cleared : d ≡ touch nought (length o) page o cs
  pub sees : Sees o m d

-- to look at words leaves them
touch_look : (n : ℕ) (page : Bool) (m xs : List ℕ) → touch (left_of Pass.Look) n page m xs ≡ m
touch_look n page m [] = refl
touch_look n page m (x ∷ xs) = touch_look n page (changed (left_of Pass.Look) m (place_of n page x)) xs ∙ set-get_or m (place_of n page x) 0

-- at the start
stand_first : (o : List ℕ) (page : Bool) → Stand o page [] o o
stand_first o page = record { under = tt; sound = refl; marked = refl; cleared = refl; sees = sees_first o }

module _ (o : List ℕ) (page : Bool) where
  -- one window walked in the trial and in the run: the same sum, and they stand as before
  pub record Walked (cs cells : List ℕ) (t w : Walk) : Type 0 where
    pub sums : t.sum ≡ w.sum
    pub stand : Stand o page (cs ++ cells) t.memory w.memory

  stand_walk : (clear : Bool) (xs cs m d : List ℕ) → Stand o page cs m d → Under (length o / 2) xs → sound_of o page xs ≡ true
      → Walked cs (pick clear xs []) (pass_of (trial_pass clear) (length o) page (walk_at m 0) xs) (walk_of page clear (walk_at d 0) xs)
  stand_walk clear xs cs m d s u k =
      record {
        sums = both.sums;
        stand =
            record {
              under = under_append (length o / 2) cs (pick clear xs []) s.under (picked_under clear);
              sound = sound-append o page cs (pick clear xs []) ∙ ap₂ ◌&&◌ s.sound (picked_sound clear);
              marked = pass_memory (trial_pass clear) (length o) page (walk_at m 0) xs ∙ marks clear;
              cleared = walk_memory (length o) page clear (walk_at d 0) xs (sym long_d) ∙ clears clear;
              sees = both.sees;
            };
      }
    where
      long_m : length m ≡ length o
      long_m = ap length s.marked ∙ touch-length (left_of Pass.Mark) (length o) page o cs

      long_d : length d ≡ length o
      long_d = ap length s.cleared ∙ touch-length nought (length o) page o cs

      both : Alike o page (pass_of (trial_pass clear) (length o) page (walk_at m 0) xs) (walk_of page clear (walk_at d 0) xs)
      both = trial_walk o page clear xs m d 0 long_m long_d u k s.sees

      picked_under : (b : Bool) → Under (length o / 2) (pick b xs [])
      picked_under true = u
      picked_under false = tt

      picked_sound : (b : Bool) → sound_of o page (pick b xs []) ≡ true
      picked_sound true = k
      picked_sound false = refl

      marks : (b : Bool) → touch (left_of (trial_pass b)) (length o) page m xs ≡ touch (left_of Pass.Mark) (length o) page o (cs ++ pick b xs [])
      marks true =
          ap (λ (l : List ℕ). touch (left_of Pass.Mark) (length o) page l xs) s.marked
          ∙ sym (touch-append (left_of Pass.Mark) (length o) page o cs xs)
      marks false = touch_look (length o) page m xs ∙ s.marked ∙ ap (touch (left_of Pass.Mark) (length o) page o) (sym (append-nil cs))

      clears : (b : Bool) → pick b (touch nought (length o) page d xs) d ≡ touch nought (length o) page o (cs ++ pick b xs [])
      clears true = ap (λ (l : List ℕ). touch nought (length o) page l xs) s.cleared ∙ sym (touch-append nought (length o) page o cs xs)
      clears false = s.cleared ∙ ap (touch nought (length o) page o) (sym (append-nil cs))

  -- one item in the trial and in the run
  stand_item : (x : ℕ) (cs m d : List ℕ) → Stand o page cs m d → check_means o page (window_of x) ≡ accepted tt
      → Walked cs (cleared_by (window_of x)) (item_pass (length o) page m x) (window_walk d page (window_of x))
  stand_item x cs m d s e =
      let t = takable o page (window_of x) e in
      stand_walk (window_of x).clear (cells_of (window_of x)) cs m d s (cells_all_under (length o / 2) (window_of x) t.inside) t.sound

  -- the check on the run's memory says what the check on the memory at the start says
  check_then : (x : ℕ) (cs m d : List ℕ) → Stand o page cs m d → check_means d page (window_of x) ≡ check_means o page (window_of x)
  check_then x cs m d s = ap (λ (l : List ℕ). check_means l page (window_of x)) s.cleared ∙ same_check o page cs s.under s.sound (window_of x)

-- a run on another memory
abbrev pub with_memory : List ℕ → Run → Run
with_memory d r = record { memory = d; result = r.result; total = r.total; bits = r.bits }

module _ (o : List ℕ) (page : Bool) where
  -- an item that may be taken: what it means, by its trial
  item_tried : (x : ℕ) (t : Tried) (cs d : List ℕ) → Stand o page cs t.run.memory d → check_means o page (window_of x) ≡ accepted tt
      → item_means page (with_memory d t.run) x
      ≡ mapped (λ bits. with_memory (window_walk d page (window_of x)).memory (next_run x t.run d (item_pass (length o) page t.run.memory x).sum bits))
      (item_bits x (result_of x t.run.result (item_pass (length o) page t.run.memory x).sum))
  unfolding take_means
  item_tried x t cs d s e =
      rw (check_then o page x cs t.run.memory d s, e)
      (ap (λ (own : ℕ). mapped (next_run x (with_memory d t.run) (window_walk d page (window_of x)).memory own) (item_bits x (result_of x t.run.result own)))
      (sym (stand_item o page x cs t.run.memory d s e).sums))

  -- the trial's next step on the run's memory
  abbrev after : (x : ℕ) → Tried → List ℕ → Paper (List ℕ) → Tried
  after x t d bits =
      record {
        run = next_run x t.run (item_pass (length o) page t.run.memory x).memory (item_pass (length o) page t.run.memory x).sum (bits_or bits);
        fits = t.fits && yes bits;
      }

  -- items that may all be taken: the run of them, and what follows, by their trial
  pub run_tried : (xs ys : List ℕ) (t : Tried) (cs d : List ℕ) → t.fits ≡ true → Stand o page cs t.run.memory d → Fair o page xs
      → run_items page (with_memory d t.run) (xs ++ ys)
      ≡ pick (try_items (length o) page t xs).fits
      (run_items page (with_memory (touch nought (length o) page o (cs ++ cleared_of xs)) (try_items (length o) page t xs).run) ys) (refused 12)
  run_tried [] ys t cs d f s u = rw (f, append-nil) (ap (λ (l : List ℕ). run_items page (with_memory l t.run) ys) s.cleared)
  run_tried (x ∷ xs) ys t cs d f s u =
      ap (onward (λ (q : Run). run_items page q (xs ++ ys))) (item_tried x t cs d s u.0)
      ∙ bits_elim
      (λ (b : Paper (List ℕ)). onward (λ (q : Run). run_items page q (xs ++ ys))
      (mapped (λ bits. with_memory (window_walk d page (window_of x)).memory (next_run x t.run d (item_pass (length o) page t.run.memory x).sum bits)) b)
      ≡ pick (try_items (length o) page (after x t d b) xs).fits
      (run_items page (with_memory (touch nought (length o) page o (cs ++ (cleared_by (window_of x) ++ cleared_of xs)))
      (try_items (length o) page (after x t d b) xs).run) ys) (refused 12))
      x (result_of x t.run.result (item_pass (length o) page t.run.memory x).sum)
      (λ l. run_tried xs ys (after x t d (accepted l)) (cs ++ cleared_by (window_of x)) (window_walk d page (window_of x)).memory
      (ap (λ (b : Bool). b && true) f) (stand_item o page x cs t.run.memory d s u.0).stand u.1
      ∙ ap (λ (l' : List ℕ). pick (try_items (length o) page (after x t d (accepted l)) xs).fits
      (run_items page (with_memory (touch nought (length o) page o l') (try_items (length o) page (after x t d (accepted l)) xs).run) ys) (refused 12))
      (append_assoc cs (cleared_by (window_of x)) (cleared_of xs)))
      (rw (unfit (length o) page (after x t d (refused 12)) xs (ap (λ (b : Bool). b && false) f)))

  -- how the memories stand after the trial
  tried_stand : (xs : List ℕ) (t : Tried) (cs d : List ℕ) → Stand o page cs t.run.memory d → Fair o page xs
      → Stand o page (cs ++ cleared_of xs) (try_items (length o) page t xs).run.memory (touch nought (length o) page o (cs ++ cleared_of xs))
  tried_stand [] t cs d s u = rw append-nil (subst (λ (l : List ℕ). Stand o page cs t.run.memory l) s.cleared s)
  tried_stand (x ∷ xs) t cs d s u =
      subst (λ (l : List ℕ). Stand o page l (try_items (length o) page (try_item (length o) page t x) xs).run.memory (touch nought (length o) page o l))
      (append_assoc cs (cleared_by (window_of x)) (cleared_of xs))
      (tried_stand xs (try_item (length o) page t x) (cs ++ cleared_by (window_of x)) (window_walk d page (window_of x)).memory
      (stand_item o page x cs t.run.memory d s u.0).stand u.1)

  -- ---- how a run ends, from the start

  -- the trial of items from the start
  abbrev pub tried_all : List ℕ → Tried
  tried_all xs = try_items (length o) page (begun o) xs

  -- the memory with the items' cells cleared
  abbrev pub cleared_all : List ℕ → List ℕ
  cleared_all xs = touch nought (length o) page o (cleared_of xs)

  -- every item may be taken and fits
  pub ends_well : (xs : List ℕ) → Fair o page xs → (tried_all xs).fits ≡ true
      → run_items page (first_run o) xs ≡ accepted (with_memory (cleared_all xs) (tried_all xs).run)
  ends_well xs u f =
      ap (run_items page (first_run o)) (sym (append-nil xs))
      ∙ run_tried xs [] (begun o) [] o refl (stand_first o page) u ∙ rw f

  -- an item is too large
  pub ends_by_12 : (xs ys : List ℕ) → Fair o page xs → (tried_all xs).fits ≡ false → run_items page (first_run o) (xs ++ ys) ≡ refused 12
  ends_by_12 xs ys u f = run_tried xs ys (begun o) [] o refl (stand_first o page) u ∙ rw f

  -- the first item that may not be taken
  pub ends_by_check : (xs ys : List ℕ) (x n : ℕ) → Fair o page xs → (tried_all xs).fits ≡ true → check_means o page (window_of x) ≡ refused n
      → run_items page (first_run o) (xs ++ (x ∷ ys)) ≡ refused n
  unfolding take_means
  ends_by_check xs ys x n u f e =
      run_tried xs (x ∷ ys) (begun o) [] o refl (stand_first o page) u
      ∙ rw (f, check_then o page x (cleared_of xs) (tried_all xs).run.memory (cleared_all xs) (tried_stand xs (begun o) [] o (stand_first o page) u), e)

  -- the marks of the trial taken away: the memory as it was
  pub settled_back : (xs : List ℕ) → Fair o page xs → touch (left_of Pass.Unmark) (length o) page (tried_all xs).run.memory (cleared_of xs) ≡ o
  settled_back xs u =
      let s = tried_stand xs (begun o) [] o (stand_first o page) u in
      ap (λ (l : List ℕ). touch (left_of Pass.Unmark) (length o) page l (cleared_of xs)) s.marked ∙ unmarked o page (cleared_of xs) s.under s.sound

  -- the marked words set to 0: the memory of the run
  pub settled_zero : (xs : List ℕ) → Fair o page xs → touch (left_of Pass.Zero) (length o) page (tried_all xs).run.memory (cleared_of xs) ≡ cleared_all xs
  settled_zero xs u =
      let s = tried_stand xs (begun o) [] o (stand_first o page) u in
      ap (λ (l : List ℕ). touch (left_of Pass.Zero) (length o) page l (cleared_of xs)) s.marked ∙ zeroed o page (cleared_of xs) s.under
