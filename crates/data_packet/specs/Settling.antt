-- Marks in place of zeros: a trial over marked words sees what the walks over cleared words see, and the marks can be settled both ways.
-- Assumes nothing.
use Rattle.std.specs.Prelude.{Bool, true, false, ◌&&◌, List, [], ◌∷◌, ◌≡◌, refl, ℕ, ◌+◌, ◌/◌, ◌%◌, ◌≤◌, ◌<◌, eqb, leb, length, get_or, set}
use Rattle.std.proofs.Common.{sym, ap, ap₂, subst, ◌∙◌, arith, length-set, get_or-set_same, get_or-set_other, ext_get_or, eqb-true, lt-ltb, le-ltb, leb-true}
use Rattle.std.proofs.Common.{le-leb}
use Rattle.std.proofs.lemmas.List.{set-get_or}
use Rattle.std.proofs.lemmas.Bool.{eqb-false}
use Rattle.ground.specs.Choice.{pick, pick_elim}
use Rattle.ground.specs.Questions.{both_hold, both_ways}
use Rattle.pages.specs.Layout.{place_of, within}
use Rattle.pages.specs.Meaning.{Walk, cells_of, check_means, full, sound_of, visit_of, walk_at, walk_of, word_of}
use Rattle.pages.specs.Passes.{left_of, mark, pass_of, seen}
use Rattle.pages.specs.Walks.{Under, visit_length}
use Rattle.pages.specs.declared.Pass.{Pass}
use Rattle.pages.specs.declared.Window.{Window}
use Rattle.data_packet.specs.Marks.{changed, hit, left_once, nought, touch, touch_at, touch-length}

-- a word at most full is seen as it is
seen_low : (x : ℕ) → x ≤ full → seen x ≡ x
seen_low x h = rw (lt-ltb x mark (omega arith))

-- a marked word is seen as 0
seen_marked : (x : ℕ) → seen (x % mark + mark) ≡ 0
seen_marked x = rw (le-ltb (x % mark + mark) mark (omega arith))

-- what is left when the mark is taken away
plain_marked : (x : ℕ) → x ≤ full → (x % mark + mark) % mark ≡ x
plain_marked x h = omega arith

-- a walk's memory: the words of its cells set to 0 where it clears
pub walk_memory : (n : ℕ) (page clear : Bool) (w : Walk) (xs : List ℕ) → n ≡ length w.memory
    → (walk_of page clear w xs).memory ≡ pick clear (touch nought n page w.memory xs) w.memory
walk_memory n page true w [] e = refl
walk_memory n page true w (x ∷ xs) e =
    walk_memory n page true (visit_of page true w x) xs (e ∙ sym (visit_length page true w x))
    ∙ ap (λ (k : ℕ). touch nought n page (set w.memory (place_of k page x) 0) xs) (sym e)
walk_memory n page false w [] e = refl
walk_memory n page false w (x ∷ xs) e = walk_memory n page false (visit_of page false w x) xs e

-- the words of sound cells are at most full
sound_hit : (o : List ℕ) (page : Bool) (xs : List ℕ) (i : ℕ) → sound_of o page xs ≡ true → hit (length o) page xs i ≡ true → get_or o i 0 ≤ full
sound_hit o page [] i s h = absurd (both_ways h refl)
sound_hit o page (x ∷ xs) i s h =
    pick_elim (λ (b : Bool). b ≡ true → get_or o i 0 ≤ full) (eqb (place_of (length o) page x) i) true (hit (length o) page xs i)
    (λ k l. subst (λ (j : ℕ). get_or o j 0 ≤ full) (eqb-true _ _ k) (leb-true _ _ split.0))
    (λ k l. sound_hit o page xs i split.1 l)
    h
  where
    split : (leb (word_of o page x) full ≡ true) × (sound_of o page xs ≡ true)
    split = both_hold {a = leb (word_of o page x) full} s

module _ (o : List ℕ) (page : Bool) (xs : List ℕ) (u : Under (length o / 2) xs) where
  -- the memory marked, and the memory cleared
  abbrev marked : List ℕ
  marked = touch (left_of Pass.Mark) (length o) page o xs

  abbrev pub cleared : List ℕ
  cleared = touch nought (length o) page o xs

  -- the two, word by word
  marked_at : (i : ℕ) → get_or marked i 0 ≡ pick (hit (length o) page xs i) (get_or o i 0 % mark + mark) (get_or o i 0)
  marked_at i = touch_at (left_of Pass.Mark) (left_once Pass.Mark) (length o) page o xs i refl u

  cleared_at : (i : ℕ) → get_or cleared i 0 ≡ pick (hit (length o) page xs i) 0 (get_or o i 0)
  cleared_at i = touch_at nought (λ x. refl) (length o) page o xs i refl u

  -- the marked words settled by a pass, word by word
  settled_at : (pass : Pass) (i : ℕ)
      → get_or (touch (left_of pass) (length o) page marked xs) i 0 ≡ pick (hit (length o) page xs i) (left_of pass (get_or o i 0 % mark + mark)) (get_or o i 0)
  settled_at pass i =
      touch_at (left_of pass) (left_once pass) (length o) page marked xs i (sym (touch-length (left_of Pass.Mark) (length o) page o xs)) u
      ∙ ap (λ (y : ℕ). pick (hit (length o) page xs i) (left_of pass y) y) (marked_at i)
      ∙ twice (hit (length o) page xs i)
    where
      twice : (b : Bool) → pick b (left_of pass (pick b (get_or o i 0 % mark + mark) (get_or o i 0))) (pick b (get_or o i 0 % mark + mark) (get_or o i 0))
          ≡ pick b (left_of pass (get_or o i 0 % mark + mark)) (get_or o i 0)
      twice true = refl
      twice false = refl

  -- settling keeps the length
  long : (pass : Pass) → length (touch (left_of pass) (length o) page marked xs) ≡ length o
  long pass = touch-length (left_of pass) (length o) page marked xs ∙ touch-length (left_of Pass.Mark) (length o) page o xs

  -- refused: the marks taken away, the memory is as it was
  pub unmarked : sound_of o page xs ≡ true → touch (left_of Pass.Unmark) (length o) page marked xs ≡ o
  unmarked s = ext_get_or 0 _ o (long Pass.Unmark) (λ i l. settled_at Pass.Unmark i ∙ at i)
    where
      at : (i : ℕ) → pick (hit (length o) page xs i) ((get_or o i 0 % mark + mark) % mark) (get_or o i 0) ≡ get_or o i 0
      at i =
          pick_elim (λ (y : ℕ). y ≡ get_or o i 0) (hit (length o) page xs i) _ _
          (λ h. plain_marked (get_or o i 0) (sound_hit o page xs i s h)) (λ h. refl)

  -- accepted: the marked words set to 0, the memory is that of the walks
  pub zeroed : touch (left_of Pass.Zero) (length o) page marked xs ≡ cleared
  zeroed =
      ext_get_or 0 _ _ (long Pass.Zero ∙ sym (touch-length nought (length o) page o xs))
      (λ i l. settled_at Pass.Zero i ∙ ap (λ (y : ℕ). pick (hit (length o) page xs i) y (get_or o i 0)) (seen_marked (get_or o i 0)) ∙ sym (cleared_at i))

  module _ (s : sound_of o page xs ≡ true) where
    -- a word is at most full after sound cells were cleared exactly where it was before
    cleared_word : (i : ℕ) → leb (get_or cleared i 0) full ≡ leb (get_or o i 0) full
    cleared_word i = ap (λ (y : ℕ). leb y full) (cleared_at i) ∙ same
      where
        same : leb (pick (hit (length o) page xs i) 0 (get_or o i 0)) full ≡ leb (get_or o i 0) full
        same =
            pick_elim (λ (y : ℕ). leb y full ≡ leb (get_or o i 0) full) (hit (length o) page xs i) 0 (get_or o i 0)
            (λ h. sym (le-leb _ _ (sound_hit o page xs i s h))) (λ h. refl)

    -- and so for cells
    cleared_sound : (ys : List ℕ) → sound_of cleared page ys ≡ sound_of o page ys
    cleared_sound [] = refl
    cleared_sound (y ∷ ys) =
        ap₂ ◌&&◌
        (ap (λ (k : ℕ). leb (get_or cleared (place_of k page y) 0) full) (touch-length nought (length o) page o xs) ∙ cleared_word (place_of (length o) page y))
        (cleared_sound ys)

    -- a check after sound cells were cleared says what it says before
    pub same_check : (w : Window) → check_means cleared page w ≡ check_means o page w
    unfolding check_means
    same_check w = rw (touch-length nought (length o) page o xs, cleared_sound (cells_of w))

-- the pass of a trial over an item that clears or not
abbrev pub trial_pass : Bool → Pass
trial_pass clear = pick clear Pass.Mark Pass.Look

-- where the memory o was at most full, the trial sees in its memory m what is in the walks' memory d
abbrev pub Sees : List ℕ → List ℕ → List ℕ → Type 0
Sees o m d = (i : ℕ) → get_or o i 0 ≤ full → seen (get_or m i 0) ≡ get_or d i 0

-- so at the start
pub sees_first : (o : List ℕ) → Sees o o o
sees_first o i h = seen_low (get_or o i 0) h

-- and after a word was marked here and cleared there
sees_mark : (o m d : List ℕ) (p : ℕ) → p < length m → p < length d → Sees o m d → Sees o (changed (left_of Pass.Mark) m p) (set d p 0)
sees_mark o m d p h k s i l =
    pick_elim (λ (b : Bool). b ≡ eqb p i → seen (get_or (changed (left_of Pass.Mark) m p) i 0) ≡ get_or (set d p 0) i 0) (eqb p i) true false
    (λ e f. subst (λ (j : ℕ). seen (get_or (changed (left_of Pass.Mark) m p) j 0) ≡ get_or (set d p 0) j 0) (eqb-true p i e)
    (ap seen (get_or-set_same m p _ 0 h) ∙ seen_marked (get_or m p 0) ∙ sym (get_or-set_same d p 0 0 k)))
    (λ e f. ap seen (get_or-set_other m p i _ 0 (λ q. eqb-false p i e (sym q))) ∙ s i l ∙ sym (get_or-set_other d p i 0 0 (λ q. eqb-false p i e (sym q))))
    (pick_self (eqb p i))
  where
    pick_self : (b : Bool) → pick b true false ≡ b
    pick_self true = refl
    pick_self false = refl

module _ (o : List ℕ) (page : Bool) where
  -- where a cell's word lies
  abbrev p : ℕ → ℕ
  p x = place_of (length o) page x

  -- the first of sound cells is at most full
  low : (x : ℕ) (xs : List ℕ) → sound_of o page (x ∷ xs) ≡ true → get_or o (p x) 0 ≤ full
  low x xs k = leb-true _ _ (both_hold {a = leb (word_of o page x) full} k).0

  -- and the later ones are sound
  later : (x : ℕ) (xs : List ℕ) → sound_of o page (x ∷ xs) ≡ true → sound_of o page xs ≡ true
  later x xs k = (both_hold {a = leb (word_of o page x) full} k).1

  -- a trial and a walk stand alike: they have the same sum, and the trial sees what the walk left
  pub record Alike (t w : Walk) : Type 0 where
    pub sums : t.sum ≡ w.sum
    pub sees : Sees o t.memory w.memory

  -- a trial's pass over cells stands to their walk as it stood before
  pub trial_walk : (clear : Bool) (xs m d : List ℕ) (s : ℕ) → length m ≡ length o → length d ≡ length o → Under (length o / 2) xs → sound_of o page xs ≡ true
      → Sees o m d → Alike (pass_of (trial_pass clear) (length o) page (walk_at m s) xs) (walk_of page clear (walk_at d s) xs)
  trial_walk clear [] m d s lm ld u k h = record { sums = refl; sees = h }
  trial_walk true (x ∷ xs) m d s lm ld u k h =
      let at = p x in
      let m' = changed (left_of Pass.Mark) m at in
      subst (λ (w : Walk). Alike (pass_of Pass.Mark (length o) page (walk_at m' (s + seen (get_or m at 0))) xs) (walk_of page true w xs))
      (ap₂ (λ (n v : ℕ). walk_at (set d (place_of n page x) 0) (s + v)) (sym ld)
      (h at (low x xs k) ∙ ap (λ (n : ℕ). get_or d (place_of n page x) 0) (sym ld)))
      (trial_walk true xs m' (set d at 0) (s + seen (get_or m at 0)) (length-set m at _ ∙ lm) (length-set d at 0 ∙ ld) u.1 (later x xs k)
      (sees_mark o m d at (subst (λ (n : ℕ). at < n) (sym lm) (within (length o) page x u.0))
      (subst (λ (n : ℕ). at < n) (sym ld) (within (length o) page x u.0)) h))
  trial_walk false (x ∷ xs) m d s lm ld u k h =
      let at = p x in
      let m' = changed (left_of Pass.Look) m at in
      subst (λ (w : Walk). Alike (pass_of Pass.Look (length o) page (walk_at m' (s + seen (get_or m at 0))) xs) (walk_of page false w xs))
      (ap (λ (v : ℕ). walk_at d (s + v)) (h at (low x xs k) ∙ ap (λ (n : ℕ). get_or d (place_of n page x) 0) (sym ld)))
      (trial_walk false xs m' d (s + seen (get_or m at 0)) (length-set m at _ ∙ lm) ld u.1 (later x xs k) (rw set-get_or h))
