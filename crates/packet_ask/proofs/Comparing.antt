-- Whether the kept table is another one, item after item.
-- Assumes nothing.
use mathlib.Core.Path.{◌≡◌, refl, sym, ap, ap₂, ◌∙◌}
use mathlib.Core.Bool.{Bool, true, false, ◌&&◌, and_assoc, and-true}
use mathlib.Core.List.{List, [], ◌∷◌}
use Prim.Native.Nat.{ℕ, suc, ◌+◌, ◌<◌, ◌≤◌, zero-le}
use native.Mathlib.Numerals.{add-one}
use native.Mathlib.Omega.{arith}
use lib.Dec.{eqb}
use lib.ListN.{drop, drop_of_length-le, get_or, length, length-drop, length-take}
use lib.Seq.{drop-cons, get_or-drop, get_or-take}
use Rattle.state.specs.Turns.{same_items}
use Rattle.state.specs.Words.{inputs_in, item_count_in, items_at, state_words}

-- tables of different lengths are different
pub not_as_many : (x y : List ℕ) → (length x ≡ length y → ⊥) → false ≡ same_items x y
not_as_many [] [] d = absurd (d refl)
not_as_many [] (b ∷ y) d = refl
not_as_many (a ∷ x) [] d = refl
not_as_many (a ∷ x) (b ∷ y) d = later (eqb a b) (not_as_many x y (λ e. d (ap suc e)))
  where
    later : (t : Bool) {s : Bool} → false ≡ s → false ≡ t && s
    later true e = e
    later false e = refl

module _ (l : List ℕ) (h : state_words ≤ length l) where
  -- the kept table has as many items as are said
  pub table_long : length (inputs_in l).items ≡ item_count_in l
  table_long = length-take (item_count_in l) (drop items_at l) ∙ omega (arith, length-drop items_at l)

  -- another number of items
  pub other_count : (items : List ℕ) {count : ℕ} → count ≡ item_count_in l → (count ≡ length items → ⊥) → false ≡ same_items (inputs_in l).items items
  other_count items e d = not_as_many (inputs_in l).items items (λ f. d (e ∙ sym table_long ∙ f))

-- whether the items before `i` are those of the kept table, which has as many, is said, and with it the rest decides
pub record Alike (l items : List ℕ) (count : ℕ) (same : Bool) (i : ℕ) : Type 0 where
  pub words : state_words ≤ length l
  pub counted : count ≡ item_count_in l
  pub as_many : count ≡ length items
  pub within : i ≤ count
  pub rest : same_items (inputs_in l).items items ≡ same && same_items (drop i (inputs_in l).items) (drop i items)

pub alike_none : (l items : List ℕ) {count : ℕ} → state_words ≤ length l → count ≡ item_count_in l → count ≡ length items → Alike l items count true 0
alike_none l items h e f = record { words = h; counted = e; as_many = f; within = zero-le; rest = refl }

module _ {l items : List ℕ} {count i : ℕ} {same : Bool} (a : Alike l items count same i) where
  -- all were compared
  pub alike_all : count ≤ i → same ≡ same_items (inputs_in l).items items
  alike_all h =
      let kept = (inputs_in l).items in
      let long : length kept ≡ item_count_in l = table_long l a.words in
      sym
      (a.rest
      ∙ ap (λ (b : Bool). same && b)
      (ap₂ same_items (drop_of_length-le kept {i = i} (omega (arith, a.counted))) (drop_of_length-le items {i = i} (omega (arith, a.as_many))))
      ∙ and-true same)

  -- one item more was compared
  pub alike_more : i < count → {one : Bool} → one ≡ eqb (get_or l (items_at + i) 0) (get_or items i 0) → Alike l items count (same && one) (i + 1)
  alike_more h {one} e =
      let kept = (inputs_in l).items in
      let long : length kept ≡ item_count_in l = table_long l a.words in
      let word : get_or kept i 0 ≡ get_or l (items_at + i) 0
      = get_or-take (item_count_in l) (drop items_at l) i 0 (omega (arith, a.counted)) ∙ get_or-drop items_at l i 0 in
      record {
        words = a.words;
        counted = a.counted;
        as_many = a.as_many;
        within = omega arith;
        rest =
            a.rest
            ∙ ap (λ (b : Bool). same && b)
            (ap₂ same_items (drop-cons kept i 0 (omega (arith, a.counted))) (drop-cons items i 0 (omega (arith, a.as_many)))
            ∙ ap (λ (x : ℕ). eqb x (get_or items i 0) && same_items (drop (suc i) kept) (drop (suc i) items)) word
            ∙ ap (λ (b : Bool). b && same_items (drop (suc i) kept) (drop (suc i) items)) (sym e)
            ∙ ap (λ (n : ℕ). one && same_items (drop n kept) (drop n items)) (sym (add-one i)))
            ∙ sym (and_assoc same one (same_items (drop (i + 1) kept) (drop (i + 1) items)));
      }
