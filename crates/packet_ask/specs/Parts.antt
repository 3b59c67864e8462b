-- Parts of words that others were put over: what lies before, what was put, what lies past.
-- Assumes nothing.
use Rattle.std.specs.Prelude.{◌≡◌, refl, List, [], ◌∷◌, ℕ, zero, suc, ◌+◌, ◌-◌, ◌<◌, ◌≤◌, drop, get_or, length, take}
use Rattle.std.proofs.Common.{sym, ap, ◌∙◌, suc-add, zero-add, arith, drop_at, drop-drop, get_or-take, length-take-le, take_at, take-take}
use Rattle.std.proofs.Math.Seq.{drop-append-add, take-nil}
use Rattle.std.proofs.lemmas.List.{take-append-le}
use Rattle.ground.specs.Putting.{put}

-- what follows a part is a part of what follows
drop-take : (a n : ℕ) (l : List ℕ) → drop a (take (a + n) l) ≡ take n (drop a l)
drop-take zero n l = ap (λ (k : ℕ). take k l) (zero-add n)
drop-take (suc a) n [] = ap (drop (suc a)) (take-nil (suc a + n)) ∙ sym (take-nil n)
drop-take (suc a) n (x ∷ xs) = ap (λ (k : ℕ). drop (suc a) (take k (x ∷ xs))) (suc-add a n) ∙ drop-take a n xs

-- words with the same front say the same at a place of it
pub place_same : (l k : List ℕ) (n i : ℕ) → i < n → take n l ≡ take n k → get_or l i 0 ≡ get_or k i 0
place_same l k n i h e = sym (get_or-take n l i 0 h) ∙ ap (λ (x : List ℕ). get_or x i 0) e ∙ get_or-take n k i 0 h

-- and in a part of it
pub part_same : (l k : List ℕ) (a n b : ℕ) → a + n ≤ b → take b l ≡ take b k → take n (drop a l) ≡ take n (drop a k)
part_same l k a n b h e =
    sym (drop-take a n l) ∙ ap (drop a) (sym (take-take (a + n) b l h) ∙ ap (take (a + n)) e ∙ take-take (a + n) b k h) ∙ drop-take a n k

module _ (l : List ℕ) (at : ℕ) (part : List ℕ) where
  -- the front before what was put
  pub put_before : (n : ℕ) → n ≤ at → at ≤ length l → take n (put l at part) ≡ take n l
  put_before n h g =
      take-append-le n (take at l) _ (omega (arith, length-take-le at l g)) ∙ take-take n at l h

  -- what was put
  pub put_there : at ≤ length l → take (length part) (drop at (put l at part)) ≡ part
  put_there g = ap (take (length part)) (drop_at (take at l) _ at (length-take-le at l g)) ∙ take_at part _ (length part) refl

  -- what lies past it
  pub put_past : (n : ℕ) → at + length part ≤ n → at ≤ length l → drop n (put l at part) ≡ drop n l
  put_past n h g =
      let rest : ℕ = n - (at + length part) in
      let far : at + (length part + rest) ≡ n = omega arith in
      let all : at + length part + rest ≡ n = omega arith in
      ap (λ (k : ℕ). drop k (put l at part)) (sym far)
      ∙ sym (drop-drop (length part + rest) at (put l at part))
      ∙ ap (drop (length part + rest)) (drop_at (take at l) _ at (length-take-le at l g))
      ∙ drop-append-add part (drop (at + length part) l) rest
      ∙ drop-drop rest (at + length part) l
      ∙ ap (λ (k : ℕ). drop k l) all
