-- The counts that a memory holds, and what walks do to them: what a clearing walk hands out is what the memory loses.
-- Assumes nothing.
use Rattle.std.specs.Prelude.{Bool, true, false, ◌≡◌, refl, List, [], ◌∷◌, ℕ, zero, suc, ◌+◌, ◌<◌, length, get_or, set, replicate}
use Rattle.std.proofs.Common.{ap, arith}
use Rattle.ground.specs.Choice.{pick}
use Rattle.pages.specs.Layout.{place_of}
use Rattle.pages.specs.Meaning.{Walk, visit_of, walk_at, walk_of}

-- the counts that a memory holds, both pages together
abbrev pub total : List ℕ → ℕ
total [] = 0
total (word ∷ words) = word + total words

-- a word replaced: the total changes by the difference
pub total_set : (l : List ℕ) (i v : ℕ) → i < length l → total (set l i v) + get_or l i 0 ≡ total l + v
total_set [] i v h = absurd (omega arith)
total_set (x ∷ xs) zero v h = omega arith
total_set (x ∷ xs) (suc i) v h =
    let ih : total (set xs i v) + get_or xs i 0 ≡ total xs + v = total_set xs i v (omega arith) in
    omega arith

-- a word cleared: the total loses what it held
pub total_clear : (l : List ℕ) (i : ℕ) → total (set l i 0) + get_or l i 0 ≡ total l
total_clear [] i = refl
total_clear (x ∷ xs) zero = omega arith
total_clear (x ∷ xs) (suc i) =
    let ih : total (set xs i 0) + get_or xs i 0 ≡ total xs = total_clear xs i in
    omega arith

-- a memory of zeros holds nothing
pub total_zeros : (n : ℕ) → total (replicate n 0) ≡ 0
total_zeros zero = refl
total_zeros (suc n) = omega (arith, total_zeros n)

-- a clearing walk moves counts from the memory to the sum
pub walk_clears : (page : Bool) (w : Walk) (cells : List ℕ) → total (walk_of page true w cells).memory + (walk_of page true w cells).sum
    ≡ total w.memory + w.sum
walk_clears page w [] = refl
walk_clears page w (x ∷ xs) =
    let ih : total (walk_of page true (visit_of page true w x) xs).memory + (walk_of page true (visit_of page true w x) xs).sum
    ≡ total (visit_of page true w x).memory + (visit_of page true w x).sum = walk_clears page (visit_of page true w x) xs in
    let one : total (set w.memory (place_of (length w.memory) page x) 0) + get_or w.memory (place_of (length w.memory) page x) 0 ≡ total w.memory
    = total_clear w.memory (place_of (length w.memory) page x) in
    omega arith

-- a keeping walk leaves the memory
pub walk_keeps : (page : Bool) (w : Walk) (cells : List ℕ) → (walk_of page false w cells).memory ≡ w.memory
walk_keeps page w [] = refl
walk_keeps page w (x ∷ xs) = walk_keeps page (visit_of page false w x) xs

-- what a walk from nothing leaves and hands out where it clears is what was there
pub walk_conserves : (page clear : Bool) (m : List ℕ) (cells : List ℕ)
    → total (walk_of page clear (walk_at m 0) cells).memory + pick clear (walk_of page clear (walk_at m 0) cells).sum 0
    ≡ total m + 0
walk_conserves page true m cells = walk_clears page (walk_at m 0) cells
walk_conserves page false m cells = ap (λ (l : List ℕ). total l + 0) (walk_keeps page (walk_at m 0) cells)
