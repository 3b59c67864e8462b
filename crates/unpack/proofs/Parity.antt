-- What follows a run of two ones or more: the parity, and the field behind it.
-- Assumes nothing.
use mathlib.Core.Path.{◌≡◌, refl, sym, ap, ap₂, ◌∙◌}
use mathlib.Core.List.{List, ◌∷◌}
use Prim.Native.Nat.{ℕ, zero, suc, ◌+◌, ◌*◌, ◌-◌, ◌<◌, ◌≤◌}
use native.Mathlib.Numerals.{add-one}
use native.Mathlib.Omega.{arith}
use lib.ListN.{length, drop, get_or}
use lib.Seq.{drop-cons}
use borrow.Author.Tests.{lt-leb}
use Rattle.ground.specs.Paper.{Paper, refused}
use Rattle.code.specs.Meaning.{ShapeValues, width, ones_of, led_then, greatest_place}
use Rattle.code.specs.Shapes.{Drop, none, three, width_is}
use Rattle.code.specs.Missing.{behind_run}
use Rattle.unpack.specs.Steps.{rest_answer, run_answer, led_answer}

-- the width of the field after two ones or more: "the first j+1-drop bits after the leading one"
pub run_wide : (d drop ones p : ℕ) → Drop d → drop ≡ d → 2 ≤ ones → p < 2 → ones + 1 - drop ≡ width d (2 * ones + 1 + p)
run_wide d drop ones p dr e two bit =
    let run : ones_of (2 * ones + 1 + p) ≡ ones = omega arith in
    ap₂ (λ (n m : ℕ). n + 1 - m) (sym run) e ∙ sym (width_is d (2 * ones + 1 + p) dr (omega arith))

-- the parity is the first of the bits behind its run
after_parity : {d : ℕ} (ones n : ℕ) → Drop d → suc (suc ones) + 1 - d - n ≡ behind_run d (suc (suc ones)) - suc n
after_parity ones n none = omega arith
after_parity ones n three = omega arith

-- after a run of two ones or more, the parity and its field
pub parity_there : (l : List ℕ) (at end d s ones p : ℕ) {r : Paper ShapeValues} → Drop d → end ≡ length l → at < end → (ones ≡ 0 → ⊥) → (ones ≡ 1 → ⊥)
    → p ≡ get_or l at 0 → p < 2 → r ≡ led_answer d end s (2 * ones + 1 + p) (drop (at + 1) l) → r ≡ run_answer d end s ones (drop at l)
parity_there l at end d s zero p dr e h a b q bit r = absurd (a refl)
parity_there l at end d s (suc zero) p dr e h a b q bit r = absurd (b refl)
parity_there l at end d s (suc (suc ones)) p dr e h a b q bit r =
    let j : ℕ = suc (suc ones) in
    let k : ℕ = 2 * j + 1 + p in
    let rest : List ℕ = drop (at + 1) l in
    let first : drop at l ≡ p ∷ rest = drop-cons l at 0 (omega arith) ∙ ap₂ ◌∷◌ (sym q) (ap (λ (n : ℕ). drop n l) (sym (add-one at))) in
    let left : width d k - length rest ≡ behind_run d j - suc (length rest)
    = ap (λ (w : ℕ). w - length rest) (sym (run_wide d d j p dr refl (omega arith) bit)) ∙ after_parity ones (length rest) dr in
    r
    ∙ ap (λ (n : ℕ). rest_answer d end n (led_then greatest_place d s k rest)) left
    ∙ ap (run_answer d end s j) (sym first)

-- a place that is above the greatest: the run is too long, whatever follows
pub parity_above : (l : List ℕ) (at end d s ones p : ℕ) → Drop d → end ≡ length l → at < end → (ones ≡ 0 → ⊥) → (ones ≡ 1 → ⊥) → p ≡ get_or l at 0
    → p < 2 → greatest_place < 2 * ones + 1 + p → refused 11 ≡ run_answer d end s ones (drop at l)
parity_above l at end d s ones p dr e h a b q bit above =
    parity_there l at end d s ones p dr e h a b q bit (rw (lt-leb (2 * ones + 1 + p) greatest_place above))
