-- `logarithm::steps::first` meets its contract: the first count of so many eighths, halved and rounded up.
-- Assumes nothing.
use mathlib.Core.Path.{◌≡◌, subst}
use Prim.Native.Nat.{ℕ, ◌+◌, ◌-◌, ◌*◌, ◌/◌, ◌%◌}
use native.Mathlib.Omega.{arith}
use Rattle.logarithm.specs.Eighths.{First, first_some, first_halved}
use Rattle.logarithm.proofs.steps.first.Goals as goal

pub overflow_sub-before : goal.overflow_sub-before
overflow_sub-before c = first_some c.root-before.ensures

pub returns : goal.returns
returns c =
    let code = c.args.code in
    let raised : 256 + code % 8 ≡ code + 8 * (32 - code / 8) = omega arith in
    first_halved code (32 - code / 8) (subst (λ (v : ℕ). First v c.root-before.result) raised c.root-before.ensures)
