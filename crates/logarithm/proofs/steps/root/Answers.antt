-- `logarithm::steps::root` meets its contract: each constant reaches its power, and the count before it does not, by computing.
-- Assumes nothing.
use mathlib.Core.Path.{◌≡◌, refl}
use mathlib.Core.Bool.{true}
use Prim.Native.Nat.{ℕ, ◌+◌}
use native.Mathlib.Omega.{arith}
use Rattle.logarithm.specs.Meaning.{twice_to_eighth}
use Rattle.logarithm.specs.Eighths.{First, is_first, first_computed}
use Rattle.logarithm.proofs.steps.root.Goals as goal

-- an arm answers the first count that reaches its power
at : {i r : ℕ} (n : ℕ) → i ≡ n → is_first (256 + n) r ≡ true → First (256 + i) r
at {i} {r} n e t = rw e (first_computed (256 + n) t)

pub returns-in-0 : goal.returns-in-0
unfolding twice_to_eighth
returns-in-0 c = at 0 c.in-0.is refl

pub returns-in-1 : goal.returns-in-1
unfolding twice_to_eighth
returns-in-1 c = at 1 c.in-1.is refl

pub returns-in-2 : goal.returns-in-2
unfolding twice_to_eighth
returns-in-2 c = at 2 c.in-2.is refl

pub returns-in-3 : goal.returns-in-3
unfolding twice_to_eighth
returns-in-3 c = at 3 c.in-3.is refl

pub returns-in-4 : goal.returns-in-4
unfolding twice_to_eighth
returns-in-4 c = at 4 c.in-4.is refl

pub returns-in-5 : goal.returns-in-5
unfolding twice_to_eighth
returns-in-5 c = at 5 c.in-5.is refl

pub returns-in-6 : goal.returns-in-6
unfolding twice_to_eighth
returns-in-6 c = at 6 c.in-6.is refl

pub returns-in_default : goal.returns-in_default
unfolding twice_to_eighth
returns-in_default c = at 7 (omega arith) refl
