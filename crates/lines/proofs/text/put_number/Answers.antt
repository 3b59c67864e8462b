-- `lines::put_number` meets its contract.
-- Assumes nothing.
use mir.Syntax.{w32}
use mir.ValLaws.{to_z-of_z}
use native.Mathlib.Omega.{arith}
use mathlib.Core.Path.{sym, ap, subst}
use Prim.Native.Nat.{ℕ, ◌≤◌}
use lib.IntN.{nat_abs}
use Rattle.code.specs.Meaning.{largest}
use Rattle.code.specs.Shapes.{none, three}
use Rattle.lines.proofs.Texts.{number_put}
use Rattle.lines.proofs.text.put_number.Goals as goal

pub put_spaced-first-requires : goal.put_spaced-first-requires
put_spaced-first-requires c = (
  omega (arith, c.put_value-value.ensures.1, c.put_value-value.ensures.0.long, c.requires.0),
  subst (λ (n : ℕ). n ≤ largest) (ap nat_abs (sym (to_z-of_z w32 c.args.v c.ranges.v))) c.requires.1,
  search (none, three),
)

pub put_spaced-second-requires : goal.put_spaced-second-requires
put_spaced-second-requires c = (
  omega (
    arith,
    c.put_value-value.ensures.1,
    c.put_value-value.ensures.0.long,
    c.put_spaced-first.ensures.1,
    c.put_spaced-first.ensures.0.long,
    c.requires.0,
  ),
  subst (λ (n : ℕ). n ≤ largest) (ap nat_abs (sym (to_z-of_z w32 c.args.v c.ranges.v))) c.requires.1,
  search (none, three),
)

pub returns : goal.returns
returns c =
    number_put _ c.args.v (to_z-of_z w32 c.args.v c.ranges.v) (omega (arith, c.requires.0)) c.put_value-value.ensures.0
    c.put_spaced-first.ensures.0 c.put_spaced-second.ensures.0 c.put_byte.ensures.0
