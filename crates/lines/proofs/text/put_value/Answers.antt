-- `lines::put_value` meets its contract.
-- Assumes nothing.
use mir.Syntax.{w32}
use mir.ValLaws.{to_z-of_z}
use native.Mathlib.Omega.{arith}
use Rattle.lines.proofs.Texts.{value_minus, value_plus}
use Rattle.lines.proofs.text.put_value.Goals as goal

pub returns-then-sign-eq1 : goal.returns-then-sign-eq1
returns-then-sign-eq1 c =
    value_minus _ c.args.v (to_z-of_z w32 c.args.v c.ranges.v) c.sign.ensures.answer
    c.magnitude.ensures c.if-sign-eq1.true (omega (arith, c.requires.0))
    c.put_byte-after.ensures.0 c.put_decimal.ensures

pub returns-else-sign-eq1 : goal.returns-else-sign-eq1
returns-else-sign-eq1 c =
    value_plus _ c.args.v (to_z-of_z w32 c.args.v c.ranges.v)
    c.sign.ensures.answer c.magnitude-else-sign-eq1.ensures c.if-sign-eq1.false c.put_decimal-else-sign-eq1.ensures
