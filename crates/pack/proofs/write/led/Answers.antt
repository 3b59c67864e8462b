-- `pack::write::led` meets its contract: after the run of ones stand parity and field, of 16 to 31 the field alone.
-- Assumes nothing.
use mathlib.Core.Path.{sym, ap, ◌∙◌}
use native.Mathlib.Omega.{arith}
use lib.ListN.{length, length-append}
use Rattle.code.specs.Shapes.{below_led}
use Rattle.pack.proofs.Writing.{field_fits, held_length}
use Rattle.pack.proofs.write.led.Goals as goal

pub of-field-requires : goal.of-field-requires
of-field-requires c =
    let k = c.leading-k in
    let a = c.args in (
      field_fits a.drop a.sign a.m k.result _ _ k.ensures.0 c.left_out-left.ensures (c.from.ensures ∙ c.below.ensures) c.requires.0 k.ensures.1,
      omega (arith, k.ensures.2),
    )

pub then-requires : goal.then-requires
then-requires c =
    omega (arith, c.leading-k.ensures.2, ap length c.of.ensures, held_length _ _ (sym c.of-field.ensures))

pub coded-requires-2 : goal.coded-requires-2
coded-requires-2 c =
    let k = c.leading-k in
    let b = below_led k.result c.requires.0 k.ensures.1 in (
      c.requires.1,
      omega (
        arith,
        b.half,
        k.ensures.2,
        c.left_out-left.ensures,
        ap length c.then.ensures,
        length-append c.of.result c.of-field.result,
        ap length c.of.ensures,
        held_length _ _ (sym c.of-field.ensures),
      ),
    )
