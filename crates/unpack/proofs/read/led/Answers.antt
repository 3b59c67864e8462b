-- `unpack::read::led` meets its contract: the field is there or bits ran out, and whatever it holds is inside the rule.
-- Assumes nothing.
use native.Mathlib.Omega.{arith}
use Rattle.code.specs.Shapes.{drop_of}
use Rattle.code.specs.Numbers.{power_is}
use Rattle.unpack.proofs.Parts.{led_fits}
use Rattle.unpack.proofs.read.led.Goals as goal

pub fill-requires : goal.fill-requires
fill-requires c =
    let p = c.requires in
    let fits = led_fits _ _ c.args.place _ c.field-x.result (drop_of _ c.args.here.known) p.0 p.1 p.2 p.3 c.field-x.ensures.1 in
    (omega (arith, p.2), omega (arith, fits))

pub overflow_add-result : goal.overflow_add-result
overflow_add-result c =
    let p = c.requires in
    let fits = led_fits _ _ c.args.place _ c.field-x.result (drop_of _ c.args.here.known) p.0 p.1 p.2 p.3 c.field-x.ensures.1 in
    let lead = power_is c.args.place _ c.power.ensures (omega (arith, p.2)) in
    omega (arith, fits, lead, c.fill.ensures)
