-- `lines::put_code` meets its contract.
-- Assumes nothing.
use mathlib.Core.Path.{refl}
use mir.Syntax.{w32}
use mir.ValLaws.{to_z-of_z}
use Rattle.lines.proofs.Texts.{code_next, code_asks, code_put}
use Rattle.lines.proofs.text.put_code.Goals as goal

pub unwrap-count-requires : goal.unwrap-count-requires
unwrap-count-requires c =
    let p = c.requires in
    let there = code_next refl (to_z-of_z w32 c.args.v c.ranges.v) p.1 p.2 c.pack.ensures in
    rw there

pub put_bits-requires : goal.put_bits-requires
put_bits-requires c =
    let p = c.requires in
    code_asks refl (to_z-of_z w32 c.args.v c.ranges.v) p.1 p.2 c.pack.ensures c.unwrap-count.ensures _ _ p.0

pub returns : goal.returns
returns c =
    let p = c.requires in
    code_put refl (to_z-of_z w32 c.args.v c.ranges.v) p.1 p.2 c.pack.ensures c.unwrap-count.ensures c.put_bits.ensures
