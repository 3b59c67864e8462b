-- `Cursor::field` meets its contract: after i turns x is the number of the field's first i bits.
-- Assumes nothing.
use native.Mathlib.Omega.{arith}
use Rattle.unpack.proofs.Parts.{bit_behind}
use Rattle.unpack.proofs.Reading.{field_turn, field_done}
use Rattle.unpack.proofs.cursor.Cursor.field.Goals as goal

pub loop-i-preserved : goal.loop-i-preserved
loop-i-preserved c =
    let here = c.args.self in
    let l = c.loop-i in
    field_turn here.bytes.now here.at _ l.i l.x _ c.loop-i-test.true (omega (arith, here.end_is)) c.requires.1 l.invariant.0
    (bit_behind here c.behind.result l.i c.behind.ensures c.bit.ensures.0)

pub returns : goal.returns
returns c =
    let here = c.args.self in
    let l = c.loop-i in
    field_done here.bytes.now here.at _ l.i l.x l.auto.i-end c.loop-i-test.false (omega (arith, here.end_is)) l.invariant.0
