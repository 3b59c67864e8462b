-- `trial::trial` meets its contract: one item more is tried, and its bits have room behind those before it.
-- Assumes nothing.
use native.Mathlib.Omega.{arith}
use lib.ListN.{take}
use lib.Seq.{length-take-le, take_all}
use Rattle.data_packet.proofs.Trying.{at_most, first_long, sums_more, traced_more}
use Rattle.data_packet.proofs.trial.trial.Goals as goal

pub loop-item-preserved : goal.loop-item-preserved
loop-item-preserved c =
    let inv = c.loop-item.invariant in
    let i = c.loop-item.item-index in
    let far = at_most _ _ _ (take i c.args.items.now) (first_long c.args.bytes.now c.requires.room.0) inv.0 in
    let sums = sums_more i c.try_item-found.ensures inv.1 inv.2 in (
      traced_more _ _ _ c.args.items.now i (omega arith) c.loop-item.auto.memory inv.0 c.try_item-found.ensures
          (omega (arith, far, length-take-le i c.args.items.now (omega arith))),
      sums.0,
      sums.1,
    )

pub returns : goal.returns
returns c =
    let loop = c.loop-item in
    let all = take_all loop.item-index c.args.items.now c.loop-item-test.false in
    let traced = rw all at loop.invariant.0 in
    record { traced = traced; few = omega (arith, at_most _ _ _ c.args.items.now (first_long c.args.bytes.now c.requires.room.0) traced) }
