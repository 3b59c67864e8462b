-- `pages::walk::walk_row` meets its contract: one cell more.
-- Assumes nothing.
use native.Mathlib.Omega.{arith}
use Rattle.pages.proofs.Walking.{pass_cell}
use Rattle.pages.proofs.walk.walk_row.Goals as goal

pub loop-column-preserved : goal.loop-column-preserved
loop-column-preserved c =
    let visit = c.visit-total.ensures in
    let loop = c.loop-column in
    record {
      walked = pass_cell _ _ _ _ loop.memory loop.total _ _ _ _ _ loop.invariant.walked loop.auto.memory c.place-at.ensures.0 visit.value.0
          visit.memory_after;
      small = omega (arith, visit.value.1);
    }
