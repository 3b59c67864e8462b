-- `pages::walk::walk_window` meets its contract: one row more.
-- Assumes nothing.
use native.Mathlib.Omega.{arith}
use Rattle.pages.proofs.Walking.{pass_step}
use Rattle.pages.proofs.walk.walk_window.Goals as goal

pub loop-row-preserved : goal.loop-row-preserved
loop-row-preserved c =
    let walked = c.walk_row-sum.ensures in
    let loop = c.loop-row in
    record {
      walked = pass_step _ _ _ _ c.args.window loop.memory loop.sum _ _ loop.invariant.walked loop.auto.memory c.row_start.ensures.0 c.from-width.ensures
          walked.result_after;
      small = omega (arith, walked.upper_bound, c.from-width.ensures);
    }
