-- `logarithm::steps::eighths` meets its contract. The loop's invariant: of the eighths looked at so far, those that are reached.
-- Assumes nothing.
use native.Mathlib.Nat.{add-zero}
use Rattle.logarithm.specs.Eighths.{eighths_none, eighths_more, first_missed, first_reached}
use Rattle.logarithm.proofs.steps.eighths.Goals.{then-root-count, else-root-count}
use Rattle.logarithm.proofs.steps.eighths.Goals as goal

pub loop-eighth-init : goal.loop-eighth-init
loop-eighth-init c = eighths_none c.requires.0

pub loop-eighth-preserved : goal.loop-eighth-preserved
loop-eighth-preserved c =
    elim c.if-root-count.branch [
      | then-root-count w ↦ rw (w.reached-is) (eighths_more {r = 1} c.loop-eighth.invariant (rw (first_reached c.root.ensures w.if-root-count.true)))
      | else-root-count w ↦
          rw (w.reached-is) (rw add-zero at (eighths_more {r = 0} c.loop-eighth.invariant (rw (first_missed c.root.ensures w.if-root-count.false))))
    ]
