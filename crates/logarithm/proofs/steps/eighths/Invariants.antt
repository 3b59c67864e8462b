-- `logarithm::steps::eighths` meets its contract. The loop's invariant: of the eighths looked at so far, those that are reached.
-- Assumes nothing.
use Rattle.logarithm.specs.Eighths.{Eighths}
use Rattle.logarithm.proofs.steps.eighths.Given as goal

abbrev pub invariant-loop-eighth : goal.invariant-loop-eighth
invariant-loop-eighth l = Eighths l.eighth l.count l.reached
