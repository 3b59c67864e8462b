-- `lines::run` meets its contract. The loop's invariant: the run from where it stands is the whole run.
-- Assumes nothing.
use Rattle.lines.proofs.Answering.{Running}
use Rattle.lines.proofs.run.Given as goal

abbrev pub invariant-loop-used : goal.invariant-loop-used
invariant-loop-used l = Running l.initial.room l.input l.initial.current l.room l.current l.used l.put
