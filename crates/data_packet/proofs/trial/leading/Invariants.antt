-- `trial::leading` meets its contract. The loop's invariant: the items before this one may be taken.
-- Assumes nothing.
use lib.ListN.{take}
use Rattle.data_packet.specs.Running.{Fair}
use Rattle.data_packet.proofs.trial.leading.Given as goal

abbrev pub invariant-loop-i : goal.invariant-loop-i
invariant-loop-i l = Fair l.memory l.page (take l.i l.items)
