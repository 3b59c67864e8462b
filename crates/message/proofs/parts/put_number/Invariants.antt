-- `message::put_number` meets its contract. The loop's invariant: the last bytes are put.
-- Assumes nothing.
use Rattle.message.proofs.Numbers.{Putting}
use Rattle.message.proofs.parts.put_number.Given as goal

abbrev pub invariant-loop-left : goal.invariant-loop-left
invariant-loop-left l = Putting l.initial.buffer l.at l.count l.value l.buffer l.left l.rest

abbrev pub decreases-loop-left : goal.decreases-loop-left
decreases-loop-left l = l.left
