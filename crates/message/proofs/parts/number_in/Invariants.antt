-- `message::number_in` meets its contract. The loop's invariant: the bytes passed are in the value.
-- Assumes nothing.
use Rattle.message.proofs.Numbers.{Summed}
use Rattle.message.proofs.parts.number_in.Given as goal

abbrev pub invariant-loop-byte : goal.invariant-loop-byte
invariant-loop-byte l = Summed l.bytes l.value l.byte-index
