-- `lines::put_bits` meets its contract. The loop's invariant: the bits passed are put.
-- Assumes nothing.
use Rattle.ground.specs.Putting.{Copied}
use Rattle.lines.proofs.Texts.{bit_text}
use Rattle.lines.proofs.text.put_bits.Given as goal

abbrev pub invariant-loop-i : goal.invariant-loop-i
invariant-loop-i l = Copied l.initial.room l.at (bit_text l.bytes l.count) l.room l.i
