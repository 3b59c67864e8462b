-- `pages::clear` meets its contract. The loop's invariant: the words before `i` are 0 and the rest are as they were.
-- Assumes nothing.
use Rattle.std.specs.Prelude.{◌≡◌, ◌++◌, length, replicate, drop}
use Rattle.pages.proofs.clear.Given as goal

abbrev pub invariant-loop-i : goal.invariant-loop-i
invariant-loop-i l = (length l.memory ≡ length l.initial.memory) × (l.memory ≡ replicate l.i 0 ++ drop l.i l.initial.memory)
