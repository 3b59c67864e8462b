-- `crc::long` meets its contract. The loop's invariant: the fold and the bytes that are left take the register to the whole answer.
-- Assumes nothing.
use Prim.Native.Nat.{◌*◌}
use mathlib.Core.Path.{◌≡◌}
use lib.ListN.{drop}
use Rattle.crc.specs.Meaning.{run}
use Rattle.crc.specs.Folding.{register_of}
use Rattle.crc.proofs.long.Given as goal

abbrev pub invariant-loop-word : goal.invariant-loop-word
invariant-loop-word l = run (register_of l.fold) (drop (4 * l.word-index) (drop 16 l.bytes)) ≡ run 0xffff l.bytes
