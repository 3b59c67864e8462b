-- `crc::rest` meets its contract. The loop's invariant: the bytes that are left take the register to the whole answer.
-- Assumes nothing.
use Prim.Native.Nat.{◌<◌, ◌*◌, ◌^◌}
use mathlib.Core.Path.{◌≡◌}
use lib.ListN.{drop}
use Rattle.crc.specs.Meaning.{run}
use Rattle.crc.proofs.rest.Given as goal

abbrev pub invariant-loop-pair : goal.invariant-loop-pair
invariant-loop-pair l = (l.kept < 2 ^ 16) × (run l.kept (drop (2 * l.pair-index) l.bytes) ≡ run l.register l.bytes)
