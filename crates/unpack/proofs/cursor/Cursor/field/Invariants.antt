-- `Cursor::field` meets its contract: after i turns x is the number of the field's first i bits.
-- Assumes nothing.
use mathlib.Core.Path.{◌≡◌}
use Prim.Native.Nat.{◌<◌}
use lib.ListN.{take, drop}
use Rattle.code.specs.Meaning.{from_bits, bits_that_count}
use Rattle.unpack.proofs.cursor.Cursor.field.Given as goal

abbrev pub invariant-loop-i : goal.invariant-loop-i
invariant-loop-i l = (l.x ≡ from_bits (take l.i (drop l.self.at (bits_that_count l.self.bytes.now)))) × (l.x < 65536)
