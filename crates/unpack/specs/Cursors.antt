-- What a cursor has before it.
-- Assumes nothing.
use Rattle.std.specs.Prelude.{List, ℕ, drop}
use Rattle.code.specs.Meaning.{bits_that_count}
use Rattle.unpack.specs.declared.cursor.Cursor.{Cursor}

-- the bits that are left
abbrev pub bits_left : Cursor → List ℕ
bits_left here = drop here.at (bits_that_count here.bytes.now)
