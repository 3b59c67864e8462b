-- `pack::write::put_part` meets its contract: the byte that holds the position is stored with its last bits replaced.
-- Assumes nothing.
use Rattle.code.specs.Positions.{position_inside}
use Rattle.pack.proofs.Writing.{part_stored}
use native.Mathlib.Omega.{arith}
use Rattle.pack.proofs.write.put_part.Goals as goal

pub bounds-buffer-i : goal.bounds-buffer-i
bounds-buffer-i c = omega (arith, position_inside c.args.buffer.now c.args.at c.requires.0)

pub bounds-buffer-i-2 : goal.bounds-buffer-i-2
bounds-buffer-i-2 c =
    omega (arith, position_inside c.args.buffer.now c.args.at c.requires.0)

pub returns : goal.returns
returns c =
    let a = c.args in
    part_stored a.buffer.now a.at c.from.result c.room_at.result c.filled-byte.result a.number
    (position_inside _ _ c.requires.0) c.from.ensures c.room_at.ensures.0 c.filled-byte.ensures.0
