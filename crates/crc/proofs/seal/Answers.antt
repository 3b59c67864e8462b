-- `crc::seal` meets its contract: the checksum of the bytes before it is put where it has room.
-- Assumes nothing.
use native.Mathlib.Omega.{arith}
use lib.ListN.{length-take}
use Rattle.ground.specs.Laws.{inside}
use Rattle.crc.proofs.Covering.{put_behind, no_room}
use Rattle.crc.proofs.seal.Goals as goal

pub slice_bounds-checksum-end : goal.slice_bounds-checksum-end
slice_bounds-checksum-end c = omega (arith, inside c.lies_in.ensures c.if-lies_in.true)

pub slice_bounds-checksum-end-then-lies_in : goal.slice_bounds-checksum-end-then-lies_in
slice_bounds-checksum-end-then-lies_in c =
    simp length-take (omega (arith, inside c.lies_in.ensures c.if-lies_in.true))

pub returns-then-lies_in : goal.returns-then-lies_in
returns-then-lies_in c =
    put_behind c.lies_in.ensures c.if-lies_in.true c.checksum-sum.ensures.answer c.put_word.ensures

pub returns-else-lies_in : goal.returns-else-lies_in
returns-else-lies_in c = no_room c.lies_in.ensures c.if-lies_in.false
