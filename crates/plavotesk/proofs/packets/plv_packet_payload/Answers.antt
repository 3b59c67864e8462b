-- `plv_packet_payload` meets its contract: an empty part is told as 0 and 0, any other starts 8 bytes after the place.
-- Assumes nothing.
use borrow.Author.Rules.{rules}
use Rattle.plavotesk.proofs.Parts.{part_empty, part_data, part_near}
use Rattle.plavotesk.proofs.packets.plv_packet_payload.Goals as goal

pub overflow_add-start : goal.overflow_add-start
overflow_add-start c = let near = part_near _ _ _ c.payload-bytes.ensures.bytes c.if-bytes-eq0.false in search rules

pub returns-then-bytes-eq0 : goal.returns-then-bytes-eq0
returns-then-bytes-eq0 c = part_empty _ _ _ c.payload-bytes.ensures.bytes c.if-bytes-eq0.true

pub returns-else-bytes-eq0 : goal.returns-else-bytes-eq0
returns-else-bytes-eq0 c = part_data _ _ _ c.payload-bytes.ensures.bytes c.if-bytes-eq0.false
