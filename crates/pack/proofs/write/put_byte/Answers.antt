-- `pack::write::put_byte` meets its contract: the byte is stored whole.
-- Assumes nothing.
use Rattle.pack.proofs.Writing.{byte_stored}
use Rattle.pack.proofs.write.put_byte.Goals as goal

pub returns : goal.returns
returns c = byte_stored c.args.buffer.now c.args.i c.args.number c.requires
