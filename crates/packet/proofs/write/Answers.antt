-- `packet::write` meets its contract: header, data and checksum, one after the other.
-- Assumes nothing.
use borrow.Author.Rules.{rules}
use Rattle.packet.proofs.Writing.{too_much, too_short, done}
use Rattle.packet.proofs.write.Goals as goal

pub returns-then-n-gt8187 : goal.returns-then-n-gt8187
returns-then-n-gt8187 c = too_much (search rules)

pub returns-then-buffer-n : goal.returns-then-buffer-n
returns-then-buffer-n c = too_short (search rules) (search rules)

pub returns : goal.returns
returns c =
    done (search rules) (search rules) c.put_header.ensures c.copied.ensures c.seal.ensures
