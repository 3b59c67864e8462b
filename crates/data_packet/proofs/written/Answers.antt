-- `written` meets its contract: writing is refused by 3 alone.
-- Assumes nothing.
use borrow.Author.Rules.{rules}
use Rattle.data_packet.proofs.Returns.{written_short}
use Rattle.data_packet.proofs.written.Goals as goal

pub returns-in_default : goal.returns-in_default
returns-in_default c =
    let a = c.args in
    written_short a.found a.next a.apid a.bytes.now a.buffer.now c.requires.0 c.requires.1
    (λ i. (c.type_inv.bytes i).fits) _ (search rules) c.in_ok-next.was c.in_default.ensures
