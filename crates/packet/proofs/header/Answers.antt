-- `packet::header` meets its contract.
-- Assumes nothing.
use mathlib.Core.Path.{sym, ◌∙◌}
use borrow.Author.Rules.{rules}
use Rattle.ground.specs.Laws.{word_there}
use Rattle.packet.proofs.Finding.{header_long, header_here, header_none}
use Rattle.packet.proofs.header.Goals as goal

pub returns-then-capture-gt65536 : goal.returns-then-capture-gt65536
returns-then-capture-gt65536 c = header_long (search rules)

pub data_length-length-requires : goal.data_length-length-requires
data_length-length-requires c = sym c.stands_at.ensures ∙ c.if-stands_at.true

pub returns-then-stands_at : goal.returns-then-stands_at
returns-then-stands_at c =
    header_here (search rules) (sym c.stands_at.ensures ∙ c.if-stands_at.true) (word_there c.word_at-apid.ensures (search rules))
    c.data_length-length.ensures.0

pub returns-else-stands_at : goal.returns-else-stands_at
returns-else-stands_at c =
    header_none (search rules) (sym c.stands_at.ensures ∙ c.if-stands_at.false)
