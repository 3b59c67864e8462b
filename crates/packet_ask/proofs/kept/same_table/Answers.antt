-- `same_table` meets its contract: another number of items, or one item more.
-- Assumes nothing.
use mathlib.Core.Path.{refl}
use borrow.Author.Rules.{rules}
use Rattle.packet_ask.proofs.Comparing.{alike_more, other_count}
use Rattle.packet_ask.proofs.kept.same_table.Goals as goal

pub returns-then-at_most-items : goal.returns-then-at_most-items
returns-then-at_most-items c =
    let a = c.args in other_count a.lent.words.now (search rules) a.items.now c.at_most.ensures c.if-at_most-items.true

pub loop-i-preserved : goal.loop-i-preserved
loop-i-preserved c = alike_more c.loop-i.invariant c.loop-i-test.true refl
