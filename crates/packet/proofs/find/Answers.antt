-- `packet::find` meets its contract. The loop's invariant: none of the places passed held a packet.
-- Assumes nothing.
use mathlib.Core.Path.{sym, ◌∙◌}
use borrow.Author.Rules.{rules}
use Rattle.packet.proofs.Finding.{passed_none, passed_more, too_long, here, nowhere}
use Rattle.packet.proofs.find.Goals as goal

pub returns-then-capture-gt65536 : goal.returns-then-capture-gt65536
returns-then-capture-gt65536 c = too_long (search rules)

pub loop-place-init : goal.loop-place-init
loop-place-init c = passed_none c.args.capture.now

pub returns-then-stands_at : goal.returns-then-stands_at
returns-then-stands_at c =
    let passed = c.loop-place in
    here (search rules) passed.invariant (search rules) (sym c.stands_at.ensures ∙ c.if-stands_at.true)

pub loop-place-preserved : goal.loop-place-preserved
loop-place-preserved c =
    let passed = c.loop-place in
    passed_more passed.invariant (search rules) (sym c.stands_at.ensures ∙ c.if-stands_at.false)

pub returns : goal.returns
returns c = nowhere (search rules) c.loop-place.invariant (search rules)
