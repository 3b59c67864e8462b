-- `message::put_number` meets its contract. The loop's invariant: the last bytes are put.
-- Assumes nothing.
use borrow.Author.Rules.{rules}
use Rattle.message.proofs.Numbers.{putting_none, putting_more, putting_all}
use Rattle.message.proofs.parts.put_number.Goals as goal

pub loop-left-init : goal.loop-left-init
loop-left-init c = putting_none c.args.buffer.now c.args.at c.args.count c.args.value

pub loop-left-preserved : goal.loop-left-preserved
loop-left-preserved c = putting_more (search rules) c.loop-left.invariant (search rules)

pub shape_of-buffer : goal.shape_of-buffer
shape_of-buffer c = c.loop-left.invariant.long

pub returns : goal.returns
returns c = putting_all c.loop-left.invariant (search rules)
