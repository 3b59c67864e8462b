-- `ground::lies_in` meets its contract: the size is held against what is left.
-- Assumes nothing.
use Rattle.ground.proofs.Lying.{past, left}
use Rattle.ground.proofs.lies_in.Goals as goal

pub returns-then-bytes-at : goal.returns-then-bytes-at
returns-then-bytes-at c = past c.args.bytes.now c.args.at c.args.size c.if-bytes-at.true

pub returns : goal.returns
returns c = left c.args.bytes.now c.args.at c.args.size c.if-bytes-at.false
