-- `message::data_size` meets its contract.
-- Assumes nothing.
use native.Mathlib.Omega.{arith}
use lib.Dec.{lit≤}
use Rattle.message.proofs.Tags.{eight}
use Rattle.message.proofs.parts.data_size.Goals as goal

pub returns-in_default : goal.returns-in_default
returns-in_default c = (eight c.args.tag (omega arith) (omega arith) (omega arith), lit≤ tt)
