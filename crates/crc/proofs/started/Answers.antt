-- `crc::started` meets its contract: the register's start is two bytes of ones.
-- Assumes nothing.
use borrow.Author.Rules.{rules}
use Rattle.crc.proofs.Folds.{starts}
use Rattle.crc.proofs.started.Goals as goal

pub returns : goal.returns
returns c = starts c.args.word (search rules)
