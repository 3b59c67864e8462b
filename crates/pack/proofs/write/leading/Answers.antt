-- `pack::write::leading` meets its contract: the zeros above the leading one are counted.
-- Assumes nothing.
use Rattle.pack.proofs.Writing.{leading_zeros}
use Rattle.pack.proofs.write.leading.Goals as goal

pub returns : goal.returns
returns c = leading_zeros _ c.requires.0 c.requires.1
