-- `Held::last` meets its contract: the bits of a number are those of its rest.
-- Assumes nothing.
use Rattle.pack.proofs.Writing.{last_is}
use Rattle.pack.proofs.held.Held.last.Goals as goal

pub returns : goal.returns
returns c = last_is _ _ c.requires c.of.ensures
