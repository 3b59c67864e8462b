-- `Held::ones` meets its contract: a power of two less one.
-- Assumes nothing.
use Rattle.pack.proofs.Writing.{ones_held}
use Rattle.pack.proofs.held.Held.ones.Goals as goal

pub returns : goal.returns
returns c = ones_held _ c.requires c.of.ensures
