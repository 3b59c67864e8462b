-- `Held::len` meets its contract: as many bits as were counted.
-- Assumes nothing.
use Rattle.pack.proofs.Writing.{held_length}
use Rattle.pack.proofs.held.Held.len.Goals as goal

pub returns : goal.returns
returns c = held_length _ _ c.self.view_is
