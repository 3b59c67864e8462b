-- `pages::walk::sound_row` meets its contract: one cell more.
-- Assumes nothing.
use Rattle.pages.proofs.Walking.{sound_cell}
use Rattle.pages.proofs.walk.sound_row.Goals as goal

pub loop-column-preserved : goal.loop-column-preserved
loop-column-preserved c = sound_cell _ _ _ _ c.loop-column.invariant c.place.ensures.0
