-- `pages::walk::sound_rows` meets its contract: one row more.
-- Assumes nothing.
use Rattle.pages.proofs.Walking.{sound_step}
use Rattle.pages.proofs.walk.sound_rows.Goals as goal

pub loop-row-preserved : goal.loop-row-preserved
loop-row-preserved c =
    sound_step _ _ c.args.window _ c.loop-row.invariant c.row_start.ensures.0 c.from-width.ensures c.sound_row-ok.ensures
