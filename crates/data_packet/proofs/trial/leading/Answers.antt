-- `trial::leading` meets its contract: one item more may be taken.
-- Assumes nothing.
use mathlib.Core.Path.{sym}
use Rattle.data_packet.proofs.Items.{fair_more}
use Rattle.data_packet.proofs.trial.leading.Goals as goal

pub loop-i-preserved : goal.loop-i-preserved
loop-i-preserved c =
    fair_more c.args.memory.now c.args.page c.args.items.now c.loop-i.i c.check-checked.result c.loop-i-test.true c.loop-i.invariant
    c.window_of.ensures c.check-checked.ensures (sym c.if-is_err.ensures.value)
