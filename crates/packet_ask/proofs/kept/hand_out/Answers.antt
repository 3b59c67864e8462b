-- `hand_out` meets its contract: one byte more.
-- Assumes nothing.
use Rattle.packet_ask.proofs.Copying.{handed}
use Rattle.packet_ask.proofs.kept.hand_out.Goals as goal

pub loop-i-preserved : goal.loop-i-preserved
loop-i-preserved c =
    let a = c.args in handed a.words.now a.bytes.now c.loop-i.bytes c.loop-i.i c.loop-i-test.true c.requires c.loop-i.invariant
