-- `settle::settle` meets its contract: one item more is passed over where its window clears.
-- Assumes nothing.
use Rattle.data_packet.proofs.Items.{settle_kept, settle_more}
use Rattle.data_packet.proofs.settle.settle.Goals.{then-window, else-window}
use Rattle.data_packet.proofs.settle.settle.Goals as goal

pub loop-item-preserved : goal.loop-item-preserved
loop-item-preserved c =
    elim c.if-window.branch [
      | then-window w ↦
          rw (w.memory-is)
          (settle_more c.args.pass _ c.args.page c.args.memory.now c.loop-item.memory _ c.args.items.now c.loop-item.item-index _ _ c.loop-item-test.true
          c.loop-item.auto.memory c.loop-item.invariant c.window_of-window.ensures w.if-window.true w.pass_window.ensures.0)
      | else-window w ↦
          rw (w.memory-is)
          (settle_kept c.args.pass _ c.args.page c.args.memory.now c.loop-item.memory c.args.items.now c.loop-item.item-index _ c.loop-item-test.true
          c.loop-item.invariant c.window_of-window.ensures w.if-window.false)
    ]
