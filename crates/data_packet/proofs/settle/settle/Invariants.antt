-- `settle::settle` meets its contract. The loop's invariant: the windows of the items before this one that clear are passed over.
-- Assumes nothing.
use mathlib.Core.Path.{◌≡◌}
use lib.ListN.{length, take}
use Rattle.pages.specs.Passes.{left_of}
use Rattle.data_packet.specs.Marks.{touch}
use Rattle.data_packet.specs.Running.{cleared_of}
use Rattle.data_packet.proofs.settle.settle.Given as goal

abbrev pub invariant-loop-item : goal.invariant-loop-item
invariant-loop-item l =
    l.memory ≡ touch (left_of l.pass) (length l.initial.memory) l.page l.initial.memory (cleared_of (take l.item-index l.items))
