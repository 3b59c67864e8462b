-- `trial::trial` meets its contract. The loop's invariant: the items before this one were tried, and their sums are small.
-- Assumes nothing.
use Prim.Native.Nat.{◌*◌, ◌≤◌}
use lib.ListN.{length, take}
use Rattle.ground.specs.Bits.{bits_of}
use Rattle.data_packet.specs.Running.{begun, try_items}
use Rattle.data_packet.specs.Steps.{Traced, most_sum}
use Rattle.data_packet.proofs.trial.trial.Given as goal

abbrev pub invariant-loop-item : goal.invariant-loop-item
invariant-loop-item l =
    Traced (try_items (length l.initial.memory) l.page (begun l.initial.memory) (take l.item-index l.items)) (take 8 (bits_of l.initial.bytes)) l.found
    l.memory l.bytes
    × (l.found.previous ≤ l.item-index * most_sum) × (l.found.total ≤ l.item-index * most_sum)
