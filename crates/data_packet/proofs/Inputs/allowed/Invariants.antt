-- `Inputs::allowed` meets its contract. The loop's invariant: whether the table is allowed is whether the items from here on are, after the one before them.
-- Assumes nothing.
use mathlib.Core.Bool.{false}
use mathlib.Core.Path.{◌≡◌}
use lib.ListN.{drop}
use Rattle.data_packet.specs.Meaning.{allowed_from}
use Rattle.data_packet.proofs.Inputs.allowed.Given as goal

abbrev pub invariant-loop-item : goal.invariant-loop-item
invariant-loop-item l = allowed_from false l.self.items.now ≡ allowed_from l.follows (drop l.item-index l.self.items.now)
