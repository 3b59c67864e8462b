-- `keep_items` meets its contract. The loop's invariant: the items before `i` are kept, and the other words are as they were.
-- Assumes nothing.
use mathlib.Core.List.{◌++◌}
use mathlib.Core.Path.{◌≡◌}
use lib.ListN.{drop, take}
use Rattle.packet_ask.proofs.kept.keep_items.Given as goal

abbrev pub invariant-loop-i : goal.invariant-loop-i
invariant-loop-i l = l.words ≡ take l.i l.items ++ drop l.i l.initial.words
