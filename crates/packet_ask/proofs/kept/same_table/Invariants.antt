-- `same_table` meets its contract. The loop's invariant: whether the items before `i` are the same is said, and with it the rest decides.
-- Assumes nothing.
use lib.ListN.{length}
use Rattle.packet_ask.proofs.Comparing.{Alike}
use Rattle.packet_ask.proofs.kept.same_table.Given as goal

abbrev pub invariant-loop-i : goal.invariant-loop-i
invariant-loop-i l = Alike l.lent.words.now l.items (length l.items) l.same l.i
