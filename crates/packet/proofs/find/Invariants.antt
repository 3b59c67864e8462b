-- `packet::find` meets its contract. The loop's invariant: none of the places passed held a packet.
-- Assumes nothing.
use Prim.Native.Nat.{◌-◌}
use lib.ListN.{length}
use Rattle.packet.proofs.Finding.{Passed}
use Rattle.packet.proofs.find.Given as goal

abbrev pub invariant-loop-place : goal.invariant-loop-place
invariant-loop-place l = Passed l.capture l.place

abbrev pub decreases-loop-place : goal.decreases-loop-place
decreases-loop-place l = length l.capture - l.place
