-- `printing::print_runs` meets its contract. The loop's invariant: what is left comes to the same as the whole piece, and so does its
-- count; each run gets on, so that the measure is the bytes that are left.
-- Assumes nothing.
use mathlib.Core.Path.{◌≡◌}
use Prim.Native.Nat.{◌+◌}
use lib.ListN.{length}
use Rattle.lines.specs.After.{line_after, answers_within}
use Rattle.printing.specs.Promise.{capped}
use Rattle.printing.proofs.print_runs.Given as goal

abbrev pub invariant-loop-rest : goal.invariant-loop-rest
invariant-loop-rest l =
    (length l.room ≡ length l.initial.room)
    × (line_after l.current l.rest ≡ line_after l.initial.current l.piece)
    × (capped (l.put + length (answers_within l.current l.rest)) ≡ capped (length (answers_within l.initial.current l.piece)))
    × (l.put ≡ capped l.put)

abbrev pub decreases-loop-rest : goal.decreases-loop-rest
decreases-loop-rest l = length l.rest
