-- `pages::walk::walk_window` meets its contract. The loop's invariant: memory and sum are those of the pass over the rows so far.
-- Assumes nothing.
use mathlib.Core.Path.{◌≡◌}
use Prim.Native.Nat.{◌*◌, ◌≤◌}
use lib.ListN.{length}
use Rattle.pages.specs.Meaning.{rows_in, walk_at}
use Rattle.pages.specs.Flags.{pass_by}
use Rattle.pages.specs.Passes.{pass_of}
use Rattle.pages.proofs.walk.walk_window.Given as goal

abbrev pub invariant-loop-row : goal.invariant-loop-row
invariant-loop-row l =
    record {
      walked : walk_at l.memory l.sum
          ≡ pass_of (pass_by l.flags.trial l.flags.clear l.flags.settle) (length l.initial.memory) l.page (walk_at l.initial.memory 0)
          (rows_in l.window l.row);
      small : l.sum ≤ l.row * 1099511627776;
    }
