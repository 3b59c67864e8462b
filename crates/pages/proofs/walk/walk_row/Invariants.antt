-- `pages::walk::walk_row` meets its contract. The loop's invariant: memory and sum are those of the pass over the cells so far.
-- Assumes nothing.
use mathlib.Core.Path.{◌≡◌}
use Prim.Native.Nat.{◌+◌, ◌*◌, ◌≤◌}
use lib.ListN.{length}
use Rattle.pages.specs.Meaning.{row_of, walk_at}
use Rattle.pages.specs.Flags.{pass_by}
use Rattle.pages.specs.Passes.{pass_of}
use Rattle.pages.proofs.walk.walk_row.Given as goal

abbrev pub invariant-loop-column : goal.invariant-loop-column
invariant-loop-column l =
    record {
      walked : walk_at l.memory l.total
          ≡ pass_of (pass_by l.flags.trial l.flags.clear l.flags.settle) (length l.initial.memory) l.page (walk_at l.initial.memory l.sum)
          (row_of l.start l.column);
      small : l.total ≤ l.sum + l.column * 4294967296;
    }
