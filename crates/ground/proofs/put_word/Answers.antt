-- `ground::put_word` meets its contract: two bytes, in their places.
-- Assumes nothing.
use native.Mathlib.Omega.{arith}
use borrow.Author.Rules.{rules}
use Rattle.ground.specs.Laws.{inside}
use Rattle.ground.proofs.Lying.{put_here, put_away}
use Rattle.ground.proofs.put_word.Goals as goal

pub overflow_add-at : goal.overflow_add-at
overflow_add-at c = let here = inside c.lies_in.ensures c.if-lies_in.true in search rules

pub slice_bounds-copy_from_slice-end : goal.slice_bounds-copy_from_slice-end
slice_bounds-copy_from_slice-end c = omega (arith, inside c.lies_in.ensures c.if-lies_in.true)

pub returns-then-lies_in : goal.returns-then-lies_in
returns-then-lies_in c = put_here c.lies_in.ensures c.args.word c.if-lies_in.true c.to_be_bytes.ensures c.copy_from_slice.ensures.after

pub returns-else-lies_in : goal.returns-else-lies_in
returns-else-lies_in c = put_away c.lies_in.ensures c.args.word c.if-lies_in.false
