-- `ground::word_at` meets its contract: a word is its two bytes.
-- Assumes nothing.
use native.Mathlib.Omega.{arith}
use borrow.Author.Rules.{rules}
use Rattle.ground.specs.Laws.{inside}
use Rattle.ground.proofs.Lying.{word_here, word_away}
use Rattle.ground.proofs.word_at.Goals as goal

pub bounds-bytes-at : goal.bounds-bytes-at
bounds-bytes-at c = omega (arith, inside c.lies_in.ensures c.if-lies_in.true)

pub overflow_add-at : goal.overflow_add-at
overflow_add-at c = let here = inside c.lies_in.ensures c.if-lies_in.true in search rules

pub bounds-bytes-at-then-lies_in : goal.bounds-bytes-at-then-lies_in
bounds-bytes-at-then-lies_in c = omega (arith, inside c.lies_in.ensures c.if-lies_in.true)

pub returns-then-lies_in : goal.returns-then-lies_in
returns-then-lies_in c = word_here c.lies_in.ensures c.if-lies_in.true c.from_be_bytes.ensures

pub returns-else-lies_in : goal.returns-else-lies_in
returns-else-lies_in c = word_away c.lies_in.ensures c.if-lies_in.false
