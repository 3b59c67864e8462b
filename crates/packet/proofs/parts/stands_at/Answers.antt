-- `packet::stands_at` meets its contract: the tests one after the other.
-- Assumes nothing.
use native.Mathlib.Omega.{arith}
use borrow.Author.Rules.{rules}
use Rattle.ground.specs.Laws.{inside}
use Rattle.packet.proofs.Standing.{too_near_the_end, not_marked, too_small, too_large, up_to_checksum}
use Rattle.packet.proofs.parts.stands_at.Goals as goal

pub returns-then-not-lies_in : goal.returns-then-not-lies_in
returns-then-not-lies_in c = too_near_the_end c.lies_in.ensures c.if-not-lies_in.true

pub marked_at-requires : goal.marked_at-requires
marked_at-requires c = omega (arith, inside c.lies_in.ensures c.if-not-lies_in.false)

pub returns-then-not-marked_at : goal.returns-then-not-marked_at
returns-then-not-marked_at c =
    not_marked c.lies_in.ensures c.if-not-lies_in.false c.marked_at.ensures c.if-not-marked_at.true

pub overflow_add-place : goal.overflow_add-place
overflow_add-place c = omega (arith, inside c.lies_in.ensures c.if-not-lies_in.false)

pub returns-then-word-lt4 : goal.returns-then-word-lt4
returns-then-word-lt4 c =
    too_small c.lies_in.ensures c.if-not-lies_in.false c.marked_at.ensures c.if-not-marked_at.false c.word_at-word.ensures
    (search rules)

pub returns-then-word-ge8192 : goal.returns-then-word-ge8192
returns-then-word-ge8192 c =
    too_large c.lies_in.ensures c.if-not-lies_in.false c.marked_at.ensures c.if-not-marked_at.false c.word_at-word.ensures
    (search rules) (search rules)

pub returns : goal.returns
returns c =
    up_to_checksum c.lies_in.ensures c.if-not-lies_in.false c.marked_at.ensures c.if-not-marked_at.false c.word_at-word.ensures
    (search rules) (search rules) c.sealed.ensures
