-- `crc::sealed` meets its contract: all of the run lies there, and its checksum is the word after it.
-- Assumes nothing.
use mathlib.Core.Path.{ap}
use mathlib.Core.Bool.{not}
use native.Mathlib.Omega.{arith}
use borrow.Author.Rules.{rules}
use Rattle.ground.specs.Laws.{inside}
use Rattle.crc.proofs.Covering.{cut_off, no_word, compared}
use Rattle.crc.proofs.sealed.Goals as goal

pub returns-then-not-lies_in : goal.returns-then-not-lies_in
returns-then-not-lies_in c = cut_off c.lies_in.ensures (ap not c.if-not-lies_in.true)

pub overflow_add-end : goal.overflow_add-end
overflow_add-end c = let there = inside c.lies_in.ensures c.if-not-lies_in.false in search rules

pub returns-then-not-lies_in-2 : goal.returns-then-not-lies_in-2
returns-then-not-lies_in-2 c = no_word c.lies_in-2.ensures (ap not c.if-not-lies_in-2.true)

pub slice_bounds-checksum-end : goal.slice_bounds-checksum-end
slice_bounds-checksum-end c = omega (arith, inside c.lies_in-2.ensures c.if-not-lies_in-2.false)

pub returns : goal.returns
returns c =
    compared c.lies_in-2.ensures (ap not c.if-not-lies_in-2.false) c.checksum.ensures.answer c.word_at.ensures
