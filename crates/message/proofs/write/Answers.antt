-- `message::write` meets its contract: mark, word, data and checksum, one after the other.
-- Assumes nothing.
use mathlib.Core.Path.{ap}
use mathlib.Core.Bool.{not}
use native.Mathlib.Omega.{arith}
use borrow.Author.Rules.{rules}
use Rattle.ground.specs.Laws.{put_there}
use Rattle.message.specs.Laws.{within}
use Rattle.message.proofs.Writing.{unsayable, too_short, done}
use Rattle.message.proofs.write.Goals as goal

pub returns-then-not-sayable_as : goal.returns-then-not-sayable_as
returns-then-not-sayable_as c = unsayable c.sayable_as.ensures c.if-not-sayable_as.true

pub returns-then-buffer-size : goal.returns-then-buffer-size
returns-then-buffer-size c =
    too_short c.sayable_as.ensures c.if-not-sayable_as.false c.data_size-size.ensures.0 (search rules)

pub overflow_mul-tag : goal.overflow_mul-tag
overflow_mul-tag c =
    omega (arith, within c.sayable_as.ensures (ap not c.if-not-sayable_as.false))

pub overflow_add-tag : goal.overflow_add-tag
overflow_add-tag c =
    omega (arith, within c.sayable_as.ensures (ap not c.if-not-sayable_as.false))

pub returns : goal.returns
returns c =
    done c.sayable_as.ensures c.if-not-sayable_as.false c.data_size-size.ensures.0 (put_there c.put_word.ensures (search rules))
    (put_there c.put_word-2.ensures (search rules)) c.put_number.ensures (search rules) c.seal.ensures
