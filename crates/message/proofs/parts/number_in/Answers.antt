-- `message::number_in` meets its contract. The loop's invariant: the bytes passed are in the value.
-- Assumes nothing.
use native.Mathlib.Omega.{arith}
use borrow.Author.Rules.{rules}
use Rattle.message.proofs.Numbers.{summed_none, summed_more, summed_all, room}
use Rattle.message.proofs.parts.number_in.Goals as goal

pub loop-byte-init : goal.loop-byte-init
loop-byte-init c = summed_none c.args.bytes.now

pub overflow_mul-value : goal.overflow_mul-value
overflow_mul-value c = omega (arith, room c.loop-byte.invariant.small (search rules))

pub overflow_add-value : goal.overflow_add-value
overflow_add-value c = omega (arith, room c.loop-byte.invariant.small (search rules))

pub loop-byte-preserved : goal.loop-byte-preserved
loop-byte-preserved c =
    let here = c.loop-byte in
    summed_more here.invariant c.loop-byte-test.true (c.type_inv.bytes here.byte-index).fits

pub returns : goal.returns
returns c = summed_all c.loop-byte.invariant c.loop-byte.auto.byte-index-end (search rules)
