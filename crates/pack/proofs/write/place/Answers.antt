-- `pack::write::place` meets its contract: bits that do not fit change nothing; bits that fit stand at their place.
-- Assumes nothing.
use mathlib.Core.Path.{ap, ◌∙◌}
use lib.ListN.{length, length-append, length-replicate}
use Rattle.pack.proofs.Writing.{place_there}
use Rattle.code.specs.Positions.{length-bits_that_count}
use native.Mathlib.Omega.{arith}
use Rattle.pack.proofs.write.place.Goals as goal

pub put-requires : goal.put-requires
put-requires c =
    let count = c.from-count.ensures ∙ c.len.ensures in
    let pad = ap length c.zeros.ensures ∙ length-replicate c.to_byte_end.result 0 in
    let long = ap length c.then.ensures ∙ length-append c.args.bits c.zeros.result in (
      omega (arith, length-bits_that_count c.args.buffer.now, c.to_byte_end.ensures.0, count, pad, long),
      omega (arith, c.to_byte_end.ensures.0, count, pad, long),
    )

pub returns : goal.returns
returns c =
    let a = c.args in
    let e = c.end_of-end in
    place_there a.buffer.now c.put.new.buffer a.at a.bits c.then.result c.zeros.result e.result c.from-count.result c.to_byte_end.result e.ensures
    (c.from-count.ensures ∙ c.len.ensures) (omega arith) c.to_byte_end.ensures.0 c.zeros.ensures c.then.ensures c.put.auto.buffer
    (λ i. omega (arith, c.type_inv.buffer i)) c.put.ensures
