-- `pack::write::put` meets its contract: the first byte's part and the whole bytes after it are all the bits.
-- Assumes nothing.
use mathlib.Core.Path.{ap, ◌∙◌}
use Prim.Native.Nat.{◌-◌, ◌%◌, ◌*◌, ◌+◌, ◌/◌}
use Rattle.ground.specs.Bits.{bits_of}
use Rattle.ground.specs.Putting.{put as put_over}
use Rattle.pack.proofs.Writing.{put_both, same_bits_count, first_lt, held_length}
use native.Mathlib.Omega.{arith}
use Rattle.pack.proofs.write.put.Goals as goal

pub overflow_sub-left : goal.overflow_sub-left
overflow_sub-left c = omega (arith, held_length _ _ c.bits.view_is, c.requires.1, c.room_at.ensures.0, c.if-bits-gt0.true)

pub put_part-requires : goal.put_part-requires
put_part-requires c =
    let b = c.bits.inside in
    let n = held_length b.count b.number c.bits.view_is in
    let r = c.room_at in
    let t = c.if-bits-gt0.true in (
      omega (arith, c.requires.0, n, t),
      first_lt b.number b.count (b.count - r.result) (8 - c.args.at % 8) c.bits.invariant.0 (omega (arith, n, c.requires.1, r.ensures.0, t)),
    )

pub put_bytes-requires : goal.put_bytes-requires
put_bytes-requires c =
    let n = held_length _ _ c.bits.view_is in
    let r = c.room_at in
    let t = c.if-bits-gt0.true in
    let p = c.put_part in
    let q = same_bits_count p.new.buffer c.args.buffer.now p.auto.buffer in (
      omega (arith, n, c.requires.0, c.requires.1, r.ensures.0, q, t),
      omega (arith, c.bits.invariant.1),
      omega (arith, n, c.requires.1, r.ensures.0, t),
    )

pub returns-then-bits-gt0 : goal.returns-then-bits-gt0
returns-then-bits-gt0 c =
    let b = c.bits.inside in
    let n = held_length b.count b.number c.bits.view_is in
    let r = c.room_at in
    let t = c.if-bits-gt0.true in
    let p = c.put_part in
    let q = c.put_bytes in
    let a = c.args in
    put_both a.buffer.now p.new.buffer q.new.buffer a.at (8 * (a.at / 8 + 1)) b.number b.count (8 - a.at % 8) (b.count - r.result)
    (omega (arith, n, c.requires.0))
    (omega arith) (omega (arith, n, c.requires.1, r.ensures.0, t)) p.ensures q.ensures
    ∙ ap (put_over (bits_of a.buffer.now) a.at) c.bits.view_is
