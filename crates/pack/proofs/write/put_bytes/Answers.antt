-- `pack::write::put_bytes` meets its contract: after each turn all bits but those that are left stand at their places.
-- Assumes nothing.
use mathlib.Core.Path.{◌≡◌, ◌∙◌}
use Prim.Native.Nat.{◌-◌, ◌*◌}
use Rattle.code.specs.Positions.{length-bits_that_count}
use Rattle.pack.proofs.Writing.{put_turn}
use native.Mathlib.Omega.{arith}
use Rattle.pack.proofs.write.put_bytes.Goals as goal

pub overflow_sub-left : goal.overflow_sub-left
overflow_sub-left c = omega arith

pub put_byte-requires : goal.put_byte-requires
put_byte-requires c =
    let l = c.loop-left in
    omega (arith, c.requires.0, l.invariant.0, l.invariant.2, l.invariant.3, length-bits_that_count c.args.buffer.now, c.loop-left-test.true)

pub overflow_add-i : goal.overflow_add-i
overflow_add-i c =
    let l = c.loop-left in
    omega (arith, c.requires.0, l.invariant.0, l.invariant.2, length-bits_that_count c.args.buffer.now)

pub loop-left-smaller : goal.loop-left-smaller
loop-left-smaller c =
    let l = c.loop-left in
    let t = c.loop-left-test.true in
    omega (arith, t)

pub loop-left-preserved : goal.loop-left-preserved
loop-left-preserved c =
    let l = c.loop-left in
    let t = c.loop-left-test.true in
    let n = c.min-left.result in
    let e : n ≡ 8 = omega (arith, l.invariant.1, t) in
    let p = c.put_byte in
    let a = c.args in (
      omega arith,
      omega (arith, l.invariant.1, t, e),
      omega (arith, l.invariant.0, l.invariant.1, l.invariant.2, t, e),
      p.auto.buffer ∙ l.invariant.3,
      put_turn a.buffer.now l.buffer p.new.buffer (8 * a.first) a.count a.number (8 * l.i) l.left 8 (l.left - n) c.requires.0
          l.invariant.0 l.invariant.2 (omega (arith, l.invariant.1, t, e)) l.invariant.4 p.ensures,
    )
