-- `pack::write::put_bytes` meets its contract: after each turn all bits but those that are left stand at their places.
-- Assumes nothing.
use mathlib.Core.Path.{◌≡◌}
use Prim.Native.Nat.{◌+◌, ◌-◌, ◌*◌, ◌/◌, ◌%◌, ◌^◌, ◌≤◌}
use lib.ListN.{length}
use Rattle.ground.specs.Bits.{to_bits, bits_of}
use Rattle.ground.specs.Putting.{put as put_over}
use Rattle.pack.proofs.write.put_bytes.Given as goal

abbrev pub invariant-loop-left : goal.invariant-loop-left
invariant-loop-left l =
    (l.left ≤ l.count) × (l.left % 8 ≡ 0) × (8 * l.i ≡ 8 * l.first + (l.count - l.left)) × (length l.buffer ≡ length l.initial.buffer)
    × (bits_of l.buffer ≡ put_over (bits_of l.initial.buffer) (8 * l.first) (to_bits (l.count - l.left) (l.number / 2 ^ l.left)))

abbrev pub decreases-loop-left : goal.decreases-loop-left
decreases-loop-left l = l.left
