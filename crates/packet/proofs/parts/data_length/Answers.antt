-- `packet::data_length` meets its contract: where a packet stands, its length word is 4 or more, and all of it lies in the capture.
-- Assumes nothing.
use Prim.Native.Nat.{ℕ, ◌-◌}
use mathlib.Core.Path.{ap}
use native.Mathlib.Omega.{arith}
use Rattle.ground.specs.Laws.{word_there}
use Rattle.packet.specs.Laws.{standing}
use Rattle.packet.proofs.parts.data_length.Goals as goal

pub overflow_add-place : goal.overflow_add-place
overflow_add-place c = omega (arith, standing c.args.capture.now c.args.place c.requires)

pub overflow_sub-result : goal.overflow_sub-result
overflow_sub-result c =
    let s = standing c.args.capture.now c.args.place c.requires in
    omega (arith, s, word_there c.word_at.ensures (omega (arith, s)))

pub returns : goal.returns
returns c =
    let s = standing c.args.capture.now c.args.place c.requires in
    let is = word_there c.word_at.ensures (omega (arith, s)) in
    (ap (λ (w : ℕ). w - 4) is, omega (arith, s, is))
