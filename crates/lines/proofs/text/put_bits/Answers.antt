-- `lines::put_bits` meets its contract. The loop's invariant: the bits passed are put.
-- Assumes nothing.
use Prim.Native.Nat.{ℕ, ◌+◌}
use mathlib.Core.Path.{ap, ◌∙◌}
use native.Mathlib.Omega.{arith}
use borrow.Author.Rules.{rules}
use Rattle.ground.specs.Putting.{copied_more}
use Rattle.lines.proofs.Texts.{bit_length, bit_at}
use Rattle.lines.proofs.text.put_bits.Goals as goal

pub loop-i-preserved : goal.loop-i-preserved
loop-i-preserved c =
    let a = c.args in
    let p = c.requires in
    let n = bit_length a.bytes.now a.count p.2 p.1 in
    copied_more (48 + c.bit_of.result) (omega (arith, n)) c.loop-i.invariant (omega (arith, n))
    (ap (λ (x : ℕ). 48 + x) c.bit_of.ensures.answer ∙ bit_at a.bytes.now a.count p.2 p.1 c.loop-i.i (search rules))
