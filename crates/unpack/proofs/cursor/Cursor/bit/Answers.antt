-- `Cursor::bit` meets its contract: a position that counts lies in a byte, and the bit is that byte's.
-- Assumes nothing.
use mathlib.Core.Path.{sym, subst, ◌∙◌}
use Prim.Native.Nat.{ℕ, ◌<◌}
use native.Mathlib.Omega.{arith}
use Rattle.code.specs.Positions.{bit_that_counts, position_inside}
use Rattle.unpack.proofs.cursor.Cursor.bit.Goals as goal

pub bounds-self-i : goal.bounds-self-i
bounds-self-i c =
    let here = c.args.self in
    omega (arith, position_inside here.bytes.now here.at (subst (λ (n : ℕ). here.at < n) here.end_is c.requires))

pub returns : goal.returns
returns c =
    let here = c.args.self in (
      c.from.ensures ∙ c.bit_of.ensures.answer ∙ sym (bit_that_counts _ _ (subst (λ (n : ℕ). here.at < n) here.end_is c.requires)),
      omega (arith, c.from.ensures, c.bit_of.ensures.bit),
    )
