-- `crc::stepped` meets its contract: a byte goes through at once, by sixteen bits of the upper half.
-- Assumes nothing.
use Prim.Native.Nat.{ℕ, ◌*◌, ◌%◌}
use mathlib.Core.Path.{sym, ap, ◌∙◌}
use lib.Bits.{bit_xor}
use Rattle.crc.specs.Folding.{sixteen}
use Rattle.crc.proofs.Sixteen.{step_by_sixteen}
use borrow.Author.Rules.{rules}
use Rattle.crc.proofs.stepped.Goals as goal

pub returns : goal.returns
returns c =
    let a = c.args in
    ap (λ (x : ℕ). bit_xor x (a.register % 256 * 256))
    (c.shifted.ensures ∙ ap (λ (x : ℕ). sixteen (bit_xor x a.byte)) c.upper-half.ensures.0)
    ∙ sym (step_by_sixteen a.register a.byte (search rules) (search rules))
