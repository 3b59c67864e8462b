-- `logarithm::log8_code` meets its contract: eight times the bits of the count, and the eighths of a doubling that it reaches.
-- Assumes nothing.
use mathlib.Core.Path.{sym, subst}
use Prim.Native.Nat.{ℕ, ◌≤◌, ◌<◌}
use borrow.Author.Rules.{rules}
use Rattle.logarithm.specs.Eighths.{Eighths, bits_raised, bits_give}
use Rattle.logarithm.proofs.log8_code.Goals as goal

pub eighths-eighths-requires : goal.eighths-eighths-requires
eighths-eighths-requires c =
    subst (λ (n : ℕ). (2147483648 ≤ n) × (n < 4294967296)) (sym c.raised.ensures) (bits_raised c.bits-bits.ensures)

pub returns : goal.returns
returns c =
    let eighths = subst (λ (n : ℕ). Eighths 8 n c.eighths-eighths.result) c.raised.ensures c.eighths-eighths.ensures in
    record { answer = bits_give c.args.count (search rules) c.bits-bits.ensures eighths }
