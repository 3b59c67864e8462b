-- `logarithm::log8_counts` meets its contract: from the first count of the byte to the one before the first of the next.
-- Assumes nothing.
use mathlib.Core.Path.{sym, subst, ◌∙◌}
use Prim.Native.Nat.{ℕ}
use borrow.Author.Rules.{rules}
use Rattle.logarithm.specs.Meaning.{Log8Given, between}
use Rattle.logarithm.specs.Logarithms.{nought_given}
use Rattle.logarithm.specs.Eighths.{none_given, ends_given}
use Rattle.logarithm.proofs.log8_counts.Goals as goal

pub returns-then-byte-eq0 : goal.returns-then-byte-eq0
returns-then-byte-eq0 c = record { answer = subst (λ (v : ℕ). Log8Given v (between 0 0)) (sym (sym c.from-byte.ensures ∙ c.if-byte-eq0.true)) nought_given }

pub returns-then-next-low : goal.returns-then-next-low
returns-then-next-low c =
    record { answer = rw (← c.from-byte.ensures) (none_given (search rules) (search rules) c.first-low.ensures c.first-next.ensures (search rules)) }

pub returns : goal.returns
returns c =
    record { answer = rw (← c.from-byte.ensures) (ends_given (search rules) (search rules) c.first-low.ensures c.first-next.ensures (search rules)) }
