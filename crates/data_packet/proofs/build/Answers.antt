-- `build` meets its contract: three refusals of what is asked, and the run of what is taken.
-- Assumes nothing.
use mathlib.Core.Path.{refl, sym, ◌∙◌}
use borrow.Author.Rules.{rules}
use Rattle.data_packet.proofs.Building.{by19, by22, by23, goes_on}
use Rattle.data_packet.proofs.build.Goals as goal

pub returns-then-inputs-gt-MOST_ITEMS : goal.returns-then-inputs-gt-MOST_ITEMS
returns-then-inputs-gt-MOST_ITEMS c = by23 _ _ _ _ c.if-inputs-gt-MOST_ITEMS.true

pub returns-then-not-allowed : goal.returns-then-not-allowed
returns-then-not-allowed c =
    by22 _ _ _ _ c.if-inputs-gt-MOST_ITEMS.false (sym c.allowed.ensures ∙ c.if-not-allowed.true)

pub returns-in_err-first : goal.returns-in_err-first
returns-in_err-first c =
    by19 _ _ _ _ c.if-inputs-gt-MOST_ITEMS.false (sym c.allowed.ensures ∙ c.if-not-allowed.false) c.in_err-first.ensures (search rules)

pub returns : goal.returns
returns c =
    goes_on _ _ _ _ c.if-inputs-gt-MOST_ITEMS.false (sym c.allowed.ensures ∙ c.if-not-allowed.false) c.in_ok-first.ensures refl c.run.ensures
