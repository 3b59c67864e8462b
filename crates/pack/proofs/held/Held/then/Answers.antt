-- `Held::then` meets its contract: the shift makes room for the bits after.
-- Assumes nothing.
use mathlib.Core.Path.{◌∙◌}
use Rattle.pack.proofs.Writing.{then_fits, then_held, then_is}
use Rattle.pack.proofs.held.Held.then.Goals as goal

pub overflow_add-self-inside : goal.overflow_add-self-inside
overflow_add-self-inside c = then_fits _ _ _ _ c.self.invariant.0 c.more.invariant.0 c.self.view_is c.more.view_is c.requires

pub of-requires : goal.of-requires
of-requires c = then_held _ _ _ _ c.self.invariant.0 c.more.invariant.0 c.self.view_is c.more.view_is c.requires

pub returns : goal.returns
returns c = c.of.ensures ∙ then_is _ _ _ _ c.self.invariant.0 c.more.invariant.0 c.self.view_is c.more.view_is c.requires
