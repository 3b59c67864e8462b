-- `Held::zeros` meets its contract: nought.
-- Assumes nothing.
use mathlib.Core.Path.{◌∙◌}
use Rattle.code.specs.BitLists.{to_bits-zeros}
use Rattle.pack.proofs.held.Held.zeros.Goals as goal

pub returns : goal.returns
returns c = c.of.ensures ∙ to_bits-zeros c.args.count
