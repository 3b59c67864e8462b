-- `logarithm::steps::bits` meets its contract: what the leading zeros leave of 64.
-- Assumes nothing.
use Rattle.logarithm.specs.Eighths.{bits_leading}
use Rattle.logarithm.proofs.steps.bits.Goals as goal

pub returns : goal.returns
returns c = rw (c.from.ensures) (bits_leading c.args.count c.requires.0 c.requires.1)
