-- `code::end_of` meets its contract: eight bits a byte, up to 2^63.
-- Assumes nothing.
use native.Mathlib.Omega.{arith}
use Rattle.code.specs.Positions.{length-bits_that_count}
use Rattle.code.proofs.end_of.Goals as goal

pub returns : goal.returns
returns c = omega (arith, length-bits_that_count c.args.bytes.now)
