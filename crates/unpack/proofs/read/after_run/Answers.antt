-- `unpack::read::after_run` meets its contract: no ones, one, or more with a parity, which tells the place.
-- Assumes nothing.
use native.Mathlib.Omega.{arith}
use Rattle.code.specs.Shapes.{drop_of}
use Rattle.unpack.proofs.read.after_run.Goals as goal

pub behind_run-requires : goal.behind_run-requires
behind_run-requires c = (drop_of _ c.args.here.known, omega (arith, c.requires.1))
