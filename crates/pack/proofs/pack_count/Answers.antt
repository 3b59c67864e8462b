-- `pack::pack_count` meets its contract: 8 first, then 3, else the code stands at its place.
-- Assumes nothing.
use Rattle.code.specs.Shapes.{none}
use native.Mathlib.Omega.{arith}
use Rattle.pack.proofs.pack_count.Goals as goal

pub code-code-requires : goal.code-code-requires
code-code-requires c = (none, omega arith, omega arith)
