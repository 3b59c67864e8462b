-- `pack::field` meets its contract: 8 first, then 3, else the bits stand at their place.
-- Assumes nothing.
use mathlib.Core.Path.{sym}
use Rattle.pack.proofs.Writing.{held_length}
use native.Mathlib.Omega.{arith}
use Rattle.pack.proofs.field.Goals as goal

pub place-requires : goal.place-requires
place-requires c = omega (arith, held_length _ _ (sym c.last-bits.ensures))
