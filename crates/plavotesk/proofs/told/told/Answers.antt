-- `told` meets its contract: the place holds the value with 0, and what it held with any other number.
-- Assumes nothing.
use mathlib.Core.Path.{ap, ◌∙◌}
use Prim.Native.Nat.{ℕ}
use Rattle.plavotesk.proofs.Telling.{told_ok, told_err}
use Rattle.plavotesk.proofs.told.told.Goals as goal

pub returns-in-Ok : goal.returns-in-Ok
returns-in-Ok g c = told_ok g.E.Numbered.refusals c.args.place.now c.in-Ok.is

pub returns-in-Err : goal.returns-in-Err
returns-in-Err g c = ap (λ (n : ℕ). (n, c.args.place.now)) c.number.ensures ∙ told_err g.E.Numbered.refusals c.args.place.now c.in-Err.is
