-- `lines::put_spaced` meets its contract.
-- Assumes nothing.
use mir.Syntax.{w32}
use mir.ValLaws.{to_z-of_z}
use native.Mathlib.Omega.{arith}
use Rattle.lines.proofs.Texts.{spaced_put}
use Rattle.lines.proofs.text.put_spaced.Goals as goal

pub returns : goal.returns
returns c =
    spaced_put _ c.args.v (to_z-of_z w32 c.args.v c.ranges.v) c.requires.1 c.requires.2 (omega (arith, c.requires.0))
    c.put_byte-after.ensures.0 c.put_code.ensures
