-- `plv_code_unpack` meets its contract: the number and the next position where a code was read, the bits missing where they ran out.
-- Assumes nothing.
use mir.Syntax.{w32}
use mir.Val.{SFits}
use mir.ValLaws.{to_z-of_z}
use Rattle.plavotesk.proofs.Telling.{rules, reads, refuses_reading}
use Rattle.plavotesk.proofs.codes.plv_code_unpack.Goals as goal

pub returns-in-Ok : goal.returns-in-Ok
returns-in-Ok c =
    let fits : SFits w32 c.in-Ok.code.value = search rules in
    rw (to_z-of_z w32 c.in-Ok.code.value fits) (reads _ _ _ c.in-Ok.ensures.answer)

pub returns-in-Err : goal.returns-in-Err
returns-in-Err c = refuses_reading _ _ _ c.in-Err.ensures.answer c.refused.ensures.0 c.refused.ensures.1
