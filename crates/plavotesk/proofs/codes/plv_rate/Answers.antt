-- `plv_rate` meets its contract: the bits of the quotients and of the seconds of the rate that was formed, the bits missing where they ran out.
-- Assumes nothing.
use mathlib.Core.Path.{◌∙◌}
use Rattle.plavotesk.proofs.Doubles.{formed_numbers, same_quotients}
use Rattle.plavotesk.proofs.Telling.{refl, with_memory_lem, reads, refuses_reading}
use Rattle.plavotesk.proofs.codes.plv_rate.Goals as goal

pub bits-requires : goal.bits-requires
bits-requires c = (formed_numbers c.in-Ok.ensures).0

pub bits-requires-in-Ok : goal.bits-requires-in-Ok
bits-requires-in-Ok c = (formed_numbers c.in-Ok.ensures).1

pub bits-requires-in-Ok-2 : goal.bits-requires-in-Ok-2
bits-requires-in-Ok-2 c = (formed_numbers c.in-Ok.ensures).2

pub returns-in-Ok : goal.returns-in-Ok
returns-in-Ok c =
    with_memory_lem (same_quotients _ c.bits.ensures c.bits-in-Ok.ensures c.bits-in-Ok-2.ensures) refl ∙ reads _ _ _ c.in-Ok.ensures.answer

pub returns-in-Err-Refused : goal.returns-in-Err-Refused
returns-in-Err-Refused c =
    let met = rw c.in-Err-Refused.field-0-is at c.in-Err-Refused.ensures in
    refuses_reading _ _ _ met.answer c.refused.ensures.0 c.refused.ensures.1

pub returns-in-Err-OutOfRange : goal.returns-in-Err-OutOfRange
returns-in-Err-OutOfRange c =
    let met = rw c.in-Err-OutOfRange.field-0-is at c.in-Err-OutOfRange.ensures in
    refuses_reading _ _ _ met.answer c.number.ensures refl
