-- `plv_reading` meets its contract: the edges of what was read, the bits missing where they ran out.
-- Assumes nothing.
use mathlib.Core.Path.{sym, ap, ◌∙◌}
use Rattle.rate.specs.declared.record.Reading.{Reading}
use Rattle.plavotesk.specs.Meaning.{edges_of}
use Rattle.plavotesk.proofs.Doubles.{read_numbers, same_edges}
use Rattle.plavotesk.proofs.Telling.{refl, with_memory_lem, reads, refuses_reading}
use Rattle.plavotesk.proofs.codes.plv_reading.Goals as goal

pub bits-requires : goal.bits-requires
bits-requires c = read_numbers c.in-Ok.ensures c.in-Exact.is

pub bits-requires-in-Exact : goal.bits-requires-in-Exact
bits-requires-in-Exact c = read_numbers c.in-Ok.ensures c.in-Exact.is

pub bits-requires-in-Between : goal.bits-requires-in-Between
bits-requires-in-Between c = (read_numbers c.in-Ok.ensures c.in-Between.is).0

pub bits-requires-in-Between-2 : goal.bits-requires-in-Between-2
bits-requires-in-Between-2 c = (read_numbers c.in-Ok.ensures c.in-Between.is).1

pub returns-in-Exact : goal.returns-in-Exact
returns-in-Exact c =
    with_memory_lem
    (same_edges 1 _ c.bits.ensures c.bits-in-Exact.ensures ∙ ap (λ (x : Reading). (0, edges_of x c.in-Ok.counts.next)) (sym c.in-Exact.is)) refl
    ∙ reads _ _ _ c.in-Ok.ensures.answer

pub returns-in-Between : goal.returns-in-Between
returns-in-Between c =
    with_memory_lem
    (same_edges 0 _ c.bits-in-Between.ensures c.bits-in-Between-2.ensures
    ∙ ap (λ (x : Reading). (0, edges_of x c.in-Ok.counts.next)) (sym c.in-Between.is)) refl
    ∙ reads _ _ _ c.in-Ok.ensures.answer

pub returns-in-Err : goal.returns-in-Err
returns-in-Err c = refuses_reading _ _ _ c.in-Err.ensures.answer c.refused.ensures.0 c.refused.ensures.1
