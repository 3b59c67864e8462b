-- `run` meets its contract: the leading items are tried, what they send is written, and their marks are settled by that.
-- Assumes nothing.
use mathlib.Core.Path.{◌≡◌, refl, ◌∙◌}
use native.Mathlib.Omega.{arith}
use lib.Seq.{length-take-le}
use Rattle.data_packet.proofs.Returns.{ending, ends_zero, ends_unmark, lead_inside, run_ended}
use Rattle.data_packet.proofs.run.Goals.{then-is_ok, else-is_ok}
use Rattle.data_packet.proofs.run.Goals as goal

pub trial-found-requires-clause-good : goal.trial-found-requires-clause-good
trial-found-requires-clause-good c =
    let a = c.args in
    let lead = c.leading-good in (
      omega (arith, length-take-le lead.result.0 a.inputs.items.now lead.ensures.within),
      lead_inside a.memory.now a.page a.inputs.items.now lead.result.0 a.memory.now lead.ensures refl,
    )

pub settle-requires : goal.settle-requires
settle-requires c =
    let a = c.args in
    lead_inside a.memory.now a.page a.inputs.items.now c.leading-good.result.0 c.trial-found.new.memory c.leading-good.ensures
    c.trial-found.auto.memory

pub returns : goal.returns
returns c =
    let a = c.args in
    let pass : c.if-is_ok.pass ≡ ending c.written-answer.result =
    elim c.if-is_ok.branch [
      | then-is_ok w ↦ w.pass-is ∙ ends_zero c.written-answer.result w.if-is_ok.ensures.value
      | else-is_ok w ↦ w.pass-is ∙ ends_unmark c.written-answer.result w.if-is_ok.ensures.value
    ] in
    let lead = c.leading-good in
    let found = c.trial-found in
    let written = c.written-answer.ensures in
    run_ended a.memory.now a.page _ _ a.buffer.now lead.result.0 lead.result.1 found.result found.new.memory found.new.bytes lead.ensures
    found.ensures found.auto.memory written.fine c.apid.ensures written pass c.settle.ensures
