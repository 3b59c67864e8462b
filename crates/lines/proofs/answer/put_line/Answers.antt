-- `lines::put_line` meets its contract.
-- Assumes nothing.
use mir.Syntax.{w32}
use mir.ValLaws.{to_z-of_z}
use mathlib.Core.Path.{sym, ◌∙◌}
use mir.Val.{SFits}
use Rattle.lines.proofs.Answering.{answer_good, answer_refused}
use borrow.Author.Rules.{rules}
use Rattle.lines.proofs.answer.put_line.Goals as goal

pub returns-then-is_sound : goal.returns-then-is_sound
returns-then-is_sound c =
    let ok : SFits w32 c.number_of.result = search rules in answer_good
    c.args.line _ c.number_of.result (to_z-of_z w32 c.number_of.result ok) c.number_of.ensures
    (sym c.is_sound.ensures ∙ c.if-is_sound.true) c.put_number.ensures

pub returns-else-is_sound : goal.returns-else-is_sound
returns-else-is_sound c =
    answer_refused c.args.line (sym c.is_sound.ensures ∙ c.if-is_sound.false) c.put_text.ensures
