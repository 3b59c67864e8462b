-- `unpack::shape` meets its contract: the drop's refusal first, then a position past the end, then what was found at the position.
-- Assumes nothing.
use mathlib.Core.Path.{sym, ◌∙◌}
use Rattle.unpack.proofs.Parts.{shape_is}
use Rattle.unpack.proofs.shape.Goals as goal

pub returns-else-past_end : goal.returns-else-past_end
returns-else-past_end c =
    let a = c.args in
    record {
      answer = shape_is a.bytes.now a.at a.drop _ (sym c.drop_known.ensures ∙ c.if-drop_known.true) c.end_of-end.ensures
          (sym c.past_end.ensures ∙ c.if-past_end.false) c.code.ensures;
    }
