-- `turn_of` meets its contract: the turn by the number, told whether the ask repeats the kept one.
-- Assumes nothing.
use mathlib.Core.Path.{ap, ◌∙◌}
use Rattle.state.specs.Laws.{turn_repeats}
use Rattle.state.specs.Meaning.{turn_by}
use Rattle.state.specs.Words.{window}
use Rattle.state.proofs.turn_of.Goals as goal

pub returns : goal.returns
returns c =
    let a = c.args in
    c.turn_by.ensures ∙ ap (turn_by a.state.now a.number) c.repeats.ensures ∙ turn_repeats a.state.now a.number (window a.window)
