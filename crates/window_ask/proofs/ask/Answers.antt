-- `window_ask::ask` meets its contract: an ask whose turn it is not is refused.
-- Assumes nothing.
use mathlib.Core.Path.{sym}
use Rattle.std.proofs.lemmas.Result.{err_from_is_err_and}
use Rattle.state.specs.Laws.{turn_kept}
use Rattle.state.specs.Words.{window}
use Rattle.histogram.specs.States.{admits_long}
use Rattle.window_ask.specs.Meaning.{ask_means}
use Rattle.window_ask.proofs.ask.Goals as goal

pub returns-in_err-turn_of : goal.returns-in_err-turn_of
unfolding ask_means
returns-in_err-turn_of c =
    let a = c.args in
    let go = sym c.in_ok-admit.ensures.answer in
    let turn = turn_kept a.state.now a.number (window a.window) (admits_long _ _ go) in
    let said = err_from_is_err_and c.from_residual-in_err-turn_of.result c.from_residual-in_err-turn_of.ensures.1 in
    rw (said.1, said.2) (record { outcome = rw (go, ← turn, ← c.in_err-turn_of.ensures) })
