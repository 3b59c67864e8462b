-- `histogram::fresh` meets its contract: the state's words filled with 0, and then 2N put into the first.
-- Assumes nothing.
use mathlib.Core.Path.{refl}
use Rattle.std.proofs.Common.{length-take-le}
use Rattle.state.specs.Words.{fresh_in, state_words}
use Rattle.histogram.proofs.fresh.Goals as goal

pub returns : goal.returns
unfolding fresh_in
returns c = rw (c.fill.ensures.after (λ y e. e), length-take-le state_words c.args.state.now c.requires) refl
