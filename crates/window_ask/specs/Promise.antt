-- What an ask promises of its answer, the memory and the state's words at exit.
-- Assumes nothing.
use Rattle.std.specs.Prelude.{◌≡◌, List, ℕ, Result}
use Rattle.ground.specs.Outcome.{outcome_of}
use Rattle.pages.specs.declared.Window.{Window}
use Rattle.histogram.specs.Meaning.{lent}
use Rattle.window_ask.specs.Answers.{ask_paper}
use Rattle.window_ask.specs.Meaning.{ask_means}
use Rattle.window_ask.specs.declared.Answered.{Answered}
use Rattle.window_ask.specs.declared.NotAsked.{NotAsked}

-- what an ask promises
pub record AskPromise (memory state : List ℕ) (number : ℕ) (window : Window) (r : Result Answered NotAsked) (memory' state' : List ℕ) : Type 0 where
  pub outcome : outcome_of (ask_paper r) (lent memory' state') ≡ ask_means memory state number window
