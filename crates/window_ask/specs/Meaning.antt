-- The numbered ask for a window's sum, in document 01's words and order: taken once for each number, and the kept sum answered again.
-- Assumes nothing.
use Rattle.std.specs.Prelude.{not, List, ℕ, Result, Ok, Err}
use Rattle.ground.specs.Outcome.{Outcome, accept, refuse, onward_to}
use Rattle.pages.specs.Meaning.{take_means, walk_taken, window_walk}
use Rattle.pages.specs.declared.Window.{Window}
use Rattle.state.specs.Answers.{no_turn}
use Rattle.state.specs.Turns.{turn_of}
use Rattle.state.specs.Words.{window, keep_in, kept_in, page_in}
use Rattle.state.specs.declared.NoTurn.{NoTurn}
use Rattle.state.specs.declared.Turn.TheVariants.{NewAsk, LastAsk}
use Rattle.state.specs.declared.Turn.{Turn}
use Rattle.histogram.specs.Meaning.{CallOutcome, new, again, admitted, lent}

-- a sum answered as new: "Its sum, window and number are kept"
abbrev pub keeping : List ℕ → ℕ → Window → List ℕ → ℕ → CallOutcome
keeping state number w memory sum = accept (new sum) (lent memory (keep_in state number w sum))

-- what a new ask leaves that took its window: the sum kept, or refused with the state as it was
abbrev pub taking : List ℕ → ℕ → Window → Outcome ℕ (List ℕ) → CallOutcome
taking state number w o = onward_to (keeping state number w o.leaves) (lent o.leaves state) o.answer

-- "It works on the idle page": a new ask takes its window there; refusals 14, 16
unfoldable pub new_means : List ℕ → List ℕ → ℕ → Window → CallOutcome
new_means memory state number w = taking state number w (take_means memory (not (page_in state)) w)

-- "The last accepted number with the same window answers the kept sum as again"; refusals 18 or 17
abbrev pub turn_means : Result Turn NoTurn → List ℕ → List ℕ → ℕ → Window → CallOutcome
turn_means (Ok NewAsk) memory state number w = new_means memory state number w
turn_means (Ok (LastAsk sum)) memory state number w = accept (again sum) (lent memory state)
turn_means (Err why) memory state number w = refuse (no_turn.number why) (lent memory state)

-- an ask; refusals 13, then 18 or 17, 14, 16; a repeat meets only 13
unfoldable pub ask_means : List ℕ → List ℕ → ℕ → Window → CallOutcome
ask_means memory state number w = admitted memory state (turn_means (turn_of (kept_in state) number (window w)) memory state number w)

-- a new ask whose window was taken on the idle page
abbrev pub new_taken : List ℕ → List ℕ → ℕ → Window → CallOutcome
new_taken m w number v = taking w number v (walk_taken (window_walk m (not (page_in w)) v))
