-- Two outcomes that meet an ask's promise are equal: answer, memory and state.
-- Assumes nothing.
use Rattle.std.specs.Prelude.{◌≡◌, List, ℕ, Result}
use Rattle.ground.specs.Paper.{number_of, one_value}
use Rattle.pages.specs.declared.Window.{Window}
use Rattle.histogram.specs.OneOutcome.{result_call_one}
use Rattle.window_ask.specs.Answers.{ask_paper, not_asked, value_of, value_back, value_home}
use Rattle.window_ask.specs.Promise.{AskPromise}
use Rattle.window_ask.specs.declared.Answered.{Answered}
use Rattle.window_ask.specs.declared.NotAsked.{NotAsked}

-- an ask
pub ask_one : {m w : List ℕ} {number : ℕ} {window : Window} {r s : Result Answered NotAsked} {m' n' w' v' : List ℕ}
    → AskPromise m w number window r m' w' → AskPromise m w number window s n' v' → (r ≡ s) × (m' ≡ n') × (w' ≡ v')
ask_one p q = result_call_one not_asked value_of value_back value_home p.outcome q.outcome

-- one number for an ask's answer
pub ask_number_one : (answer : Result Answered NotAsked) {m n : ℕ} → m ≡ number_of (ask_paper answer) → n ≡ number_of (ask_paper answer) → m ≡ n
ask_number_one answer p q = one_value p q
