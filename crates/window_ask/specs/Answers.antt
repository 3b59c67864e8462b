-- An ask's answer as document 01 has it, and its refusals' numbers.
-- Assumes nothing.
use Rattle.std.specs.Prelude.{◌≡◌, refl, [], eqb, leb, Result}
use Rattle.ground.specs.Choice.{pick}
use Rattle.ground.specs.Paper.{Paper, mapped}
use Rattle.ground.specs.Refusals.{Refusals, on_paper}
use Rattle.pages.specs.Answers.{not_taken}
use Rattle.pages.specs.declared.NotTaken.TheVariants as taking
use Rattle.state.specs.Answers.{no_turn, wrong_memory}
use Rattle.state.specs.declared.NoTurn.TheVariants as turning
use Rattle.histogram.specs.Meaning.{Value, done, new, again}
use Rattle.window_ask.specs.declared.Answered.{Answered}
use Rattle.window_ask.specs.declared.NotAsked.{NotAsked}
use Rattle.window_ask.specs.declared.NotAsked.TheVariants.{Memory, Turn, Window}

-- an ask that is refused: 13, 17 or 18, 14 or 16
abbrev pub not_asked : Refusals NotAsked
not_asked =
    record {
      number = elim [ Memory why ↦ wrong_memory.number why | Turn why ↦ no_turn.number why | Window why ↦ not_taken.number why ];
      carried = λ why. [];
      back = λ n carried. pick (eqb n 13) (Memory (record {})) (pick (leb 17 n) (Turn (no_turn.back n carried)) (Window (not_taken.back n carried)));
      home = elim [
        | Memory why ↦ refl
        | Turn turning.OtherAsk ↦ refl
        | Turn turning.OutOfTurn ↦ refl
        | Window taking.WrongCell ↦ refl
        | Window taking.AboveFull ↦ refl
      ];
    }

-- an accepted ask as document 01 has it: the sum, new or again
abbrev pub value_of : Answered → Value
value_of (Answered.New sum) = new sum
value_of (Answered.Again sum) = again sum

-- the answer that reads so
abbrev pub value_back : Value → Answered
value_back done = Answered.New 0
value_back (new sum) = Answered.New sum
value_back (again sum) = Answered.Again sum

-- an answer is the one that reads as it does
pub value_home : (a : Answered) → value_back (value_of a) ≡ a
value_home (Answered.New sum) = refl
value_home (Answered.Again sum) = refl

-- an ask: the sum, new or again, or 13, 14, 16, 17, 18
abbrev pub ask_paper : Result Answered NotAsked → Paper Value
ask_paper r = mapped value_of (on_paper not_asked r)
