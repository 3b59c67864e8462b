-- Each answer as document 01 has it, and the refusals' numbers.
-- Assumes nothing.
use Rattle.std.specs.Prelude.{refl, [], ℕ, eqb, Result}
use Rattle.ground.specs.Choice.{pick}
use Rattle.ground.specs.Paper.{Paper}
use Rattle.ground.specs.Refusals.{Refusals, on_paper}
use Rattle.state.specs.declared.NoNext.{NoNext}
use Rattle.state.specs.declared.NoTurn.{NoTurn}
use Rattle.state.specs.declared.NoTurn.TheVariants.{OtherAsk, OutOfTurn}
use Rattle.state.specs.declared.WrongMemory.{WrongMemory}

-- an ask whose turn it is not: 18, 17
abbrev pub no_turn : Refusals NoTurn
no_turn =
    record {
      number = elim [ OtherAsk ↦ 18 | OutOfTurn ↦ 17 ];
      carried = λ why. [];
      back = λ n carried. pick (eqb n 18) OtherAsk OutOfTurn;
      home = elim [ OtherAsk ↦ refl | OutOfTurn ↦ refl ];
    }

-- a memory that is not the state's own, or a state of too few words: 13
abbrev pub wrong_memory : Refusals WrongMemory
wrong_memory = record { number = λ why. 13; carried = λ why. []; back = λ n carried. record {}; home = λ why. refl }

-- a state that no next number follows: 13
abbrev pub no_next : Refusals NoNext
no_next = record { number = λ why. 13; carried = λ why. []; back = λ n carried. record {}; home = λ why. refl }

-- the next ask's number, or 13
abbrev pub next_paper : Result ℕ NoNext → Paper ℕ
next_paper = on_paper no_next
