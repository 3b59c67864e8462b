-- Each answer as document 01 has it, and the refusals' numbers.
-- Assumes nothing.
use Rattle.std.specs.Prelude.{refl, [], ℕ, eqb, Result}
use Rattle.ground.specs.Choice.{pick}
use Rattle.ground.specs.Paper.{Paper}
use Rattle.ground.specs.Refusals.{Refusals, on_paper}
use Rattle.pages.specs.declared.NotCounted.{NotCounted}
use Rattle.pages.specs.declared.NotCounted.TheVariants as counting
use Rattle.pages.specs.declared.NotTaken.{NotTaken}
use Rattle.pages.specs.declared.NotTaken.TheVariants.{WrongCell, AboveFull}
use Rattle.pages.specs.declared.WrongCell as cell

-- a particle that is not counted: 14, 15, 16
abbrev pub not_counted : Refusals NotCounted
not_counted =
    record {
      number = elim [ counting.WrongAddress ↦ 14 | counting.Full ↦ 15 | counting.AboveFull ↦ 16 ];
      carried = λ why. [];
      back = λ n carried. pick (eqb n 14) counting.WrongAddress (pick (eqb n 15) counting.Full counting.AboveFull);
      home = elim [ counting.WrongAddress ↦ refl | counting.Full ↦ refl | counting.AboveFull ↦ refl ];
    }

-- a window that is not taken: 14, 16
abbrev pub not_taken : Refusals NotTaken
not_taken =
    record {
      number = elim [ WrongCell ↦ 14 | AboveFull ↦ 16 ];
      carried = λ why. [];
      back = λ n carried. pick (eqb n 14) WrongCell AboveFull;
      home = elim [ WrongCell ↦ refl | AboveFull ↦ refl ];
    }

-- a window that is not gone over: 14
abbrev pub wrong_cell : Refusals cell.WrongCell
wrong_cell = record { number = λ why. 14; carried = λ why. []; back = λ n carried. record {}; home = λ why. refl }

-- counting: done, or 14, 15, 16
abbrev pub count_paper : Result (Unit {0}) NotCounted → Paper (Unit {0})
count_paper = on_paper not_counted

-- checking a window: sound, or 14, 16
abbrev pub checked_paper : Result (Unit {0}) NotTaken → Paper (Unit {0})
checked_paper = on_paper not_taken

-- taking a window: its sum, or 14, 16
abbrev pub taken_paper : Result ℕ NotTaken → Paper ℕ
taken_paper = on_paper not_taken

-- going over a window: the sum of what was seen, or 14
abbrev pub passed_paper : Result ℕ cell.WrongCell → Paper ℕ
passed_paper = on_paper wrong_cell
