-- Each answer as document 01 has it.
-- Assumes nothing.
use Rattle.std.specs.Prelude.{refl, [], ℕ, Result}
use Rattle.ground.specs.Paper.{Paper}
use Rattle.ground.specs.Refusals.{Refusals, on_paper}
use Rattle.cadence.specs.declared.NoLevel.{NoLevel}
use Rattle.cadence.specs.declared.OutOfRange.{OutOfRange}

-- a level over 7: 19
abbrev pub no_level : Refusals NoLevel
no_level = record { number = λ why. 19; carried = λ why. []; back = λ n carried. record {}; home = λ why. refl }

-- a second past the hour: 19
abbrev pub out_of_range : Refusals OutOfRange
out_of_range = record { number = λ why. 19; carried = λ why. []; back = λ n carried. record {}; home = λ why. refl }

-- the seconds that a level lasts, or 19
abbrev pub length_paper : Result ℕ NoLevel → Paper ℕ
length_paper = on_paper no_level

-- the level, or 19
abbrev pub level_paper : Result ℕ OutOfRange → Paper ℕ
level_paper = on_paper out_of_range
