-- Each answer as document 01 has it, and the way back.
-- Assumes nothing.
use Rattle.std.specs.Prelude.{refl, [], ℕ, Result}
use Rattle.ground.specs.Paper.{Paper}
use Rattle.ground.specs.Refusals.{Refusals, on_paper}
use Rattle.format.specs.declared.CodeTooLarge.{CodeTooLarge}
use Rattle.format.specs.declared.TooLarge.{TooLarge}

-- a count too large for its format: 12
abbrev pub too_large : Refusals TooLarge
too_large = record { number = λ why. 12; carried = λ why. []; back = λ n carried. record {}; home = λ why. refl }

-- a code above the largest 24-bit integer: 12
abbrev pub code_too_large : Refusals CodeTooLarge
code_too_large = record { number = λ why. 12; carried = λ why. []; back = λ n carried. record {}; home = λ why. refl }

-- the 16-bit float, or 12
abbrev pub code16_paper : Result ℕ TooLarge → Paper ℕ
code16_paper = on_paper too_large

-- the 8-bit float, or 12
abbrev pub code8_paper : Result ℕ TooLarge → Paper ℕ
code8_paper = on_paper too_large

-- the 24-bit integer, or 12
abbrev pub code24_paper : Result ℕ TooLarge → Paper ℕ
code24_paper = on_paper too_large

-- the 24-bit integer's count, or 12
abbrev pub count24_paper : Result ℕ CodeTooLarge → Paper ℕ
count24_paper = on_paper code_too_large
