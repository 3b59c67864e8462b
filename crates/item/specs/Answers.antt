-- What sending answers as document 01 has it, and its refusals.
-- Assumes nothing.
use Rattle.std.specs.Prelude.{◌≡◌, refl, [], ℕ, eqb, Result, Ok, Err}
use Rattle.ground.specs.Choice.{pick}
use Rattle.ground.specs.Paper.{Paper}
use Rattle.ground.specs.Refusals.{Refusals, on_paper}
use Rattle.code.specs.declared.NotPacked.{NotPacked}
use Rattle.code.specs.declared.NotPacked.TheVariants as P
use Rattle.item.specs.declared.NotSent.{NotSent}
use Rattle.item.specs.declared.NotSent.TheVariants.{TooLarge, TooShort}

-- why nothing was sent: 12 or 3
abbrev pub not_sent_number : NotSent → ℕ
not_sent_number TooLarge = 12
not_sent_number TooShort = 3

-- the refusal of sending that has a number
abbrev pub not_sent_back : ℕ → NotSent
not_sent_back n = pick (eqb n 12) TooLarge TooShort

-- no two refusals of sending have one number
pub not_sent_home : (why : NotSent) → not_sent_back (not_sent_number why) ≡ why
not_sent_home TooLarge = refl
not_sent_home TooShort = refl

-- the refusals of sending
abbrev pub not_sent : Refusals NotSent
not_sent = record { number = not_sent_number; carried = λ why. []; back = λ n carried. not_sent_back n; home = not_sent_home }

-- the next position; 12 or 3
abbrev pub sent_paper : Result ℕ NotSent → Paper ℕ
sent_paper = on_paper not_sent

-- a refusal of writing, as the refusal of sending; no format that is sent asks for bits outside the rule
abbrev pub unsent : NotPacked → NotSent
unsent P.OutsideRule = TooLarge
unsent P.TooShort = TooShort

-- what writing answered, as the answer of sending
abbrev pub sent_of : Result ℕ NotPacked → Result ℕ NotSent
sent_of (Ok next) = Ok next
sent_of (Err why) = Err (unsent why)
