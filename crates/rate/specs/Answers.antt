-- What each answer is on document 01's paper, and the way back.
-- Assumes nothing.
use Rattle.std.specs.Prelude.{◌≡◌, refl, List, [], ℕ, eqb, Result}
use Rattle.ground.specs.Choice.{pick}
use Rattle.ground.specs.Paper.{Paper, mapped}
use Rattle.ground.specs.Refusals.{Refusals, on_paper}
use Rattle.code.specs.declared.Refusal.{Refusal}
use Rattle.code.specs.declared.Refusal.TheVariants.{OutsideRule, RanOut, RedundantZero, RunTooLong}
use Rattle.code.specs.Answers.{refusal_number, refusal_carries, refusal_back, not_read}
use Rattle.rate.specs.declared.Counts.{Counts}
use Rattle.rate.specs.declared.Formed.{Formed}
use Rattle.rate.specs.declared.NotFormed.{NotFormed}
use Rattle.rate.specs.declared.NotFormed.TheVariants.{Refused, OutOfRange}
use Rattle.rate.specs.Meaning.{ReadingValues, RateValues}

-- counts that were read, in document 01's words
abbrev pub counts_values : Counts → ReadingValues
counts_values c = record { reading = c.reading; next = c.next }

-- the counts that have these values
abbrev pub counts_from : ReadingValues → Counts
counts_from v = record { reading = v.reading; next = v.next }

-- the reading and the next position; 8, 9 with the bits missing, 10 or 11
abbrev pub reading_paper : Result Counts Refusal → Paper ReadingValues
reading_paper r = mapped counts_values (on_paper not_read r)

-- the numbers of what refuses a rate: the reading's, or a level's 19
abbrev pub not_formed_number : NotFormed → ℕ
not_formed_number (Refused why) = refusal_number why
not_formed_number OutOfRange = 19

-- what they carry
abbrev pub not_formed_carries : NotFormed → List ℕ
not_formed_carries (Refused why) = refusal_carries why
not_formed_carries OutOfRange = []

-- the refusal of a number and what it carries
abbrev pub not_formed_back : ℕ → List ℕ → NotFormed
not_formed_back n carried = pick (eqb n 19) OutOfRange (Refused (refusal_back n carried))

-- a refusal is the one of its number and what it carries
pub not_formed_home : (why : NotFormed) → not_formed_back (not_formed_number why) (not_formed_carries why) ≡ why
not_formed_home (Refused OutsideRule) = refl
not_formed_home (Refused (RanOut missing)) = refl
not_formed_home (Refused RedundantZero) = refl
not_formed_home (Refused RunTooLong) = refl
not_formed_home OutOfRange = refl

-- the refusals of a rate
abbrev pub not_formed : Refusals NotFormed
not_formed = record { number = not_formed_number; carried = not_formed_carries; back = not_formed_back; home = not_formed_home }

-- a rate that was formed, in document 01's words
abbrev pub formed_values : Formed → RateValues
formed_values f = record { rate = f.rate; next = f.next }

-- the rate that has these values
abbrev pub formed_from : RateValues → Formed
formed_from v = record { rate = v.rate; next = v.next }

-- the rate and the next position; 8, 9 with the bits missing, 10, 11 or 19
abbrev pub rate_paper : Result Formed NotFormed → Paper RateValues
rate_paper r = mapped formed_values (on_paper not_formed r)
