-- Each answer as document 01 has it: its values, and the number of each refusal.
-- Assumes nothing.
use Rattle.std.specs.Prelude.{◌≡◌, refl, [], ℕ, Result, eqb}
use Rattle.ground.specs.Choice.{pick}
use Rattle.ground.specs.Paper.{Paper, mapped}
use Rattle.ground.specs.Refusals.{Refusals, on_paper}
use Rattle.message.specs.Meaning.{ReadValues}
use Rattle.message.specs.declared.Message.{Message}
use Rattle.message.specs.declared.NotRead.{NotRead}
use Rattle.message.specs.declared.NotRead.TheVariants as R
use Rattle.message.specs.declared.NotWritten.{NotWritten}
use Rattle.message.specs.declared.NotWritten.TheVariants as W

-- reading is refused by 4, 5 and 6
abbrev not_read_number : NotRead → ℕ
not_read_number R.WrongMark = 4
not_read_number R.CutShort = 5
not_read_number R.WrongChecksum = 6

-- the refusal of a number
abbrev not_read_back : ℕ → NotRead
not_read_back n = pick (eqb n 4) R.WrongMark (pick (eqb n 5) R.CutShort R.WrongChecksum)

-- there and back is the same refusal
pub not_read_home : (why : NotRead) → not_read_back (not_read_number why) ≡ why
not_read_home R.WrongMark = refl
not_read_home R.CutShort = refl
not_read_home R.WrongChecksum = refl

-- 4, 5, or 6
abbrev pub not_read : Refusals NotRead
not_read = record { number = not_read_number; carried = λ why. []; back = λ n carried. not_read_back n; home = not_read_home }

-- writing is refused by 7 and 3
abbrev not_written_number : NotWritten → ℕ
not_written_number W.OutsideRule = 7
not_written_number W.BufferTooShort = 3

-- the refusal of a number
abbrev not_written_back : ℕ → NotWritten
not_written_back n = pick (eqb n 7) W.OutsideRule W.BufferTooShort

-- there and back is the same refusal
pub not_written_home : (why : NotWritten) → not_written_back (not_written_number why) ≡ why
not_written_home W.OutsideRule = refl
not_written_home W.BufferTooShort = refl

-- 7, or 3
abbrev pub not_written : Refusals NotWritten
not_written = record { number = not_written_number; carried = λ why. []; back = λ n carried. not_written_back n; home = not_written_home }

-- a message that was read, in document 01's words
abbrev pub message_values : Message → ReadValues
message_values m = record { address = m.address; tag = m.tag; value = m.value; used = m.used }

-- reading: address, tag, value and the bytes used; 4; 5; 6
abbrev pub read_paper : Result Message NotRead → Paper ReadValues
read_paper answer = mapped message_values (on_paper not_read answer)

-- writing: the bytes written; 7; 3
abbrev pub written_paper : Result ℕ NotWritten → Paper ℕ
written_paper = on_paper not_written
