-- Each answer as document 01 has it: its values, and the number of each refusal.
-- Assumes nothing.
use Rattle.std.specs.Prelude.{◌≡◌, refl, List, [], ◌∷◌, ℕ, Result, eqb, get_or}
use Rattle.ground.specs.Choice.{pick}
use Rattle.ground.specs.Paper.{Paper, mapped}
use Rattle.ground.specs.Refusals.{Refusals, on_paper}
use Rattle.packet.specs.Meaning.{FoundValues, HeaderValues}
use Rattle.packet.specs.declared.Found.{Found}
use Rattle.packet.specs.declared.Headed.{Headed}
use Rattle.packet.specs.declared.NotFound.{NotFound}
use Rattle.packet.specs.declared.NotFound.TheVariants as F
use Rattle.packet.specs.declared.NoHeader.{NoHeader}
use Rattle.packet.specs.declared.NoHeader.TheVariants as H
use Rattle.packet.specs.declared.NotWritten.{NotWritten}
use Rattle.packet.specs.declared.NotWritten.TheVariants as W

-- finding refuses by 20 with what was skipped, and by 1
abbrev not_found_number : NotFound → ℕ
not_found_number (F.Nothing s) = 20
not_found_number F.TooLong = 1

-- only 20 carries what was skipped
abbrev not_found_carries : NotFound → List ℕ
not_found_carries (F.Nothing s) = s ∷ []
not_found_carries F.TooLong = []

-- there and back is the same refusal
pub not_found_home : (why : NotFound)
    → pick (eqb (not_found_number why) 1) F.TooLong (F.Nothing (get_or (not_found_carries why) 0 0)) ≡ why
not_found_home (F.Nothing s) = refl
not_found_home F.TooLong = refl

-- 20 with what was skipped, or 1
abbrev pub not_found : Refusals NotFound
not_found = record {
  number = not_found_number;
  carried = not_found_carries;
  back = λ n carried. pick (eqb n 1) F.TooLong (F.Nothing (get_or carried 0 0));
  home = not_found_home;
}

-- a header is refused by 20, and by 1
abbrev no_header_number : NoHeader → ℕ
no_header_number H.NoPacket = 20
no_header_number H.TooLong = 1

-- there and back is the same refusal
pub no_header_home : (why : NoHeader) → pick (eqb (no_header_number why) 20) H.NoPacket H.TooLong ≡ why
no_header_home H.NoPacket = refl
no_header_home H.TooLong = refl

-- 20, or 1
abbrev pub no_header : Refusals NoHeader
no_header = record {
  number = no_header_number;
  carried = λ why. [];
  back = λ n carried. pick (eqb n 20) H.NoPacket H.TooLong;
  home = no_header_home;
}

-- writing is refused by 2, and by 3
abbrev not_written_number : NotWritten → ℕ
not_written_number W.TooMuchData = 2
not_written_number W.BufferTooShort = 3

-- there and back is the same refusal
pub not_written_home : (why : NotWritten) → pick (eqb (not_written_number why) 2) W.TooMuchData W.BufferTooShort ≡ why
not_written_home W.TooMuchData = refl
not_written_home W.BufferTooShort = refl

-- 2, or 3
abbrev pub not_written : Refusals NotWritten
not_written = record {
  number = not_written_number;
  carried = λ why. [];
  back = λ n carried. pick (eqb n 2) W.TooMuchData W.BufferTooShort;
  home = not_written_home;
}

-- a packet that was found, and a header, in document 01's words
abbrev pub found_values : Found → FoundValues
found_values found = record { place = found.place; skipped = found.skipped }

abbrev pub header_values : Headed → HeaderValues
header_values header = record { apid = header.apid; length = header.length }

-- finding: a place and what was skipped; 20 with what was skipped; 1
abbrev pub found_paper : Result Found NotFound → Paper FoundValues
found_paper answer = mapped found_values (on_paper not_found answer)

-- a header: APID and n; 20; 1
abbrev pub headed_paper : Result Headed NoHeader → Paper HeaderValues
headed_paper answer = mapped header_values (on_paper no_header answer)

-- writing: the bytes written; 2; 3
abbrev pub written_paper : Result ℕ NotWritten → Paper ℕ
written_paper = on_paper not_written
