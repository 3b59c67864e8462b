-- Packets: document 01, "Packets and messages" (000, 3.1), in its words and order.
-- Assumes nothing.
use Rattle.std.specs.Prelude.{Bool, not, ◌&&◌, List, [], ◌∷◌, ◌++◌, ℕ, zero, suc, ◌+◌, ◌-◌, leb, ltb, eqb, length, take, drop, get_or}
use Rattle.ground.specs.Choice.{pick}
use Rattle.ground.specs.Paper.{Paper, accepted, refused, refused_with}
use Rattle.ground.specs.Outcome.{Outcome, accept, refuse}
use Rattle.ground.specs.Words.{bytes_of, word_at}
use Rattle.ground.specs.Meaning.{lies}
use Rattle.crc.specs.Meaning.{sealed_of, sealed_at}

-- "bytes BE BA CA FE"
abbrev pub mark : List ℕ
mark = 0xBE ∷ 0xBA ∷ 0xCA ∷ 0xFE ∷ []

-- "bytes BE BA CA FE; a word whose top three bits are 0 and whose low 13 bits are n+4; a 16-bit APID; n data bytes"
abbrev pub covered : ℕ → List ℕ → List ℕ
covered apid payload = mark ++ (bytes_of 2 (length payload + 4) ++ (bytes_of 2 apid ++ payload))

-- ".. checksum": all that with its checksum behind it
unfoldable pub packet_of : ℕ → List ℕ → List ℕ
packet_of apid payload = sealed_of (covered apid payload)

-- the mark stands at a place
abbrev pub marked : List ℕ → ℕ → Bool
marked capture at =
    eqb (get_or capture at 0) 0xBE && (eqb (get_or capture (at + 1) 0) 0xBA
    && (eqb (get_or capture (at + 2) 0) 0xCA && eqb (get_or capture (at + 3) 0) 0xFE))

-- the word says a length: its top three bits are 0, and its low 13 bits are n+4
abbrev pub sized : ℕ → Bool
sized word = leb 4 word && ltb word 8192

-- n, by the length word of the packet at a place
abbrev pub data_length : List ℕ → ℕ → ℕ
data_length capture at = word_at capture (at + 4) - 4

-- the APID of the packet at a place
abbrev pub apid_at : List ℕ → ℕ → ℕ
apid_at capture at = word_at capture (at + 6)

-- "A packet stands at a place in a capture if all of it lies in the capture and all these hold."
unfoldable pub stands : List ℕ → ℕ → Bool
stands capture at =
    lies capture at 10 && (marked capture at && (sized (word_at capture (at + 4)) && sealed_at capture at (data_length capture at + 8)))

-- a capture of more than 65,536 bytes is not looked into
abbrev pub too_long : List ℕ → Bool
too_long capture = ltb 65536 (length capture)

-- "the number of places at which no packet stood" among the first so many
abbrev pub failed_before : List ℕ → ℕ → ℕ
failed_before capture zero = 0
failed_before capture (suc k) = failed_before capture k + pick (stands capture k) 0 1

-- where a packet was found, and what was skipped before it
pub record FoundValues : Type 0 where
  pub place : ℕ
  pub skipped : ℕ

-- "the first place where a packet stands and the bytes skipped before it": of so many places from one on; none: 20
abbrev pub find_from : List ℕ → ℕ → ℕ → Paper FoundValues
find_from capture at zero = refused_with 20 (failed_before capture at)
find_from capture at (suc k) =
    pick (stands capture at) (accepted (record { place = at; skipped = failed_before capture at })) (find_from capture (suc at) k)

-- finding: 1, then the first place of the whole capture or 20
unfoldable pub find_means : List ℕ → Paper FoundValues
find_means capture = pick (too_long capture) (refused 1) (find_from capture 0 (length capture))

-- what stands in a packet's header
pub record HeaderValues : Type 0 where
  pub apid : ℕ
  pub length : ℕ

-- "A call beside it answers APID and n, or 1 or 20"
unfoldable pub header_means : List ℕ → ℕ → Paper HeaderValues
header_means capture at =
    pick (too_long capture) (refused 1)
    (pick (stands capture at) (accepted (record { apid = apid_at capture at; length = data_length capture at })) (refused 20))

-- the data may be handed back: the capture is not too long, and a packet stands at the place
abbrev pub handed : List ℕ → ℕ → Bool
handed capture at = not (too_long capture) && stands capture at

-- where the data starts: 8 after the place; the empty part stands at the capture's start
unfoldable pub payload_start : List ℕ → ℕ → ℕ
payload_start capture at = pick (handed capture at) (at + 8) 0

-- "its data as a part of the caller's capture, .. an empty part where no packet stands"
unfoldable pub payload_means : List ℕ → ℕ → List ℕ
payload_means capture at = pick (handed capture at) (take (data_length capture at) (drop (at + 8) capture)) []

-- writing: 2, then 3; "It answers n+10, and those bytes read back as the packet; bytes past them keep what they held."
unfoldable pub write_means : List ℕ → ℕ → List ℕ → Outcome ℕ (List ℕ)
write_means buffer apid payload =
    pick (ltb 8187 (length payload)) (refuse 2 buffer)
    (pick (ltb (length buffer) (length payload + 10)) (refuse 3 buffer)
    (accept (length payload + 10) (packet_of apid payload ++ drop (length payload + 10) buffer)))
