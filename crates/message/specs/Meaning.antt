-- Messages: document 01, "Packets and messages" (000, 2.4.1), in its words and order.
-- Assumes nothing.
use Rattle.std.specs.Prelude.{Bool, not, ◌&&◌, List, [], ◌∷◌, ◌++◌, ℕ, zero, suc, ◌+◌, ◌*◌, ◌/◌, ◌%◌, ◌^◌, leb, ltb, eqb, length, take, drop, get_or}
use Rattle.ground.specs.Choice.{pick}
use Rattle.ground.specs.Paper.{Paper, accepted, refused}
use Rattle.ground.specs.Outcome.{Outcome, accept, refuse}
use Rattle.ground.specs.Words.{number, bytes_of, word_at}
use Rattle.crc.specs.Meaning.{sealed_of, sealed_at}

-- "bytes 3C 3D"
abbrev pub mark : List ℕ
mark = 0x3C ∷ 0x3D ∷ []

-- "0, 2, 4 or 8 data bytes for tag 0, 1, 2, 3"
abbrev pub data_size : ℕ → ℕ
data_size zero = 0
data_size (suc zero) = 2
data_size (suc (suc zero)) = 4
data_size (suc (suc (suc t))) = 8

-- "a word of size tag (2 bits) and address (14 bits)"
abbrev pub tag_word : ℕ → ℕ → ℕ
tag_word address tag = tag * 2 ^ 14 + address

-- "bytes 3C 3D; a word of size tag .. and address ..; 0, 2, 4 or 8 data bytes"
abbrev pub covered : ℕ → ℕ → ℕ → List ℕ
covered address tag value = mark ++ (bytes_of 2 (tag_word address tag) ++ bytes_of (data_size tag) value)

-- ".. checksum": all that with its checksum behind it
unfoldable pub message_of : ℕ → ℕ → ℕ → List ℕ
message_of address tag value = sealed_of (covered address tag value)

-- the mark stands at the front
abbrev pub marked : List ℕ → Bool
marked bytes = eqb (get_or bytes 0 0) 0x3C && eqb (get_or bytes 1 0) 0x3D

-- the tag of the message at the front
abbrev pub tag_at : List ℕ → ℕ
tag_at bytes = word_at bytes 2 / 2 ^ 14

-- the address of the message at the front
abbrev pub address_at : List ℕ → ℕ
address_at bytes = word_at bytes 2 % 2 ^ 14

-- how many data bytes it has
abbrev pub size_at : List ℕ → ℕ
size_at bytes = data_size (tag_at bytes)

-- "The value is padded on the left with zeros."
abbrev pub value_at : List ℕ → ℕ
value_at bytes = number (take (size_at bytes) (drop 4 bytes))

-- the checksum of all before it is the word after the data
abbrev pub checked : List ℕ → Bool
checked bytes = sealed_at bytes 0 (size_at bytes + 4)

-- what a message says, and "the count used"
pub record ReadValues : Type 0 where
  pub address : ℕ
  pub tag : ℕ
  pub value : ℕ
  pub used : ℕ

-- reading: "under 4 bytes 5, then 4, 5, 6"; "It is read from the front of a slice; bytes after it are ignored"
unfoldable pub read_means : List ℕ → Paper ReadValues
read_means bytes =
    pick (ltb (length bytes) 4) (refused 5)
    (pick (not (marked bytes)) (refused 4)
    (pick (ltb (length bytes) (size_at bytes + 6)) (refused 5)
    (pick (not (checked bytes)) (refused 6)
    (accepted (record { address = address_at bytes; tag = tag_at bytes; value = value_at bytes; used = size_at bytes + 6 })))))

-- "message address, tag or stray bits": an address of 14 bits, a tag of 2, and no bits beyond the size
unfoldable pub sayable : ℕ → ℕ → ℕ → Bool
sayable address tag value = leb address 0x3FFF && (leb tag 3 && ltb value (256 ^ data_size tag))

-- writing: 7, then 3; it "refuses bits beyond the size, answers the bytes written and leaves those past the message"
unfoldable pub write_means : List ℕ → ℕ → ℕ → ℕ → Outcome ℕ (List ℕ)
write_means buffer address tag value =
    pick (not (sayable address tag value)) (refuse 7 buffer)
    (pick (ltb (length buffer) (data_size tag + 6)) (refuse 3 buffer)
    (accept (data_size tag + 6) (message_of address tag value ++ drop (data_size tag + 6) buffer)))
