-- What callers cite of reading and writing.
-- Assumes nothing.
use Rattle.std.specs.Prelude.{◌≡◌, Bool, true, false, not, List, ℕ, ◌+◌, ◌^◌, ◌<◌, ◌≤◌, ltb, length, take, drop}
use Rattle.std.proofs.Common.{le-ltb, leb-true, ltb-true}
use Rattle.ground.specs.Questions.{answered_yes, both_hold}
use Rattle.ground.specs.Paper.{accepted}
use Rattle.ground.specs.Outcome.{Stays, two_stay}
use Rattle.ground.specs.Words.{number}
use Rattle.crc.specs.Meaning.{sealed_at}
use Rattle.message.specs.Meaning.{data_size, marked, size_at, address_at, tag_at, read_means, sayable, write_means}

-- where all tests hold, reading answers the message
pub read_so : (bytes : List ℕ) (size : ℕ) → 4 ≤ length bytes → marked bytes ≡ true → size ≡ size_at bytes → size + 6 ≤ length bytes
    → sealed_at bytes 0 (size + 4) ≡ true
    → accepted (record { address = address_at bytes; tag = tag_at bytes; value = number (take size (drop 4 bytes)); used = size + 6 })
    ≡ read_means bytes
unfolding read_means
read_so bytes size room mark is whole sealed = rw (le-ltb (length bytes) 4 room, mark, ← is, le-ltb (length bytes) (size + 6) whole, sealed)

-- an address, a tag and a value within the rule
pub record Within (address tag value : ℕ) : Type 0 where
  pub near : address ≤ 0x3FFF
  pub known : tag ≤ 3
  pub bits : value < 256 ^ data_size tag

-- what was answered yes to is within the rule
pub within : {address tag value : ℕ} {r : Bool} → r ≡ sayable address tag value → not r ≡ false → Within address tag value
unfolding sayable
within p e =
    let first = both_hold (answered_yes p e) in
    let second = both_hold first.1 in
    record { near = leb-true _ _ first.0; known = leb-true _ _ second.0; bits = ltb-true _ _ second.1 }

-- demand 1 of writing: where it is refused, the buffer is as it was
pub write_stays : (buffer : List ℕ) (address tag value : ℕ) → Stays buffer (write_means buffer address tag value)
unfolding write_means
write_stays buffer address tag value = two_stay (not (sayable address tag value)) (ltb (length buffer) (data_size tag + 6)) 7 3 buffer _ _
