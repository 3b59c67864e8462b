-- The checksum of document 01, "Packets and messages" (000, 2.4.1): width 16, polynomial 0x1021, initial 0xffff, no
-- reflection, no final xor. Bit by bit.
-- Assumes nothing.
use Rattle.std.specs.Prelude.{Bool, ◌&&◌, List, [], ◌∷◌, ◌++◌, ℕ, zero, suc, ◌+◌, ◌*◌, ◌/◌, ◌%◌, ◌^◌, eqb, take, drop}
use Rattle.std.specs.Int.Bits.{bit_xor}
use Rattle.ground.specs.Choice.{pick}
use Rattle.ground.specs.Words.{bytes_of, word_at}
use Rattle.ground.specs.Meaning.{lies}

-- "polynomial 0x1021": what is added where the bit that falls out is 1
abbrev pub polynomial : ℕ → ℕ
polynomial zero = 0
polynomial (suc b) = 0x1021

-- one bit, "width 16", "no reflection": the register moves left, and the bit that falls out says what is added
unfoldable pub shift : ℕ → ℕ
shift r = bit_xor (r * 2 % 2 ^ 16) (polynomial (r / 2 ^ 15))

-- so many bits
abbrev pub shifts : ℕ → ℕ → ℕ
shifts zero r = r
shifts (suc k) r = shifts k (shift r)

-- one byte: it is added to the upper half of the register, and its eight bits go through
unfoldable pub step : ℕ → ℕ → ℕ
step r b = shifts 8 (bit_xor r (b * 2 ^ 8))

-- the register after every byte
abbrev pub run : ℕ → List ℕ → ℕ
run r [] = r
run r (b ∷ bs) = run (step r b) bs

-- "initial 0xffff, .. no final xor": the checksum of bytes
unfoldable pub checksum_of : List ℕ → ℕ
checksum_of bytes = run 0xffff bytes

-- "checksum": it covers "every byte before it, mark included". Bytes and their checksum behind them
unfoldable pub sealed_of : List ℕ → List ℕ
sealed_of bytes = bytes ++ bytes_of 2 (checksum_of bytes)

-- a sealed run of n bytes and their checksum stands at a place: all of it lies there, and the checksum of the n bytes is the word after them
unfoldable pub sealed_at : List ℕ → ℕ → ℕ → Bool
sealed_at bytes at n = lies bytes at (n + 2) && eqb (checksum_of (take n (drop at bytes))) (word_at bytes (at + n))

-- the buffer with its first n bytes sealed, as it was where the checksum does not lie in it
unfoldable pub sealed_in : List ℕ → ℕ → List ℕ
sealed_in buffer n = pick (lies buffer n 2) (sealed_of (take n buffer) ++ drop (n + 2) buffer) buffer
