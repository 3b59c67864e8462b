-- Two outcomes that meet a promise are equal.
-- Assumes nothing.
use Rattle.std.specs.Prelude.{◌≡◌, Bool, List, ℕ}
use Rattle.ground.specs.Paper.{one_value}
use Rattle.crc.specs.Promise.{ChecksumPromise, SealedPromise, SealPromise}

-- the bytes leave one checksum
pub checksum_one : {bytes : List ℕ} {r s : ℕ} → ChecksumPromise bytes r → ChecksumPromise bytes s → r ≡ s
checksum_one p q = one_value p.answer q.answer

-- bytes and a place leave one answer
pub sealed_one : {bytes : List ℕ} {at n : ℕ} {r s : Bool} → SealedPromise bytes at n r → SealedPromise bytes at n s → r ≡ s
sealed_one p q = one_value p.answer q.answer

-- a buffer is left in one way
pub seal_one : {buffer : List ℕ} {n : ℕ} {l m : List ℕ} → SealPromise buffer n l → SealPromise buffer n m → l ≡ m
seal_one p q = one_value p.memory q.memory
