-- What each public call promises.
-- Assumes nothing.
use Rattle.std.specs.Prelude.{◌≡◌, Bool, List, ℕ}
use Rattle.crc.specs.Meaning.{checksum_of, sealed_at, sealed_in}

-- `checksum` answers the checksum of the bytes; no input is refused
pub record ChecksumPromise (bytes : List ℕ) (r : ℕ) : Type 0 where
  pub answer : r ≡ checksum_of bytes

-- `sealed` answers whether a sealed run of n bytes stands at the place
pub record SealedPromise (bytes : List ℕ) (at n : ℕ) (r : Bool) : Type 0 where
  pub answer : r ≡ sealed_at bytes at n

-- `seal` leaves the first n bytes sealed, or all as it was
pub record SealPromise (buffer : List ℕ) (n : ℕ) (after : List ℕ) : Type 0 where
  pub memory : after ≡ sealed_in buffer n
