-- What making and moving a reader promise; asking it promises what `unpack::unpack` does.
-- Assumes nothing.
use Rattle.std.specs.Prelude.{◌≡◌, List, ℕ}
use Rattle.std.specs.Borrow.{Bor}
use Rattle.reader.specs.declared.Reader.{Reader}

-- a reader holds the lent bytes themselves and a bit position
pub record ReaderPromise (bytes : Bor (List ℕ)) (at : ℕ) (r : Reader) : Type 0 where
  pub lent : r.bytes ≡ bytes
  pub place : r.at ≡ at
