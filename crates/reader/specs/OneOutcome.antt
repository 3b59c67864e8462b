-- Two outcomes that meet a call's promise are equal; asking a reader has `code`'s `unpack_one`.
-- Assumes nothing.
use Rattle.std.specs.Prelude.{◌≡◌, List, ℕ}
use Rattle.std.specs.Borrow.{Bor}
use Rattle.ground.specs.Paper.{one_value}
use Rattle.reader.specs.Promise.{ReaderPromise}
use Rattle.reader.specs.declared.Reader.{Reader}

-- making and moving a reader have one outcome: the same lent bytes, the same position
pub reader_one : {bytes : Bor (List ℕ)} {at : ℕ} {r s : Reader} → ReaderPromise bytes at r → ReaderPromise bytes at s → r ≡ s
reader_one p q = λ i. record { bytes = one_value p.lent q.lent i; at = one_value p.place q.place i }
