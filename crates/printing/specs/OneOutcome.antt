-- Two outcomes that meet a promise are equal, but for whether standard output took the bytes.
-- Assumes nothing.
use Rattle.std.specs.Prelude.{◌≡◌, List, ℕ}
use Rattle.ground.specs.Paper.{one_value}
use Rattle.lines.specs.declared.Line.{Line}
use Rattle.printing.specs.Promise.{PrintHeaderPromise, PrintPiecePromise, PrintLastPromise}
use Rattle.printing.specs.declared.Output.{Output}
use Rattle.printing.specs.declared.Printed.{Printed}

-- `print_header` has one outcome but for whether the header was taken
pub print_header_one : {r s : Output} → PrintHeaderPromise r → PrintHeaderPromise s → r.put ≡ s.put
print_header_one p q = one_value p.answer q.answer

-- `print_piece` has one outcome but for whether the answers were taken
pub print_piece_one : {line : Line} {piece : List ℕ} {r s : Printed} → PrintPiecePromise line piece r → PrintPiecePromise line piece s
    → (r.line ≡ s.line) × (r.put ≡ s.put)
print_piece_one p q = (one_value p.answer q.answer, one_value p.count q.count)

-- `print_last` has one outcome
pub print_last_one : {line : Line} {r s : ℕ} → PrintLastPromise line r → PrintLastPromise line s → r ≡ s
print_last_one p q = one_value p.answer q.answer
