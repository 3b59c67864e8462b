-- What each call that prints promises. What is written to standard output is beyond a contract of this kit; how much was handed
-- over, and the line that is left, are not. Whether standard output took the bytes is for the system to say: `written` is left open.
-- Assumes nothing.
use Rattle.std.specs.Prelude.{◌≡◌, List, ℕ, min, length}
use Rattle.lines.specs.declared.Line.{Line}
use Rattle.printing.specs.declared.Output.{Output}
use Rattle.printing.specs.declared.Printed.{Printed}
use Rattle.lines.specs.Meaning.{header}
use Rattle.lines.specs.Running.{last_answer}
use Rattle.lines.specs.After.{line_after, answers_within}

-- a count of bytes, up to the greatest number that can be answered, 2 ^ 64 - 1; no piece that a memory holds comes near it
abbrev pub capped : ℕ → ℕ
capped n = min n 18446744073709551615

-- `print_header` hands over all of the header; whether it was taken is left open
pub record PrintHeaderPromise (r : Output) : Type 0 where
  pub answer : r.put ≡ length header

-- `print_piece` gives what is known after all bytes of the piece, and how many bytes its answers have; whether they were taken is left open
pub record PrintPiecePromise (line : Line) (piece : List ℕ) (r : Printed) : Type 0 where
  pub answer : r.line ≡ line_after line piece
  pub count : r.put ≡ capped (length (answers_within line piece))

-- `print_last` hands over all of the answer of a line that has any bytes, and nothing for one that has none
pub record PrintLastPromise (line : Line) (r : ℕ) : Type 0 where
  pub answer : r ≡ length (last_answer line)
