-- `lines::put_decimal` meets its contract.
-- Assumes nothing.
use native.Mathlib.Omega.{arith}
use Rattle.lines.proofs.Texts.{decimal_put}
use Rattle.lines.proofs.text.put_decimal.Goals as goal

pub returns : goal.returns
returns c =
    rw c.from.ensures at
    (decimal_put c.decimal-count.ensures.len (omega (arith, c.from.ensures, c.requires.1)) c.decimal-count.ensures.digits c.put_text.ensures)
