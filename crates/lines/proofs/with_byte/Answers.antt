-- `lines::with_byte` meets its contract.
-- Assumes nothing.
use mathlib.Core.Path.{◌∙◌}
use Rattle.lines.proofs.Bytes.{step_later, step_minus, step_first}
use Rattle.lines.proofs.with_byte.Goals as goal
use Rattle.lines.proofs.with_byte.Goals.{else-not-line-via-then-not-line+else-byte-eq45, else-not-line-via-else-not-line}

pub returns-then-byte-eq45 : goal.returns-then-byte-eq45
returns-then-byte-eq45 c = record { answer = step_minus c.args.line c.args.byte c.if-not-line.true c.if-byte-eq45.true }

pub returns-else-not-line : goal.returns-else-not-line
returns-else-not-line c =
    elim c.else-not-line.branch [
      | else-not-line-via-then-not-line+else-byte-eq45 w
          ↦ record { answer = c.digit_taken.ensures ∙ step_first c.args.line c.args.byte w.if-not-line.true w.if-byte-eq45.false }
      | else-not-line-via-else-not-line w ↦ record { answer = c.digit_taken.ensures ∙ step_later c.args.line c.args.byte w.if-not-line.false }
    ]
