-- `rate::reading` meets its contract: the code's refusal is handed on, a negative number has no reading, any other that of its code.
-- Assumes nothing.
use Rattle.rate.proofs.Forming.{negative_read, edges_fit, count_read}
use Rattle.rate.proofs.reading.Goals as goal

pub returns-then-read-eq1 : goal.returns-then-read-eq1
returns-then-read-eq1 c = record { answer = negative_read _ _ _ c.in-Ok.read c.in-Ok.ensures c.if-read-eq1.true }

pub counts-requires : goal.counts-requires
counts-requires c = edges_fit _ _ _ c.in-Ok.read c.in-Ok.ensures

pub returns : goal.returns
returns c = record { answer = count_read _ _ _ c.in-Ok.read c.in-Ok.ensures _ c.if-read-eq1.false c.counts.ensures }
