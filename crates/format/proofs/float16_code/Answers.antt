-- `format::float16_code` meets its contract: 16 bits hold the code below the limit.
-- Assumes nothing.
use Rattle.format.specs.Widths.{float_fits}
use Rattle.format.proofs.float16_code.Goals as goal

pub overflow_cast-result : goal.overflow_cast-result
overflow_cast-result c = record { fits = float_fits 12 16 c.in_ok-float_code.ensures }
