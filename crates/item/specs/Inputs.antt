-- What a packet ask is asked for.
-- Assumes nothing.
use Rattle.std.specs.Prelude.{List, ℕ}

-- "its inputs (low byte, table, flags, initial level, second)"
pub record Inputs : Type 0 where
  pub low : ℕ
  pub items : List ℕ
  pub flags : ℕ
  pub initial : ℕ
  pub second : ℕ
