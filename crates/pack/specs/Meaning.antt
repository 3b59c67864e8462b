-- A field put into a buffer: so many bits of a number, at any bit position.
-- Assumes nothing.
use Rattle.std.specs.Prelude.{List, ℕ, leb}
use Rattle.ground.specs.Bits.{to_bits}
use Rattle.ground.specs.Choice.{pick}
use Rattle.ground.specs.Outcome.{Outcome, refuse}
use Rattle.code.specs.Meaning.{place_means}

-- the last w bits of a number put at a bit position, as a code's are; "8 then 3", 8 where there are more than 32
abbrev pub field_means : List ℕ → ℕ → ℕ → ℕ → Outcome ℕ (List ℕ)
field_means buffer at x w = pick (leb w 32) (place_means buffer at (to_bits w x)) (refuse 8 buffer)
