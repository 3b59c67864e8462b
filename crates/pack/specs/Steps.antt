-- What the parts of writing a code answer for: bits held in a number, and bits put at a position.
-- Assumes nothing.
use Rattle.std.specs.Prelude.{◌≡◌, List, ℕ, Result}
use Rattle.ground.specs.Outcome.{outcome_of}
use Rattle.ground.specs.Bits.{to_bits}
use Rattle.code.specs.Meaning.{place_means}
use Rattle.code.specs.Answers.{packed_paper}
use Rattle.code.specs.declared.NotPacked.{NotPacked}

-- the bits of a byte
unfoldable pub byte_bits : ℕ → List ℕ
byte_bits b = to_bits 8 b

-- putting bits answers and leaves what it means
pub record PlacePromise (buffer : List ℕ) (at : ℕ) (l : List ℕ) (r : Result ℕ NotPacked) (after : List ℕ) : Type 0 where
  pub outcome : outcome_of (packed_paper r) after ≡ place_means buffer at l
