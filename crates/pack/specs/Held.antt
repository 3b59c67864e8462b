-- Bits held in a number give it back.
-- Assumes nothing.
use Rattle.std.specs.Prelude.{◌≡◌, ℕ, ◌^◌, ◌<◌}
use Rattle.std.proofs.Common.{◌∙◌}
use Rattle.std.proofs.Math.Nat.{mod-eq_of_lt}
use Rattle.ground.specs.Bits.{to_bits}
use Rattle.code.specs.Meaning.{from_bits}
use Rattle.code.specs.BitLists.{from_bits-to_bits}

-- a number that so many bits hold is the number that they mean
pub number_back : (w x : ℕ) → x < 2 ^ w → from_bits (to_bits w x) ≡ x
number_back w x h = from_bits-to_bits w x ∙ mod-eq_of_lt h
