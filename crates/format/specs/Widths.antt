-- The shared facts at a width: w mantissa bits, and so many bits in all. The formats are 12 of 16 and 3 of 8.
-- Assumes nothing.
use Rattle.std.specs.Prelude.{◌≡◌, refl, ℕ, suc, ◌^◌, ◌≤◌, ◌<◌}
use Rattle.ground.specs.Greatest.{strictly_grows}
use Rattle.ground.specs.Paper.{Paper, accepted}
use Rattle.format.specs.Meaning.{float_value, Takes}
use Rattle.format.specs.Codes.{takes_reached, takes_next, takes_below, takes_back}
use Rattle.format.specs.Floats.{value_grows}

-- the 16-bit limit is the value of the first code past 16 bits
pub limit16 : float_value 12 (2 ^ 16) ≡ 2 ^ 27
limit16 = refl

-- the 8-bit limit is the value of the first code past 8 bits
pub limit8 : float_value 3 (2 ^ 8) ≡ 2 ^ 34
limit8 = refl

module _ (w bits : ℕ) where
  -- what a float of so many bits takes: its limit is the value of the first code past them
  abbrev pub FloatTakes : ℕ → Paper ℕ → Type 0
  FloatTakes = Takes (float_value w) (float_value w (2 ^ bits))

  -- the float of a value is that code
  pub float_back : (code : ℕ) (p : Paper ℕ) → code < 2 ^ bits → FloatTakes (float_value w code) p → p ≡ accepted code
  float_back = takes_back (float_value w) (value_grows w) (2 ^ bits)

  -- the value of a count's float is not above the count
  pub float_reached : {count code : ℕ} → FloatTakes count (accepted code) → float_value w code ≤ count
  float_reached = takes_reached (float_value w) (float_value w (2 ^ bits))

  -- and the next code's value is
  pub float_next : {count code : ℕ} → FloatTakes count (accepted code) → count < float_value w (suc code)
  float_next = takes_next (float_value w) (float_value w (2 ^ bits))

  -- a count's float has so many bits
  pub float_fits : {count code : ℕ} → FloatTakes count (accepted code) → code < 2 ^ bits
  float_fits = takes_below (float_value w) (strictly_grows {value = float_value w} (value_grows w)) (2 ^ bits)
