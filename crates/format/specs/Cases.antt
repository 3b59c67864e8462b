-- The last counts and the first ones past them, by computing; document 01's starred cases are in `demands`.
-- Assumes nothing.
use Rattle.std.specs.Prelude.{◌≡◌, refl, ◌^◌}
use Rattle.std.specs.Int.Count.{count_leading_zeros}
use Rattle.ground.specs.Paper.{accepted, refused}
use Rattle.format.specs.Meaning.{code_means, int24_means}

-- the last count below the 16-bit limit has the last code
pub float16_last : code_means 12 (2 ^ 27) 134217727 ≡ accepted 0xFFFF
unfolding count_leading_zeros
float16_last = refl

-- 2^27 is refused
pub float16_refused : code_means 12 (2 ^ 27) 134217728 ≡ refused 12
unfolding count_leading_zeros
float16_refused = refl

-- the last count below the 8-bit limit has the last code
pub float8_last : code_means 3 (2 ^ 34) 17179869183 ≡ accepted 255
unfolding count_leading_zeros
float8_last = refl

-- 2^34 is refused
pub float8_refused : code_means 3 (2 ^ 34) 17179869184 ≡ refused 12
unfolding count_leading_zeros
float8_refused = refl

-- the last 24-bit integer
pub int24_last : int24_means 16777215 ≡ accepted 16777215
int24_last = refl

-- the first count past it is refused
pub int24_refused : int24_means 16777216 ≡ refused 12
int24_refused = refl
