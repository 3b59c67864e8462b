-- The hour's ends, by computing; document 01's starred case is in `demands`.
-- Assumes nothing.
use Rattle.std.specs.Prelude.{◌≡◌, refl}
use Rattle.ground.specs.Paper.{accepted, refused}
use Rattle.cadence.specs.Meaning.{seconds_means, beginning_means, ending_means}

-- every length divides 0: the hour's first second begins level 7
pub second_0_begins : beginning_means 0 ≡ accepted 7
second_0_begins = refl

-- the hour's last second ends level 7
pub second_3599_ends : ending_means 3599 ≡ accepted 7
second_3599_ends = refl

-- the second after the hour's last is refused
pub second_3600_refused : ending_means 3600 ≡ refused 19
second_3600_refused = refl

-- the highest level lasts the hour
pub level_7_lasts : seconds_means 7 ≡ accepted 3600
level_7_lasts = refl

-- there is no level above it
pub level_8_refused : seconds_means 8 ≡ refused 19
level_8_refused = refl
