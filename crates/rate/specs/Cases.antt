-- Bands, readings and refusals, by computing; `code` has the errors of tables 14 and 15.
-- Assumes nothing.
use Rattle.std.specs.Prelude.{◌≡◌, refl, [], ◌∷◌}
use Rattle.ground.specs.Paper.{accepted}
use Rattle.code.specs.Meaning.{nought, led, parse, after_sign, bits_that_count}
use Rattle.rate.specs.declared.record.Reading.TheVariants.{Exact, Between}
use Rattle.rate.specs.Meaning.{as_float, reading_means}
use Rattle.rate.specs.Bands.{band_of}

-- drop 0's `101100000` is laid from 31 to 35
pub band_of_32 : band_of 0 (led 0 5 0) ≡ record { low = 31; high = 35 }
band_of_32 = refl

-- drop 3's `0` is not laid under 0
pub band_of_nought : band_of 3 nought ≡ record { low = 0; high = 3 }
band_of_nought = refl

-- drop 0's `1000101` is read as 5
pub five_is_exact : reading_means (138 ∷ []) 0 0 ≡ accepted (record { reading = Exact (as_float 5); next = 7 })
unfolding parse after_sign bits_that_count
five_is_exact = refl

-- drop 3's `0` at bit 4 is read as 0 to 3
pub nought_is_a_band : reading_means (240 ∷ []) 4 3 ≡ accepted (record { reading = Between (as_float 0) (as_float 3); next = 5 })
unfolding parse after_sign bits_that_count
nought_is_a_band = refl
