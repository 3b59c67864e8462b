-- Readings and rates, in document 01's words and order: the band around a decoded magnitude, the reading, the rate.
-- Assumes nothing.
use Rattle.std.specs.Prelude.{Bool, true, false, List, ℕ, ◌+◌, ◌-◌, ℤ, pos, negsuc, eqb, Float}
use Rattle.std.specs.Float.Ieee.{of_int, div}
use Rattle.std.specs.Float.{binary64}
use Rattle.ground.specs.Choice.{pick}
use Rattle.ground.specs.Paper.{Paper, accepted, refused, onward}
use Rattle.code.specs.Meaning.{ShapeValues, shape_means, number_read}
use Rattle.cadence.specs.Meaning.{seconds_means}
use Rattle.rate.specs.declared.record.Reading.{Reading}
use Rattle.rate.specs.declared.record.Reading.TheVariants.{Exact, Between}
use Rattle.rate.specs.declared.record.Rate.{Rate}

-- a band of counts
pub record Band : Type 0 where
  pub low : ℕ
  pub high : ℕ

-- "Its band runs from the decoded magnitude less the error, not under 0, to the magnitude plus the error"
abbrev pub band : ℕ → ℕ → Band
band m error = record { low = m - error; high = m + error }

-- "exact where the error is 0"
abbrev pub exact : ℕ → Bool
exact error = eqb error 0

-- "Each edge becomes an f64 without loss": `Lossless` shows that nothing is lost
abbrev pub as_float : ℕ → Float
as_float n = of_int binary64 (pos n)

-- "A reading is either one exact count or a band of two counts, as f64": of a decoded magnitude and its error
abbrev pub reading_of : ℕ → ℕ → Reading
reading_of m error = pick (exact error) (Exact (as_float m)) (Between (as_float (band m error).low) (as_float (band m error).high))

-- "A rate record holds both quotients and the seconds as f64; an exact count gives two equal quotients": each edge "is divided once by the seconds"
abbrev pub rate_of : Reading → ℕ → Rate
rate_of (Exact count) seconds =
    record { low = div binary64 count (as_float seconds); high = div binary64 count (as_float seconds); seconds = as_float seconds }
rate_of (Between low high) seconds =
    record { low = div binary64 low (as_float seconds); high = div binary64 high (as_float seconds); seconds = as_float seconds }

-- an accepted reading: the reading, and "the next position is answered with it"
pub record ReadingValues : Type 0 where
  pub reading : Reading
  pub next : ℕ

-- an accepted rate: the rate record and the next position
pub record RateValues : Type 0 where
  pub rate : Rate
  pub next : ℕ

-- a number under 0
abbrev pub negative : ℤ → Bool
negative (pos n) = false
negative (negsuc n) = true

-- "negative numbers have no reading and no rate (8)", others that of their code
abbrev pub shape_reads : ShapeValues → Paper ReadingValues
shape_reads v =
    pick (negative (number_read v).value) (refused 8) (accepted (record { reading = reading_of v.magnitude v.error; next = v.next }))

-- reading: the code's refusal, then a negative number's 8
abbrev pub reading_means : List ℕ → ℕ → ℕ → Paper ReadingValues
reading_means bytes at d = onward shape_reads (shape_means bytes at d)

-- the rate of a reading over so many seconds
abbrev pub rate_values : ReadingValues → ℕ → Paper RateValues
rate_values r seconds = accepted (record { rate = rate_of r.reading seconds; next = r.next })

-- "Rate: the code's refusal, then a negative number's 8, then 19", which is the level's
abbrev pub rate_means : List ℕ → ℕ → ℕ → ℕ → Paper RateValues
rate_means bytes at d level = onward (λ r. onward (rate_values r) (seconds_means level)) (reading_means bytes at d)
