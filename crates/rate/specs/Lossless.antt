-- "Each edge becomes an f64 without loss": what a count is as f64 and back, its value, and that two counts stay apart.
-- Assumes nothing.
use Rattle.std.specs.Prelude.{◌≡◌, false, ℕ, ◌^◌, ◌<◌, ◌≤◌, pos, T}
use Rattle.std.proofs.Common.{sym, ap, ◌∙◌, arith, le→leb}
use Rattle.std.specs.Float.{binary64}
use Rattle.std.specs.Float.Ieee.{of_int, in_float, to_unsigned}
use Rattle.std.specs.Float.Ieee.Exact.{HasValue}
use Rattle.std.specs.Float.Ieee.Back.{unsigned_back, round_whole}
use Rattle.code.specs.Meaning.{Shape, greatest_place}
use Rattle.code.specs.Shapes.{Drop, Valid}
use Rattle.cadence.specs.Meaning.{length_of}
use Rattle.cadence.specs.Lengths.{lasts}
use Rattle.rate.specs.Meaning.{as_float}
use Rattle.rate.specs.Bands.{band_of, band_fits}

-- a count of 32 bits is a whole number that an f64 holds
pub held : (n : ℕ) → n < 2 ^ 32 → T (in_float binary64 (pos n))
unfolding in_float
held n h = le→leb n (2 ^ 53) (omega arith)

-- as f64 and back it is what it was
pub no_loss : (n : ℕ) → n < 2 ^ 32 → to_unsigned 32 (as_float n) ≡ n
no_loss n h = (unsigned_back binary64 32 n (held n h) h).1

-- its f64 has its value
pub same_value : (n : ℕ) → n < 2 ^ 32 → HasValue (as_float n) false n 1
unfolding of_int
same_value n h = round_whole binary64 false n (omega arith)

-- two counts that are one f64 are one count
pub counts_apart : (m n : ℕ) → m < 2 ^ 32 → n < 2 ^ 32 → as_float m ≡ as_float n → m ≡ n
counts_apart m n h k e = sym (no_loss m h) ∙ ap (to_unsigned 32) e ∙ no_loss n k

-- nothing is lost of either edge of a code that is read
pub edges_no_loss : (d : ℕ) (shape : Shape) → Drop d → Valid greatest_place d shape
    → (to_unsigned 32 (as_float (band_of d shape).low) ≡ (band_of d shape).low) × (to_unsigned 32 (as_float (band_of d shape).high) ≡ (band_of d shape).high)
edges_no_loss d shape dr v =
    let f = band_fits d shape dr v in
    (no_loss (band_of d shape).low f.0, no_loss (band_of d shape).high f.1)

-- nor of the seconds of a level
pub seconds_no_loss : (level : ℕ) → level ≤ 7 → to_unsigned 32 (as_float (length_of level)) ≡ length_of level
seconds_no_loss level h = let l = lasts level h in no_loss (length_of level) (omega (arith, l.hour))
