-- What was packed and is read: the reading of a packed count is that of its code, and the count lies within the band.
-- Assumes nothing.
use Rattle.std.specs.Prelude.{◌≡◌, refl, List, ℕ, pos}
use Rattle.ground.specs.Paper.{accepted}
use Rattle.ground.specs.Outcome.{accept}
use Rattle.code.specs.Meaning.{Shape, shape_of, shape_of_number, sign, magnitude, error, pack_means}
use Rattle.code.specs.Shapes.{drop_of}
use Rattle.code.specs.Magnitudes.{shape_elim}
use Rattle.code.specs.Theorems.{packed_at, shape_reads_back}
use Rattle.rate.specs.Meaning.{reading_of, reading_means}
use Rattle.rate.specs.Readings.{count_reads}
use Rattle.rate.specs.Bands.{Within, band_of, packs_within}

-- a count m that was packed: it is read as its code's reading, with the position that packing answered, and lies within the band
pub record CountsBack (left : List ℕ) (at m d next : ℕ) : Type 0 where
  pub reads : reading_means left at d
      ≡ accepted (record { reading = reading_of (magnitude d (shape_of_number d (pos m))) (error d (shape_of_number d (pos m))); next = next })
  pub within : Within m (band_of d (shape_of_number d (pos m)))

-- the code of a count has the sign 0
plus : (d m : ℕ) → sign (shape_of d 0 m) ≡ 0
plus d m = shape_elim (λ (shape : Shape). sign shape ≡ 0) d 0 m (λ a. refl) (λ a b. refl) (λ a. refl)

-- every count that packs is read so
pub counts_back : (buffer : List ℕ) (at m d : ℕ) {next : ℕ} {left : List ℕ} → pack_means buffer at (pos m) d ≡ accept next left → CountsBack left at m d next
counts_back buffer at m d {next} {left} e =
    let p = packed_at buffer at (pos m) d e in
    record {
      reads = count_reads left at d (shape_reads_back buffer at (pos m) d e) (plus d m);
      within = packs_within d (pos m) (drop_of d p.known) p.small;
    }
