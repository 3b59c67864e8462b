-- Theorems of bands: every number that packs lies within the band of its code, and exact means that the band is one count.
-- Assumes nothing.
use Rattle.std.specs.Prelude.{◌≡◌, true, ℕ, zero, suc, ◌+◌, ◌*◌, ◌-◌, ◌^◌, ◌<◌, ◌≤◌, ℤ, nat_abs}
use Rattle.std.proofs.Common.{ap, ap₂, ◌∙◌, le_trans, pow-suc, arith, pow_pos, eq-eqb, eqb-true}
use Rattle.code.specs.Meaning.{Shape, nought, small, led, shape_of_number, sign_of, magnitude, error, lowest, highest, left_out, filled}
use Rattle.code.specs.Meaning.{greatest_place, largest}
use Rattle.code.specs.Shapes.{Drop, none, three, below_led, Valid}
use Rattle.code.specs.Magnitudes.{places, shape_bounds, number_valid, magnitude_fits, error_fits}
use Rattle.rate.specs.Meaning.{Band, band, exact}

-- the band of a shape
abbrev pub band_of : ℕ → Shape → Band
band_of d shape = band (magnitude d shape) (error d shape)

-- a count within a band
pub record Within (m : ℕ) (b : Band) : Type 0 where
  pub from : b.low ≤ m
  pub to : m ≤ b.high

-- the band of a shape spans the magnitudes that have the shape
pub record Spans (d : ℕ) (shape : Shape) : Type 0 where
  pub below : (band_of d shape).low ≤ lowest d shape
  pub above : highest d shape ≤ (band_of d shape).high

-- a field with e bits left out, e at least 1, under a leading part: half of the left out on both sides spans all of them
spans_field : (lead e x : ℕ) → 1 ≤ e
    → (lead + filled e x - 2 ^ (e - 1) ≤ lead + x * 2 ^ e) × (lead + (x * 2 ^ e + (2 ^ e - 1)) ≤ lead + filled e x + 2 ^ (e - 1))
spans_field lead e x h =
    let next : e ≡ suc (e - 1) = omega arith in
    let twice : 2 ^ e ≡ 2 ^ (e - 1) * 2 = ap (λ (n : ℕ). 2 ^ n) next ∙ pow-suc 2 (e - 1) in
    let some = pow_pos (e - 1) in
    (omega arith, omega arith)

-- the band of a small code with drop 3
spans_small : (x : ℕ) → x < 2 → Spans 3 (small 0 x)
spans_small zero h = record { below = omega arith; above = omega arith }
spans_small (suc zero) h = record { below = omega arith; above = omega arith }
spans_small (suc (suc x)) h = absurd (omega arith)

-- so does every valid one
pub band_spans : (d : ℕ) (shape : Shape) → Drop d → Valid greatest_place d shape → Spans d shape
band_spans d nought none v = record { below = omega arith; above = omega arith }
band_spans d nought three v = record { below = omega arith; above = omega arith }
band_spans d (small s x) none v = record { below = omega arith; above = omega arith }
band_spans d (small s x) three v = let p = spans_small x v.1 in record { below = p.below; above = p.above }
band_spans d (led s k x) dr v = let p = spans_field (2 ^ k) (left_out d k) x (below_led k dr v.1).some in record { below = p.0; above = p.1 }

-- every number that packs lies within the band of its code
pub packs_within : (d : ℕ) (v : ℤ) → Drop d → nat_abs v ≤ largest → Within (nat_abs v) (band_of d (shape_of_number d v))
packs_within d v dr h =
    let s = band_spans d (shape_of_number d v) dr (number_valid greatest_place places d v dr h) in
    let b = shape_bounds d (sign_of v) (nat_abs v) (omega arith) in
    record { from = le_trans s.below b.0; to = le_trans b.1 s.above }

-- exact means that the band is one count, the decoded one
pub exact_one : (m error : ℕ) → exact error ≡ true → band m error ≡ record { low = m; high = m }
exact_one m error t =
    let e : error ≡ 0 = eqb-true error 0 t in
    let low : m - error ≡ m = omega arith in
    let high : m + error ≡ m = omega arith in
    ap₂ (λ (a b : ℕ). record { low = a; high = b }) low high

-- and a band of one count is exact
pub one_exact : (m error : ℕ) → (band m error).low ≡ (band m error).high → exact error ≡ true
one_exact m error h = eq-eqb error 0 (omega arith)

-- so the decoded magnitude of an exact code is the one that was packed
pub exact_packed : (d : ℕ) (v : ℤ) → Drop d → nat_abs v ≤ largest → exact (error d (shape_of_number d v)) ≡ true → magnitude d (shape_of_number d v) ≡ nat_abs v
exact_packed d v dr h t =
    let w = packs_within d v dr h in
    let none : error d (shape_of_number d v) ≡ 0 = eqb-true (error d (shape_of_number d v)) 0 t in
    omega (arith, w.from, w.to)

-- every edge fits 32 bits
pub band_fits : (d : ℕ) (shape : Shape) → Drop d → Valid greatest_place d shape → ((band_of d shape).low < 2 ^ 32) × ((band_of d shape).high < 2 ^ 32)
band_fits d shape dr v =
    let m = magnitude_fits greatest_place places d shape dr v in
    let e = error_fits greatest_place places d shape dr v in
    (omega arith, omega arith)
