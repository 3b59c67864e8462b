-- Which magnitudes have a given shape, that decoding stays among them, and that the shape of a shape's value is the shape.
-- Assumes nothing.
use Rattle.std.specs.Prelude.{◌≡◌, refl, Bool, true, false, ℤ, pos, negsuc, nat_abs, ltb, eqb}
use Rattle.std.proofs.Common.{sym, ap₂, ◌∙◌, subst, pow-suc, mod-lt, le_trans, pow_pos, pow-add, shr_lt}
use Rattle.std.proofs.Math.Path.{ap}
use Prim.Native.Nat.{ℕ, zero, suc, ◌+◌, ◌*◌, ◌-◌, ◌/◌, ◌%◌, ◌^◌, ◌<◌, ◌≤◌, max}
use native.Mathlib.Omega.{arith}
use Rattle.std.proofs.Math.Pow.{pow_mono, high, split}
use Rattle.std.proofs.Math.Arith.{digits_lt}
use borrow.Author.Tests.{lt-ltb, le-ltb, ltb-true, ltb-false, ne_eqb}
use Rattle.ground.specs.Choice.{pick, pick_elim}
use Rattle.code.specs.Meaning.{Shape, nought, small, led, leading_in, leading, shape_of, led_of, least_coded, left_out, width, greatest_place}
use Rattle.code.specs.Meaning.{largest_to, filled, magnitude, error, lowest, highest, sign, value, signed, sign_of, shape_of_number}
use Rattle.code.specs.Shapes.{Drop, none, three, drop_small, Below, below_led, Valid}

-- a field and the bits after it lie in their widths together
pub field_lt : {x r : ℕ} (w e k : ℕ) → x < 2 ^ w → r < 2 ^ e → w + e ≡ k → x * 2 ^ e + r < 2 ^ k
field_lt {x} {r} w e k hx hr q = subst (λ (n : ℕ). x * 2 ^ e + r < 2 ^ n) q (rw pow-add (digits_lt hx hr))

-- the high part of a number lies in its width
pub high_lt : {y : ℕ} (w e k : ℕ) → y < 2 ^ k → w + e ≡ k → y / 2 ^ e < 2 ^ w
high_lt {y} w e k h q = shr_lt w e (subst (λ (n : ℕ). y < 2 ^ n) (sym q) h)

-- a number lies between its high part and the end of that part's cell
pub cell : (y e : ℕ) → (y / 2 ^ e * 2 ^ e ≤ y) × (y ≤ y / 2 ^ e * 2 ^ e + (2 ^ e - 1))
cell y e = (omega (arith, split y e), omega (arith, split y e, mod-lt y (pow_pos e)))

-- a number in a cell has the cell's high part
pub cell_is : (x e y : ℕ) → x * 2 ^ e ≤ y → y ≤ x * 2 ^ e + (2 ^ e - 1) → y / 2 ^ e ≡ x
cell_is x e y a b =
    let r : y ≡ x * 2 ^ e + (y - x * 2 ^ e) = omega arith in
    ap (λ (n : ℕ). n / 2 ^ e) r ∙ high x e (omega (arith, pow_pos e))

-- a power that is under another has the lesser exponent
pub exponent_lt : (a b : ℕ) {m : ℕ} → 2 ^ a ≤ m → m < 2 ^ b → a < b
exponent_lt a b h k = go (ltb a b) refl
  where
    go : (t : Bool) → ltb a b ≡ t → a < b
    go true e = ltb-true a b e
    go false e = absurd (omega (arith, pow_mono (ltb-false a b e)))

-- the leading place is found
pub leading_is : (places k m : ℕ) → k ≤ places → 2 ^ k ≤ m → m < 2 ^ suc k → leading_in places m ≡ k
unfolding leading_in
leading_is zero zero m h a b = refl
leading_is zero (suc k) m h a b = absurd (omega arith)
leading_is (suc f) zero m h a b = rw (lt-ltb m 2 b)
leading_is (suc f) (suc k) m h a b =
    rw (le-ltb m 2 (omega (arith, pow-suc 2 k, pow_pos k)))
    (ap suc (leading_is f k (m / 2) (omega arith) (omega (arith, pow-suc 2 k)) (omega (arith, pow-suc 2 (suc k)))))

-- and it is where the leading one stands
pub leading_bounds : (places m : ℕ) → 1 ≤ m → m < 2 ^ suc places → (2 ^ leading_in places m ≤ m) × (m < 2 ^ suc (leading_in places m))
unfolding leading_in
leading_bounds zero m a b = (a, b)
leading_bounds (suc f) m a b =
    pick_elim (λ (k : ℕ). (2 ^ k ≤ m) × (m < 2 ^ suc k)) (ltb m 2) zero (suc (leading_in f (m / 2)))
    (λ e. (a, ltb-true m 2 e))
    (λ e.
    let big_enough : 2 ≤ m = ltb-false m 2 e in
    let ih = leading_bounds f (m / 2) (omega arith) (omega (arith, pow-suc 2 (suc f))) in
    (omega (arith, ih.0, pow-suc 2 (leading_in f (m / 2))), omega (arith, ih.1, pow-suc 2 (suc (leading_in f (m / 2))))))

-- below the leading one stands the remainder
pub lead_rest : (k m : ℕ) → 2 ^ k ≤ m → m < 2 ^ suc k → m ≡ 2 ^ k + m % 2 ^ k
lead_rest k m a b =
    let one : m / 2 ^ k ≡ 1 = cell_is 1 k m (omega arith) (omega (arith, pow-suc 2 k)) in
    sym (split m k) ∙ ap (λ (n : ℕ). n * 2 ^ k + m % 2 ^ k) one ∙ omega arith

-- no magnitude from 4 on is nought
least_coded_lem : (d : ℕ) → (1 ≤ least_coded d) × (least_coded d ≤ 4)
least_coded_lem zero = omega arith
least_coded_lem (suc d) = omega arith

-- what is claimed of every number, where each of document 01's three bullets shows it
pub shape_elim : (P : Shape → Type 0) (d s m : ℕ)
    → (m < least_coded d → P nought)
    → (least_coded d ≤ m → m < 16 → P (small s (m / 2 ^ d)))
    → (16 ≤ m → P (led_of d s (leading m) m))
    → P (shape_of d s m)
unfolding shape_of
shape_elim P d s m on-nought on-small on-led =
    pick_elim P (ltb m (least_coded d)) nought (pick (ltb m 16) (small s (m / 2 ^ d)) (led_of d s (leading m) m))
    (λ e. on-nought (ltb-true m (least_coded d) e))
    (λ a.
    pick_elim P (ltb m 16) (small s (m / 2 ^ d)) (led_of d s (leading m) m)
    (λ e. on-small (ltb-false m (least_coded d) a) (ltb-true m 16 e))
    (λ e. on-led (ltb-false m 16 e)))

-- the leading one of a magnitude from 16 on stands at place 4 or above it
leads : (m : ℕ) → 16 ≤ m → m < 2 ^ 32 → (4 ≤ leading m) × (2 ^ leading m ≤ m) × (m < 2 ^ suc (leading m))
leads m a fits =
    let at = leading_bounds 31 m (omega arith) fits in
    let four : 4 < suc (leading m) = exponent_lt 4 (suc (leading m)) a at.1 in
    (omega arith, at.0, at.1)

-- a magnitude lies between the least and the greatest of its shape
pub shape_bounds : (d s m : ℕ) → m < 2 ^ 32 → (lowest d (shape_of d s m) ≤ m) × (m ≤ highest d (shape_of d s m))
shape_bounds d s m fits =
    shape_elim (λ (shape : Shape). (lowest d shape ≤ m) × (m ≤ highest d shape)) d s m
    (λ a. omega arith)
    (λ a b. (omega (arith, (cell m d).0), (cell m d).1))
    (λ a.
    let at = leads m a fits in
    let k : ℕ = leading m in
    let rest : m ≡ 2 ^ k + m % 2 ^ k = lead_rest k m at.1 at.2 in
    let y = cell (m % 2 ^ k) (left_out d k) in
    (omega (arith, y.0), omega (arith, y.1)))

-- the greatest places that the laws are for: those of 32 bits
pub record Places (top : ℕ) : Type 0 where
  pub from : 4 ≤ top
  pub to : top ≤ 31

-- today's is one
pub places : Places greatest_place
places = record { from = omega arith; to = omega arith }

-- a number with the bits below its leading one is under the next power of two
under_next : (d k x r : ℕ) → Below d k → x < 2 ^ width d k → r < 2 ^ left_out d k → 2 ^ k + (x * 2 ^ left_out d k + r) < 2 ^ suc k
under_next d k x r b hx hr = omega (arith, field_lt (width d k) (left_out d k) k hx hr b.all, pow-suc 2 k)

-- one less than a power lies under it
under_power : (e : ℕ) → 2 ^ e - 1 < 2 ^ e
under_power e = omega (arith, pow_pos e)

module _ (top : ℕ) (ok : Places top) where
  -- the shape of a magnitude that is not above the largest is valid
  pub shape_valid : (d s m : ℕ) → Drop d → s < 2 → m ≤ largest_to top → Valid top d (shape_of d s m)
  shape_valid d s m dr hs fits =
      shape_elim (Valid top d) d s m
      (λ a. tt)
      (λ a b. (hs, high_lt (4 - d) d 4 b (omega (arith, drop_small dr)), small_one dr a))
      (λ a.
      let under : m < 2 ^ suc top = omega (arith, pow_pos (suc top)) in
      let below : m < 2 ^ 32 = omega (arith, pow_mono {i = suc top} {j = 32} (omega (arith, ok.to))) in
      let at = leads m a below in
      let k : ℕ = leading m in
      let last : k < suc top = exponent_lt k (suc top) at.1 under in
      let b = below_led k dr at.0 in
      (hs, at.0, omega arith, high_lt (width d k) (left_out d k) k (mod-lt m (pow_pos k)) b.all))
    where
      small_one : {d : ℕ} → Drop d → least_coded d ≤ m → d ≡ 0 → m / 2 ^ d ≡ 0 → ⊥
      small_one none a p q = omega arith
      small_one three a p q = omega arith

  -- the magnitudes of a shape have that shape
  pub shape_is : (d : ℕ) (shape : Shape) (m : ℕ) → Drop d → Valid top d shape → lowest d shape ≤ m → m ≤ highest d shape
      → shape_of d (sign shape) m ≡ shape
  unfolding shape_of
  shape_is d nought m dr v a b = rw (lt-ltb m (least_coded d) (omega (arith, (least_coded_lem d).0)))
  shape_is d (small s x) m dr v a b =
      let under : x * 2 ^ d + (2 ^ d - 1) < 2 ^ 4 = field_lt (4 - d) d 4 v.1 (under_power d) (omega (arith, drop_small dr)) in
      rw (le-ltb m (least_coded d) (omega arith), lt-ltb m 16 (omega arith))
      (ap (small s) (cell_is x d m (omega arith) b))
  shape_is d (led s k x) m dr v a b =
      let e : ℕ = left_out d k in
      let part = below_led k dr v.1 in
      let low_end : 2 ^ k ≤ m = omega arith in
      let high_end : m < 2 ^ suc k = omega (arith, under_next d k x (2 ^ e - 1) part v.3 (under_power e)) in
      let over : 2 ^ 4 ≤ 2 ^ k = pow_mono {i = 4} {j = k} v.1 in
      let place : leading m ≡ k = leading_is 31 k m (omega (arith, v.2, ok.to)) low_end high_end in
      let rest : m ≡ 2 ^ k + m % 2 ^ k = lead_rest k m low_end high_end in
      rw (le-ltb m (least_coded d) (omega (arith, (least_coded_lem d).1)), le-ltb m 16 (omega arith))
      (ap (λ (n : ℕ). led_of d s n m) place ∙ ap (led s k) (cell_is x e (m % 2 ^ k) (omega arith) (omega arith)))

-- what is filled in stays in the cell
pub filled_bounds : (e x : ℕ) → (x * 2 ^ e ≤ filled e x) × (filled e x ≤ x * 2 ^ e + (2 ^ e - 1))
filled_bounds e x = (omega arith, omega (arith, pow_mono {i = e - 1} {j = e} (omega arith)))

module _ (top : ℕ) where
  -- decoding gives a magnitude of the shape
  pub magnitude_bounds : (d : ℕ) (shape : Shape) → Drop d → Valid top d shape → (lowest d shape ≤ magnitude d shape) × (magnitude d shape ≤ highest d shape)
  magnitude_bounds d nought dr v = omega arith
  magnitude_bounds d (small s x) none v = small_bounds x (v.2 refl)
    where
      small_bounds : (x : ℕ) → (x ≡ 0 → ⊥) → (max 1 (x * 1) ≤ filled 0 x) × (filled 0 x ≤ x * 1 + 0)
      small_bounds zero h = absurd (h refl)
      small_bounds (suc x) h = omega arith
  magnitude_bounds d (small s x) three v = small_bounds x
    where
      small_bounds : (x : ℕ) → (max 4 (x * 8) ≤ pick (eqb x 0) 5 (filled 3 x)) × (pick (eqb x 0) 5 (filled 3 x) ≤ x * 8 + 7)
      small_bounds zero = omega arith
      small_bounds (suc x) = rw (ne_eqb (suc x) 0 (λ e. omega arith)) (omega arith)
  magnitude_bounds d (led s k x) dr v = (omega arith, omega (arith, (filled_bounds (left_out d k) x).1))

  -- only nought means 0
  pub magnitude_positive : (d : ℕ) (shape : Shape) → Drop d → Valid top d shape → sign shape ≡ 1 → 1 ≤ magnitude d shape
  magnitude_positive d nought dr v e = absurd (omega arith)
  magnitude_positive d (small s x) dr v e = omega (arith, (magnitude_bounds d (small s x) dr v).0, (least_coded_lem d).0)
  magnitude_positive d (led s k x) dr v e = omega (arith, pow_pos k)

  -- the sign of a shape is a bit
  pub sign_bit : (d : ℕ) (shape : Shape) → Valid top d shape → sign shape < 2
  sign_bit d nought v = omega arith
  sign_bit d (small s x) v = v.0
  sign_bit d (led s k x) v = v.0

-- a sign and a magnitude come back from their number
pub signed_back : (s m : ℕ) → s < 2 → (s ≡ 1 → 1 ≤ m) → (sign_of (signed s m) ≡ s) × (nat_abs (signed s m) ≡ m)
signed_back zero m h p = (refl, refl)
signed_back (suc zero) zero h p = absurd (omega (arith, p refl))
signed_back (suc zero) (suc m) h p = (refl, refl)
signed_back (suc (suc s)) m h p = absurd (omega arith)

-- the sign of a number is a bit
pub sign_of_bit : (v : ℤ) → sign_of v < 2
sign_of_bit (pos n) = omega arith
sign_of_bit (negsuc n) = omega arith

module _ (top : ℕ) (ok : Places top) where
  -- no magnitude of a valid shape is above the largest
  pub highest_fits : (d : ℕ) (shape : Shape) → Drop d → Valid top d shape → highest d shape ≤ largest_to top
  highest_fits d shape dr v = omega (arith, under d shape dr v)
    where
      sixteen : 2 ^ 4 ≤ 2 ^ suc top
      sixteen = pow_mono {i = 4} {j = suc top} (omega (arith, ok.from))

      under : (d : ℕ) (shape : Shape) → Drop d → Valid top d shape → highest d shape < 2 ^ suc top
      under d nought dr v = omega (arith, (least_coded_lem d).1, sixteen)
      under d (small s x) dr v = omega (arith, field_lt (4 - d) d 4 v.1 (under_power d) (omega (arith, drop_small dr)), sixteen)
      under d (led s k x) dr v =
          let e : ℕ = left_out d k in
          omega (arith, under_next d k x (2 ^ e - 1) (below_led k dr v.1) v.3 (under_power e), pow_mono {i = suc k} {j = suc top} (omega (arith, v.2)))

  -- what is read is a number inside the rule
  pub magnitude_fits : (d : ℕ) (shape : Shape) → Drop d → Valid top d shape → magnitude d shape ≤ largest_to top
  magnitude_fits d shape dr v = le_trans (magnitude_bounds top d shape dr v).1 (highest_fits d shape dr v)

  -- and its error is small
  pub error_fits : (d : ℕ) (shape : Shape) → Drop d → Valid top d shape → error d shape ≤ 2 ^ (top / 2 + 2)
  error_fits d nought none v = omega arith
  error_fits d nought three v = omega (arith, pow_mono {i = 2} {j = top / 2 + 2} (omega arith))
  error_fits d (small s x) none v = omega arith
  error_fits d (small s x) three v = omega (arith, pow_mono {i = 2} {j = top / 2 + 2} (omega arith))
  error_fits d (led s k x) dr v = pow_mono {i = left_out d k - 1} {j = top / 2 + 2} (omega (arith, (below_led k dr v.1).few, v.2))

  -- the shape of a valid shape's magnitude is that shape
  pub shape_of_magnitude : (d : ℕ) (shape : Shape) → Drop d → Valid top d shape → shape_of d (sign shape) (magnitude d shape) ≡ shape
  shape_of_magnitude d shape dr v =
      let b = magnitude_bounds top d shape dr v in
      shape_is top ok d shape (magnitude d shape) dr v b.0 b.1

  -- the shape of a valid shape's value is that shape
  pub shape_of_value : (d : ℕ) (shape : Shape) → Drop d → Valid top d shape → shape_of_number d (value d shape) ≡ shape
  shape_of_value d shape dr v =
      let back = signed_back (sign shape) (magnitude d shape) (sign_bit top d shape v) (magnitude_positive top d shape dr v) in
      ap₂ (shape_of d) back.0 back.1 ∙ shape_of_magnitude d shape dr v

  -- the shape of a number inside the rule is valid
  pub number_valid : (d : ℕ) (v : ℤ) → Drop d → nat_abs v ≤ largest_to top → Valid top d (shape_of_number d v)
  number_valid d v dr h = shape_valid top ok d (sign_of v) (nat_abs v) dr (sign_of_bit v) h
