-- What the code of every float format does, over the number w of its mantissa bits.
-- Assumes nothing.
use mathlib.Core.Path.{◌≡◌, sym, ap, ap₂, ◌∙◌, subst}
use Prim.Native.Nat.{ℕ, ◌+◌, ◌-◌, ◌*◌, ◌/◌, ◌^◌, ◌≤◌, ◌<◌}
use native.Mathlib.Nat.{lt_of_lt_of_le}
use lib.Count.{count_leading_zeros}
use Rattle.ground.specs.Paper.{accepted}
use Rattle.format.specs.Meaning.{float_value, Largest, Takes}
use Rattle.format.specs.Floats.{code_largest}

-- below the limit, the halvings and what they leave make the code that the count takes
pub took : (w limit : ℕ) {count s h : ℕ} → w < 64 → limit ≤ 2 ^ 64 → count < limit → s ≡ 63 - w - count_leading_zeros 64 count → h ≡ count / 2 ^ s
    → Takes (float_value w) limit count (accepted (s * 2 ^ w + h))
took w limit {count} a l b e q = (
  b,
  subst (λ (x : ℕ). Largest (float_value w) count x)
      (sym (ap₂ (λ (x y : ℕ). x * 2 ^ w + y) e (q ∙ ap (λ (x : ℕ). count / 2 ^ x) e)))
      (code_largest w count a (lt_of_lt_of_le b l)),
)
