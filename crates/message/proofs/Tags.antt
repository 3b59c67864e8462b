-- Which tags and values are within the rule.
-- Assumes nothing.
use mathlib.Core.Path.{◌≡◌, refl, sym, ◌∙◌}
use mathlib.Core.Bool.{true, false}
use Prim.Native.Nat.{ℕ, zero, suc, ◌<◌, ◌≤◌, ◌^◌}
use borrow.Author.Tests.{le-leb, lt-leb, lt-ltb}
use lib.Dec.{leb, ltb}
use Rattle.message.specs.Meaning.{data_size, sayable}

-- a tag above 2 stands for eight bytes
pub eight : (tag : ℕ) → (tag ≡ 0 → ⊥) → (tag ≡ 1 → ⊥) → (tag ≡ 2 → ⊥) → 8 ≡ data_size tag
eight zero a b c = absurd (a refl)
eight (suc zero) a b c = absurd (b refl)
eight (suc (suc zero)) a b c = absurd (c refl)
eight (suc (suc (suc t))) a b c = refl

module _ (address tag value : ℕ) where
  -- an address of more than 14 bits
  pub far : 0x3FFF < address → false ≡ sayable address tag value
  unfolding sayable
  far h = rw (lt-leb address 0x3FFF h)

  -- of a known tag, the value's bits settle it
  pub near : {known : ℕ} → address ≤ 0x3FFF → tag ≡ known → leb known 3 ≡ true → ltb value (256 ^ data_size known) ≡ sayable address tag value
  unfolding sayable
  near h is t = rw (is, le-leb address 0x3FFF h, t)

  -- a tag of more than 2 bits
  pub no_tag : address ≤ 0x3FFF → 3 < tag → false ≡ sayable address tag value
  unfolding sayable
  no_tag h g = rw (le-leb address 0x3FFF h, lt-leb tag 3 g)

  -- no bit of a 64-bit value is beyond eight bytes
  pub all_bits_lem : address ≤ 0x3FFF → tag ≡ 3 → value < 2 ^ 64 → true ≡ sayable address tag value
  all_bits_lem h is g = sym (lt-ltb value (256 ^ 8) g) ∙ near h is refl
