-- Laws that the proofs of reading cite: a field bit by bit, and what is filled in.
-- Assumes nothing.
use mathlib.Core.Path.{◌≡◌, sym, ap, ap₂, ◌∙◌, subst}
use mathlib.Core.List.{List}
use Prim.Native.Nat.{ℕ, ◌+◌, ◌*◌, ◌^◌, ◌<◌, ◌≤◌}
use native.Mathlib.Numerals.{add-one}
use native.Mathlib.Omega.{arith}
use lib.ListN.{length, length-drop, take, drop, get_or}
use lib.Seq.{get_or-drop, take-suc, length-take-le}
use lib.Pow.{pow_mono}
use Rattle.code.specs.Meaning.{bits_that_count, from_bits}
use Rattle.code.specs.BitLists.{all_bits, all_bits-take, all_bits-drop, from_bits_lt}
use Rattle.code.specs.Positions.{from_bits_snoc, all_bits-bits_that_count}

-- one bit more of a field
pub field_more : (l : List ℕ) (at i x b : ℕ) → at + i < length l → x ≡ from_bits (take i (drop at l)) → b ≡ get_or l (at + i) 0
    → x * 2 + b ≡ from_bits (take (i + 1) (drop at l))
field_more l at i x b h p q =
    ap₂ (λ (m n : ℕ). m * 2 + n) p (q ∙ sym (get_or-drop at l i 0))
    ∙ sym (from_bits_snoc (take i (drop at l)) (get_or (drop at l) i 0))
    ∙ ap from_bits (sym (take-suc (drop at l) i 0 (omega (arith, length-drop at l))))
    ∙ ap (λ (n : ℕ). from_bits (take n (drop at l))) (sym (add-one i))

-- a field lies in its width
pub field_width : (l : List ℕ) (at i : ℕ) → all_bits l → at + i ≤ length l → from_bits (take i (drop at l)) < 2 ^ i
field_width l at i ok h =
    subst (λ (n : ℕ). from_bits (take i (drop at l)) < 2 ^ n) (length-take-le i (drop at l) (omega (arith, length-drop at l)))
    (from_bits_lt (take i (drop at l)) (all_bits-take i (drop at l) (all_bits-drop at l ok)))

-- a field of at most 16 bits is under 65536
pub field_small : (l : List ℕ) (at i : ℕ) → all_bits l → at + i ≤ length l → i ≤ 16 → from_bits (take i (drop at l)) < 65536
field_small l at i ok h few = omega (arith, field_width l at i ok h, pow_mono {i = i} {j = 16} few)

-- one turn of reading a field
pub field_turn : (bytes : List ℕ) (at width i x b : ℕ) → i < width → at + width ≤ length (bits_that_count bytes) → width ≤ 16
    → x ≡ from_bits (take i (drop at (bits_that_count bytes))) → b ≡ get_or (bits_that_count bytes) (at + i) 0
    → (x * 2 + b ≡ from_bits (take (i + 1) (drop at (bits_that_count bytes)))) × (x * 2 + b < 65536)
field_turn bytes at width i x b h fits few p q =
    let e = field_more (bits_that_count bytes) at i x b (omega arith) p q in (
      e,
      subst (λ (n : ℕ). n < 65536) (sym e) (field_small (bits_that_count bytes) at (i + 1) (all_bits-bits_that_count bytes) (omega arith) (omega arith)),
    )

-- a field that was read whole
pub field_done : (bytes : List ℕ) (at width i x : ℕ) → i ≤ width → width ≤ i → at + width ≤ length (bits_that_count bytes)
    → x ≡ from_bits (take i (drop at (bits_that_count bytes)))
    → (x ≡ from_bits (take width (drop at (bits_that_count bytes)))) × (x < 2 ^ width)
field_done bytes at width i x a b fits p =
    let e : i ≡ width = omega arith in
    let f = p ∙ ap (λ (n : ℕ). from_bits (take n (drop at (bits_that_count bytes)))) e in
    (f, subst (λ (n : ℕ). n < 2 ^ width) (sym f) (field_width (bits_that_count bytes) at width (all_bits-bits_that_count bytes) fits))
