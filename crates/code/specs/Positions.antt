-- Laws of bits at positions of bytes: how many count, and which bit of which byte stands where.
-- Assumes nothing.
use Rattle.std.specs.Prelude.{◌≡◌, refl, Bool, true, false, List, [], ◌∷◌, ◌++◌, ℕ, zero, suc, ◌+◌, ◌*◌, ◌-◌, ◌/◌, ◌%◌, ◌^◌, ◌<◌, ◌≤◌, min, length, take}
use Rattle.std.specs.Prelude.{drop, get_or, ltb}
use Rattle.std.proofs.Common.{sym, ap, ap₂, ◌∙◌, subst, arith, length-append, length-take, length-drop, take-append-drop, get_or-take, get_or-append-add}
use Rattle.std.proofs.Common.{length-take-le, le-ltb, ltb-true, ltb-false}
use Rattle.std.proofs.Math.ListN.{get_or-append}
use Rattle.std.proofs.lemmas.Bool.{lt-leb}
use Rattle.ground.specs.Choice.{pick}
use Rattle.ground.specs.Paper.{refused, refused_with}
use Rattle.ground.specs.Bytes.{Bytes}
use Rattle.ground.specs.Bits.{to_bits, bits_of}
use Rattle.code.specs.Meaning.{bits_that_count, from_bits, bytes_from, past_end, drop_known, answer_to, position_means}
use Rattle.code.specs.BitLists.{all_bits, all_bits-take, all_bits-drop, all_bits-bits_of, length-bits_of, from_bits-to_bits, to_bits-from_bits}

-- eight bits a byte count, but none from position 2^63 on
pub length-bits_that_count : (bytes : List ℕ) → length (bits_that_count bytes) ≡ min (2 ^ 63) (8 * length bytes)
unfolding bits_that_count
length-bits_that_count bytes = length-take (2 ^ 63) (bits_of bytes) ∙ ap (min (2 ^ 63)) (length-bits_of bytes)

-- what counts are bits
pub all_bits-bits_that_count : (bytes : List ℕ) → all_bits (bits_that_count bytes)
unfolding bits_that_count
all_bits-bits_that_count bytes = all_bits-take (2 ^ 63) (bits_of bytes) (all_bits-bits_of bytes)

-- a bit of a number
pub get_or-to_bits : (w x k : ℕ) → k < w → get_or (to_bits w x) k 0 ≡ x / 2 ^ (w - 1 - k) % 2
get_or-to_bits zero x k h = absurd (omega arith)
get_or-to_bits (suc w) x zero h = let e : w ≡ suc w - 1 - 0 = omega arith in ap (λ (n : ℕ). x / 2 ^ n % 2) e
get_or-to_bits (suc w) x (suc k) h =
    let e : w - 1 - k ≡ suc w - 1 - suc k = omega arith in
    get_or-to_bits w x k (omega arith) ∙ ap (λ (n : ℕ). x / 2 ^ n % 2) e

-- a bit of bytes
pub get_or-bits_of : (bytes : List ℕ) (i : ℕ) → i < 8 * length bytes → get_or (bits_of bytes) i 0 ≡ get_or bytes (i / 8) 0 / 2 ^ (7 - i % 8) % 2
get_or-bits_of [] i h = absurd (omega arith)
get_or-bits_of (b ∷ bytes) i h = go (λ n k. get_or-bits_of bytes n k) (ltb i 8) refl
  where
    go : ((n : ℕ) → n < 8 * length bytes → get_or (bits_of bytes) n 0 ≡ get_or bytes (n / 8) 0 / 2 ^ (7 - n % 8) % 2)
        → (t : Bool) → ltb i 8 ≡ t → get_or (to_bits 8 b ++ bits_of bytes) i 0 ≡ get_or (b ∷ bytes) (i / 8) 0 / 2 ^ (7 - i % 8) % 2
    go ih true t =
        let small : i < 8 = ltb-true i 8 t in
        let q : i / 8 ≡ 0 = omega arith in
        let r : 8 - 1 - i ≡ 7 - i % 8 = omega arith in
        get_or-append (to_bits 8 b) (bits_of bytes) 0 i small
        ∙ get_or-to_bits 8 b i small
        ∙ ap (λ (n : ℕ). b / 2 ^ n % 2) r
        ∙ ap (λ (n : ℕ). get_or (b ∷ bytes) n 0 / 2 ^ (7 - i % 8) % 2) (sym q)
    go ih false t =
        let large : 8 ≤ i = ltb-false i 8 t in
        let n : ℕ = i - 8 in
        let e : i ≡ 8 + n = omega arith in
        let q : suc (n / 8) ≡ i / 8 = omega arith in
        let r : n % 8 ≡ i % 8 = omega arith in
        ap (λ (m : ℕ). get_or (to_bits 8 b ++ bits_of bytes) m 0) e
        ∙ get_or-append-add (to_bits 8 b) (bits_of bytes) n 0
        ∙ ih n (omega arith)
        ∙ ap₂ (λ (k m : ℕ). get_or (b ∷ bytes) k 0 / 2 ^ (7 - m) % 2) q r

-- a position up to the end, under 2^63, is not past it
pub not_past : (end at : ℕ) → at ≤ end → at < 2 ^ 63 → past_end end at ≡ false
not_past end at h k = rw (le-ltb end at h, lt-leb (2 ^ 63) at k)

module _ (top : ℕ) (bytes : List ℕ) (at d : ℕ) (known : drop_known d ≡ true) where
  -- whether a position lies past the end decides what is answered there
  pub position_decides : (b : Bool) → past_end (length (bits_that_count bytes)) at ≡ b
      → pick (drop_known d) (position_means top bytes at d) (refused 8) ≡ pick b (refused_with 9 0) (answer_to top d at (drop at (bits_that_count bytes)))
  position_decides b e = ap₂ (λ (x y : Bool). pick x (pick y (refused_with 9 0) (answer_to top d at (drop at (bits_that_count bytes)))) (refused 8)) known e

  -- before the end the bits that stand there are
  pub before_end : at < length (bits_that_count bytes)
      → pick (drop_known d) (position_means top bytes at d) (refused 8) ≡ answer_to top d at (drop at (bits_that_count bytes))
  before_end h = position_decides false (not_past (length (bits_that_count bytes)) at (omega arith) (omega (arith, length-bits_that_count bytes)))

-- a position that counts lies in a byte
pub position_inside : (bytes : List ℕ) (at : ℕ) → at < length (bits_that_count bytes) → at < 8 * length bytes
position_inside bytes at h = omega (arith, length-bits_that_count bytes)

-- a bit that counts
pub bit_that_counts : (bytes : List ℕ) (at : ℕ) → at < length (bits_that_count bytes)
    → get_or (bits_that_count bytes) at 0 ≡ get_or bytes (at / 8) 0 / 2 ^ (7 - at % 8) % 2
unfolding bits_that_count
bit_that_counts bytes at h =
    get_or-take (2 ^ 63) (bits_of bytes) at 0 (omega (arith, length-bits_that_count bytes))
    ∙ get_or-bits_of bytes at (position_inside bytes at h)

-- the number of bits with one bit more
pub from_bits_snoc : (l : List ℕ) (b : ℕ) → from_bits (l ++ (b ∷ [])) ≡ from_bits l * 2 + b
from_bits_snoc [] b = omega arith
from_bits_snoc (a ∷ l) b =
    let ih = from_bits_snoc l b in
    let e : 2 ^ length (l ++ (b ∷ [])) ≡ 2 ^ length l * 2 = ap (λ (n : ℕ). 2 ^ n) (length-append l (b ∷ []) ∙ native.Mathlib.Numerals.add-one (length l))
    ∙ native.Mathlib.Nat.pow-suc 2 (length l) in
    let f : a * (2 ^ length l * 2) ≡ a * 2 ^ length l * 2 = sym (native.Mathlib.Nat.mul_assoc a (2 ^ length l) 2) in
    ap (λ (n : ℕ). a * n + from_bits (l ++ (b ∷ []))) e ∙ omega arith

-- bytes come back from their bits
pub bytes_back : (bytes : List ℕ) → Bytes bytes → bytes_from (length bytes) (bits_of bytes) ≡ bytes
unfolding bytes_from
bytes_back [] ok = refl
bytes_back (b ∷ bytes) ok =
    ap₂ ◌∷◌
    (from_bits-to_bits 8 b ∙ native.Mathlib.Nat.mod-eq_of_lt (ok 0))
    (bytes_back bytes (λ i. ok (suc i)))

-- bits come back from their bytes
pub bits_back : (n : ℕ) (l : List ℕ) → length l ≡ 8 * n → all_bits l → bits_of (bytes_from n l) ≡ l
unfolding bytes_from
bits_back zero [] e ok = refl
bits_back zero (b ∷ l) e ok = absurd (omega arith)
bits_back (suc n) l e ok =
    let long : length (take 8 l) ≡ 8 = length-take-le 8 l (omega arith) in
    ap₂ (λ (x y : List ℕ). x ++ y)
    (subst (λ (k : ℕ). to_bits k (from_bits (take 8 l)) ≡ take 8 l) long (to_bits-from_bits (take 8 l) (all_bits-take 8 l ok)))
    (bits_back n (drop 8 l) (omega (arith, length-drop 8 l)) (all_bits-drop 8 l ok))
    ∙ take-append-drop 8 l

-- so many bytes were asked, so many are there
pub length-bytes_from : (n : ℕ) (l : List ℕ) → length (bytes_from n l) ≡ n
unfolding bytes_from
length-bytes_from zero l = refl
length-bytes_from (suc n) l = ap suc (length-bytes_from n (drop 8 l))
