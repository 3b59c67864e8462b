-- Bytes as arrays of two and of four: each takes the register as the bytes at its place do.
-- Assumes nothing.
use mathlib.Core.Path.{◌≡◌, refl, sym, ap, ap₂, subst, ◌∙◌}
use mathlib.Core.List.{List, []}
use Prim.Native.Nat.{ℕ, zero, suc, ◌+◌, ◌-◌, ◌*◌, ◌/◌, ◌^◌, ◌<◌, ◌≤◌}
use native.Mathlib.Nat.{add_assoc, add-zero, mul-zero, mul-suc, add_comm, mul_comm, le_antisymm}
use native.Mathlib.Omega.{arith}
use lib.Bits.{bit_xor}
use lib.ListN.{length, length-drop, take, drop, get_or}
use lib.Seq.{take-length}
use Rattle.std.specs.Simd.{first_chunks}
use Rattle.std.proofs.lemmas.List.{drop-drop, get_or-take, get_or-drop}
use Rattle.crc.specs.Folding.{Pair, Word, after_word, sixteen}
use Rattle.crc.specs.Meaning.{run}
use Rattle.crc.proofs.Reading.{goes_on, pair_goes, two_on, word_goes}

-- an array is what stands at its place
chunk : (n count i : ℕ) (l : List ℕ) → i < count → get_or (first_chunks n count l) i [] ≡ take n (drop (n * i) l)
chunk n zero i l h = absurd (omega (arith, h))
chunk n (suc count) zero l h = ap (λ (k : ℕ). take n (drop k l)) (sym (mul-zero n))
chunk n (suc count) (suc i) l h =
    chunk n count i (drop n l) (omega arith)
    ∙ ap (take n) (drop-drop (n * i) n l ∙ ap (λ (k : ℕ). drop k l) (add_comm n (n * i) ∙ sym (mul-suc n i)))

-- a byte of an array
byte_in : (n : ℕ) {count i : ℕ} (j : ℕ) (l : List ℕ) {arrays : List (List ℕ)} → arrays ≡ first_chunks n count l → i < count → j < n
    → get_or (get_or arrays i []) j 0 ≡ get_or l (n * i + j) 0
byte_in n {count} {i} j l e h k =
    ap (λ (w : List (List ℕ)). get_or (get_or w i []) j 0) e
    ∙ ap (λ (w : List ℕ). get_or w j 0) (chunk n count i l h)
    ∙ get_or-take n (drop (n * i) l) j 0 k
    ∙ get_or-drop (n * i) l j 0

module _ {l : List ℕ} (bytes : (j : ℕ) → get_or l j 0 < 256) where
  -- the word of four bytes
  pub word_four : {i w : ℕ} → i + 4 ≤ length l
      → w ≡ get_or l i 0 * 16777216 + get_or l (i + 1) 0 * 65536 + get_or l (i + 2) 0 * 256 + get_or l (i + 3) 0 → Word l i w
  word_four {i} {w} h e =
      let a = get_or l i 0 in
      let b = get_or l (i + 1) 0 in
      let c = get_or l (i + 2) 0 in
      let d = get_or l (i + 3) 0 in
      let last : d ≡ get_or l (i + 2 + 1) 0 = ap (λ (k : ℕ). get_or l k 0) (sym (add_assoc i 2 1)) in
      let halves : (a * 256 + b) * 65536 + (c * 256 + d) ≡ w = omega (arith, e) in
      subst (Word l i) halves
      (word_goes (pair_goes (omega arith) refl refl (bytes i) (bytes (i + 1)))
      (pair_goes (omega arith) refl last (bytes (i + 2)) (bytes (i + 3))))

  -- the number of an array of two bytes
  pub pair_in : {arrays : List (List ℕ)} {i w : ℕ} → arrays ≡ first_chunks 2 (length l / 2) l → i < length l / 2
      → w ≡ get_or (get_or arrays i []) 0 0 * 256 + get_or (get_or arrays i []) 1 0 → Pair l (2 * i) w
  pair_in {arrays} {i} {w} e h is =
      let first = byte_in 2 0 l e h (omega arith) ∙ ap (λ (k : ℕ). get_or l k 0) (add-zero (2 * i)) in
      let second = byte_in 2 1 l e h (omega arith) in
      subst (Pair l (2 * i)) (sym (is ∙ ap₂ (λ (x y : ℕ). x * 256 + y) first second))
      (pair_goes (omega arith) refl refl (bytes (2 * i)) (bytes (2 * i + 1)))

  -- the word of an array of four bytes
  pub word_in : {arrays : List (List ℕ)} {i w : ℕ} → arrays ≡ first_chunks 4 (length l / 4) l → i < length l / 4
      → w ≡ get_or (get_or arrays i []) 0 0 * 16777216 + get_or (get_or arrays i []) 1 0 * 65536 + get_or (get_or arrays i []) 2 0 * 256
      + get_or (get_or arrays i []) 3 0
      → Word l (4 * i) w
  word_in {arrays} {i} {w} e h is =
      let first = byte_in 4 0 l e h (omega arith) ∙ ap (λ (k : ℕ). get_or l k 0) (add-zero (4 * i)) in
      let second = byte_in 4 1 l e h (omega arith) in
      let third = byte_in 4 2 l e h (omega arith) in
      let fourth = byte_in 4 3 l e h (omega arith) in
      word_four (omega arith)
      (is
      ∙ ap₂ (λ (x y : ℕ). x + y)
      (ap₂ (λ (x y : ℕ). x + y * 256) (ap₂ (λ (x y : ℕ). x * 16777216 + y * 65536) first second) third) fourth)

module _ {l : List ℕ} {w s r : ℕ} (i k : ℕ) where
  -- the register two bytes further
  pub pair_on : Pair l (2 * i) w → k < 2 ^ 16 → s ≡ sixteen (bit_xor k w) → run k (drop (2 * i) l) ≡ r → run s (drop (2 * (i + 1)) l) ≡ r
  pair_on h small e inv =
      let on : 2 * (i + 1) ≡ 2 * i + 2 = omega arith in
      ap (λ (m : ℕ). run s (drop m l)) on ∙ two_on k h small e inv

  -- the register four bytes further
  pub word_on : Word l (4 * i) w → k < 2 ^ 16 → s ≡ after_word k w → run k (drop (4 * i) l) ≡ r → run s (drop (4 * (i + 1)) l) ≡ r
  word_on h small e inv =
      let on : 4 * (i + 1) ≡ 4 * i + 4 = omega arith in
      ap (λ (m : ℕ). run s (drop m l)) on ∙ goes_on k h small e inv

-- behind all arrays, what is left takes the register to the whole answer
pub behind : (n i k : ℕ) (l : List ℕ) {count r s : ℕ} {tail : List ℕ} → count ≤ i → i ≤ count → tail ≡ drop (count * n) l → s ≡ run k tail
    → run k (drop (n * i) l) ≡ r → s ≡ r
behind n i k l {count} few within e is inv =
    let all : count ≡ i = le_antisymm few within in
    is ∙ ap (run k) (e ∙ ap (λ (m : ℕ). drop m l) (mul_comm count n ∙ ap (λ (m : ℕ). n * m) all)) ∙ inv

module _ (l : List ℕ) where
  -- what follows the first sixteen bytes
  pub after_sixteen : take (length l - 16) (drop 16 l) ≡ drop 16 l
  after_sixteen = ap (λ (k : ℕ). take k (drop 16 l)) (sym (length-drop 16 l)) ∙ take-length (drop 16 l)

  -- is bytes
  pub still_bytes : ((j : ℕ) → get_or l j 0 < 256) → (j : ℕ) → get_or (drop 16 l) j 0 < 256
  still_bytes bytes j = subst (λ (x : ℕ). x < 256) (sym (get_or-drop 16 l j 0)) (bytes (16 + j))
