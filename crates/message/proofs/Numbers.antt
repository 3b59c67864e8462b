-- A value taken from its bytes, and put as its bytes, the highest first.
-- Assumes nothing.
use mathlib.Core.Path.{◌≡◌, refl, sym, ap, ap₂, ◌∙◌}
use mathlib.Core.List.{List, ◌++◌}
use Prim.Native.Nat.{ℕ, suc, ◌+◌, ◌-◌, ◌*◌, ◌/◌, ◌%◌, ◌^◌, ◌<◌, ◌≤◌}
use native.Mathlib.Nat.{pow-suc, pow-le-pow_right, zero-lt-suc, le_antisymm, div-div-eq-div-mul, add-zero, div-one}
use native.Mathlib.Numerals.{add-one}
use native.Mathlib.Omega.{arith}
use lib.ListN.{length, take, drop, get_or, set, length-set, take-append-drop}
use lib.Seq.{take-suc, take-length}
use Rattle.ground.specs.Words.{number, bytes_of, number_snoc}
use Rattle.ground.specs.Putting.{put, put_front}

-- the first i bytes are in the value
pub record Summed (bytes : List ℕ) (value i : ℕ) : Type 0 where
  pub so_far : value ≡ number (take i bytes)
  pub small : value < 256 ^ i

-- before the first byte
pub summed_none : (bytes : List ℕ) → Summed bytes 0 0
summed_none bytes = record { so_far = refl; small = zero-lt-suc 0 }

-- one byte more in the value
pub summed_more : {bytes : List ℕ} {value i : ℕ} → Summed bytes value i → i < length bytes → get_or bytes i 0 < 256
    → Summed bytes (value * 256 + get_or bytes i 0) (i + 1)
summed_more {bytes} {value} {i} s h small =
    let power : 256 ^ (i + 1) ≡ 256 ^ i * 256 = ap (λ (k : ℕ). 256 ^ k) (add-one i) ∙ pow-suc 256 i in
    record {
      so_far =
          ap (λ (x : ℕ). x * 256 + get_or bytes i 0) s.so_far
          ∙ sym (number_snoc (take i bytes) (get_or bytes i 0))
          ∙ ap number (sym (take-suc bytes i 0 h))
          ∙ ap (λ (k : ℕ). number (take k bytes)) (sym (add-one i));
      small = omega (arith, power, s.small);
    }

-- one byte more still fits, where there are at most eight
pub room : {i value : ℕ} → value < 256 ^ i → i < 8 → value < 2 ^ 56
room {i} {value} s h = let within : i ≤ 7 = omega arith in omega (arith, pow-le-pow_right (zero-lt-suc 255) within)

-- the last bytes of the value are put, and so much of it is left
pub record Putting (buffer₀ : List ℕ) (at count value : ℕ) (buffer : List ℕ) (left rest : ℕ) : Type 0 where
  pub within : left ≤ count
  pub so_far : buffer ≡ put buffer₀ (at + left) (bytes_of (count - left) value)
  pub still : rest ≡ value / 256 ^ (count - left)
  pub long : length buffer ≡ length buffer₀

-- before the last byte
pub putting_none : (buffer : List ℕ) (at count value : ℕ) → Putting buffer at count value buffer count value
putting_none buffer at count value =
    let none : count - count ≡ 0 = omega arith in
    record {
      within = omega arith;
      so_far =
          sym (take-append-drop (at + count) buffer)
          ∙ ap (λ (k : ℕ). take (at + count) buffer ++ drop k buffer) (sym (add-zero (at + count)))
          ∙ ap (λ (k : ℕ). put buffer (at + count) (bytes_of k value)) (sym none);
      still = sym (div-one value) ∙ ap (λ (k : ℕ). value / 256 ^ k) (sym none);
      long = refl;
    }

-- one byte more put
pub putting_more : {buffer₀ : List ℕ} {at count value : ℕ} {buffer : List ℕ} {left rest : ℕ} → at + count ≤ length buffer₀
    → Putting buffer₀ at count value buffer left rest → 0 < left
    → Putting buffer₀ at count value (set buffer (at + (left - 1)) (rest % 256)) (left - 1) (rest / 256)
putting_more {buffer₀} {at} {count} {value} {buffer} {left} {rest} n p h =
    let k = count - left in
    let before : at + left ≡ at + (left - 1) + 1 = omega arith in
    let longer : count - (left - 1) ≡ suc k = omega arith in
    let power : 256 ^ suc k ≡ 256 ^ k * 256 = pow-suc 256 k in
    record {
      within = omega arith;
      so_far =
          ap₂ (λ (x : List ℕ) (y : ℕ). set x (at + (left - 1)) (y % 256))
          (p.so_far ∙ ap (λ (m : ℕ). put buffer₀ m (bytes_of k value)) before)
          p.still
          ∙ put_front buffer₀ (at + (left - 1)) (bytes_of k value) (value / 256 ^ k % 256) (omega arith)
          ∙ ap (λ (m : ℕ). put buffer₀ (at + (left - 1)) (bytes_of m value)) (sym longer);
      still =
          ap (λ (x : ℕ). x / 256) p.still ∙ div-div-eq-div-mul value (256 ^ k) 256
          ∙ ap (λ (x : ℕ). value / x) (sym power) ∙ ap (λ (m : ℕ). value / 256 ^ m) (sym longer);
      long = length-set buffer (at + (left - 1)) (rest % 256) ∙ p.long;
    }

-- all bytes are put
pub putting_all : {buffer₀ : List ℕ} {at count value : ℕ} {buffer : List ℕ} {left rest : ℕ} → Putting buffer₀ at count value buffer left rest
    → left ≤ 0 → buffer ≡ put buffer₀ at (bytes_of count value)
putting_all {buffer₀} {at} {count} {value} {buffer} {left} p h =
    let none : at + left ≡ at = omega arith in
    let all : count - left ≡ count = omega arith in
    p.so_far ∙ ap₂ (λ (m k : ℕ). put buffer₀ m (bytes_of k value)) none all

-- all bytes are in the value
pub summed_all : {bytes : List ℕ} {value i : ℕ} → Summed bytes value i → i ≤ length bytes → length bytes ≤ i → value ≡ number bytes
summed_all {bytes} s within h = s.so_far ∙ ap (λ (k : ℕ). number (take k bytes)) (le_antisymm within h) ∙ ap number (take-length bytes)
