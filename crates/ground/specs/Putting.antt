-- Bytes put over those of a buffer, field after field.
-- Assumes nothing.
use Rattle.std.specs.Prelude.{◌≡◌, refl, List, ◌∷◌, ◌++◌, ℕ, suc, ◌+◌, ◌/◌, ◌%◌, ◌^◌, ◌<◌, ◌≤◌, length, take, drop, set, get_or}
use Rattle.std.proofs.Common.{sym, ap, ap₂, ◌∙◌, append_assoc, zero-le, le_refl, add-one, arith, length-append, length-take, length-drop, length-set, take_at}
use Rattle.std.proofs.Common.{drop_at, drop-drop, take-suc, length-take-le, take_all}
use Rattle.std.proofs.lemmas.List.Edits.{sets-eq}
use Rattle.std.proofs.lemmas.List.{set_at}
use Rattle.std.proofs.Math.Seq.{append_snoc, paste, paste-zero, paste-suc}
use Rattle.ground.specs.Words.{bytes_of}

-- the buffer with bytes put over those from a place on
abbrev pub put : List ℕ → ℕ → List ℕ → List ℕ
put l at bytes = take at l ++ (bytes ++ drop (at + length bytes) l)

-- a buffer stays as long as it is
pub length-put : (l : List ℕ) (at : ℕ) (bytes : List ℕ) → at + length bytes ≤ length l → length (put l at bytes) ≡ length l
length-put l at bytes h = simp (length-append, length-take, length-drop) (omega arith)

-- bytes put right after those that are there already
pub put_next : (p l bytes : List ℕ) (k : ℕ) → length p ≡ k → put (p ++ drop k l) k bytes ≡ (p ++ bytes) ++ drop (k + length bytes) l
put_next p l bytes k h =
    ap₂ (λ (x y : List ℕ). x ++ (bytes ++ y)) (take_at p (drop k l) k h)
    (sym (drop-drop (length bytes) k (p ++ drop k l)) ∙ ap (drop (length bytes)) (drop_at p (drop k l) k h) ∙ drop-drop (length bytes) k l)
    ∙ sym (append_assoc p bytes (drop (k + length bytes) l))

-- two bytes stored one after the other are a word put
pub put_word : (l : List ℕ) (at word : ℕ) → at + 2 ≤ length l → word < 2 ^ 16
    → set (set l at (word / 256)) (at + 1) (word % 256) ≡ put l at (bytes_of 2 word)
put_word l at word h g =
    let upper : word / 256 ≡ word / 256 % 256 = omega arith in
    let lower : word % 256 ≡ word / 1 % 256 = omega arith in
    ap₂ (λ (x y : ℕ). set (set l at x) (at + 1) y) upper lower
    ∙ ap (λ (k : ℕ). set (set l at (word / 256 % 256)) k (word / 1 % 256)) (add-one at)
    ∙ sets-eq (bytes_of 2 word) l at h
    ∙ append_assoc (take at l) (bytes_of 2 word) (drop (at + 2) l)

-- a byte stored right before those that were put is one more of them
pub put_front : (l : List ℕ) (at : ℕ) (bytes : List ℕ) (b : ℕ) → at < length l → set (put l (at + 1) bytes) at b ≡ put l at (b ∷ bytes)
put_front l at bytes b h =
    let rest = bytes ++ drop (at + 1 + length bytes) l in
    let past : at + 1 + length bytes ≡ at + suc (length bytes) = omega arith in
    ap (λ (x : List ℕ). set (x ++ rest) at b) (ap (λ (k : ℕ). take k l) (add-one at) ∙ take-suc l at 0 h)
    ∙ ap (λ (x : List ℕ). set x at b) (append_snoc (take at l) (get_or l at 0) rest)
    ∙ set_at (take at l) (get_or l at 0) rest b at (length-take-le at l (omega arith))
    ∙ ap (λ (k : ℕ). take at l ++ (b ∷ (bytes ++ drop k l))) past

-- the first i bytes of a text are copied over a buffer's from a place on, and the buffer is as long as it was
pub record Copied (room₀ : List ℕ) (at : ℕ) (text room : List ℕ) (i : ℕ) : Type 0 where
  pub within : i ≤ length text
  pub long : length room ≡ length room₀
  pub so_far : room ≡ paste room₀ at text i

pub copied_none : (room : List ℕ) (at : ℕ) (text : List ℕ) → Copied room at text room 0
copied_none room at text = record { within = zero-le; long = refl; so_far = paste-zero room at text }

-- one byte more
pub copied_more : {room₀ : List ℕ} {at : ℕ} {text room : List ℕ} {i : ℕ} (b : ℕ) → at + length text ≤ length room₀
    → Copied room₀ at text room i → i < length text → b ≡ get_or text i 0 → Copied room₀ at text (set room (at + i) b) (i + 1)
copied_more {room₀} {at} {text} {room} {i} b n p h e =
    record {
      within = omega arith;
      long = length-set room (at + i) b ∙ p.long;
      so_far =
          ap₂ (λ (x : List ℕ) (y : ℕ). set x (at + i) y) p.so_far e
          ∙ paste-suc room₀ at text i 0 (omega arith) h
          ∙ ap (paste room₀ at text) (sym (add-one i));
    }

-- all is copied
pub copied_all : {room₀ : List ℕ} {at : ℕ} {text room : List ℕ} {i : ℕ} → Copied room₀ at text room i → length text ≤ i → room ≡ put room₀ at text
copied_all {room₀} {at} {text} {room} {i} p h =
    let all : i ≡ length text = omega (arith, p.within) in
    p.so_far
    ∙ ap (paste room₀ at text) all
    ∙ ap (λ (x : List ℕ). take at room₀ ++ x ++ drop (at + length text) room₀) (take_all (length text) text (le_refl (length text)))
    ∙ append_assoc (take at room₀) text (drop (at + length text) room₀)
