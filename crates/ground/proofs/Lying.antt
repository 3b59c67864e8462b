-- What lies in the bytes, and what does not: each answer meets its promise.
-- Assumes nothing.
use mathlib.Core.Path.{◌≡◌, refl, sym, ap, ap₂, ◌∙◌}
use mathlib.Core.Bool.{Bool, true, false}
use mathlib.Core.List.{List, [], ◌∷◌, ◌++◌}
use Prim.Native.Nat.{ℕ, ◌+◌, ◌-◌, ◌*◌, ◌<◌, ◌≤◌}
use native.Mathlib.Omega.{arith}
use borrow.Author.Tests.{le-leb, lt-leb, leb-true, leb-false}
use lib.Dec.{leb}
use borrow.Rule.Slice.PartMut.{put_mid, Post-is}
use lib.ListN.{length, get_or, take}
use Rattle.std.specs.Int.{bytes_high_first, from_be_bytes, w16}
use Rattle.ground.specs.Choice.{pick}
use Rattle.ground.specs.Words.{bytes_of, high_first, word_at, word_bytes}
use Rattle.ground.specs.Putting.{put}
use Rattle.ground.specs.Laws.{inside}
use Rattle.ground.specs.Promise.{LiesPromise, WordPromise, PutPromise}

-- a place past the end
pub past : (bytes : List ℕ) (at size : ℕ) → length bytes < at → LiesPromise bytes at size false
past bytes at size h = record { answer = sym (lt-leb (at + size) (length bytes) (omega arith)) }

-- a size that is held against what is left, or from the start
pub left : (bytes : List ℕ) (at size : ℕ) → at ≤ length bytes → LiesPromise bytes at size (leb size (length bytes - at))
left bytes at size h = record { answer = go (leb size (length bytes - at)) refl }
  where
    go : (t : Bool) → leb size (length bytes - at) ≡ t → leb size (length bytes - at) ≡ leb (at + size) (length bytes)
    go true e = e ∙ sym (le-leb (at + size) (length bytes) (omega (arith, leb-true size (length bytes - at) e)))
    go false e = e ∙ sym (lt-leb (at + size) (length bytes) (omega (arith, leb-false size (length bytes - at) e)))

module _ {bytes : List ℕ} {at : ℕ} {t : Bool} (p : LiesPromise bytes at 2 t) where
  -- a word is its two bytes
  pub word_here : {word : ℕ} → t ≡ true → word ≡ from_be_bytes w16 (get_or bytes at 0 ∷ get_or bytes (at + 1) 0 ∷ []) → WordPromise bytes at word
  word_here {word} e h =
      let two : word ≡ get_or bytes at 0 * 256 + get_or bytes (at + 1) 0 = omega (arith, h) in
      record { answer = two ∙ sym (word_bytes bytes at (inside p e)) ∙ ap (λ (b : Bool). pick b (word_at bytes at) 0) (sym e ∙ p.answer) }

  -- no word
  pub word_away : t ≡ false → WordPromise bytes at 0
  word_away e = record { answer = ap (λ (b : Bool). pick b (word_at bytes at) 0) (sym e ∙ p.answer) }

  -- two bytes stored in their places
  pub put_here : (word : ℕ) {two part : List ℕ} → t ≡ true → two ≡ bytes_high_first 2 word → part ≡ two
      → PutPromise bytes at word (put_mid at (at + 2 - at) bytes part)
  put_here word e h g =
      record {
        memory =
            ap₂ (λ (x y : List ℕ). take at bytes ++ (x ++ y)) (g ∙ h ∙ high_first 2 word) (Post-is at (at + 2) bytes (omega arith))
            ∙ ap (λ (b : Bool). pick b (put bytes at (bytes_of 2 word)) bytes) (sym e ∙ p.answer);
      }

  -- nothing stored
  pub put_away : (word : ℕ) → t ≡ false → PutPromise bytes at word bytes
  put_away word e = record { memory = ap (λ (b : Bool). pick b (put bytes at (bytes_of 2 word)) bytes) (sym e ∙ p.answer) }
