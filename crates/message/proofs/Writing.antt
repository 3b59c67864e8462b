-- The buffer as the writer leaves it, step by step, is the message and what lay past it.
-- Assumes nothing.
use mathlib.Core.Path.{◌≡◌, refl, sym, ap, ap₂, ◌∙◌}
use mathlib.Core.Bool.{Bool, true, false}
use mathlib.Core.List.{List, ◌++◌}
use Prim.Native.Nat.{ℕ, ◌+◌, ◌<◌, ◌≤◌}
use native.Mathlib.Nat.{add_comm}
use native.Mathlib.Omega.{arith}
use borrow.Author.Tests.{lt-ltb, le-ltb}
use lib.ListN.{length, drop}
use Rattle.std.specs.Prelude.{Ok, Err}
use Rattle.ground.specs.Outcome.{accept}
use Rattle.ground.specs.Words.{bytes_of, length-bytes_of}
use Rattle.ground.specs.Putting.{put, put_next}
use Rattle.crc.specs.Promise.{SealPromise}
use Rattle.crc.specs.Sealing.{seal_front}
use Rattle.message.specs.Meaning.{mark, data_size, tag_word, covered, message_of, sayable, write_means}
use Rattle.message.specs.declared.NotWritten.TheVariants as W
use Rattle.message.specs.Promise.{WritePromise}
use Rattle.message.specs.ReadBack.{covered-length}

module _ (buffer : List ℕ) (address tag value size : ℕ) (is : size ≡ data_size tag) {l₁ l₂ l₃ : List ℕ} (p : l₁ ≡ put buffer 0 (bytes_of 2 0x3C3D))
    (q : l₂ ≡ put l₁ 2 (bytes_of 2 (tag_word address tag))) (r : l₃ ≡ put l₂ 4 (bytes_of size value)) where
  -- mark, word and data, and what lay past them
  filled : l₃ ≡ covered address tag value ++ drop (size + 4) buffer
  filled =
      let word = bytes_of 2 (tag_word address tag) in
      let words = q ∙ ap (λ (x : List ℕ). put x 2 word) p ∙ put_next mark buffer word 2 refl in
      let covers = ap (λ (k : ℕ). mark ++ (word ++ bytes_of k value)) is in
      r ∙ ap (λ (x : List ℕ). put x 4 (bytes_of size value)) words
      ∙ put_next (mark ++ word) buffer (bytes_of size value) 4 refl
      ∙ ap₂ (λ (x : List ℕ) (k : ℕ). x ++ drop k buffer) covers (ap (λ (k : ℕ). 4 + k) (length-bytes_of size value) ∙ add_comm 4 size)

  -- with the checksum behind them the whole message, and what lay past it
  whole : {l₄ : List ℕ} → size + 6 ≤ length buffer → SealPromise l₃ (size + 4) l₄ → l₄ ≡ message_of address tag value ++ drop (size + 6) buffer
  unfolding message_of
  whole h s =
      let past : size + 4 + 2 ≡ size + 6 = omega arith in
      let long : length (covered address tag value) ≡ size + 4 = omega (arith, covered-length address tag value) in
      seal_front (covered address tag value) buffer (size + 4) long (omega arith) filled s
      ∙ ap (λ (k : ℕ). message_of address tag value ++ drop k buffer) past

module _ {buffer : List ℕ} {address tag value : ℕ} {answer : Bool} (said : answer ≡ sayable address tag value) where
  -- an address, a tag or bits outside the rule
  pub unsayable : answer ≡ false → WritePromise buffer address tag value (Err W.OutsideRule) buffer
  unfolding write_means
  unsayable e = record { outcome = rw (sym said ∙ e) }

  module _ (e : answer ≡ true) {size : ℕ} (is : size ≡ data_size tag) where
    -- a buffer that is too short
    pub too_short : length buffer < size + 6 → WritePromise buffer address tag value (Err W.BufferTooShort) buffer
    unfolding write_means
    too_short h = record { outcome = rw (sym said ∙ e, ← is, lt-ltb (length buffer) (size + 6) h) }

    -- mark, word, data and checksum, put one after the other
    pub done : {l₁ l₂ l₃ l₄ : List ℕ} → l₁ ≡ put buffer 0 (bytes_of 2 0x3C3D) → l₂ ≡ put l₁ 2 (bytes_of 2 (tag_word address tag))
        → l₃ ≡ put l₂ 4 (bytes_of size value) → size + 6 ≤ length buffer → SealPromise l₃ (size + 4) l₄
        → WritePromise buffer address tag value (Ok (size + 6)) l₄
    unfolding write_means
    done p q r h s =
        record {
          outcome = rw (sym said ∙ e, ← is, le-ltb (length buffer) (size + 6) h)
              (ap (accept (size + 6)) (whole buffer address tag value size is p q r h s));
        }
