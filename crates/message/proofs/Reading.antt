-- What the reader has in hand, test after test, as answers of the definition.
-- Assumes nothing.
use mathlib.Core.Path.{◌≡◌, sym, ap, ap₂, ◌∙◌}
use mathlib.Core.Bool.{Bool, true, false}
use mathlib.Core.List.{List}
use Prim.Native.Nat.{ℕ, ◌+◌, ◌-◌, ◌/◌, ◌%◌, ◌^◌, ◌<◌, ◌≤◌}
use native.Mathlib.Omega.{arith}
use borrow.Author.Tests.{lt-ltb, le-ltb, eq-eqb, ne_eqb}
use lib.ListN.{length, take, drop, get_or}
use Rattle.std.specs.Prelude.{Ok, Err}
use Rattle.ground.specs.Paper.{accepted}
use Rattle.ground.specs.Words.{number, word_at}
use Rattle.ground.specs.Promise.{WordPromise}
use Rattle.ground.specs.Laws.{word_there}
use Rattle.crc.specs.Promise.{SealedPromise}
use Rattle.message.specs.Meaning.{data_size, marked, size_at, read_means}
use Rattle.message.specs.declared.NotRead.TheVariants as R
use Rattle.message.specs.Promise.{ReadPromise}
use Rattle.message.specs.Laws.{read_so}

-- the number of the data behind mark and word
pub data_of : (bytes : List ℕ) (size : ℕ) → number (take (size + 4 - 4) (drop 4 bytes)) ≡ number (take size (drop 4 bytes))
data_of bytes size =
    let behind : size + 4 - 4 ≡ size = omega arith in
    ap (λ (k : ℕ). number (take k (drop 4 bytes))) behind

-- under 4 bytes
pub under_four : {bytes : List ℕ} → length bytes < 4 → ReadPromise bytes (Err R.CutShort)
unfolding read_means
under_four {bytes} h = record { answer = rw (lt-ltb (length bytes) 4 h) }

module _ {bytes : List ℕ} (room : 4 ≤ length bytes) where
  -- a mark whose first byte is wrong
  pub wrong_first : (get_or bytes 0 0 ≡ 0x3C → ⊥) → ReadPromise bytes (Err R.WrongMark)
  unfolding read_means
  wrong_first h = record { answer = rw (le-ltb (length bytes) 4 room, ne_eqb (get_or bytes 0 0) 0x3C h) }

  module _ (first : get_or bytes 0 0 ≡ 0x3C) where
    -- a mark whose second byte is wrong
    pub wrong_second : (get_or bytes 1 0 ≡ 0x3D → ⊥) → ReadPromise bytes (Err R.WrongMark)
    unfolding read_means
    wrong_second h = record { answer = rw (le-ltb (length bytes) 4 room, eq-eqb (get_or bytes 0 0) 0x3C first, ne_eqb (get_or bytes 1 0) 0x3D h) }

    module _ (second : get_or bytes 1 0 ≡ 0x3D) {word size : ℕ} (p : WordPromise bytes 2 word) (s : size ≡ data_size (word / 2 ^ 14)) where
      -- the mark is right
      mark : marked bytes ≡ true
      mark = rw (eq-eqb (get_or bytes 0 0) 0x3C first, eq-eqb (get_or bytes 1 0) 0x3D second)

      -- the word after it
      word_is : word ≡ word_at bytes 2
      word_is = word_there p (omega arith)

      -- and the data bytes by its tag
      size_is : size ≡ size_at bytes
      size_is = s ∙ ap (λ (w : ℕ). data_size (w / 2 ^ 14)) word_is

      -- a message that is cut short
      pub cut_short : length bytes < size + 6 → ReadPromise bytes (Err R.CutShort)
      unfolding read_means
      cut_short cut = record { answer = rw (le-ltb (length bytes) 4 room, mark, ← size_is, lt-ltb (length bytes) (size + 6) cut) }

      module _ (whole : size + 6 ≤ length bytes) {answer : Bool} (sum : SealedPromise bytes 0 (size + 4) answer) where
        -- a wrong checksum
        pub wrong_checksum : answer ≡ false → ReadPromise bytes (Err R.WrongChecksum)
        unfolding read_means
        wrong_checksum e =
            record { answer = rw (le-ltb (length bytes) 4 room, mark, ← size_is, le-ltb (length bytes) (size + 6) whole, sym sum.answer ∙ e) }

        -- a message
        pub a_message : {value : ℕ} → answer ≡ true → value ≡ number (take size (drop 4 bytes))
            → ReadPromise bytes (Ok (record { address = word % 2 ^ 14; tag = word / 2 ^ 14; value = value; used = size + 6 }))
        a_message e v =
            record {
              answer =
                  ap₂ (λ (w x : ℕ). accepted (record { address = w % 2 ^ 14; tag = w / 2 ^ 14; value = x; used = size + 6 })) word_is v
                  ∙ read_so bytes size room mark size_is whole (sym sum.answer ∙ e);
            }
