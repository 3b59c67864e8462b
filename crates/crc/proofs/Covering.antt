-- A sealed run looked for, test after test, and the checksum put behind its bytes.
-- Assumes nothing.
use mathlib.Core.Path.{◌≡◌, sym, ap, ap₂, ◌∙◌}
use mathlib.Core.Bool.{Bool, true, false, not}
use mathlib.Core.List.{List, ◌++◌, append_assoc}
use Prim.Native.Nat.{ℕ, ◌+◌, ◌-◌, ◌≤◌}
use native.Mathlib.Omega.{arith}
use borrow.Author.Tests.{le-leb, lt-leb, leb-true, leb-false}
use lib.Dec.{eqb}
use lib.ListN.{length, take, drop}
use Rattle.ground.specs.Words.{bytes_of}
use Rattle.ground.specs.Meaning.{lies}
use Rattle.ground.specs.Questions.{answered_no, answered_yes}
use Rattle.ground.specs.Promise.{LiesPromise, WordPromise, PutPromise}
use Rattle.ground.specs.Laws.{word_there, put_there}
use Rattle.crc.specs.Meaning.{checksum_of, sealed_of, sealed_at, sealed_in}
use Rattle.crc.specs.Promise.{SealedPromise, SealPromise}

module _ {bytes : List ℕ} {at n : ℕ} where
  -- the n bytes do not lie there
  pub cut_off : {there : Bool} → LiesPromise bytes at n there → not there ≡ true → SealedPromise bytes at n false
  unfolding sealed_at
  cut_off p e =
      let past = leb-false (at + n) (length bytes) (answered_no p.answer e) in
      record { answer = rw (lt-leb (at + (n + 2)) (length bytes) (omega (arith, past))) }

  module _ {there : Bool} (p : LiesPromise bytes (at + n) 2 there) where
    -- the word after them does not
    pub no_word : not there ≡ true → SealedPromise bytes at n false
    unfolding sealed_at
    no_word e =
        let past = leb-false (at + n + 2) (length bytes) (answered_no p.answer e) in
        record { answer = rw (lt-leb (at + (n + 2)) (length bytes) (omega (arith, past))) }

    -- their checksum is held against the word after them
    pub compared : {sum word : ℕ} → not there ≡ false → sum ≡ checksum_of (take (at + n - at) (drop at bytes)) → WordPromise bytes (at + n) word
        → SealedPromise bytes at n (eqb sum word)
    unfolding sealed_at
    compared e s w =
        let room : at + n + 2 ≤ length bytes = leb-true (at + n + 2) (length bytes) (answered_yes p.answer e) in
        let size : at + n - at ≡ n = omega arith in
        record {
          answer = rw (le-leb (at + (n + 2)) (length bytes) (omega arith))
              (ap₂ eqb (s ∙ ap (λ (k : ℕ). checksum_of (take k (drop at bytes))) size) (word_there w room));
        }

module _ {buffer : List ℕ} {n : ℕ} {there : Bool} (p : LiesPromise buffer n 2 there) where
  -- the checksum is put behind its bytes
  pub put_behind : {after : List ℕ} {sum : ℕ} → there ≡ true → sum ≡ checksum_of (take n buffer) → PutPromise buffer n sum after
      → SealPromise buffer n after
  unfolding sealed_in sealed_of
  put_behind {after} {sum} e s q =
      let room : lies buffer n 2 ≡ true = sym p.answer ∙ e in
      record {
        memory = rw room
            (put_there q (leb-true (n + 2) (length buffer) room)
            ∙ ap (λ (k : ℕ). take n buffer ++ (bytes_of 2 k ++ drop (n + 2) buffer)) s
            ∙ sym (append_assoc (take n buffer) (bytes_of 2 (checksum_of (take n buffer))) (drop (n + 2) buffer)));
      }

  -- there is no room for it
  pub no_room : there ≡ false → SealPromise buffer n buffer
  unfolding sealed_in
  no_room e = let room : lies buffer n 2 ≡ false = sym p.answer ∙ e in record { memory = rw room }
