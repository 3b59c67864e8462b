-- What each public call promises.
-- Assumes nothing.
use Rattle.std.specs.Prelude.{◌≡◌, Bool, List, ℕ}
use Rattle.ground.specs.Meaning.{lies, word_in, word_put}

-- `lies_in` answers whether all of them lie in the bytes
pub record LiesPromise (bytes : List ℕ) (at size : ℕ) (r : Bool) : Type 0 where
  pub answer : r ≡ lies bytes at size

-- `word_at` answers the word at the place, or 0
pub record WordPromise (bytes : List ℕ) (at r : ℕ) : Type 0 where
  pub answer : r ≡ word_in bytes at

-- `put_word` leaves the word at the place, or all as it was
pub record PutPromise (buffer : List ℕ) (at word : ℕ) (after : List ℕ) : Type 0 where
  pub memory : after ≡ word_put buffer at word
