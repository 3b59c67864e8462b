-- What callers cite: what lies in the bytes, and a word that does.
-- Assumes nothing.
use Rattle.std.specs.Prelude.{◌≡◌, Bool, true, List, ℕ, ◌+◌, ◌≤◌, length}
use Rattle.std.proofs.Common.{sym, ap, ◌∙◌, le-leb, leb-true}
use Rattle.ground.specs.Choice.{pick}
use Rattle.ground.specs.Words.{bytes_of, word_at}
use Rattle.ground.specs.Putting.{put}
use Rattle.ground.specs.Promise.{LiesPromise, WordPromise, PutPromise}

-- what was said to lie in the bytes does
pub inside : {bytes : List ℕ} {at size : ℕ} {t : Bool} → LiesPromise bytes at size t → t ≡ true → at + size ≤ length bytes
inside {bytes} {at} {size} p e = leb-true (at + size) (length bytes) (sym p.answer ∙ e)

-- what was answered is the word that lies there
pub word_there : {bytes : List ℕ} {at r : ℕ} → WordPromise bytes at r → at + 2 ≤ length bytes → r ≡ word_at bytes at
word_there {bytes} {at} p h = p.answer ∙ ap (λ (b : Bool). pick b (word_at bytes at) 0) (le-leb (at + 2) (length bytes) h)

-- what was put stands there
pub put_there : {buffer after : List ℕ} {at word : ℕ} → PutPromise buffer at word after → at + 2 ≤ length buffer
    → after ≡ put buffer at (bytes_of 2 word)
put_there {buffer} {after} {at} {word} p h =
    p.memory ∙ ap (λ (b : Bool). pick b (put buffer at (bytes_of 2 word)) buffer) (le-leb (at + 2) (length buffer) h)
