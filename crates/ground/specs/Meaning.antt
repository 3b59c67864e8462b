-- Words in bytes: document 01, "Numbers are big endian", at any place.
-- Assumes nothing.
use Rattle.std.specs.Prelude.{Bool, List, ℕ, ◌+◌, leb, length}
use Rattle.ground.specs.Choice.{pick}
use Rattle.ground.specs.Words.{bytes_of, word_at}
use Rattle.ground.specs.Putting.{put}

-- so many bytes from a place on lie in the bytes
abbrev pub lies : List ℕ → ℕ → ℕ → Bool
lies bytes at size = leb (at + size) (length bytes)

-- the word at a place, 0 where it does not lie in the bytes
abbrev pub word_in : List ℕ → ℕ → ℕ
word_in bytes at = pick (lies bytes at 2) (word_at bytes at) 0

-- the buffer with a word put at a place, as it was where the word does not lie in it
abbrev pub word_put : List ℕ → ℕ → ℕ → List ℕ
word_put buffer at word = pick (lies buffer at 2) (put buffer at (bytes_of 2 word)) buffer
