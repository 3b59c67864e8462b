-- How a register takes sixteen bits and four bytes at once, and the register that a fold of sixteen bytes stands for.
-- Assumes nothing.
use Rattle.std.specs.Prelude.{◌≡◌, List, ℕ, ◌+◌, ◌*◌, ◌/◌, ◌%◌, ◌^◌, ◌<◌, drop}
use Rattle.std.specs.Int.Bits.{bit_xor}
use Rattle.crc.specs.declared.Fold.{Fold}
use Rattle.crc.specs.Meaning.{shifts, run}

-- sixteen bits go through a register
unfoldable pub sixteen : ℕ → ℕ
sixteen r = shifts 16 r

-- the polynomial's terms x^12 and x^5: what falls out of the register where it is moved by them
abbrev pub carry_of : ℕ → ℕ
carry_of r = bit_xor (r / 2 ^ 4) (r / 2 ^ 11)

-- the polynomial's terms x^12, x^5 and 1: what stays in the register where it is moved by them
abbrev pub spread_of : ℕ → ℕ
spread_of r = bit_xor (bit_xor (r % 2 ^ 4 * 2 ^ 12) (r % 2 ^ 11 * 2 ^ 5)) r

-- the register after the four bytes of a word
unfoldable pub after_word : ℕ → ℕ → ℕ
after_word r w = sixteen (bit_xor (sixteen (bit_xor r (w / 2 ^ 16))) (w % 2 ^ 16))

-- the register that four words take from 0
unfoldable pub after_four : ℕ → ℕ → ℕ → ℕ → ℕ
after_four a b c d = after_word (after_word (after_word (after_word 0 a) b) c) d

-- the register that a fold stands for: that of its four words
abbrev pub register_of : Fold → ℕ
register_of f = after_four f.first f.second f.third f.fourth

-- a number is that of the two bytes at a place: it takes every register where those take it
pub record Pair (bytes : List ℕ) (at r : ℕ) : Type 0 where
  pub small : r < 2 ^ 16
  pub goes : (s : ℕ) → s < 2 ^ 16 → run s (drop at bytes) ≡ run (sixteen (bit_xor s r)) (drop (at + 2) bytes)

-- a word is that of the four bytes at a place: it takes every register where those take it
pub record Word (bytes : List ℕ) (at r : ℕ) : Type 0 where
  pub small : r < 2 ^ 32
  pub goes : (s : ℕ) → s < 2 ^ 16 → run s (drop at bytes) ≡ run (after_word s r) (drop (at + 4) bytes)
