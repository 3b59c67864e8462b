-- Bits of bytes: "Bits go most significant first".
-- Assumes nothing.
use Rattle.std.specs.Prelude.{List, [], ◌∷◌, ◌++◌, ℕ, zero, suc, ◌/◌, ◌%◌, ◌^◌}

-- the w lowest bits of a number, most significant first
abbrev pub to_bits : ℕ → ℕ → List ℕ
to_bits zero x = []
to_bits (suc w) x = (x / 2 ^ w % 2) ∷ to_bits w x

-- the bits of bytes, byte after byte, most significant first
abbrev pub bits_of : List ℕ → List ℕ
bits_of [] = []
bits_of (b ∷ bs) = to_bits 8 b ++ bits_of bs
