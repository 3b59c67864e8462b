-- Document 01's example, by computing.
-- Assumes nothing.
use Rattle.std.specs.Prelude.{◌≡◌, refl, [], ◌∷◌}
use Rattle.code.specs.Meaning.{leading_in, shape_of}
use Rattle.lines.specs.Meaning.{shortest}
use Rattle.lines.specs.Meaning.{line_means, refused_text, printed}

-- "-16 1110000 1110"
pub minus_sixteen : line_means (45 ∷ 49 ∷ 54 ∷ [])
    ≡ 45 ∷ 49 ∷ 54 ∷ 32 ∷ 49 ∷ 49 ∷ 49 ∷ 48 ∷ 48 ∷ 48 ∷ 48 ∷ 32 ∷ 49 ∷ 49 ∷ 49 ∷ 48 ∷ 10 ∷ []
unfolding line_means leading_in shape_of shortest
minus_sixteen = refl

-- leading zeros and `-0` are lines like others
pub minus_nought : line_means (45 ∷ 48 ∷ []) ≡ 48 ∷ 32 ∷ 48 ∷ 32 ∷ 48 ∷ 10 ∷ []
unfolding line_means leading_in shape_of shortest
minus_nought = refl

-- `x`, a lone minus, an empty line
pub no_number : (line_means (120 ∷ []) ≡ refused_text) × (line_means (45 ∷ []) ≡ refused_text) × (line_means [] ≡ refused_text)
unfolding line_means leading_in shape_of shortest
no_number = (refl, refl, refl)

-- "Input `0`, `5`, `-16`, `100`, `x` prints exactly" the header and five lines
pub example : printed (48 ∷ 10 ∷ 53 ∷ 10 ∷ 45 ∷ 49 ∷ 54 ∷ 10 ∷ 49 ∷ 48 ∷ 48 ∷ 10 ∷ 120 ∷ 10 ∷ [])
    ≡ 118 ∷ 97 ∷ 108 ∷ 117 ∷ 101 ∷ 32 ∷ 100 ∷ 114 ∷ 111 ∷ 112 ∷ 48 ∷ 32 ∷ 100 ∷ 114 ∷ 111 ∷ 112 ∷ 51 ∷ 10 ∷ 48 ∷ 32 ∷ 48 ∷ 32 ∷ 48 ∷ 10 ∷ 53 ∷ 32
    ∷ 49 ∷ 48 ∷ 48 ∷ 48 ∷ 49 ∷ 48 ∷ 49 ∷ 32 ∷ 49 ∷ 48 ∷ 48 ∷ 48 ∷ 10 ∷ 45 ∷ 49 ∷ 54 ∷ 32 ∷ 49 ∷ 49 ∷ 49 ∷ 48 ∷ 48 ∷ 48 ∷ 48 ∷ 32 ∷ 49 ∷ 49 ∷ 49 ∷ 48
    ∷ 10 ∷ 49 ∷ 48 ∷ 48 ∷ 32 ∷ 49 ∷ 48 ∷ 49 ∷ 49 ∷ 48 ∷ 49 ∷ 49 ∷ 48 ∷ 48 ∷ 32 ∷ 49 ∷ 48 ∷ 49 ∷ 49 ∷ 48 ∷ 49 ∷ 10 ∷ 114 ∷ 101 ∷ 102 ∷ 117 ∷ 115 ∷ 101
    ∷ 100 ∷ 32 ∷ 56 ∷ 10 ∷ []
unfolding printed line_means leading_in shape_of shortest
example = refl

-- a ninth digit, a plus sign, a carriage return and a number out of range are refused; eight digits with leading zeros are not
pub others : (line_means (48 ∷ 48 ∷ 48 ∷ 48 ∷ 48 ∷ 48 ∷ 48 ∷ 48 ∷ 53 ∷ []) ≡ refused_text)
    × (line_means (43 ∷ 53 ∷ []) ≡ refused_text)
    × (line_means (53 ∷ 13 ∷ []) ≡ refused_text)
    × (line_means (54 ∷ 55 ∷ 49 ∷ 48 ∷ 56 ∷ 56 ∷ 54 ∷ 52 ∷ []) ≡ refused_text)
    × (line_means (48 ∷ 48 ∷ 48 ∷ 48 ∷ 48 ∷ 48 ∷ 48 ∷ 53 ∷ []) ≡ line_means (53 ∷ []))
unfolding line_means leading_in shape_of shortest
others = (refl, refl, refl, refl, refl)

-- the longest line: `-67108863`, both codes with 12 ones
pub longest_line : line_means (45 ∷ 54 ∷ 55 ∷ 49 ∷ 48 ∷ 56 ∷ 56 ∷ 54 ∷ 51 ∷ [])
    ≡ 45 ∷ 54 ∷ 55 ∷ 49 ∷ 48 ∷ 56 ∷ 56 ∷ 54 ∷ 51 ∷ 32 ∷ 49 ∷ 49 ∷ 49 ∷ 49 ∷ 49 ∷ 49 ∷ 49 ∷ 49 ∷ 49 ∷ 49 ∷ 49 ∷ 49 ∷ 49 ∷ 49 ∷ 48 ∷ 48 ∷ 49 ∷ 49 ∷ 49
    ∷ 49 ∷ 49 ∷ 49 ∷ 49 ∷ 49 ∷ 49 ∷ 49 ∷ 49 ∷ 49 ∷ 49 ∷ 32 ∷ 49 ∷ 49 ∷ 49 ∷ 49 ∷ 49 ∷ 49 ∷ 49 ∷ 49 ∷ 49 ∷ 49 ∷ 49 ∷ 49 ∷ 49 ∷ 49 ∷ 48 ∷ 48 ∷ 49 ∷ 49
    ∷ 49 ∷ 49 ∷ 49 ∷ 49 ∷ 49 ∷ 49 ∷ 49 ∷ 49 ∷ 10 ∷ []
unfolding line_means leading_in shape_of shortest
longest_line = refl
