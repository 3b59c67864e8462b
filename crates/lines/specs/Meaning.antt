-- The code program's lines: document 01, "Cases", last paragraph, in its words and order.
-- Assumes nothing.
use Rattle.std.specs.Prelude.{Bool, true, false, ◌&&◌, List, [], ◌∷◌, ◌++◌, map, ℕ, zero, suc, ◌+◌, ◌-◌, ◌*◌, ◌/◌, ◌%◌, leb, ltb, eqb, ℤ}
use Rattle.std.specs.Prelude.{pos, neg_ℤ, nat_abs, length, drop}
use Rattle.ground.specs.Choice.{pick}
use Rattle.code.specs.Meaning.{code_of, largest, sign_of}

-- "prints its header"
abbrev pub header : List ℕ
header = 118 ∷ 97 ∷ 108 ∷ 117 ∷ 101 ∷ 32 ∷ 100 ∷ 114 ∷ 111 ∷ 112 ∷ 48 ∷ 32 ∷ 100 ∷ 114 ∷ 111 ∷ 112 ∷ 51 ∷ 10 ∷ []

-- the shortest decimal of a number of so many digits at most
unfoldable pub shortest : ℕ → ℕ → List ℕ
shortest zero n = []
shortest (suc places) n = pick (ltb n 10) ((48 + n) ∷ []) (shortest places (n / 10) ++ ((48 + n % 10) ∷ []))

-- "the value in shortest decimal"
abbrev pub value_text : ℤ → List ℕ
value_text v = pick (eqb (sign_of v) 1) (45 ∷ shortest 8 (nat_abs v)) (shortest 8 (nat_abs v))

-- a code in digits 0 and 1
abbrev pub code_text : ℕ → ℤ → List ℕ
code_text drop v = map (λ b. 48 + b) (code_of drop v)

-- "prints the value in shortest decimal and both codes"
abbrev pub number_text : ℤ → List ℕ
number_text v = value_text v ++ (32 ∷ (code_text 0 v ++ (32 ∷ (code_text 3 v ++ (10 ∷ [])))))

-- the room that any line's answer fits
abbrev pub enough : ℕ
enough = 80

-- "gives `refused 8`"
abbrev pub refused_text : List ℕ
refused_text = 114 ∷ 101 ∷ 102 ∷ 117 ∷ 115 ∷ 101 ∷ 100 ∷ 32 ∷ 56 ∷ 10 ∷ []

-- a digit
abbrev pub digit : ℕ → Bool
digit b = leb 48 b && leb b 57

-- nothing but digits
abbrev pub all_digits : List ℕ → Bool
all_digits [] = true
all_digits (b ∷ bs) = digit b && all_digits bs

-- the number that digits mean, after those before them
abbrev pub decimal : ℕ → List ℕ → ℕ
decimal n [] = n
decimal n (b ∷ bs) = decimal (n * 10 + (b - 48)) bs

-- the line begins with a minus
abbrev pub minus : List ℕ → Bool
minus [] = false
minus (b ∷ bs) = eqb b 45

-- what follows "an optional minus"
abbrev pub after_minus : List ℕ → List ℕ
after_minus line = pick (minus line) (drop 1 line) line

-- ".. and one to eight digits"
abbrev pub numeral : List ℕ → Bool
numeral digits = leb 1 (length digits) && (leb (length digits) 8 && all_digits digits)

-- the number of a line
abbrev pub number : List ℕ → ℤ
number line = pick (minus line) (neg_ℤ (pos (decimal 0 (after_minus line)))) (pos (decimal 0 (after_minus line)))

-- a line whose number is in range; "any other line, or a number out of range, gives `refused 8`"
abbrev pub good : List ℕ → Bool
good line = numeral (after_minus line) && leb (decimal 0 (after_minus line)) largest

-- what a line prints
unfoldable pub line_means : List ℕ → List ℕ
line_means line = pick (good line) (number_text (number line)) refused_text

-- what lines print, the bytes of an unfinished one having come before; "the end of input ends a last line that has any bytes"
abbrev pub answers : List ℕ → List ℕ → List ℕ
answers begun [] = pick (eqb (length begun) 0) [] (line_means begun)
answers begun (b ∷ bs) = pick (eqb b 10) (line_means begun ++ answers [] bs) (answers (begun ++ (b ∷ [])) bs)

-- all that the program prints
unfoldable pub printed : List ℕ → List ℕ
printed input = header ++ answers [] input
