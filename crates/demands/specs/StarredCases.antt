-- Document 01, "Cases": the starred ones, shown of the definitions themselves, as a single list under one claim.
-- Assumes nothing.
use Rattle.std.specs.Prelude.{◌≡◌, refl, Bool, true, false, ◌&&◌, List, [], ◌∷◌, ℕ, eqb, ℤ, pos, negsuc, nat_abs}
use Rattle.ground.specs.Paper.{Paper, accepted, refusal}
use Rattle.code.specs.Meaning.{code_of, decoded, pack_means, sign_of, leading_in, shape_of, bits_that_count}
use Rattle.format.specs.Meaning.{code_means, float_value}
use Rattle.cadence.specs.Meaning.{beginning_means, ending_means}
use Rattle.pages.specs.Meaning.{cells_of}

-- a case: what is given, and what must come of it
pub data Case : Type 0 where
  packs : ℕ → ℤ → List ℕ → Case
  decodes : ℕ → ℤ → ℤ → Case
  packs_to : ℕ → ℤ → ℕ → Case
  refuses_number : ℕ → ℤ → ℕ → Case
  float16 : ℕ → ℕ → Case
  float8 : ℕ → ℕ → Case
  float8_means : ℕ → ℕ → Case
  visits : ℕ → ℕ → ℕ → ℕ → List ℕ → Case
  begins : ℕ → ℕ → Case
  ends : ℕ → ℕ → Case

-- two lists of numbers are the same
abbrev pub same_list : List ℕ → List ℕ → Bool
same_list [] [] = true
same_list [] (b ∷ bs) = false
same_list (a ∷ as') [] = false
same_list (a ∷ as') (b ∷ bs) = eqb a b && same_list as' bs

-- two numbers are the same, sign and magnitude
abbrev pub same_number : ℤ → ℤ → Bool
same_number a b = eqb (sign_of a) (sign_of b) && eqb (nat_abs a) (nat_abs b)

-- the paper says this number
abbrev pub says : Paper ℕ → ℕ → Bool
says (accepted n) m = eqb n m
says (refusal n carried) m = false

-- the paper refuses by this number
abbrev pub refuses : Paper ℕ → ℕ → Bool
refuses (accepted n) m = false
refuses (refusal n carried) m = eqb n m

-- what it means that a case holds, by the definitions of the crates
abbrev pub holds : Case → Bool
holds (packs drop v bits) = same_list (code_of drop v) bits
holds (decodes drop v w) = same_number (decoded drop v) w
holds (packs_to drop v n) = says (pack_means (0 ∷ 0 ∷ 0 ∷ 0 ∷ []) 0 v drop).answer n
holds (refuses_number drop v n) = refuses (pack_means (0 ∷ 0 ∷ 0 ∷ 0 ∷ []) 0 v drop).answer n
holds (float16 count code) = says (code_means 12 134217728 count) code
holds (float8 count code) = says (code_means 3 17179869184 count) code
holds (float8_means code count) = eqb (float_value 3 code) count
holds (visits address xsize ystride ysize cells) =
    same_list (cells_of (record { address = address; xsize = xsize; ysize = ysize; ystride = ystride; clear = false })) cells
holds (begins second level) = says (beginning_means second) level
holds (ends second level) = says (ending_means second) level

-- the starred cases, in document 01's order; 2026-06, "In document 01's case, 33,554,432 is now packed", with the new limit and one past it
abbrev pub starred : List Case
starred =
    packs 0 (pos 0) (0 ∷ [])
    ∷ packs 0 (pos 5) (1 ∷ 0 ∷ 0 ∷ 0 ∷ 1 ∷ 0 ∷ 1 ∷ [])
    ∷ packs 0 (negsuc 15) (1 ∷ 1 ∷ 1 ∷ 0 ∷ 0 ∷ 0 ∷ 0 ∷ [])
    ∷ packs 0 (pos 32) (1 ∷ 0 ∷ 1 ∷ 1 ∷ 0 ∷ 0 ∷ 0 ∷ 0 ∷ 0 ∷ [])
    ∷ packs 0 (pos 100) (1 ∷ 0 ∷ 1 ∷ 1 ∷ 0 ∷ 1 ∷ 1 ∷ 0 ∷ 0 ∷ [])
    ∷ decodes 0 (pos 100) (pos 99)
    ∷ packs 3 (pos 3) (0 ∷ [])
    ∷ packs 3 (pos 4) (1 ∷ 0 ∷ 0 ∷ 0 ∷ [])
    ∷ decodes 3 (pos 4) (pos 5)
    ∷ packs_to 0 (pos 33554431) 27
    ∷ packs_to 0 (pos 33554432) 29
    ∷ packs_to 0 (pos 67108863) 29
    ∷ refuses_number 0 (pos 67108864) 8
    ∷ float16 8191 0x1FFF
    ∷ float16 8193 0x2000
    ∷ float8 100 36
    ∷ float8_means 36 96
    ∷ visits 2 1 3 2 (2 ∷ 3 ∷ 6 ∷ 7 ∷ 10 ∷ 11 ∷ [])
    ∷ visits 0 1 0 1 (0 ∷ 1 ∷ 1 ∷ 2 ∷ [])
    ∷ begins 59 0
    ∷ ends 59 4
    ∷ []

-- every case of a list holds
abbrev pub all : List Case → Bool
all [] = true
all (x ∷ xs) = holds x && all xs

-- the one claim: every starred case holds
pub starred_hold : all starred ≡ true
unfolding leading_in shape_of bits_that_count lib.Count.count_leading_zeros
starred_hold = refl
