-- Theorems of which refusal comes when a rate is asked for: a wrong order of the refusals breaks them.
-- Assumes nothing.
use Rattle.std.specs.Prelude.{◌≡◌, refl, List, [], ◌∷◌, ℕ}
use Rattle.std.proofs.Common.{ap}
use Rattle.ground.specs.Paper.{refusal, refused, refused_with, onward}
use Rattle.code.specs.Meaning.{parse, after_sign, bits_that_count, missing, completed}
use Rattle.cadence.specs.Meaning.{seconds_means}
use Rattle.rate.specs.Meaning.{ReadingValues, rate_means, rate_values, reading_means}

module _ (bytes : List ℕ) (at d : ℕ) where
  -- the reading's refusal is the rate's, whatever the level, with what it carries
  pub reading_refused : (level : ℕ) {n : ℕ} {carried : List ℕ} → reading_means bytes at d ≡ refusal n carried → rate_means bytes at d level ≡ refusal n carried
  reading_refused level e = ap (onward (λ (r : ReadingValues). onward (rate_values r) (seconds_means level))) e

-- "Rate: the code's refusal, then a negative number's 8, then 19": at level 8 a drop of 1, no bits, a redundant zero, thirteen ones, -16, and 5
pub rate_refusals : rate_means (138 ∷ []) 0 1 8
    ∷ rate_means [] 0 0 8
    ∷ rate_means (128 ∷ []) 0 0 8
    ∷ rate_means (255 ∷ 255 ∷ []) 0 0 8
    ∷ rate_means (224 ∷ []) 0 0 8
    ∷ rate_means (138 ∷ []) 0 0 8
    ∷ []
    ≡ refused 8 ∷ refused_with 9 1 ∷ refused 10 ∷ refused 11 ∷ refused 8 ∷ refused 19 ∷ []
unfolding parse after_sign bits_that_count missing completed
rate_refusals = refl
