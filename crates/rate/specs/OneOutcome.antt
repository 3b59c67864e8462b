-- Two outcomes of a call that meet its promise are equal.
-- Assumes nothing.
use Rattle.std.specs.Prelude.{◌≡◌, List, ℕ, refl, Result}
use Rattle.ground.specs.Paper.{number_of, one_value}
use Rattle.ground.specs.Refusals.{one_result_as}
use Rattle.code.specs.Answers.{not_read}
use Rattle.code.specs.declared.Refusal.{Refusal}
use Rattle.rate.specs.declared.Counts.{Counts}
use Rattle.rate.specs.declared.Formed.{Formed}
use Rattle.rate.specs.declared.NotFormed.{NotFormed}
use Rattle.rate.specs.Answers.{reading_paper, counts_values, counts_from, rate_paper, not_formed, formed_values, formed_from}
use Rattle.rate.specs.Promise.{ReadingPromise, RatePromise}

-- one reading for a code's place
pub reading_one : {bytes : List ℕ} {at d : ℕ} {x y : Result Counts Refusal} → ReadingPromise bytes at d x → ReadingPromise bytes at d y → x ≡ y
reading_one p q = one_result_as not_read counts_values counts_from (λ c. refl) p.answer q.answer

-- one rate for a code's place and a level
pub rate_one : {bytes : List ℕ} {at d level : ℕ} {x y : Result Formed NotFormed} → RatePromise bytes at d level x → RatePromise bytes at d level y → x ≡ y
rate_one p q = one_result_as not_formed formed_values formed_from (λ f. refl) p.answer q.answer

-- one number for a reading's answer
pub reading_number_one : (a : Result Counts Refusal) {x y : ℕ} → x ≡ number_of (reading_paper a) → y ≡ number_of (reading_paper a) → x ≡ y
reading_number_one a p q = one_value p q

-- one number for a rate's answer
pub rate_number_one : (a : Result Formed NotFormed) {x y : ℕ} → x ≡ number_of (rate_paper a) → y ≡ number_of (rate_paper a) → x ≡ y
rate_number_one a p q = one_value p q
