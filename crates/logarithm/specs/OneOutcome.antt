-- Two outcomes of a call that meet its promise are equal.
-- Assumes nothing.
use Rattle.std.specs.Prelude.{◌≡◌, refl, ℕ, Option, Result}
use Rattle.ground.specs.Paper.{number_of, one_answer, one_value}
use Rattle.ground.specs.Refusals.{one_result}
use Rattle.logarithm.specs.declared.TooLarge.{TooLarge}
use Rattle.logarithm.specs.Answers.{log8_code_paper, log8_counts_paper, log8_counts_back, log8_counts_home, too_large}
use Rattle.logarithm.specs.Logarithms.{log8_one, given_one}
use Rattle.logarithm.specs.Promise.{Log8CodePromise, Log8CountsPromise}

-- one logarithm byte for a count
pub log8_code_one : {count : ℕ} {x y : Result ℕ TooLarge} → Log8CodePromise count x → Log8CodePromise count y → x ≡ y
log8_code_one {count} {x} {y} p q =
    one_result too_large (log8_one count (log8_code_paper x) (log8_code_paper y) p.answer q.answer) refl

-- one pair of counts, or the word, for a logarithm byte
pub log8_counts_one : {code : ℕ} {x y : Option (ℕ × ℕ)} → Log8CountsPromise code x → Log8CountsPromise code y → x ≡ y
log8_counts_one {code} {x} {y} p q =
    one_answer log8_counts_paper log8_counts_back log8_counts_home (given_one code (log8_counts_paper x) (log8_counts_paper y) p.answer q.answer) refl

-- one number for a logarithm byte's answer
pub log8_code_number_one : (answer : Result ℕ TooLarge) {x y : ℕ} → x ≡ number_of (log8_code_paper answer) → y ≡ number_of (log8_code_paper answer) → x ≡ y
log8_code_number_one answer p q = one_value p q
