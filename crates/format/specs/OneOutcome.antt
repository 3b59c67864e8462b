-- Two outcomes of a call that meet its promise are equal.
-- Assumes nothing.
use Rattle.std.specs.Prelude.{◌≡◌, refl, ℕ, ◌^◌, Result}
use Rattle.ground.specs.Paper.{number_of, one_value}
use Rattle.ground.specs.Refusals.{one_result}
use Rattle.format.specs.declared.CodeTooLarge.{CodeTooLarge}
use Rattle.format.specs.declared.TooLarge.{TooLarge}
use Rattle.format.specs.Answers.{code_too_large, too_large, code16_paper, code8_paper, code24_paper, count24_paper}
use Rattle.format.specs.Codes.{takes_one}
use Rattle.format.specs.Meaning.{float_value}
use Rattle.format.specs.Promise.{Float16CodePromise, Float16CountPromise, Float8CodePromise, Float8CountPromise, Int24CodePromise, Int24CountPromise}

-- one 16-bit float for a count
pub float16_code_one : {count : ℕ} {x y : Result ℕ TooLarge} → Float16CodePromise count x → Float16CodePromise count y → x ≡ y
float16_code_one {count} {x} {y} p q =
    one_result too_large (takes_one (float_value 12) (2 ^ 27) count (code16_paper x) (code16_paper y) p.answer q.answer) refl

-- one count for a 16-bit float
pub float16_count_one : {code x y : ℕ} → Float16CountPromise code x → Float16CountPromise code y → x ≡ y
float16_count_one p q = one_value p.answer q.answer

-- one 8-bit float for a count
pub float8_code_one : {count : ℕ} {x y : Result ℕ TooLarge} → Float8CodePromise count x → Float8CodePromise count y → x ≡ y
float8_code_one {count} {x} {y} p q =
    one_result too_large (takes_one (float_value 3) (2 ^ 34) count (code8_paper x) (code8_paper y) p.answer q.answer) refl

-- one count for an 8-bit float
pub float8_count_one : {code x y : ℕ} → Float8CountPromise code x → Float8CountPromise code y → x ≡ y
float8_count_one p q = one_value p.answer q.answer

-- one 24-bit integer for a count
pub int24_code_one : {count : ℕ} {x y : Result ℕ TooLarge} → Int24CodePromise count x → Int24CodePromise count y → x ≡ y
int24_code_one p q = one_result too_large p.answer q.answer

-- one count for a 24-bit integer
pub int24_count_one : {code : ℕ} {x y : Result ℕ CodeTooLarge} → Int24CountPromise code x → Int24CountPromise code y → x ≡ y
int24_count_one p q = one_result code_too_large p.answer q.answer

-- one number for a 16-bit float's answer
pub code16_number_one : (answer : Result ℕ TooLarge) {x y : ℕ} → x ≡ number_of (code16_paper answer) → y ≡ number_of (code16_paper answer) → x ≡ y
code16_number_one answer p q = one_value p q

-- one number for an 8-bit float's answer
pub code8_number_one : (answer : Result ℕ TooLarge) {x y : ℕ} → x ≡ number_of (code8_paper answer) → y ≡ number_of (code8_paper answer) → x ≡ y
code8_number_one answer p q = one_value p q

-- one number for a 24-bit integer's answer
pub code24_number_one : (answer : Result ℕ TooLarge) {x y : ℕ} → x ≡ number_of (code24_paper answer) → y ≡ number_of (code24_paper answer) → x ≡ y
code24_number_one answer p q = one_value p q

-- one number for a 24-bit count's answer
pub count24_number_one : (answer : Result ℕ CodeTooLarge) {x y : ℕ} → x ≡ number_of (count24_paper answer) → y ≡ number_of (count24_paper answer) → x ≡ y
count24_number_one answer p q = one_value p q
