-- What is read from a code is written as that code: the calls, one after the other.
-- Assumes nothing.
use Rattle.std.specs.Prelude.{◌≡◌, refl, ℕ, ◌^◌, ◌<◌, ltb, Result, Ok}
use Rattle.std.proofs.Common.{sym, ap, ◌∙◌, subst}
use Rattle.ground.specs.Choice.{pick_elim}
use Rattle.ground.specs.Paper.{Paper, accepted, refused, refused_not, accepted_same}
use Rattle.ground.specs.Refusals.{one_result}
use Rattle.format.specs.declared.CodeTooLarge.{CodeTooLarge}
use Rattle.format.specs.declared.TooLarge.{TooLarge}
use Rattle.format.specs.Answers.{code_too_large, too_large, code16_paper, code8_paper}
use Rattle.format.specs.Meaning.{float_value, Takes, int24_means}
use Rattle.format.specs.Promise.{Float16CodePromise, Float16CountPromise, Float8CodePromise, Float8CountPromise, Int24CodePromise, Int24CountPromise}
use Rattle.format.specs.Widths.{float_back}

-- the 16-bit float of the count that a 16-bit float means is that float
pub float16_again : {code count : ℕ} {r : Result ℕ TooLarge} → code < 2 ^ 16 → Float16CountPromise code count → Float16CodePromise count r → r ≡ Ok code
float16_again {code} {count} {r} h p q =
    one_result too_large
    (float_back 12 16 code (code16_paper r) h (subst (λ (n : ℕ). Takes (float_value 12) (2 ^ 27) n (code16_paper r)) p.answer q.answer)) refl

-- the 8-bit float of the count that an 8-bit float means is that float
pub float8_again : {code count : ℕ} {r : Result ℕ TooLarge} → code < 2 ^ 8 → Float8CountPromise code count → Float8CodePromise count r → r ≡ Ok code
float8_again {code} {count} {r} h p q =
    one_result too_large
    (float_back 3 8 code (code8_paper r) h (subst (λ (n : ℕ). Takes (float_value 3) (2 ^ 34) n (code8_paper r)) p.answer q.answer)) refl

-- what the 24-bit integer accepts is the number itself
itself : {n x : ℕ} → accepted x ≡ int24_means n → x ≡ n
itself {n} {x} =
    pick_elim (λ (p : Paper ℕ). accepted x ≡ p → x ≡ n) (ltb 16777215 n) (refused 12) (accepted n)
    (λ _ e. absurd (refused_not (sym e))) (λ _ e. accepted_same e)

-- the count of a count's 24-bit integer is that count
pub int24_again : {count code : ℕ} {r : Result ℕ CodeTooLarge} → Int24CodePromise count (Ok code) → Int24CountPromise code r → r ≡ Ok count
int24_again {count} {code} p q =
    let e : code ≡ count = itself p.answer in
    one_result code_too_large (q.answer ∙ ap int24_means e ∙ sym p.answer ∙ ap accepted e) refl
