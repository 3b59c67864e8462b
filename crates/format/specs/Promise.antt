-- What each public call promises.
-- Assumes nothing.
use Rattle.std.specs.Prelude.{◌≡◌, ℕ, ◌^◌, Result}
use Rattle.format.specs.declared.CodeTooLarge.{CodeTooLarge}
use Rattle.format.specs.declared.TooLarge.{TooLarge}
use Rattle.format.specs.Answers.{code16_paper, code8_paper, code24_paper, count24_paper}
use Rattle.format.specs.Meaning.{float_value, Takes, int24_means}

-- the largest 16-bit float whose value is not above the count; 12 from 2^27 on
pub record Float16CodePromise (count : ℕ) (r : Result ℕ TooLarge) : Type 0 where
  pub answer : Takes (float_value 12) (2 ^ 27) count (code16_paper r)

-- the value of the 16-bit float
pub record Float16CountPromise (code r : ℕ) : Type 0 where
  pub answer : r ≡ float_value 12 code

-- the largest 8-bit float whose value is not above the count; 12 from 2^34 on
pub record Float8CodePromise (count : ℕ) (r : Result ℕ TooLarge) : Type 0 where
  pub answer : Takes (float_value 3) (2 ^ 34) count (code8_paper r)

-- the value of the 8-bit float
pub record Float8CountPromise (code r : ℕ) : Type 0 where
  pub answer : r ≡ float_value 3 code

-- the count itself; 12 above 16,777,215
pub record Int24CodePromise (count : ℕ) (r : Result ℕ TooLarge) : Type 0 where
  pub answer : code24_paper r ≡ int24_means count

-- the code itself; 12 above 16,777,215
pub record Int24CountPromise (code : ℕ) (r : Result ℕ CodeTooLarge) : Type 0 where
  pub answer : count24_paper r ≡ int24_means code
