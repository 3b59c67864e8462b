-- What each call promises of its answer.
-- Assumes nothing.
use Rattle.std.specs.Prelude.{ℕ, Option, Result}
use Rattle.logarithm.specs.declared.TooLarge.{TooLarge}
use Rattle.logarithm.specs.Answers.{log8_code_paper, log8_counts_paper}
use Rattle.logarithm.specs.Meaning.{Log8Takes, Log8Given}

-- the logarithm byte of the count; 12 above 2,147,483,647
pub record Log8CodePromise (count : ℕ) (r : Result ℕ TooLarge) : Type 0 where
  pub answer : Log8Takes count (log8_code_paper r)

-- the smallest and the largest count that give the byte, or the word that no count does
pub record Log8CountsPromise (code : ℕ) (r : Option (ℕ × ℕ)) : Type 0 where
  pub answer : Log8Given code (log8_counts_paper r)
