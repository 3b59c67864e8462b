-- What the parts of reading a code answer for: what was found, with the next position told by what is left.
-- Assumes nothing.
use Rattle.std.specs.Prelude.{List, ℕ, zero, suc, ◌-◌, length}
use Rattle.ground.specs.Paper.{Paper, accepted, refused, refused_with}
use Rattle.code.specs.Meaning.{Parsed, found, ran_out, redundant_zero, run_too_long, ShapeValues, values_of, greatest_place, width}
use Rattle.code.specs.Meaning.{led_then, after_run, after_sign, parse}
use Rattle.code.specs.Missing.{behind_run, missing_after_sign, missing_computed}

-- the answer to what was found among so many bits, where so many are missing if they ran out
abbrev pub rest_answer : ℕ → ℕ → ℕ → Parsed → Paper ShapeValues
rest_answer d end missing (found shape rest) = accepted (values_of d shape (end - length rest))
rest_answer d end missing ran_out = refused_with 9 missing
rest_answer d end missing redundant_zero = refused 10
rest_answer d end missing run_too_long = refused 11

-- the answer to a whole code
abbrev pub code_answer : ℕ → ℕ → List ℕ → Paper ShapeValues
code_answer d end l = rest_answer d end (missing_computed d l) (parse greatest_place d l)

-- to what follows the sign, so many ones having been seen
abbrev pub sign_answer : ℕ → ℕ → ℕ → ℕ → List ℕ → Paper ShapeValues
sign_answer d end s ones l = rest_answer d end (missing_after_sign d ones l) (after_sign greatest_place d s ones l)

-- to what follows a run of ones and its zero
abbrev pub run_answer : ℕ → ℕ → ℕ → ℕ → List ℕ → Paper ShapeValues
run_answer d end s ones l = rest_answer d end (behind_run d ones - length l) (after_run greatest_place d s ones l)

-- to the field under a leading one
abbrev pub led_answer : ℕ → ℕ → ℕ → ℕ → List ℕ → Paper ShapeValues
led_answer d end s k l = rest_answer d end (width d k - length l) (led_then greatest_place d s k l)

-- the answer to a small field of zeros: drop 0 refuses it, drop 3 means 5
abbrev pub zero_answer : ℕ → ℕ → ℕ → Paper ShapeValues
zero_answer zero s next = refused 10
zero_answer (suc d) s next = accepted (record { sign = s; magnitude = 5; error = 4; next = next })
