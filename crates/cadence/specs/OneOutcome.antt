-- Two outcomes of a call that meet its promise are equal.
-- Assumes nothing.
use Rattle.std.specs.Prelude.{◌≡◌, refl, ℕ, ◌+◌, Result}
use Rattle.ground.specs.Paper.{number_of, one_value}
use Rattle.ground.specs.Refusals.{one_result}
use Rattle.cadence.specs.declared.NoLevel.{NoLevel}
use Rattle.cadence.specs.declared.OutOfRange.{OutOfRange}
use Rattle.cadence.specs.Answers.{no_level, out_of_range, length_paper, level_paper}
use Rattle.cadence.specs.Sentence.{level_one}
use Rattle.cadence.specs.Promise.{SecondsPromise, BeginningPromise, EndingPromise}

-- one length for a level
pub seconds_one : {level : ℕ} {x y : Result ℕ NoLevel} → SecondsPromise level x → SecondsPromise level y → x ≡ y
seconds_one p q = one_result no_level p.answer q.answer

-- one beginning level for a second
pub beginning_one : {second : ℕ} {x y : Result ℕ OutOfRange} → BeginningPromise second x → BeginningPromise second y → x ≡ y
beginning_one {second} {x} {y} p q =
    one_result out_of_range (level_one second second (level_paper x) (level_paper y) p.answer q.answer) refl

-- one ending level for a second
pub ending_one : {second : ℕ} {x y : Result ℕ OutOfRange} → EndingPromise second x → EndingPromise second y → x ≡ y
ending_one {second} {x} {y} p q =
    one_result out_of_range (level_one second (second + 1) (level_paper x) (level_paper y) p.answer q.answer) refl

-- one number for a length's answer
pub length_number_one : (answer : Result ℕ NoLevel) {x y : ℕ} → x ≡ number_of (length_paper answer) → y ≡ number_of (length_paper answer) → x ≡ y
length_number_one answer p q = one_value p q

-- one number for a level's answer
pub level_number_one : (answer : Result ℕ OutOfRange) {x y : ℕ} → x ≡ number_of (level_paper answer) → y ≡ number_of (level_paper answer) → x ≡ y
level_number_one answer p q = one_value p q
