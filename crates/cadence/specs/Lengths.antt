-- What callers use of the lengths: each is a whole number of seconds from 1 to 3600, and `seconds` answers it for every level.
-- Assumes nothing.
use Rattle.std.specs.Prelude.{◌≡◌, refl, List, [], ◌∷◌, ℕ, zero, suc, ◌≤◌, ◌<◌, length, get_or, Result, Ok, Err}
use Rattle.std.proofs.Common.{◌∙◌, not-suc-le-zero, le_of_suc-le-suc, arith, lt-ltb, le-ltb}
use Rattle.ground.specs.Refusals.{one_result}
use Rattle.cadence.specs.declared.NoLevel.{NoLevel}
use Rattle.cadence.specs.Answers.{no_level}
use Rattle.cadence.specs.Meaning.{lengths, length_of}
use Rattle.cadence.specs.Promise.{SecondsPromise}

-- a level lasts from one second to the hour
pub record Lasts (level : ℕ) : Type 0 where
  pub some : 1 ≤ length_of level
  pub hour : length_of level ≤ 3600

-- each entry of a list is from one second to the hour
abbrev Entries : List ℕ → Type 0
Entries [] = Unit {0}
Entries (x ∷ xs) = (1 ≤ x) × (x ≤ 3600) × Entries xs

-- so is the entry at each of its places
entry : (xs : List ℕ) → Entries xs → (k : ℕ) → k < length xs → (1 ≤ get_or xs k 0) × (get_or xs k 0 ≤ 3600)
entry [] e k h = absurd (not-suc-le-zero h)
entry (x ∷ xs) e zero h = (e.0, e.1)
entry (x ∷ xs) e (suc k) h = entry xs e.2 k (le_of_suc-le-suc h)

-- every level does
pub lasts : (level : ℕ) → level ≤ 7 → Lasts level
lasts level h = let p = entry lengths (omega arith) level (omega arith) in record { some = p.0; hour = p.1 }

-- up to level 7 the length is given
pub seconds_given : {level : ℕ} {r : Result ℕ NoLevel} → level ≤ 7 → SecondsPromise level r → r ≡ Ok (length_of level)
seconds_given {level} h p = one_result no_level (p.answer ∙ rw (le-ltb 7 level h)) refl

-- over level 7 it is refused
pub seconds_refused : {level : ℕ} {r : Result ℕ NoLevel} → 7 < level → SecondsPromise level r → r ≡ Err (record {})
seconds_refused {level} h p = one_result no_level (p.answer ∙ rw (lt-ltb 7 level h)) refl
