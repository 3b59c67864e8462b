-- A logarithm byte and its counts are one relation: the calls, one after the other.
-- Assumes nothing.
use Rattle.std.specs.Prelude.{◌≡◌, refl, ℕ, ◌≤◌, Option, Some, None, Result, Ok}
use Rattle.std.proofs.Common.{le_refl}
use Rattle.ground.specs.Paper.{accepted}
use Rattle.ground.specs.Refusals.{one_result}
use Rattle.logarithm.specs.declared.TooLarge.{TooLarge}
use Rattle.logarithm.specs.Answers.{log8_code_paper, log8_counts_paper, too_large}
use Rattle.logarithm.specs.Logarithms.{Encloses, bytes_follow_counts, log8_one, two_sides}
use Rattle.logarithm.specs.Meaning.{Gives}
use Rattle.logarithm.specs.Promise.{Log8CodePromise, Log8CountsPromise}

-- "Order of bytes must follow order of counts": a greater count never has a smaller byte
pub log8_order : {m n a b : ℕ} → m ≤ n → Log8CodePromise m (Ok a) → Log8CodePromise n (Ok b) → a ≤ b
log8_order h p q = bytes_follow_counts h p.answer q.answer

-- a count's byte has two counts, and they enclose the count
pub log8_encloses : {count code : ℕ} {r : Option (ℕ × ℕ)} → Log8CodePromise count (Ok code) → Log8CountsPromise code r
    → Encloses (log8_counts_paper r) count
log8_encloses {count} {code} {r} p q = (two_sides code count (log8_counts_paper r) q.answer).0 p.answer

-- every count that a byte's two counts enclose, both of them too, has that byte
pub log8_enclosed : {count code : ℕ} {r : Option (ℕ × ℕ)} {s : Result ℕ TooLarge} → Log8CountsPromise code r → Encloses (log8_counts_paper r) count
    → Log8CodePromise count s → s ≡ Ok code
log8_enclosed {count} {code} {r} {s} q e p =
    let g : Gives code count = (two_sides code count (log8_counts_paper r) q.answer).1 e in
    one_result too_large (log8_one count (log8_code_paper s) (accepted code) p.answer g) refl

-- both of them have it
pub log8_ends : {code low high : ℕ} {x y : Result ℕ TooLarge} → Log8CountsPromise code (Some (low, high)) → Log8CodePromise low x → Log8CodePromise high y
    → (x ≡ Ok code) × (y ≡ Ok code)
log8_ends {code} {low} {high} q x y =
    let reach : low ≤ high = q.answer.1.most low q.answer.0.has in
    (log8_enclosed q (le_refl low, reach) x, log8_enclosed q (reach, le_refl high) y)

-- a byte that is answered by the word is no count's byte
pub log8_none : {count code : ℕ} → Log8CountsPromise code None → Log8CodePromise count (Ok code) → ⊥
log8_none {count} q p = q.answer count p.answer
