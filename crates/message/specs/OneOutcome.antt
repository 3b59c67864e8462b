-- Two outcomes that meet a promise are equal.
-- Assumes nothing.
use Rattle.std.specs.Prelude.{◌≡◌, refl, List, ℕ, Result}
use Rattle.ground.specs.Paper.{number_of, one_value}
use Rattle.ground.specs.Refusals.{one_outcome, one_result_as}
use Rattle.message.specs.declared.Message.{Message}
use Rattle.message.specs.declared.NotRead.{NotRead}
use Rattle.message.specs.declared.NotWritten.{NotWritten}
use Rattle.message.specs.Answers.{not_read, not_written, message_values, read_paper, written_paper}
use Rattle.message.specs.Promise.{ReadPromise, WritePromise}

-- bytes leave one message or one refusal
pub read_one : {bytes : List ℕ} {r s : Result Message NotRead} → ReadPromise bytes r → ReadPromise bytes s → r ≡ s
read_one p q =
    one_result_as not_read message_values (λ v. record { address = v.address; tag = v.tag; value = v.value; used = v.used }) (λ x. refl)
    p.answer q.answer

-- a buffer, an address, a tag and a value leave one answer and one buffer
pub write_one : {buffer : List ℕ} {address tag value : ℕ} {r s : Result ℕ NotWritten} {m n : List ℕ}
    → WritePromise buffer address tag value r m → WritePromise buffer address tag value s n → (r ≡ s) × (m ≡ n)
write_one p q = one_outcome not_written p.outcome q.outcome

-- one number for an answer
pub read_number_one : (answer : Result Message NotRead) {m n : ℕ} → m ≡ number_of (read_paper answer) → n ≡ number_of (read_paper answer) → m ≡ n
read_number_one answer p q = one_value p q

-- one number for an answer
pub written_number_one : (answer : Result ℕ NotWritten) {m n : ℕ} → m ≡ number_of (written_paper answer) → n ≡ number_of (written_paper answer) → m ≡ n
written_number_one answer p q = one_value p q
