-- Two outcomes that meet a promise are equal.
-- Assumes nothing.
use Rattle.std.specs.Prelude.{◌≡◌, List, refl, ℕ, Result}
use Rattle.std.specs.Borrow.{Bor}
use Rattle.ground.specs.Paper.{number_of, one_value}
use Rattle.ground.specs.Refusals.{one_outcome, one_result_as}
use Rattle.packet.specs.declared.Found.{Found}
use Rattle.packet.specs.declared.Headed.{Headed}
use Rattle.packet.specs.declared.NotFound.{NotFound}
use Rattle.packet.specs.declared.NoHeader.{NoHeader}
use Rattle.packet.specs.declared.NotWritten.{NotWritten}
use Rattle.packet.specs.Answers.{not_found, no_header, not_written, found_values, header_values, found_paper, headed_paper, written_paper}
use Rattle.packet.specs.Promise.{FindPromise, HeaderPromise, PayloadPromise, WritePromise}

-- a capture leaves one answer of finding
pub find_one : {capture : List ℕ} {r s : Result Found NotFound} → FindPromise capture r → FindPromise capture s → r ≡ s
find_one p q = one_result_as not_found found_values (λ v. record { place = v.place; skipped = v.skipped }) (λ x. refl) p.answer q.answer

-- a capture and a place leave one header
pub header_one : {capture : List ℕ} {at : ℕ} {r s : Result Headed NoHeader} → HeaderPromise capture at r → HeaderPromise capture at s → r ≡ s
header_one p q = one_result_as no_header header_values (λ v. record { apid = v.apid; length = v.length }) (λ x. refl) p.answer q.answer

-- a capture and a place leave one part: the same bytes at the same place of the same memory
pub payload_one : {capture : Bor (List ℕ)} {at : ℕ} {r s : Bor (List ℕ)} → PayloadPromise capture at r → PayloadPromise capture at s
    → (r.now ≡ s.now) × (r.ref_ptr ≡ s.ref_ptr)
payload_one p q =
    (one_value p.bytes q.bytes, λ i. (one_value p.block q.block i, one_value p.place q.place i))

-- a buffer, an APID and data leave one answer and one buffer
pub write_one : {buffer : List ℕ} {apid : ℕ} {payload : List ℕ} {r s : Result ℕ NotWritten} {m n : List ℕ}
    → WritePromise buffer apid payload r m → WritePromise buffer apid payload s n → (r ≡ s) × (m ≡ n)
write_one p q = one_outcome not_written p.outcome q.outcome

-- one number for an answer
pub found_number_one : (answer : Result Found NotFound) {m n : ℕ} → m ≡ number_of (found_paper answer) → n ≡ number_of (found_paper answer) → m ≡ n
found_number_one answer p q = one_value p q

-- one number for an answer
pub headed_number_one : (answer : Result Headed NoHeader) {m n : ℕ} → m ≡ number_of (headed_paper answer) → n ≡ number_of (headed_paper answer) → m ≡ n
headed_number_one answer p q = one_value p q

-- one number for an answer
pub written_number_one : (answer : Result ℕ NotWritten) {m n : ℕ} → m ≡ number_of (written_paper answer) → n ≡ number_of (written_paper answer) → m ≡ n
written_number_one answer p q = one_value p q
