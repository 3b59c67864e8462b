-- Two outcomes that meet a promise are equal.
-- Assumes nothing.
use Rattle.std.specs.Prelude.{◌≡◌, List, ℕ}
use Rattle.std.proofs.Common.{ap, ap₂, ◌∙◌}
use Rattle.ground.specs.Paper.{one_value}
use Rattle.lines.specs.declared.Line.{Line}
use Rattle.lines.specs.declared.Ran.{Ran}
use Rattle.lines.specs.Promise.{FreshPromise, WithBytePromise, HeaderPromise, AnswerPromise, RunPromise}

-- `fresh_line` has one outcome
pub fresh_one : {r s : Line} → FreshPromise r → FreshPromise s → r ≡ s
fresh_one p q = one_value p.answer q.answer

-- `with_byte` has one outcome
pub with_byte_one : {line : Line} {byte : ℕ} {r s : Line} → WithBytePromise line byte r → WithBytePromise line byte s → r ≡ s
with_byte_one p q = one_value p.answer q.answer

-- `put_header` has one outcome: answer and memory
pub header_one : {room : List ℕ} {r s : ℕ} {m n : List ℕ} → HeaderPromise room r m → HeaderPromise room s n → (r ≡ s) × (m ≡ n)
header_one p q = (one_value p.answer q.answer, one_value p.memory q.memory)

-- `put_answer` has one outcome: answer and memory
pub put_answer_one : {line : Line} {room : List ℕ} {r s : ℕ} {m n : List ℕ} → AnswerPromise line room r m → AnswerPromise line room s n
    → (r ≡ s) × (m ≡ n)
put_answer_one p q = (one_value p.answer q.answer, one_value p.memory q.memory)

-- three fields that agree
same_ran : (r s : Ran) → r.line ≡ s.line → r.used ≡ s.used → r.put ≡ s.put → r ≡ s
same_ran r s a b c =
    ap (λ (x : Line). record { line = x; used = r.used; put = r.put }) a
    ∙ ap₂ (λ (m n : ℕ). record { line = s.line; used = m; put = n }) b c

-- `run` has one outcome: line, bytes used, bytes put, and memory
pub run_one : {line : Line} {input room : List ℕ} {r s : Ran} {m n : List ℕ} → RunPromise line input room r m → RunPromise line input room s n
    → (r ≡ s) × (m ≡ n)
run_one {r = r} {s = s} p q =
    (same_ran r s (one_value p.state q.state) (one_value p.used q.used) (one_value p.answer q.answer), one_value p.memory q.memory)
