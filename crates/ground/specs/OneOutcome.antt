-- Two outcomes that meet a promise are equal.
-- Assumes nothing.
use Rattle.std.specs.Prelude.{◌≡◌, Bool, List, ℕ}
use Rattle.ground.specs.Paper.{one_value}
use Rattle.ground.specs.Promise.{LiesPromise, WordPromise, PutPromise}

-- `lies_in` has one outcome
pub lies_one : {bytes : List ℕ} {at size : ℕ} {r s : Bool} → LiesPromise bytes at size r → LiesPromise bytes at size s → r ≡ s
lies_one p q = one_value p.answer q.answer

-- `word_at` has one outcome
pub word_one : {bytes : List ℕ} {at r s : ℕ} → WordPromise bytes at r → WordPromise bytes at s → r ≡ s
word_one p q = one_value p.answer q.answer

-- `put_word` has one outcome: the memory
pub put_one : {buffer : List ℕ} {at word : ℕ} {m n : List ℕ} → PutPromise buffer at word m → PutPromise buffer at word n → m ≡ n
put_one p q = one_value p.memory q.memory
