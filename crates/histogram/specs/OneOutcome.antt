-- Two outcomes that meet a call's promise are equal: answer, memory and state.
-- Assumes nothing.
use Rattle.std.specs.Prelude.{◌≡◌, refl, List, ℕ, Result}
use Rattle.std.proofs.Common.{ap}
use Rattle.ground.specs.Outcome.{Outcome, outcome_of, outcome_one}
use Rattle.ground.specs.Paper.{Paper, mapped, number_of, one_value}
use Rattle.ground.specs.Refusals.{Refusals, on_paper, off_on_paper_as, off_paper, one_result}
use Rattle.state.specs.Answers.{wrong_memory}
use Rattle.state.specs.declared.WrongMemory.{WrongMemory}
use Rattle.histogram.specs.Answers.{fed_of, fed_back, fed_home, flip_paper, increment_paper, increments_paper, not_incremented, opened_paper}
use Rattle.histogram.specs.Meaning.{Lent, done, lent}
use Rattle.histogram.specs.Promise.{AdmitPromise, OpenPromise, IncrementPromise, IncrementsPromise, FlipPromise}
use Rattle.histogram.specs.declared.Fed.{Fed}
use Rattle.histogram.specs.declared.NotIncremented.{NotIncremented}

-- one outcome, whatever the call: answer, memory and state
pub call_one : {R A : Type 0} (paper : R → Paper A) (back : Paper A → R) → ((r : R) → back (paper r) ≡ r)
    → {r s : R} {m n w v : List ℕ} {o : Outcome A Lent} → outcome_of (paper r) (lent m w) ≡ o → outcome_of (paper s) (lent n v) ≡ o
    → (r ≡ s) × (m ≡ n) × (w ≡ v)
call_one paper back home p q =
    let one = outcome_one paper back home p q in (one.0, ap (λ (l : Lent). l.memory) one.1, ap (λ (l : Lent). l.state) one.1)

-- of a call that answers a result, whose value document 01 reads in its own words
pub result_call_one : {V A E : Type 0} (rs : Refusals E) (read : V → A) (back : A → V) → ((x : V) → back (read x) ≡ x)
    → {r s : Result V E} {m n w v : List ℕ} {o : Outcome A Lent} → outcome_of (mapped read (on_paper rs r)) (lent m w) ≡ o
    → outcome_of (mapped read (on_paper rs s)) (lent n v) ≡ o → (r ≡ s) × (m ≡ n) × (w ≡ v)
result_call_one {V} {A} {E} rs read back home =
    call_one (λ (r : Result V E). mapped read (on_paper rs r)) (λ (p : Paper A). off_paper rs (mapped back p)) (off_on_paper_as rs read back home)

-- a call that answers nothing more than that it is done
done_one : {E : Type 0} (rs : Refusals E) {r s : Result (Unit {0}) E} {m n w v : List ℕ} {o : Outcome _ Lent}
    → outcome_of (mapped (λ x. done) (on_paper rs r)) (lent m w) ≡ o
    → outcome_of (mapped (λ x. done) (on_paper rs s)) (lent n v) ≡ o → (r ≡ s) × (m ≡ n) × (w ≡ v)
done_one rs = result_call_one rs (λ x. done) (λ v. tt) (λ x. refl)

-- admission; memory and state are lent unchangeable
pub admit_one : {m w : List ℕ} {r s : Result (Unit {0}) WrongMemory} → AdmitPromise m w r → AdmitPromise m w s → r ≡ s
admit_one p q = one_result wrong_memory p.answer q.answer

-- opening
pub open_one : {m w : List ℕ} {r s : Result (Unit {0}) WrongMemory} {m' n' w' v' : List ℕ} → OpenPromise m w r m' w' → OpenPromise m w s n' v'
    → (r ≡ s) × (m' ≡ n') × (w' ≡ v')
open_one p q = done_one wrong_memory p.outcome q.outcome

-- an increment; the state is lent unchangeable
pub increment_one : {m w : List ℕ} {a : ℕ} {r s : Result (Unit {0}) NotIncremented} {m' n' : List ℕ} → IncrementPromise m w a r m'
    → IncrementPromise m w a s n' → (r ≡ s) × (m' ≡ n')
increment_one p q = let one = done_one not_incremented p.outcome q.outcome in (one.0, one.1)

-- a run of increments; the state is lent unchangeable
pub increments_one : {m w addresses : List ℕ} {r s : Result Fed WrongMemory} {m' n' : List ℕ} → IncrementsPromise m w addresses r m'
    → IncrementsPromise m w addresses s n' → (r ≡ s) × (m' ≡ n')
increments_one p q = let one = result_call_one wrong_memory fed_of fed_back fed_home p.outcome q.outcome in (one.0, one.1)

-- a flip; the memory is lent unchangeable
pub flip_one : {m w : List ℕ} {r s : Result (Unit {0}) WrongMemory} {w' v' : List ℕ} → FlipPromise m w r w' → FlipPromise m w s v' → (r ≡ s) × (w' ≡ v')
flip_one p q = let one = done_one wrong_memory p.outcome q.outcome in (one.0, one.2)

-- one number for opening's answer
pub open_number_one : (answer : Result (Unit {0}) WrongMemory) {m n : ℕ} → m ≡ number_of (opened_paper answer) → n ≡ number_of (opened_paper answer) → m ≡ n
open_number_one answer p q = one_value p q

-- one number for an increment's answer
pub increment_number_one : (answer : Result (Unit {0}) NotIncremented) {m n : ℕ} → m ≡ number_of (increment_paper answer)
    → n ≡ number_of (increment_paper answer)
    → m ≡ n
increment_number_one answer p q = one_value p q

-- one number for a flip's answer
pub flip_number_one : (answer : Result (Unit {0}) WrongMemory) {m n : ℕ} → m ≡ number_of (flip_paper answer) → n ≡ number_of (flip_paper answer) → m ≡ n
flip_number_one answer p q = one_value p q

-- one number for a run's answer
pub increments_number_one : (answer : Result Fed WrongMemory) {m n : ℕ} → m ≡ number_of (increments_paper answer) → n ≡ number_of (increments_paper answer)
    → m ≡ n
increments_number_one answer p q = one_value p q
