-- How an error's refusals read in document 01, and a result with them.
-- Assumes nothing.
use Rattle.std.specs.Prelude.{◌≡◌, refl, List, ℕ, Result, Ok, Err}
use Rattle.std.proofs.Common.{ap, ◌∙◌}
use Rattle.ground.specs.Outcome.{Outcome, outcome_of, outcome_one}
use Rattle.ground.specs.Paper.{Paper, accepted, refusal, number_of, mapped, one_answer, one_value}

-- a refusal's number, what it carries, and the one that reads so
pub record Refusals (E : Type 0) : Type 0 where
  pub number : E → ℕ
  pub carried : E → List ℕ
  pub back : ℕ → List ℕ → E
  pub home : (e : E) → back (number e) (carried e) ≡ e

-- a result as document 01 has it: accepted with its value, or refused by its error's number
abbrev pub on_paper : {V E : Type 0} → Refusals E → Result V E → Paper V
on_paper rs (Ok x) = accepted x
on_paper rs (Err e) = refusal (rs.number e) (rs.carried e)

-- the result that reads so
abbrev pub off_paper : {V E : Type 0} → Refusals E → Paper V → Result V E
off_paper rs (accepted x) = Ok x
off_paper rs (refusal n carried) = Err (rs.back n carried)

-- a result is the one that reads as it does
pub off_on_paper : {V E : Type 0} (rs : Refusals E) (r : Result V E) → off_paper rs (on_paper rs r) ≡ r
off_on_paper rs (Ok x) = refl
off_on_paper {V} {E} rs (Err e) = ap (λ (f : E). Err f) (rs.home e)

-- one number for a refusal of any error
pub refusal_one : {E : Type 0} (rs : Refusals E) (why : E) {m n : ℕ} → m ≡ rs.number why → n ≡ rs.number why → m ≡ n
refusal_one rs why p q = one_value p q

-- one number for an answer
pub answer_number_one : {V E : Type 0} (rs : Refusals E) (answer : Result V E) {m n : ℕ} → m ≡ number_of (on_paper rs answer)
    → n ≡ number_of (on_paper rs answer) → m ≡ n
answer_number_one rs answer p q = one_value p q

-- an answer whose value is read in document 01's words has the number that it had
pub mapped_number : {A B : Type 0} (f : A → B) (p : Paper A) → number_of (mapped f p) ≡ number_of p
mapped_number f (accepted x) = refl
mapped_number f (refusal n carried) = refl

-- so the number of an answer is that of its paper in document 01's words
pub paper_number_one : {V A E : Type 0} (rs : Refusals E) (read : V → A) (answer : Result V E) {m n : ℕ} → m ≡ number_of (on_paper rs answer)
    → n ≡ number_of (mapped read (on_paper rs answer)) → m ≡ n
paper_number_one rs read answer p q = one_value p (q ∙ mapped_number read (on_paper rs answer))

-- two results that read the same on paper are the same result
pub one_result : {V E : Type 0} (rs : Refusals E) {x y : Result V E} {p : Paper V} → on_paper rs x ≡ p → on_paper rs y ≡ p → x ≡ y
one_result rs = one_answer (on_paper rs) (off_paper rs) (off_on_paper rs)

-- one outcome of a call that answers a result: its answer, and what it leaves
pub one_outcome : {V E L : Type 0} (rs : Refusals E) {r s : Result V E} {l m : L} {o : Outcome V L} → outcome_of (on_paper rs r) l ≡ o
    → outcome_of (on_paper rs s) m ≡ o → (r ≡ s) × (l ≡ m)
one_outcome rs = outcome_one (on_paper rs) (off_paper rs) (off_on_paper rs)

module _ {V A E : Type 0} (rs : Refusals E) (read : V → A) (back : A → V) (home : (x : V) → back (read x) ≡ x) where
  -- a result whose value document 01 reads in its own words is the one that reads as it does
  pub off_on_paper_as : (r : Result V E) → off_paper rs (mapped back (mapped read (on_paper rs r))) ≡ r
  off_on_paper_as (Ok x) = ap (λ (y : V). Ok y) (home x)
  off_on_paper_as (Err e) = off_on_paper rs (Err e)

  -- two such results that read the same are the same result
  pub one_result_as : {x y : Result V E} {p : Paper A} → mapped read (on_paper rs x) ≡ p → mapped read (on_paper rs y) ≡ p → x ≡ y
  one_result_as = one_answer (λ (r : Result V E). mapped read (on_paper rs r)) (λ (p : Paper A). off_paper rs (mapped back p)) off_on_paper_as

  -- and one outcome of a call that answers such a result
  pub one_outcome_as : {L : Type 0} {r s : Result V E} {l m : L} {o : Outcome A L} → outcome_of (mapped read (on_paper rs r)) l ≡ o
      → outcome_of (mapped read (on_paper rs s)) m ≡ o → (r ≡ s) × (l ≡ m)
  one_outcome_as = outcome_one (λ (r : Result V E). mapped read (on_paper rs r)) (λ (p : Paper A). off_paper rs (mapped back p)) off_on_paper_as
