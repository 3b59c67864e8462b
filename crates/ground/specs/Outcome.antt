-- What a call answers and what it leaves: one outcome, for every call that is lent something that it may change.
-- Assumes nothing.
use Rattle.std.specs.Prelude.{◌≡◌, refl, Bool, true, false, ℕ}
use Rattle.std.proofs.Common.{sym, ap, ◌∙◌}
use Rattle.ground.specs.Choice.{pick}
use Rattle.ground.specs.Paper.{Paper, accepted, refusal, refused, number_of, accepted_same, refused_not, one_answer, one_value}

-- its answer, and what it leaves of what it was lent
pub record Outcome (A L : Type 0) : Type 0 where
  pub answer : Paper A
  pub leaves : L

-- the same from its two parts
abbrev pub outcome_of : {A L : Type 0} → Paper A → L → Outcome A L
outcome_of answer leaves = record { answer = answer; leaves = leaves }

-- accepted with its values, leaving this
abbrev pub accept : {A L : Type 0} → A → L → Outcome A L
accept x leaves = outcome_of (accepted x) leaves

-- "on a refusal changes neither memory nor state": refused by a number, leaving all as it was
abbrev pub refuse : {A L : Type 0} → ℕ → L → Outcome A L
refuse n lent = outcome_of (refused n) lent

-- a call by an answer that was asked before it: what was accepted goes on, a refusal is handed on and leaves this
abbrev pub onward_to : {A B L : Type 0} → (A → Outcome B L) → L → Paper A → Outcome B L
onward_to f lent (accepted x) = f x
onward_to f lent (refusal n carried) = outcome_of (refusal n carried) lent

-- a number that refuses
abbrev pub Refuses : ℕ → Type 0
Refuses n = n ≡ 0 → ⊥

-- demand 1 of an outcome: where it is refused, what was lent is as it was
abbrev pub Stays : {A L : Type 0} → L → Outcome A L → Type 0
Stays lent o = Refuses (number_of o.answer) → o.leaves ≡ lent

-- one outcome, whatever the call: where two are one on paper, answer and what is left are one
pub outcome_one : {R A L : Type 0} (paper : R → Paper A) (back : Paper A → R) → ((r : R) → back (paper r) ≡ r)
    → {r s : R} {l m : L} {o : Outcome A L} → outcome_of (paper r) l ≡ o → outcome_of (paper s) m ≡ o → (r ≡ s) × (l ≡ m)
outcome_one {R} {A} {L} paper back home p q = (
  one_answer paper back home (ap (λ (o : Outcome A L). o.answer) p) (ap (λ (o : Outcome A L). o.answer) q),
  ap (λ (o : Outcome A L). o.leaves) (one_value p q),
)

-- a refused call left what it was lent, by its promise
pub refused_left : {A L : Type 0} {p : Paper A} {lent left : L} {o : Outcome A L} → outcome_of p left ≡ o → Stays lent o → Refuses (number_of p) → left ≡ lent
refused_left {A} {L} e stays f =
    ap (λ (o : Outcome A L). o.leaves) e ∙ stays (λ z. f (ap (λ (o : Outcome A L). number_of o.answer) e ∙ z))

module _ {A L : Type 0} where
  -- two refusals, one after the other, and else an acceptance
  abbrev pub after_two : Bool → Bool → ℕ → ℕ → L → A → L → Outcome A L
  after_two s t n k lent x leaves = pick s (refuse n lent) (pick t (refuse k lent) (accept x leaves))

  -- where it was accepted neither refused, and its value and what it leaves are these
  pub record TwoPassed (s t : Bool) (x y : A) (leaves left : L) : Type 0 where
    pub first : s ≡ false
    pub second : t ≡ false
    pub value : y ≡ x
    pub leaving : left ≡ leaves

  pub two_passed : (s t : Bool) (n k : ℕ) (lent : L) {x y : A} {leaves left : L} → accept y left ≡ after_two s t n k lent x leaves
      → TwoPassed s t x y leaves left
  two_passed true t n k lent e = absurd (refused_not (sym (ap (λ (o : Outcome A L). o.answer) e)))
  two_passed false true n k lent e = absurd (refused_not (sym (ap (λ (o : Outcome A L). o.answer) e)))
  two_passed false false n k lent e =
      record {
        first = refl;
        second = refl;
        value = accepted_same (ap (λ (o : Outcome A L). o.answer) e);
        leaving = ap (λ (o : Outcome A L). o.leaves) e;
      }

  -- demand 1 of it: where it is refused, what was lent is as it was
  pub two_stay : (s t : Bool) (n k : ℕ) (lent : L) (x : A) (leaves : L) → Stays lent (after_two s t n k lent x leaves)
  two_stay true t n k lent x leaves f = refl
  two_stay false true n k lent x leaves f = refl
  two_stay false false n k lent x leaves f = absurd (f refl)
