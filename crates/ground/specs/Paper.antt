-- An answer as document 01 has it: accepted or refused, what follows an accepted one, and the laws of one answer.
-- Assumes nothing.
use Rattle.std.specs.Prelude.{◌≡◌, refl, List, [], ◌∷◌, ℕ}
use Rattle.std.proofs.Common.{ap, sym, ◌∙◌, arith}

-- "Each returns its number, and nothing else unless said above": accepted with its values, or refused by a number with what it carries
pub data Paper (A : Type 0) : Type 0 where
  accepted : A → Paper A
  refusal : ℕ → List ℕ → Paper A

-- refused by a number, "and nothing else"
abbrev pub refused : {A : Type 0} → ℕ → Paper A
refused n = refusal n []

-- refused by a number that carries a value, where document 01 says one
abbrev pub refused_with : {A : Type 0} → ℕ → ℕ → Paper A
refused_with n x = refusal n (x ∷ [])

-- document 01's number of an answer, 0 where it is accepted
abbrev pub number_of : {A : Type 0} → Paper A → ℕ
number_of (accepted x) = 0
number_of (refusal n carried) = n

-- what was accepted goes on; a refusal is handed on as it is
abbrev pub onward : {A B : Type 0} → (A → Paper B) → Paper A → Paper B
onward f (accepted x) = f x
onward f (refusal n carried) = refusal n carried

-- what was accepted as another value; a refusal is handed on as it is
abbrev pub mapped : {A B : Type 0} → (A → B) → Paper A → Paper B
mapped f = onward (λ x. accepted (f x))

-- what holds of an accepted answer and of a refusal holds of every answer
pub paper_elim : {A : Type 0} (P : Paper A → Type 0) (p : Paper A) → ((x : A) → p ≡ accepted x → P (accepted x))
    → ((n : ℕ) (carried : List ℕ) → p ≡ refusal n carried → P (refusal n carried)) → P p
paper_elim P (accepted x) a r = a x refl
paper_elim P (refusal n carried) a r = r n carried refl

-- a refusal is not an acceptance
pub refused_not : {A : Type 0} {n : ℕ} {carried : List ℕ} {x : A} → refusal n carried ≡ accepted x → ⊥
refused_not e = let z : ◌≡◌ {A = ℕ} 0 1 = cc in omega arith

-- a refusal that what goes on never gives is handed on with what it carries, and comes from nowhere else
pub handed_on : {A B : Type 0} (then : A → Paper B) {n : ℕ} {carried : List ℕ} → ((x : A) → number_of (then x) ≡ n → ⊥) → (p : Paper A)
    → (p ≡ refusal n carried → onward then p ≡ refusal n carried) × (onward then p ≡ refusal n carried → p ≡ refusal n carried)
handed_on then never (accepted x) = (λ e. absurd (refused_not (sym e)), λ e. absurd (never x (ap number_of e)))
handed_on {A} {B} then never (refusal m held) = (λ e. ap (onward then) e, λ e. ap back e)
  where
    back : Paper B → Paper A
    back (accepted y) = refusal 0 []
    back (refusal k given) = refusal k given

-- two answers that accept alike accept the same
pub accepted_same : {A : Type 0} {x y : A} → ◌≡◌ {A = Paper A} (accepted x) (accepted y) → x ≡ y
accepted_same {A} {x} e = ap out e
  where
    out : Paper A → A
    out (accepted y) = y
    out (refusal n carried) = x

-- two answers that read the same on paper are the same answer, where the paper has a way back
pub one_answer : {X P : Type 0} (paper : X → P) (back : P → X) → ((x : X) → back (paper x) ≡ x)
    → {x y : X} {p : P} → paper x ≡ p → paper y ≡ p → x ≡ y
one_answer paper back home {x} {y} p q = sym (home x) ∙ ap back (p ∙ sym q) ∙ home y

-- two values that equal a third are equal: one outcome, where the promise is an equation
pub one_value : {X : Type 0} {x y p : X} → x ≡ p → y ≡ p → x ≡ y
one_value p q = p ∙ sym q
