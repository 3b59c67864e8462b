-- Two outcomes that meet a call's promise are equal.
-- Assumes nothing.
use Rattle.std.specs.Prelude.{Bool, ◌≡◌, refl, List, ℕ, ◌<◌, eqb, get_or, length, Option, Some, None, MatchOption, Result}
use Rattle.std.proofs.Common.{sym, ap, ◌∙◌, arith}
use Rattle.ground.specs.Paper.{number_of, one_value}
use Rattle.ground.specs.Refusals.{one_result}
use Rattle.state.specs.Answers.{next_paper, no_next}
use Rattle.state.specs.Meaning.{fitting_of, turn_by, turn_in}
use Rattle.state.specs.Promise.{NextPromise}
use Rattle.state.specs.Words.{Asked, number_at, page_in, state_words}
use Rattle.state.specs.declared.lent.Lent.{Lent}
use Rattle.state.specs.declared.NoNext.{NoNext}
use Rattle.state.specs.declared.NoTurn.{NoTurn}
use Rattle.state.specs.declared.Turn.{Turn}

-- whether a memory is the state's own
pub fitting_one : (words : ℕ) (state : List ℕ) {r s : Bool} → r ≡ fitting_of words state → s ≡ fitting_of words state → r ≡ s
fitting_one words state p q = one_value p q

-- which page is active
pub second_active_one : (state : List ℕ) {r s : Bool} → r ≡ page_in state → s ≡ page_in state → r ≡ s
second_active_one state p q = one_value p q

-- the words that a state is, where they are enough
abbrev pub words_of : Option Lent → Option (List ℕ)
words_of None = None
words_of (Some lent) = Some lent.words.now

-- the state that words are: whether there is one, and its words
pub lent_of_one : (words : List ℕ) (r s : Option Lent) → MatchOption r (length words < state_words) (λ (l : Lent). l.words.now ≡ words)
    → MatchOption s (length words < state_words) (λ (l : Lent). l.words.now ≡ words) → words_of r ≡ words_of s
lent_of_one words None None p q = refl
lent_of_one words None (Some l) p q = absurd (let e : length l.words.now ≡ length words = ap length q in omega (arith, e, l.long))
lent_of_one words (Some k) None p q = absurd (let e : length k.words.now ≡ length words = ap length p in omega (arith, e, k.long))
lent_of_one words (Some k) (Some l) p q = ap (λ (w : List ℕ). Some w) (p ∙ sym q)

-- whether a number is the kept ask's
pub is_last_one : (state : List ℕ) (number : ℕ) {r s : Bool} → r ≡ eqb number (get_or state number_at 0) → s ≡ eqb number (get_or state number_at 0) → r ≡ s
is_last_one state number p q = one_value p q

-- whose turn an ask is
pub turn_one : (state : List ℕ) (number : ℕ) (asked : Asked) {r s : Result Turn NoTurn} → r ≡ turn_in state number asked
    → s ≡ turn_in state number asked → r ≡ s
turn_one state number asked p q = one_value p q

-- whose turn it is, told whether it asks for the same
pub turn_by_one : (state : List ℕ) (number : ℕ) (same : Bool) {r s : Result Turn NoTurn} → r ≡ turn_by state number same → s ≡ turn_by state number same → r ≡ s
turn_by_one state number same p q = one_value p q

-- the number of the next ask
pub next_one : {w : List ℕ} {r s : Result ℕ NoNext} → NextPromise w r → NextPromise w s → r ≡ s
next_one p q = one_result no_next p.answer q.answer

-- one number for the answer of the next ask's number
pub next_number_one : (answer : Result ℕ NoNext) {m n : ℕ} → m ≡ number_of (next_paper answer) → n ≡ number_of (next_paper answer) → m ≡ n
next_number_one answer p q = one_value p q
