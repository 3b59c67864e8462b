-- What is told of a call's answer, from what the call below promises of it: where it is accepted, and where it is refused. With them what each proof uses.
-- Assumes nothing.
pub use mathlib.Core.Path.{refl}
pub use mathlib.Core.List.{[], ◌∷◌}
pub use borrow.Author.Rules.{rules}
pub use denote.Enum.Declared.{tag_of}
use mathlib.Core.Path.{◌≡◌, sym, ap, subst, ◌∙◌}
use mathlib.Core.Bool.{not}
use mathlib.Core.List.{List}
use Prim.Native.Nat.{ℕ}
use Rattle.std.specs.Prelude.{Result, Ok, Err}
use lib.Dec.{T}
use lib.ListN.{get_or}
use mir.Val.{has_key}
use types.Run.{OneOf, miss}
use Rattle.ground.specs.Outcome.{Outcome, outcome_of}
use Rattle.ground.specs.Paper.{Paper, accepted, refusal, refused, number_of}
use Rattle.ground.specs.Refusals.{Refusals, on_paper}
use Rattle.plavotesk.specs.Meaning.{carried_to, told, told_as, told_missing, told_with}
use Rattle.plavotesk.specs.Promise.{Sentence}

-- what is told, with the memory that the call leaves
pub with_memory_lem : {X Y : Type 0} {x x' : X} {y y' : Y} → x ≡ x' → y ≡ y' → ◌≡◌ {A = X × Y} (x, y) (x', y')
with_memory_lem {X} {Y} {x} {x'} {y} {y'} e f = ap (λ (z : X). (z, y)) e ∙ ap (λ (z : Y). (x', z)) f

module _ {A X : Type 0} (places : A → X) (held : X) {R : Type 0} (paper : R → Paper A) where
  -- the case that was met is the accepted one: 0, and what its values say
  pub accepts : {a s : R} {values : A} {means : Paper A} → paper a ≡ means → a ≡ s → paper s ≡ accepted values
      → ◌≡◌ {A = ℕ × X} (0, places values) (told_as places means held)
  unfolding told_as
  accepts p e v = ap (λ (q : Paper A). told_as places q held) (sym (ap paper e ∙ v) ∙ p)

  by_paper : (other : R → Type 0) (back : Paper A → R) {a : R} {n : ℕ} → ((v : A) → other (back (accepted v)) → ⊥) → other a
      → (p : Paper A) → back p ≡ a → n ≡ number_of p → ◌≡◌ {A = ℕ × X} (n, held) (told_as places p held)
  unfolding told_as
  by_paper other back never o (accepted v) e k = absurd (never v (subst other (sym e) o))
  by_paper other back never o (refusal m carried) e k = ap (λ (x : ℕ). (x, held)) k

  -- the case that was met is one of several that are refused, by other keys than the accepted one's: the number, and what the places held
  pub refuses : (back : Paper A → R) (home : (a : R) → back (paper a) ≡ a) (tag : R → ℕ) (keys : List ℕ)
      → ((v : A) → T (not (has_key keys (tag (back (accepted v)))))) → (a : R) {n : ℕ} {means : Paper A}
      → OneOf keys (tag a) → paper a ≡ means → n ≡ number_of (paper a) → ◌≡◌ {A = ℕ × X} (n, held) (told_as places means held)
  refuses back home tag keys never a o p k =
      by_paper (λ (x : R). OneOf keys (tag x)) back (λ v. miss keys _ (never v)) o (paper a) (home a) k
      ∙ ap (λ (q : Paper A). told_as places q held) p

  -- the case that was met is the only one that is refused
  pub refuses_as : {a s : R} {m n : ℕ} {means : Paper A} → paper a ≡ means → a ≡ s → paper s ≡ refused m → n ≡ number_of (paper a)
      → ◌≡◌ {A = ℕ × X} (n, held) (told_as places means held)
  unfolding told_as
  refuses_as p e r k =
      ap (λ (x : ℕ). (x, held)) (k ∙ ap number_of (ap paper e ∙ r))
      ∙ ap (λ (q : Paper A). told_as places q held) (sym (ap paper e ∙ r) ∙ p)

module _ {A X : Type 0} (places : A → X) (held : X) (missing : ℕ) {means : Paper A} where
  -- a call that reads codes, accepted: the place of the bits missing keeps what it held
  pub reads : {values : A} → accepted values ≡ means → ◌≡◌ {A = (ℕ × X) × ℕ} ((0, places values), missing) (told_missing places means held missing)
  unfolding told_as carried_to
  reads p = ap (λ (q : Paper A). told_missing places q held missing) p

  -- refused: its number, what the other places held, and what it carries
  pub refuses_reading : {n k m : ℕ} {carried : List ℕ} → refusal n carried ≡ means → k ≡ n → m ≡ get_or carried 0 missing
      → ◌≡◌ {A = (ℕ × X) × ℕ} ((k, held), m) (told_missing places means held missing)
  unfolding told_as carried_to
  refuses_reading p i j = with_memory_lem (ap (λ (x : ℕ). (x, held)) i) j ∙ ap (λ (q : Paper A). told_missing places q held missing) p

module _ {A L : Type 0} (held : A) {R : Type 0} (paper : R → Paper A) (a : R) {after : L} {o : Outcome A L} (p : outcome_of (paper a) after ≡ o) where
  -- the same with what the call leaves: accepted
  pub accepts_with : {s : R} {values : A} → a ≡ s → paper s ≡ accepted values → ◌≡◌ {A = (ℕ × A) × L} ((0, values), after) (told_with o held)
  accepts_with e v = with_memory_lem (accepts (λ (x : A). x) held paper (ap (λ (x : Outcome A L). x.answer) p) e v) (ap (λ (x : Outcome A L). x.leaves) p)

  -- refused, by other keys than the accepted one's
  pub refuses_with : (back : Paper A → R) (home : (x : R) → back (paper x) ≡ x) (tag : R → ℕ) (keys : List ℕ)
      → ((v : A) → T (not (has_key keys (tag (back (accepted v)))))) → {n : ℕ} → OneOf keys (tag a) → n ≡ number_of (paper a)
      → ◌≡◌ {A = (ℕ × A) × L} ((n, held), after) (told_with o held)
  refuses_with back home tag keys never one k =
      with_memory_lem (refuses (λ (x : A). x) held paper back home tag keys never a one (ap (λ (x : Outcome A L). x.answer) p) k)
      (ap (λ (x : Outcome A L). x.leaves) p)

  -- refused, in the only way there is
  pub refuses_as_with : {s : R} {m n : ℕ} → a ≡ s → paper s ≡ refused m → n ≡ number_of (paper a)
      → ◌≡◌ {A = (ℕ × A) × L} ((n, held), after) (told_with o held)
  refuses_as_with e r k =
      with_memory_lem (refuses_as (λ (x : A). x) held paper (ap (λ (x : Outcome A L). x.answer) p) e r k) (ap (λ (x : Outcome A L). x.leaves) p)

module _ {Holds : Paper ℕ → Type 0} (held : ℕ) {R : Type 0} (paper : R → Paper ℕ) where
  -- the same of a call by a sentence
  pub accepts_so : {a s : R} {v : ℕ} → Holds (paper a) → a ≡ s → paper s ≡ accepted v → Sentence Holds held (0, v)
  accepts_so {a} h e v = record { answer = paper a; holds = h; outcome = accepts _ held paper refl e v }

  pub refuses_so : {a s : R} {m n : ℕ} → Holds (paper a) → a ≡ s → paper s ≡ refused m → n ≡ number_of (paper a) → Sentence Holds held (n, held)
  refuses_so {a} h e r k = record { answer = paper a; holds = h; outcome = refuses_as _ held paper refl e r k }

module _ {V E : Type 0} (rs : Refusals E) (held : V) {answer : Result V E} where
  -- an answer that was accepted is told by 0, and its place holds the value
  pub told_ok : {value : V} → answer ≡ Ok value → ◌≡◌ {A = ℕ × V} (0, value) (told (on_paper rs answer) held)
  unfolding told_as
  told_ok e = ap (λ (r : Result V E). told (on_paper rs r) held) (sym e)

  -- one that was refused is told by its number, and its place keeps what it held
  pub told_err : {why : E} → answer ≡ Err why → ◌≡◌ {A = ℕ × V} (rs.number why, held) (told (on_paper rs answer) held)
  unfolding told_as
  told_err e = ap (λ (r : Result V E). told (on_paper rs r) held) (sym e)
