-- Request 2026-02: "Everything that reads codes hands this number on unchanged". For any two outcomes, of reading the shape and of a call that reads codes:
-- where the one ran out with a number of bits missing, so did the other, with the same number.
-- Assumes nothing.
use Rattle.std.specs.Prelude.{◌≡◌, refl, List, ℕ, ltb, get_or, Result, Err}
use Rattle.std.proofs.Common.{sym, ap, subst, ◌∙◌, arith}
use Rattle.std.specs.Borrow.{Bor}
use Rattle.ground.specs.Choice.{pick_elim}
use Rattle.ground.specs.Paper.{Paper, accepted, refusal, refused, refused_with, number_of, onward, mapped, handed_on}
use Rattle.ground.specs.Refusals.{off_paper, off_on_paper_as}
use Rattle.code.specs.Answers.{not_read, shape_paper, shape_values, shape_from, unpacked_paper, unpack_values, unpacked_from}
use Rattle.code.specs.Meaning.{ShapeValues, UnpackValues, number_read, shape_means, unpack_means}
use Rattle.code.specs.Missing.{NineAlone, nine_alone, onward_nine_alone}
use Rattle.code.specs.Promise.{ShapePromise, UnpackPromise}
use Rattle.code.specs.declared.Refusal.{Refusal}
use Rattle.code.specs.declared.Refusal.TheVariants.{RanOut}
use Rattle.code.specs.declared.Shape.{Shape}
use Rattle.code.specs.declared.Unpacked.{Unpacked}
use Rattle.cadence.specs.Meaning.{length_of, seconds_means}
use Rattle.reader.specs.Promise.{ReaderPromise}
use Rattle.reader.specs.declared.Reader.{Reader}
use Rattle.rate.specs.Answers.{reading_paper, counts_values, counts_from, rate_paper, not_formed, formed_values, formed_from}
use Rattle.rate.specs.Meaning.{RateValues, ReadingValues, negative, rate_means, rate_values, reading_means, shape_reads}
use Rattle.rate.specs.Promise as rates
use Rattle.rate.specs.declared.Counts.{Counts}
use Rattle.rate.specs.declared.Formed.{Formed}
use Rattle.rate.specs.declared.NotFormed.{NotFormed}
use Rattle.rate.specs.declared.NotFormed.TheVariants as F
use Rattle.plavotesk.specs.Meaning.{Edges, Quotients, carried_to, edges_of, quotients_of, told_as, told_missing}
use Rattle.plavotesk.specs.Promise.{CodeUnpackPromise, ReadingPromise, RatePromise}

-- each follows from the other
abbrev pub Alike : Type 0 → Type 0 → Type 0
Alike P Q = (P → Q) × (Q → P)

-- ---- what goes on from a shape never runs out of bits itself

after_number : (v : ShapeValues) → number_of (accepted (number_read v)) ≡ 9 → ⊥
after_number v e = omega arith

after_shape : (v : ShapeValues) → number_of (shape_reads v) ≡ 9 → ⊥
after_shape v =
    pick_elim (λ (p : Paper ReadingValues). number_of p ≡ 9 → ⊥) (negative (number_read v).value) (refused 8) _ (λ t e. omega arith) (λ t e. omega arith)

-- what forming a rate does with a reading
abbrev over_level : ℕ → ReadingValues → Paper RateValues
over_level level r = onward (rate_values r) (seconds_means level)

after_reading : (level : ℕ) (r : ReadingValues) → number_of (over_level level r) ≡ 9 → ⊥
after_reading level r =
    pick_elim (λ (p : Paper ℕ). number_of (onward (rate_values r) p) ≡ 9 → ⊥) (ltb 7 level) (refused 19) (accepted (length_of level))
    (λ t e. omega arith)
    (λ t e. omega arith)

-- ---- by the definitions

module _ (bytes : List ℕ) (at d : ℕ) {n : ℕ} where
  number_hands_on : Alike (shape_means bytes at d ≡ refused_with 9 n) (unpack_means bytes at d ≡ refused_with 9 n)
  number_hands_on = handed_on (λ (v : ShapeValues). accepted (number_read v)) after_number (shape_means bytes at d)

  counts_hand_on : Alike (shape_means bytes at d ≡ refused_with 9 n) (reading_means bytes at d ≡ refused_with 9 n)
  counts_hand_on = handed_on shape_reads after_shape (shape_means bytes at d)

  over_level_hands_on : (level : ℕ) → Alike (reading_means bytes at d ≡ refused_with 9 n) (rate_means bytes at d level ≡ refused_with 9 n)
  over_level_hands_on level = handed_on (over_level level) (after_reading level) (reading_means bytes at d)

-- ---- by the outcomes of calls

-- two answers, of which the papers are refused by 9 alike
answers_alike : {A B X Y : Type 0} (one : X → Paper A) (one_back : Paper A → X) → ((x : X) → one_back (one x) ≡ x)
    → (other : Y → Paper B) (other_back : Paper B → Y) → ((y : Y) → other_back (other y) ≡ y) → {n : ℕ} {p : Paper A} {q : Paper B}
    → Alike (p ≡ refused_with 9 n) (q ≡ refused_with 9 n) → (x : X) (y : Y) → one x ≡ p → other y ≡ q
    → one (one_back (refused_with 9 n)) ≡ refused_with 9 n → other (other_back (refused_with 9 n)) ≡ refused_with 9 n
    → Alike (x ≡ one_back (refused_with 9 n)) (y ≡ other_back (refused_with 9 n))
answers_alike one one_back one_home other other_back other_home alike x y e f i j = (
  λ g. sym (other_home y) ∙ ap other_back (f ∙ alike.0 (sym e ∙ ap one g ∙ i)),
  λ g. sym (one_home x) ∙ ap one_back (e ∙ alike.1 (sym f ∙ ap other g ∙ j)),
)

-- the answers that papers came from
abbrev shape_off : Paper ShapeValues → Result Shape Refusal
shape_off p = off_paper not_read (mapped shape_from p)

shape_home : (a : Result Shape Refusal) → shape_off (shape_paper a) ≡ a
shape_home = off_on_paper_as not_read shape_values shape_from (λ s. refl)

module _ (bytes : List ℕ) (at d : ℕ) (a : Result Shape Refusal) (p : ShapePromise bytes at d a) (n : ℕ) where
  -- `unpack`
  pub unpack_hands_on : (r : Result Unpacked Refusal) → UnpackPromise bytes at d r → Alike (a ≡ Err (RanOut n)) (r ≡ Err (RanOut n))
  unpack_hands_on r q =
      answers_alike shape_paper shape_off shape_home unpacked_paper (λ (p : Paper UnpackValues). off_paper not_read (mapped unpacked_from p))
      (off_on_paper_as not_read unpack_values unpacked_from (λ u. refl)) (number_hands_on bytes at d) a r p.answer q.answer refl refl

  -- `reading`
  pub reading_hands_on : (r : Result Counts Refusal) → rates.ReadingPromise bytes at d r → Alike (a ≡ Err (RanOut n)) (r ≡ Err (RanOut n))
  reading_hands_on r q =
      answers_alike shape_paper shape_off shape_home reading_paper (λ (p : Paper ReadingValues). off_paper not_read (mapped counts_from p))
      (off_on_paper_as not_read counts_values counts_from (λ c. refl)) (counts_hand_on bytes at d) a r p.answer q.answer refl refl

  -- `rate`, whatever the level
  pub rate_hands_on : (level : ℕ) (r : Result Formed NotFormed) → rates.RatePromise bytes at d level r
      → Alike (a ≡ Err (RanOut n)) (r ≡ Err (F.Refused (RanOut n)))
  rate_hands_on level r q =
      answers_alike shape_paper shape_off shape_home rate_paper (λ (p : Paper RateValues). off_paper not_formed (mapped formed_from p))
      (off_on_paper_as not_formed formed_values formed_from (λ f. refl)) both a r p.answer q.answer refl refl
    where
      both : Alike (shape_means bytes at d ≡ refused_with 9 n) (rate_means bytes at d level ≡ refused_with 9 n)
      both = (
        λ e. (over_level_hands_on bytes at d level).0 ((counts_hand_on bytes at d).0 e),
        λ e. (counts_hand_on bytes at d).1 ((over_level_hands_on bytes at d level).1 e),
      )

-- the Reader: one that was made over lent bytes, or moved, and is asked
pub reader_hands_on : (bytes : Bor (List ℕ)) (at d : ℕ) (a : Result Shape Refusal) → ShapePromise bytes.now at d a → (n : ℕ) (q : Reader)
    → ReaderPromise bytes at q → (r : Result Unpacked Refusal) → UnpackPromise q.bytes.now q.at d r → Alike (a ≡ Err (RanOut n)) (r ≡ Err (RanOut n))
reader_hands_on bytes at d a p n q made r asked =
    unpack_hands_on bytes.now at d a p n r
    (subst (λ (l : Bor (List ℕ)). UnpackPromise l.now at d r) made.lent (subst (λ (k : ℕ). UnpackPromise q.bytes.now k d r) made.place asked))

-- ---- the exported calls

-- what is told of a refusal by 9: the number, what the other places held, and the bits missing
nine_told : {A X : Type 0} (places : A → X) (held : X) (missing n : ℕ) {p : Paper A} {o : (ℕ × X) × ℕ} → o ≡ told_missing places p held missing
    → p ≡ refused_with 9 n → ◌≡◌ {A = (ℕ × X) × ℕ} o ((9, held), n)
unfolding told_as carried_to
nine_told {A} places held missing n e f = e ∙ ap (λ (q : Paper A). told_missing places q held missing) f

module _ (bytes : List ℕ) (at d n missing : ℕ) (p : ShapePromise bytes at d (Err (RanOut n))) where
  pub plv_code_unpack_tells : (held : UnpackValues) (o : (ℕ × UnpackValues) × ℕ) → CodeUnpackPromise bytes at d held missing o
      → ◌≡◌ {A = (ℕ × UnpackValues) × ℕ} o ((9, held), n)
  plv_code_unpack_tells held o e = nine_told (λ (v : UnpackValues). v) held missing n e ((number_hands_on bytes at d).0 (sym p.answer))

  pub plv_reading_tells : (held : Edges) (o : (ℕ × Edges) × ℕ) → ReadingPromise bytes at d held missing o → ◌≡◌ {A = (ℕ × Edges) × ℕ} o ((9, held), n)
  plv_reading_tells held o e =
      nine_told (λ (v : ReadingValues). edges_of v.reading v.next) held missing n e ((counts_hand_on bytes at d).0 (sym p.answer))

  pub plv_rate_tells : (level : ℕ) (held : Quotients) (o : (ℕ × Quotients) × ℕ) → RatePromise bytes at d level held missing o
      → ◌≡◌ {A = (ℕ × Quotients) × ℕ} o ((9, held), n)
  plv_rate_tells level held o e =
      nine_told (λ (v : RateValues). quotients_of v.rate v.next) held missing n e
      ((over_level_hands_on bytes at d level).0 ((counts_hand_on bytes at d).0 (sym p.answer)))

-- no other number comes with bits missing: their place keeps what it held
kept : {A X : Type 0} (places : A → X) (p : Paper A) (held : X) (missing : ℕ) → NineAlone p → ((told_missing places p held missing).0.0 ≡ 9 → ⊥)
    → (told_missing places p held missing).1 ≡ missing
unfolding told_as carried_to
kept places (accepted v) held missing alone other = refl
kept places (refusal m carried) held missing alone other = ap (λ (l : List ℕ). get_or l 0 missing) (alone other)

-- whatever the call makes of a code
pub no_other_carries : {X : Type 0} (bytes : List ℕ) (at d : ℕ) (held : X) (missing : ℕ) (o : (ℕ × X) × ℕ) → (o.0.0 ≡ 9 → ⊥)
    → ((places : UnpackValues → X) → o ≡ told_missing places (unpack_means bytes at d) held missing → o.1 ≡ missing)
    × ((places : ReadingValues → X) → o ≡ told_missing places (reading_means bytes at d) held missing → o.1 ≡ missing)
    × ((level : ℕ) (places : RateValues → X) → o ≡ told_missing places (rate_means bytes at d level) held missing → o.1 ≡ missing)
no_other_carries {X} bytes at d held missing o other = (
  λ places e. by_paper places (unpack_means bytes at d) (onward_nine_alone _ (λ v. tt) (shape_means bytes at d) (nine_alone bytes at d)) e,
  λ places e. by_paper places (reading_means bytes at d) counts e,
  λ level places e. by_paper places (rate_means bytes at d level) (onward_nine_alone (over_level level) (over level) (reading_means bytes at d) counts) e,
)
  where
    by_paper : {A : Type 0} (places : A → X) (p : Paper A) → NineAlone p → o ≡ told_missing places p held missing → o.1 ≡ missing
    by_paper places p alone e =
        ap (λ (y : (ℕ × X) × ℕ). y.1) e ∙ kept places p held missing alone (λ z. other (ap (λ (y : (ℕ × X) × ℕ). y.0.0) e ∙ z))

    negatives : (v : ShapeValues) → NineAlone (shape_reads v)
    negatives v = pick_elim NineAlone (negative (number_read v).value) (refused 8) _ (λ t none. refl) (λ t. tt)

    counts : NineAlone (reading_means bytes at d)
    counts = onward_nine_alone shape_reads negatives (shape_means bytes at d) (nine_alone bytes at d)

    over : (level : ℕ) (r : ReadingValues) → NineAlone (over_level level r)
    over level r =
        pick_elim (λ (p : Paper ℕ). NineAlone (onward (rate_values r) p)) (ltb 7 level) (refused 19) (accepted (length_of level)) (λ t none. refl) (λ t. tt)
