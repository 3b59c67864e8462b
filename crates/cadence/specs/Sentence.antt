-- The computed highest level is the one of document 01's sentence: the two readings agree.
-- Assumes nothing.
use Rattle.std.specs.Prelude.{◌≡◌, refl, ℕ, ◌%◌, ltb}
use Rattle.std.proofs.Common.{sym, ap, ◌∙◌, subst, lt_of_lt_of_le, lt_irrefl, arith, eq-eqb, eqb-true, ltb-true, ltb-false}
use Rattle.ground.specs.Choice.{pick_elim}
use Rattle.ground.specs.Greatest.{greatest_is, greatest_one}
use Rattle.ground.specs.Paper.{Paper, accepted, refusal, refused}
use Rattle.cadence.specs.Meaning.{divides_of, Highest, LevelIn, highest_dividing, level_means}

-- the computed level is the sentence's
pub highest_is : (t : ℕ) → Highest t (highest_dividing t)
highest_is t =
    let g = greatest_is (divides_of t) 7 (eq-eqb (t % 1) 0 (omega arith)) in
    record {
      has = record { within = g.has.0; whole = eqb-true _ _ g.has.1 };
      most = λ k p. g.most k (p.within, eq-eqb _ _ p.whole);
    }

-- a level that the computation gives is the sentence's
pub highest_when : {t level : ℕ} → level ≡ highest_dividing t → Highest t level
highest_when {t} e = subst (λ (l : ℕ). Highest t l) (sym e) (highest_is t)

-- the sentence's level is the computed one
pub highest_only : {t level : ℕ} → Highest t level → level ≡ highest_dividing t
highest_only {t} p = greatest_one p (highest_is t)

-- the sentence has one answer to a second
pub level_one : (second elapsed : ℕ) (p q : Paper ℕ) → LevelIn second elapsed p → LevelIn second elapsed q → p ≡ q
level_one second elapsed (accepted a) (accepted b) x y = ap accepted (greatest_one x.1 y.1)
level_one second elapsed (accepted a) (refusal n carried) x y = absurd (lt_irrefl 3599 (lt_of_lt_of_le y.0 x.0))
level_one second elapsed (refusal n carried) (accepted b) x y = absurd (lt_irrefl 3599 (lt_of_lt_of_le x.0 y.0))
level_one second elapsed (refusal m c) (refusal n d) x y = x.1 ∙ sym y.1

-- the computed answer is the sentence's
pub means_level : (second elapsed : ℕ) → LevelIn second elapsed (level_means second elapsed)
means_level second elapsed =
    pick_elim (λ (p : Paper ℕ). LevelIn second elapsed p) (ltb 3599 second) (refused 19) (accepted (highest_dividing elapsed))
    (λ e. (ltb-true 3599 second e, refl)) (λ e. (ltb-false 3599 second e, highest_is elapsed))

-- the sentence's answer is the computed one
pub level_means_lem : (second elapsed : ℕ) (p : Paper ℕ) → LevelIn second elapsed p → p ≡ level_means second elapsed
level_means_lem second elapsed p t = level_one second elapsed p (level_means second elapsed) t (means_level second elapsed)
