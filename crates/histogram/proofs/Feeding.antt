-- A run of increments as the loop goes: so many counted, and the rest still to come.
-- Assumes nothing.
use mathlib.Core.Path.{◌≡◌, refl, sym, ap, ◌∙◌}
use mathlib.Core.Bool.{Bool}
use mathlib.Core.List.{List}
use Prim.Native.Nat.{ℕ, suc, ◌+◌, ◌<◌, ◌≤◌, zero-le}
use native.Mathlib.Numerals.{add-one}
use native.Mathlib.Omega.{arith}
use lib.ListN.{length, drop, get_or}
use lib.Seq.{drop-cons}
use Rattle.ground.specs.Outcome.{Outcome}
use Rattle.ground.specs.Paper.{number_of}
use Rattle.pages.specs.Answers.{count_paper}
use Rattle.pages.specs.Promise.{CountPromise}
use Rattle.pages.specs.declared.NotCounted.{NotCounted}
use Rattle.pages.specs.declared.NotCounted.TheVariants.{WrongAddress, Full, AboveFull}
use Rattle.std.specs.Prelude.{Result, Ok, Err}
use Rattle.histogram.specs.Meaning.{Fed, feed_of, goes_on}

-- so many addresses are counted, and what is left of them is fed to the memory as it is now
pub record Feeding (m₀ : List ℕ) (page : Bool) (addresses m : List ℕ) (i : ℕ) : Type 0 where
  pub within : i ≤ length addresses
  pub long : length m ≡ length m₀
  pub rest : feed_of 0 m₀ page addresses ≡ feed_of i m page (drop i addresses)

pub feeding_none : (m : List ℕ) (page : Bool) (addresses : List ℕ) → Feeding m page addresses m 0
feeding_none m page addresses = record { within = zero-le; long = refl; rest = refl }

module _ {m₀ : List ℕ} {page : Bool} {addresses m : List ℕ} {i : ℕ} (f : Feeding m₀ page addresses m i) where
  -- what comes next, by what counting answered
  next_is : i < length addresses → {c : Result (Unit {0}) NotCounted} {m' : List ℕ} → CountPromise m page (get_or addresses i 0) c m'
      → feed_of 0 m₀ page addresses ≡ goes_on (count_paper c) (feed_of (suc i) m' page (drop (suc i) addresses)) i m
  next_is h {c} {m'} p =
      f.rest
      ∙ ap (feed_of i m page) (drop-cons addresses i 0 h)
      ∙ ap (λ (o : Outcome (Unit {0}) (List ℕ)). goes_on o.answer (feed_of (suc i) o.leaves page (drop (suc i) addresses)) i m) (sym p.outcome)

  -- one more is counted
  pub feeding_more : i < length addresses → {c : Result (Unit {0}) NotCounted} {m' : List ℕ} → CountPromise m page (get_or addresses i 0) c m'
      → length m' ≡ length m → number_of (count_paper c) ≡ 0 → Feeding m₀ page addresses m' (i + 1)
  feeding_more h {c} {m'} p long z =
      record {
        within = omega arith;
        long = long ∙ f.long;
        rest =
            next_is h p ∙ on c z _
            ∙ ap (λ (k : ℕ). feed_of k m' page (drop k addresses)) (sym (add-one i));
      }
    where
      on : (c : Result (Unit {0}) NotCounted) → number_of (count_paper c) ≡ 0 → (o : Outcome Fed (List ℕ)) → goes_on (count_paper c) o i m ≡ o
      on (Ok x) z o = refl
      on (Err WrongAddress) z o = absurd (omega arith)
      on (Err Full) z o = absurd (omega arith)
      on (Err AboveFull) z o = absurd (omega arith)
