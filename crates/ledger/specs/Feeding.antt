-- A run of increments is so many single ones, and what the next ask's number is.
-- Assumes nothing.
use Rattle.std.specs.Prelude.{Bool, false, ◌≡◌, refl, List, [], ◌∷◌, map, ℕ, suc, ◌+◌, ◌<◌, ◌≤◌, length, take, get_or}
use Rattle.std.proofs.Common.{sym, ap, ap₂, ◌∙◌, subst, zero-le, add-zero, arith}
use Rattle.ground.specs.Outcome.{Outcome, Stays, refuse}
use Rattle.ground.specs.Paper.{Paper, accepted, refusal, mapped, number_of, refused_not}
use Rattle.pages.specs.Meaning.{count_means}
use Rattle.pages.specs.Outcomes.{count_elim}
use Rattle.state.specs.Words.{page_in}
use Rattle.histogram.specs.Meaning.{Admits, CallOutcome, Fed, counting, done, feed_of, goes_on, increment_means, increments_means, lent}
use Rattle.histogram.specs.Outcomes.{increments_elim}
use Rattle.ledger.specs.Runs.{Call, increment, flip, ask, ask_packet, Ledger, NoNew, accepted_by, answered, call_means, is_new, run, step}
use Rattle.ledger.specs.Outcomes.{call_elim}
use Rattle.ledger.specs.Stays.{call_admits}

-- what a run of increments from a ledger leaves: the first so many, one by one, all of them accepted; it ended at the address that would be refused
-- next, by that refusal's number, or with the last
pub record FedRun (before : ℕ) (l : Ledger) (addresses : List ℕ) (o : Outcome Fed (List ℕ)) : Type 0 where
  pub fed : ℕ
  pub ended : ℕ
  pub few : fed ≤ length addresses
  pub answer : o.answer ≡ accepted (record { count = before + fed; ended = ended })
  pub same : run l (map increment (take fed addresses))
      ≡ record { memory = o.leaves; state = l.state; cleared = l.cleared; increments = l.increments + fed }
  pub whole : ended ≡ 0 → fed ≡ length addresses
  pub next : fed < length addresses → ended ≡ number_of (answered (run l (map increment (take fed addresses))) (increment (get_or addresses fed 0))).answer

module _ (l : Ledger) (a : ℕ) (h : Admits l.memory l.state) where
  -- an increment on a ledger is what counting is
  counts : answered l (increment a) ≡ counting l.state (count_means l.memory (page_in l.state) a)
  unfolding increment_means
  counts = rw h

  -- a counted one
  counted_step : (count_means l.memory (page_in l.state) a).answer ≡ accepted tt
      → step l (increment a)
      ≡ record {
        memory = (count_means l.memory (page_in l.state) a).leaves;
        state = l.state;
        cleared = l.cleared + 0;
        increments = l.increments + 1;
      }
  counted_step e =
      ap (λ (o : CallOutcome). record {
        memory = o.leaves.memory;
        state = o.leaves.state;
        cleared = l.cleared + 0;
        increments = l.increments + accepted_by (increment a) o.answer;
      }) counts
      ∙ ap (λ (p : Paper (Unit {0})). record {
        memory = (count_means l.memory (page_in l.state) a).leaves;
        state = l.state;
        cleared = l.cleared + 0;
        increments = l.increments + accepted_by (increment a) (mapped (λ x. done) p);
      }) e

  -- its number is counting's
  counts_number : number_of (answered l (increment a)).answer ≡ number_of (count_means l.memory (page_in l.state) a).answer
  counts_number =
      ap (λ (o : CallOutcome). number_of o.answer) counts
      ∙ number_mapped (count_means l.memory (page_in l.state) a).answer
    where
      number_mapped : (p : Paper (Unit {0})) → number_of (mapped (λ x. done) p) ≡ number_of p
      number_mapped (accepted x) = refl
      number_mapped (refusal n carried) = refl

-- a refusal's number is not 0
refused_some : (m : List ℕ) (page : Bool) (a n : ℕ) (carried : List ℕ) → (count_means m page a).answer ≡ refusal n carried → 0 < n
refused_some m page a n carried =
    count_elim (λ (o : Outcome (Unit {0}) (List ℕ)). o.answer ≡ refusal n carried → 0 < n) m page a
    (λ k e. absurd (refused_not (sym e)))
    (λ k z e. let same : k ≡ n = ap number_of e in omega arith)

-- a ledger with no increment more is the same ledger
none_more : (l : Ledger) → l ≡ record { memory = l.memory; state = l.state; cleared = l.cleared; increments = l.increments + 0 }
none_more l = ap (λ (k : ℕ). record { memory = l.memory; state = l.state; cleared = l.cleared; increments = k }) (sym (add-zero l.increments))

-- every run of increments, on memory and state that are admitted
pub feed_run : (addresses : List ℕ) (before : ℕ) (l : Ledger) → Admits l.memory l.state
    → FedRun before l addresses (feed_of before l.memory (page_in l.state) addresses)
feed_run [] before l h =
    record {
      fed = 0;
      ended = 0;
      few = zero-le;
      answer = ap (λ (k : ℕ). accepted (record { count = k; ended = 0 })) (sym (add-zero before));
      same = none_more l;
      whole = λ e. refl;
      next = λ k. absurd (omega arith);
    }
feed_run (a ∷ rest) before l h =
    go (λ k h'. feed_run rest (suc before) k h') (count_means l.memory (page_in l.state) a).answer refl
  where
    after : Ledger
    after =
        record {
          memory = (count_means l.memory (page_in l.state) a).leaves;
          state = l.state;
          cleared = l.cleared + 0;
          increments = l.increments + 1;
        }

    counted : FedRun (suc before) after rest (feed_of (suc before) after.memory (page_in l.state) rest) → step l (increment a) ≡ after
        → FedRun before l (a ∷ rest) (feed_of (suc before) after.memory (page_in l.state) rest)
    counted r is =
        let fed : ℕ = suc r.fed in
        let long : before + fed ≡ suc before + r.fed = omega arith in
        let cleared : l.cleared + 0 ≡ l.cleared = add-zero l.cleared in
        let increments : l.increments + 1 + r.fed ≡ l.increments + fed = omega arith in
        let runs : run l (map increment (take fed (a ∷ rest))) ≡ run after (map increment (take r.fed rest))
        = ap (λ (k : Ledger). run k (map increment (take r.fed rest))) is in
        record {
          fed = fed;
          ended = r.ended;
          few = omega (arith, r.few);
          answer = r.answer ∙ ap (λ (k : ℕ). accepted (record { count = k; ended = r.ended })) (sym long);
          same =
              runs ∙ r.same
              ∙ ap₂ (λ (x y : ℕ). record {
                memory = (feed_of (suc before) after.memory (page_in l.state) rest).leaves;
                state = l.state;
                cleared = x;
                increments = y;
              }) cleared increments;
          whole = λ z. omega (arith, r.whole z);
          next = λ k. r.next (omega arith) ∙ ap (λ (x : Ledger). number_of (answered x (increment (get_or rest r.fed 0))).answer) (sym runs);
        }

    go : ((k : Ledger) → Admits k.memory k.state → FedRun (suc before) k rest (feed_of (suc before) k.memory (page_in k.state) rest))
        → (p : Paper (Unit {0})) → (count_means l.memory (page_in l.state) a).answer ≡ p
        → FedRun before l (a ∷ rest) (goes_on p (feed_of (suc before) after.memory (page_in l.state) rest) before l.memory)
    go ih (accepted x) e =
        let is : step l (increment a) ≡ after = counted_step l a h e in
        counted (ih after (subst (λ (k : Ledger). Admits k.memory k.state) is (call_admits l (increment a) ∙ h))) is
    go ih (refusal n carried) e =
        record {
          fed = 0;
          ended = n;
          few = zero-le;
          answer = ap (λ (k : ℕ). accepted (record { count = k; ended = n })) (sym (add-zero before));
          same = none_more l;
          whole = λ z. absurd (omega (arith, refused_some l.memory (page_in l.state) a n carried e));
          next = λ k. sym (counts_number l a h ∙ ap number_of e);
        }

-- demand 1 of it: refused, it leaves memory and state as they were
pub increments_stays : (m w addresses : List ℕ) → Stays (lent m w) (increments_means m w addresses)
increments_stays m w addresses =
    increments_elim m w addresses (Stays (lent m w))
    (λ h f. absurd (f (ap number_of (feed_run addresses 0 (record { memory = m; state = w; cleared = 0; increments = 0 }) h).answer)))
    (λ n z f. refl)

-- an increment is no new ask
abbrev Old : Call → CallOutcome → Type 0
Old (increment address) o = is_new o.answer ≡ false
Old flip o = Unit {0}
Old (ask number v) o = Unit {0}
Old (ask_packet number i buffer) o = Unit {0}

refusal_old : (m w : List ℕ) (c : Call) (n : ℕ) → Old c (refuse n (lent m w))
refusal_old m w (increment address) n = refl
refusal_old m w flip n = tt
refusal_old m w (ask number v) n = tt
refusal_old m w (ask_packet number i buffer) n = tt

increment_old : (m w : List ℕ) (a : ℕ) → is_new (call_means m w (increment a)).answer ≡ false
increment_old m w a =
    call_elim Old m w (λ c n z. refusal_old m w c n) (λ h b k. refl) (λ h. tt) (λ h number v k t. tt) (λ h number sum v. tt)
    (λ h number i buffer r few e t. tt) (λ h number total i buffer. tt) (increment a)

-- nor is any of a run
pub run_old : (l : Ledger) (addresses : List ℕ) → NoNew l (map increment addresses)
run_old l [] = tt
run_old l (a ∷ rest) = (increment_old l.memory l.state a, run_old (step l (increment a)) rest)
