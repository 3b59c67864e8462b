-- `histogram::feed` meets its contract. Where the next is not counted, counting left the memory as it was.
-- Assumes nothing.
use mathlib.Core.Path.{◌≡◌, ◌∙◌, sym}
use mathlib.Core.Bool.{Bool}
use mathlib.Core.List.{List}
use Prim.Native.Nat.{ℕ, ◌<◌}
use native.Mathlib.Omega.{arith}
use lib.ListN.{drop, get_or, length}
use lib.Seq.{drop-cons}
use Rattle.std.specs.Prelude.{Err}
use Rattle.ground.specs.Outcome.{Refuses, accept, refused_left}
use Rattle.pages.specs.Answers.{not_counted}
use Rattle.pages.specs.Outcomes.{count_stays}
use Rattle.pages.specs.Promise.{CountPromise}
use Rattle.pages.specs.declared.NotCounted.{NotCounted}
use Rattle.histogram.specs.Meaning.{feed_of}
use Rattle.histogram.proofs.feed.Goals as goal

-- no particle is refused by 0
refuses : (why : NotCounted) → Refuses (not_counted.number why)
refuses NotCounted.WrongAddress e = omega arith
refuses NotCounted.Full e = omega arith
refuses NotCounted.AboveFull e = omega arith

-- the next would be refused
ends : (m : List ℕ) (page : Bool) (addresses : List ℕ) (i : ℕ) → i < length addresses → {why : NotCounted} {m' : List ℕ}
    → CountPromise m page (get_or addresses i 0) (Err why) m'
    → accept (record { count = i; ended = not_counted.number why }) m' ≡ feed_of i m page (drop i addresses)
ends m page addresses i h {why} p =
    let left = refused_left p.outcome (count_stays m page (get_or addresses i 0)) (refuses why) in
    rw (drop-cons addresses i 0 h, ← p.outcome, left)

pub returns-in-Err : goal.returns-in-Err
returns-in-Err c = ends _ _ _ _ c.loop-done-test.true c.in-Err.ensures ∙ sym c.loop-done.invariant
