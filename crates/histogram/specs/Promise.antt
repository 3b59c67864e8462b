-- What each public call promises of its answer, the memory and the state's words at exit: one equation a call.
-- Assumes nothing.
use Rattle.std.specs.Prelude.{◌≡◌, List, ℕ, Result}
use Rattle.ground.specs.Outcome.{outcome_of}
use Rattle.histogram.specs.Answers.{opened_paper, increment_paper, increments_paper, flip_paper}
use Rattle.ground.specs.Refusals.{on_paper}
use Rattle.state.specs.Answers.{wrong_memory}
use Rattle.state.specs.declared.WrongMemory.{WrongMemory}
use Rattle.histogram.specs.Meaning.{admission, flip_means, increment_means, increments_means, lent, open_means}
use Rattle.histogram.specs.declared.Fed.{Fed}
use Rattle.histogram.specs.declared.NotIncremented.{NotIncremented}

-- what admission promises, which every call but opening asks first; memory and state are lent unchangeable
pub record AdmitPromise (memory state : List ℕ) (r : Result (Unit {0}) WrongMemory) : Type 0 where
  pub answer : on_paper wrong_memory r ≡ admission memory state

-- what opening promises
pub record OpenPromise (memory state : List ℕ) (r : Result (Unit {0}) WrongMemory) (memory' state' : List ℕ) : Type 0 where
  pub outcome : outcome_of (opened_paper r) (lent memory' state') ≡ open_means memory state

-- what an increment promises; the state is lent unchangeable
pub record IncrementPromise (memory state : List ℕ) (address : ℕ) (r : Result (Unit {0}) NotIncremented) (memory' : List ℕ) : Type 0 where
  pub outcome : outcome_of (increment_paper r) (lent memory' state) ≡ increment_means memory state address

-- what a run of increments promises; the state is lent unchangeable
pub record IncrementsPromise (memory state addresses : List ℕ) (r : Result Fed WrongMemory) (memory' : List ℕ) : Type 0 where
  pub outcome : outcome_of (increments_paper r) (lent memory' state) ≡ increments_means memory state addresses

-- what a flip promises; the memory is lent unchangeable
pub record FlipPromise (memory state : List ℕ) (r : Result (Unit {0}) WrongMemory) (state' : List ℕ) : Type 0 where
  pub outcome : outcome_of (flip_paper r) (lent memory state') ≡ flip_means memory state
