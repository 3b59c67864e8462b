-- What each public call promises of its answer and the memory at exit: one equation a call.
-- Assumes nothing.
use Rattle.std.specs.Prelude.{Bool, ◌≡◌, List, ℕ, ◌≤◌, length, replicate, Result, Ok}
use Rattle.ground.specs.Outcome.{outcome_of}
use Rattle.pages.specs.Meaning.{check_means, count_means, sized_of, take_means}
use Rattle.pages.specs.Passes.{pass_means}
use Rattle.pages.specs.Answers.{checked_paper, count_paper, passed_paper, taken_paper}
use Rattle.pages.specs.declared.Window.{Window}
use Rattle.pages.specs.declared.NotCounted.{NotCounted}
use Rattle.pages.specs.declared.NotTaken.{NotTaken}
use Rattle.pages.specs.declared.Pass.{Pass}
use Rattle.pages.specs.declared.WrongCell.{WrongCell}

-- what the size rule promises
pub record SizedPromise (words : ℕ) (r : Bool) : Type 0 where
  pub answer : r ≡ sized_of words

-- what clearing promises: "sets all to 0"
pub record ClearPromise (before after : List ℕ) : Type 0 where
  pub memory : after ≡ replicate (length before) 0

-- what counting promises
pub record CountPromise (before : List ℕ) (page : Bool) (address : ℕ) (r : Result (Unit {0}) NotCounted) (after : List ℕ) : Type 0 where
  pub outcome : outcome_of (count_paper r) after ≡ count_means before page address

-- what checking a window promises, which taking it asks first; the memory is lent unchangeable
pub record CheckPromise (before : List ℕ) (page : Bool) (w : Window) (r : Result (Unit {0}) NotTaken) : Type 0 where
  pub answer : checked_paper r ≡ check_means before page w

-- what taking a window promises
pub record TakePromise (before : List ℕ) (page : Bool) (w : Window) (r : Result ℕ NotTaken) (after : List ℕ) : Type 0 where
  pub outcome : outcome_of (taken_paper r) after ≡ take_means before page w

-- what going over a window promises; the sum is far below the machine's limit
pub record PassPromise (before : List ℕ) (page : Bool) (rule : Pass) (w : Window) (r : Result ℕ WrongCell) (after : List ℕ) : Type 0 where
  pub outcome : outcome_of (passed_paper r) after ≡ pass_means before page rule w
  pub small : (sum : ℕ) → r ≡ Ok sum → sum ≤ 281474976710656
