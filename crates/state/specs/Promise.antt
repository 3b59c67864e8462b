-- What a public call promises of its answer: one equation.
-- Assumes nothing.
use Rattle.std.specs.Prelude.{◌≡◌, List, ℕ, Result}
use Rattle.state.specs.Answers.{next_paper}
use Rattle.state.specs.Meaning.{next_means}
use Rattle.state.specs.declared.NoNext.{NoNext}

-- what the number of the next ask promises; the state is lent unchangeable
pub record NextPromise (state : List ℕ) (r : Result ℕ NoNext) : Type 0 where
  pub answer : next_paper r ≡ next_means state
