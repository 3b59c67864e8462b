-- What building promises of its answer, and of the memory and the buffer at exit: one equation.
-- Assumes nothing.
use Rattle.std.specs.Prelude.{Bool, List, ◌≡◌, ℕ, Result}
use Rattle.ground.specs.Outcome.{outcome_of}
use Rattle.item.specs.Inputs.{Inputs}
use Rattle.data_packet.specs.Answers.{built_paper}
use Rattle.data_packet.specs.Meaning.{build_means, memory_and_buffer}
use Rattle.data_packet.specs.declared.NotBuilt.{NotBuilt}
use Rattle.data_packet.specs.declared.Packet.{Packet}

-- what building promises
pub record BuildPromise (memory : List ℕ) (page : Bool) (i : Inputs) (buffer : List ℕ) (r : Result Packet NotBuilt) (memory' buffer' : List ℕ) : Type 0 where
  pub outcome : outcome_of (built_paper r) (memory_and_buffer memory' buffer') ≡ build_means memory page i buffer
