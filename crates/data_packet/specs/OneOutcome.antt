-- Two outcomes that meet building's promise are equal: answer, memory and buffer.
-- Assumes nothing.
use Rattle.std.specs.Prelude.{Bool, List, ◌≡◌, refl, ℕ, Result}
use Rattle.std.proofs.Common.{ap}
use Rattle.ground.specs.Refusals.{one_outcome_as}
use Rattle.item.specs.Inputs.{Inputs}
use Rattle.data_packet.specs.Answers.{not_built, packet_values, packet_back}
use Rattle.data_packet.specs.Meaning.{MemoryAndBuffer}
use Rattle.data_packet.specs.Promise.{BuildPromise}
use Rattle.data_packet.specs.declared.NotBuilt.{NotBuilt}
use Rattle.data_packet.specs.declared.Packet.{Packet}

-- building has one outcome
pub build_one : (m : List ℕ) (page : Bool) (i : Inputs) (b : List ℕ) (r r' : Result Packet NotBuilt) (memory memory' buffer buffer' : List ℕ)
    → BuildPromise m page i b r memory buffer → BuildPromise m page i b r' memory' buffer' → (r ≡ r') × (memory ≡ memory') × (buffer ≡ buffer')
build_one m page i b r r' memory memory' buffer buffer' p q =
    let one = one_outcome_as not_built packet_values packet_back (λ x. refl) p.outcome q.outcome in
    (one.0, ap (λ (x : MemoryAndBuffer). x.memory) one.1, ap (λ (x : MemoryAndBuffer). x.buffer) one.1)
