-- Two outcomes that meet a packet ask's promise are equal: answer, memory, state and buffer.
-- Assumes nothing.
use Rattle.std.specs.Prelude.{◌≡◌, List, ℕ, Result}
use Rattle.std.proofs.Common.{ap}
use Rattle.ground.specs.Paper.{number_of, one_value}
use Rattle.ground.specs.Refusals.{one_outcome_as}
use Rattle.item.specs.Inputs.{Inputs}
use Rattle.packet_ask.specs.Answers.{not_asked, packet_paper, value_of, value_back, value_home}
use Rattle.packet_ask.specs.Meaning.{PacketLent}
use Rattle.packet_ask.specs.Promise.{PacketPromise}
use Rattle.packet_ask.specs.declared.Answered.{Answered}
use Rattle.packet_ask.specs.declared.NotAsked.{NotAsked}

-- a packet ask
pub ask_packet_one : {m w b : List ℕ} {number : ℕ} {i : Inputs} {r s : Result Answered NotAsked} {m' n' w' v' b' c' : List ℕ}
    → PacketPromise m w b number i r m' w' b' → PacketPromise m w b number i s n' v' c' → (r ≡ s) × (m' ≡ n') × (w' ≡ v') × (b' ≡ c')
ask_packet_one p q =
    let one = one_outcome_as not_asked value_of value_back value_home p.outcome q.outcome in
    (one.0, ap (λ (l : PacketLent). l.memory) one.1, ap (λ (l : PacketLent). l.state) one.1, ap (λ (l : PacketLent). l.buffer) one.1)

-- one number for its answer
pub packet_number_one : (answer : Result Answered NotAsked) {m n : ℕ} → m ≡ number_of (packet_paper answer) → n ≡ number_of (packet_paper answer) → m ≡ n
packet_number_one answer p q = one_value p q
