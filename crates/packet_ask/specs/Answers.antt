-- A packet ask's answer as the documents have it, and its refusals' numbers.
-- Assumes nothing.
use Rattle.std.specs.Prelude.{◌≡◌, refl, [], ℕ, ◌||◌, eqb, Option, Some, None, Result}
use Rattle.ground.specs.Choice.{pick}
use Rattle.ground.specs.Paper.{Paper, accepted, mapped, refused}
use Rattle.ground.specs.Refusals.{Refusals, on_paper}
use Rattle.state.specs.Answers.{no_turn, wrong_memory}
use Rattle.state.specs.declared.NoTurn.TheVariants as turning
use Rattle.data_packet.specs.Answers.{not_built, packet_back, packet_values}
use Rattle.data_packet.specs.declared.NotBuilt.TheVariants as building
use Rattle.packet_ask.specs.Meaning.{PacketValue, new_packet, packet_again}
use Rattle.packet_ask.specs.declared.Answered.{Answered}
use Rattle.packet_ask.specs.declared.NotAsked.{NotAsked}
use Rattle.packet_ask.specs.declared.NotAsked.TheVariants.{Memory, Turn, Packet}

-- a packet ask that is refused: 13, 17 or 18, or building's 3, 12, 14, 16, 19, 22, 23
abbrev pub not_asked : Refusals NotAsked
not_asked =
    record {
      number = elim [ Memory why ↦ wrong_memory.number why | Turn why ↦ no_turn.number why | Packet why ↦ not_built.number why ];
      carried = λ why. [];
      back = λ n carried.
          pick (eqb n 13) (Memory (record {}))
          (pick (eqb n 17 || eqb n 18) (Turn (no_turn.back n carried)) (Packet (not_built.back n carried)));
      home = elim [
        | Memory why ↦ refl
        | Turn turning.OtherAsk ↦ refl
        | Turn turning.OutOfTurn ↦ refl
        | Packet building.BufferTooShort ↦ refl
        | Packet building.TooLarge ↦ refl
        | Packet building.WrongCell ↦ refl
        | Packet building.AboveFull ↦ refl
        | Packet building.OutOfRange ↦ refl
        | Packet building.ForbiddenItem ↦ refl
        | Packet building.TooManyItems ↦ refl
      ];
    }

-- the kept bytes handed out again: how many, or 3
abbrev pub rewritten_paper : Option ℕ → Paper ℕ
rewritten_paper (Some count) = accepted count
rewritten_paper None = refused 3

-- an accepted packet ask in the documents' words: its packet, new or again
abbrev pub value_of : Answered → PacketValue
value_of (Answered.New packet) = new_packet (packet_values packet)
value_of (Answered.Again packet) = packet_again (packet_values packet)

-- the answer that reads so
abbrev pub value_back : PacketValue → Answered
value_back (new_packet v) = Answered.New (packet_back v)
value_back (packet_again v) = Answered.Again (packet_back v)

-- an answer is the one that reads as it does
pub value_home : (a : Answered) → value_back (value_of a) ≡ a
value_home (Answered.New packet) = refl
value_home (Answered.Again packet) = refl

-- a packet ask: its packet, new or again, or 3, 12, 13, 14, 16, 17, 18, 19, 22, 23
abbrev pub packet_paper : Result Answered NotAsked → Paper PacketValue
packet_paper r = mapped value_of (on_paper not_asked r)
