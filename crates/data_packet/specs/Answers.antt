-- The paper of what building answers, the documents' number of each refusal, and what is asked for in their words.
-- Assumes nothing.
use Rattle.std.specs.Prelude.{◌≡◌, refl, [], ℕ, eqb, Result}
use Rattle.ground.specs.Choice.{pick}
use Rattle.ground.specs.Paper.{Paper, mapped}
use Rattle.ground.specs.Refusals.{Refusals, on_paper}
use Rattle.item.specs.Inputs as item
use Rattle.pages.specs.declared.NotTaken.{NotTaken}
use Rattle.pages.specs.declared.NotTaken.TheVariants as taken
use Rattle.data_packet.specs.Meaning.{PacketValues}
use Rattle.data_packet.specs.declared.Inputs.{Inputs}
use Rattle.data_packet.specs.declared.NotBuilt.{NotBuilt}
use Rattle.data_packet.specs.declared.NotBuilt.TheVariants.{BufferTooShort, TooLarge, WrongCell, AboveFull, OutOfRange, ForbiddenItem, TooManyItems}
use Rattle.data_packet.specs.declared.Packet.{Packet}

-- what is asked for, with the items that are lent
abbrev pub inputs_of : Inputs → item.Inputs
inputs_of i = record { low = i.low; items = i.items.now; flags = i.flags; initial = i.initial; second = i.second }

-- why no packet is built: 3, 12, 14, 16, 19, 22, 23
abbrev pub not_built_number : NotBuilt → ℕ
not_built_number BufferTooShort = 3
not_built_number TooLarge = 12
not_built_number WrongCell = 14
not_built_number AboveFull = 16
not_built_number OutOfRange = 19
not_built_number ForbiddenItem = 22
not_built_number TooManyItems = 23

-- the refusal of building that has a number
abbrev pub not_built_back : ℕ → NotBuilt
not_built_back n =
    pick (eqb n 3) BufferTooShort
    (pick (eqb n 12) TooLarge
    (pick (eqb n 14) WrongCell
    (pick (eqb n 16) AboveFull
    (pick (eqb n 19) OutOfRange
    (pick (eqb n 22) ForbiddenItem TooManyItems)))))

-- no two refusals of building have one number
pub not_built_home : (why : NotBuilt) → not_built_back (not_built_number why) ≡ why
not_built_home BufferTooShort = refl
not_built_home TooLarge = refl
not_built_home WrongCell = refl
not_built_home AboveFull = refl
not_built_home OutOfRange = refl
not_built_home ForbiddenItem = refl
not_built_home TooManyItems = refl

-- the refusals of building
abbrev pub not_built : Refusals NotBuilt
not_built = record { number = not_built_number; carried = λ why. []; back = λ n carried. not_built_back n; home = not_built_home }

-- a packet that was built, in the documents' words
abbrev pub packet_values : Packet → PacketValues
packet_values p = record { written = p.written; total = p.total }

-- the packet that has these values
abbrev pub packet_back : PacketValues → Packet
packet_back v = record { written = v.written; total = v.total }

-- building: the bytes written and the total, or 3, 12, 14, 16, 19, 22, 23
abbrev pub built_paper : Result Packet NotBuilt → Paper PacketValues
built_paper r = mapped packet_values (on_paper not_built r)

-- why an item's window is not taken is why no packet is built
abbrev pub taken_not : NotTaken → NotBuilt
taken_not taken.WrongCell = WrongCell
taken_not taken.AboveFull = AboveFull
