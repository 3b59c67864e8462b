-- The board's data packet, in document 02's words and order (2026-07): a table of items run over a page, and the packet around what they send.
-- Assumes nothing.
use Rattle.std.specs.Prelude.{Bool, true, false, not, ◌&&◌, List, [], ◌∷◌, ◌++◌, ℕ, ◌+◌, leb, length}
use Rattle.ground.specs.Bits.{to_bits}
use Rattle.ground.specs.Choice.{pick}
use Rattle.ground.specs.Outcome.{Outcome, accept, onward_to}
use Rattle.ground.specs.Paper.{Paper, accepted, refused, mapped, onward}
use Rattle.cadence.specs.Meaning.{highest_dividing}
use Rattle.item.specs.Inputs.{Inputs}
use Rattle.item.specs.Meaning.{adds_of, bytes_of_bits, item_bits, plain_of, sends_of, window_of}
use Rattle.packet.specs.Meaning.{write_means}
use Rattle.pages.specs.Meaning.{take_means}

-- ---- the table

-- "a table of up to 64 items"
abbrev pub most_items : ℕ
most_items = 64

-- "Only sum, res and enc of 0 are taken. An item with a .. must follow one without t": whether one stands just before is the flag
abbrev pub allowed_item : Bool → ℕ → Bool
allowed_item follows x = plain_of x && pick (adds_of x) follows true

-- ".. so the first can't have it": the items in order, none of them forbidden
abbrev pub allowed_from : Bool → List ℕ → Bool
allowed_from follows [] = true
allowed_from follows (x ∷ xs) = allowed_item follows x && allowed_from (not (sends_of x)) xs

-- "19 also for flags over 3", an initial level over 7, a second over 3599
abbrev pub in_range : ℕ → ℕ → ℕ → Bool
in_range flags initial second = leb flags 3 && (leb initial 7 && leb second 3599)

-- what is asked, before the memory is looked at: "23, 22, 19"
unfoldable pub inputs_means : Inputs → Paper (Unit {0})
inputs_means i =
    pick (leb (length i.items) most_items)
    (pick (allowed_from false i.items) (pick (in_range i.flags i.initial i.second) (accepted tt) (refused 19)) (refused 22))
    (refused 23)

-- ---- the items run

-- what items leave: the memory, the last one's result, "the total of its clearing items' own window sums", and the bits that were sent
pub record Run : Type 0 where
  pub memory : List ℕ
  pub result : ℕ
  pub total : ℕ
  pub bits : List ℕ

-- before the first item
abbrev pub first_run : List ℕ → Run
first_run memory = record { memory = memory; result = 0; total = 0; bits = [] }

-- "An item with a adds the previous item's result"
abbrev pub result_of : ℕ → ℕ → ℕ → ℕ
result_of x previous own = own + pick (adds_of x) previous 0

-- after an item with its own window sum, which left this memory and sent these bits
abbrev pub next_run : ℕ → Run → List ℕ → ℕ → List ℕ → Run
next_run x r memory own bits =
    record {
      memory = memory;
      result = result_of x r.result own;
      total = r.total + pick (window_of x).clear own 0;
      bits = r.bits ++ bits;
    }

-- an item whose window was taken, or refused; "12 (sent items only)"
abbrev pub taken_item : ℕ → Run → Outcome ℕ (List ℕ) → Paper Run
taken_item x r o = onward (λ own. mapped (next_run x r o.leaves own) (item_bits x (result_of x r.result own))) o.answer

-- one item on the memory as it finds it: "per item 14, 16, 12"
abbrev pub item_means : Bool → Run → ℕ → Paper Run
item_means page r x = taken_item x r (take_means r.memory page (window_of x))

-- "Items run in order; a word cleared by one is 0 for the next"
abbrev pub run_items : Bool → Run → List ℕ → Paper Run
run_items page r [] = accepted r
run_items page r (x ∷ xs) = onward (λ (q : Run). run_items page q xs) (item_means page r x)

-- ---- the packet

-- "The first byte is two flag bits, a three-bit initial level from the caller and the ending level of the caller's second"
unfoldable pub first_bits : Inputs → List ℕ
first_bits i = to_bits 2 i.flags ++ (to_bits 3 i.initial ++ to_bits 3 (highest_dividing (i.second + 1)))

-- the first byte, then the items, "bit after bit, zeros filling the last byte"
unfoldable pub data_of : Inputs → List ℕ → List ℕ
data_of i bits = bytes_of_bits (first_bits i ++ bits)

-- "APID 0x03 and a low byte from the caller"
abbrev pub apid_of : ℕ → ℕ
apid_of low = 0x300 + low

-- what a packet is built in, and what is left of it: the memory, and the buffer that the packet goes to
pub record MemoryAndBuffer : Type 0 where
  pub memory : List ℕ
  pub buffer : List ℕ

-- the same from its two parts
abbrev pub memory_and_buffer : List ℕ → List ℕ → MemoryAndBuffer
memory_and_buffer memory buffer = record { memory = memory; buffer = buffer }

-- what building answers: the bytes written, and the total
pub record PacketValues : Type 0 where
  pub written : ℕ
  pub total : ℕ

-- a packet written around a run's data, or refused with memory and buffer as they were
abbrev pub sending : List ℕ → List ℕ → Run → Outcome ℕ (List ℕ) → Outcome PacketValues MemoryAndBuffer
sending memory buffer r o =
    onward_to (λ n. accept (record { written = n; total = r.total }) (memory_and_buffer r.memory o.leaves)) (memory_and_buffer memory buffer) o.answer

-- the data in document 01's packet: "then 3"
abbrev pub packing : Inputs → List ℕ → List ℕ → Run → Outcome PacketValues MemoryAndBuffer
packing i memory buffer r = sending memory buffer r (write_means buffer (apid_of i.low) (data_of i r.bits))

-- the items run and their packet
abbrev pub run_means : List ℕ → Bool → Inputs → List ℕ → Outcome PacketValues MemoryAndBuffer
run_means memory page i buffer = onward_to (packing i memory buffer) (memory_and_buffer memory buffer) (run_items page (first_run memory) i.items)

-- a data packet: "23, 22, 19, then per item 14, 16, 12 .., then 3"
unfoldable pub build_means : List ℕ → Bool → Inputs → List ℕ → Outcome PacketValues MemoryAndBuffer
build_means memory page i buffer = onward_to (λ x. run_means memory page i buffer) (memory_and_buffer memory buffer) (inputs_means i)
