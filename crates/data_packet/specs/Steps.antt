-- What the parts of building answer for: items tried, their packet written, their marks settled.
-- Assumes nothing.
use Rattle.std.specs.Prelude.{Bool, ◌&&◌, List, ◌++◌, ◌≡◌, ℕ, ◌+◌, ◌*◌, ◌/◌, ◌≤◌, ◌<◌, length, get_or, take, Result, Ok, Err}
use Rattle.ground.specs.Bytes.{Bytes}
use Rattle.ground.specs.Choice.{pick}
use Rattle.ground.specs.Outcome.{Outcome, accept, outcome_of, onward_to, refuse}
use Rattle.ground.specs.Paper.{Paper, accepted, refusal, refused}
use Rattle.ground.specs.Refusals.{on_paper}
use Rattle.cadence.specs.Answers.{out_of_range}
use Rattle.cadence.specs.Meaning.{highest_dividing}
use Rattle.cadence.specs.declared.OutOfRange.{OutOfRange}
use Rattle.item.specs.Answers.{sent_paper}
use Rattle.item.specs.Filling.{Filled}
use Rattle.item.specs.Inputs.{Inputs}
use Rattle.item.specs.Meaning.{bytes_of_bits, window_of}
use Rattle.item.specs.Promise.{SendPromise}
use Rattle.item.specs.declared.NotSent.{NotSent}
use Rattle.packet.specs.Meaning.{write_means}
use Rattle.pages.specs.Answers.{checked_paper, not_taken}
use Rattle.pages.specs.Meaning.{check_means}
use Rattle.pages.specs.declared.NotTaken.{NotTaken}
use Rattle.data_packet.specs.Answers.{built_paper}
use Rattle.data_packet.specs.Meaning.{MemoryAndBuffer, PacketValues, Run, apid_of, first_run, in_range, memory_and_buffer, result_of, run_items, sending}
use Rattle.data_packet.specs.Running.{Fair, Tried, begun, item_pass, try_items, yes}
use Rattle.data_packet.specs.declared.Found.{Found}
use Rattle.data_packet.specs.declared.NotBuilt.{NotBuilt}
use Rattle.data_packet.specs.declared.Packet.{Packet}

-- the most bytes of data: the first one, and 64 items of 29 bits
abbrev pub most_data : ℕ
most_data = 233

-- the most that a window can sum, with any words
abbrev pub most_sum : ℕ
most_sum = 281474976710656

-- and 63 windows
abbrev pub most_sums : ℕ
most_sums = 63 * most_sum

-- ---- the first byte

-- the first byte: its three numbers, where they are in range; 19
abbrev pub first_means : Inputs → Paper ℕ
first_means i =
    pick (in_range i.flags i.initial i.second) (accepted (i.flags * 64 + i.initial * 8 + highest_dividing (i.second + 1))) (refused 19)

-- the same as a promise
pub record FirstPromise (i : Inputs) (r : Result ℕ OutOfRange) : Type 0 where
  pub answer : on_paper out_of_range r ≡ first_means i

-- ---- the trial

-- why the item after the leading ones may not be taken, or that there is none
abbrev pub Next : List ℕ → Bool → List ℕ → ℕ → Result (Unit {0}) NotTaken → Type 0
Next memory page items good (Ok x) = length items ≤ good
Next memory page items good (Err why) =
    (good < length items) × (check_means memory page (window_of (get_or items good 0)) ≡ refused (not_taken.number why))

-- how many items lead whose windows may be taken, and why not the one there
pub record LeadingPromise (memory : List ℕ) (page : Bool) (items : List ℕ) (good : ℕ) (next : Result (Unit {0}) NotTaken) : Type 0 where
  pub within : good ≤ length items
  pub fair : Fair memory page (take good items)
  pub ends : Next memory page items good next

-- the bit position after an item was sent, or not
abbrev pub at_after : ℕ → Paper ℕ → ℕ
at_after at (accepted next) = next
at_after at (refusal n carried) = at

-- what was found with one item more: its result, the total with it, and what sending it answered
abbrev pub found_after : Found → ℕ → ℕ → Paper ℕ → Found
found_after f previous total p = record { previous = previous; total = total; at = at_after f.at p; fits = f.fits && yes p }

-- one item tried: its window passed over, its result sent
pub record TryPromise (memory : List ℕ) (page : Bool) (x : ℕ) (f : Found) (room : List ℕ) (r : Found) (memory' room' : List ℕ) : Type 0 where
  pub left : memory' ≡ (item_pass (length memory) page memory x).memory
  pub small : (item_pass (length memory) page memory x).sum ≤ most_sum
  pub answer : Result ℕ NotSent
  pub sent : SendPromise room f.at x (result_of x f.previous (item_pass (length memory) page memory x).sum) answer room'
  pub found : r ≡ found_after f (result_of x f.previous (item_pass (length memory) page memory x).sum)
      (f.total + pick (window_of x).clear (item_pass (length memory) page memory x).sum 0) (sent_paper answer)

-- a trial as it stands in the code: the last result and the total in numbers, the bits in the data behind its first byte
pub record Traced (t : Tried) (first : List ℕ) (f : Found) (memory room : List ℕ) : Type 0 where
  pub marked : memory ≡ t.run.memory
  pub result : f.previous ≡ t.run.result
  pub total : f.total ≡ t.run.total
  pub fits : f.fits ≡ t.fits
  pub at : f.at ≡ length (first ++ t.run.bits)
  pub long : length room ≡ most_data
  pub filled : Filled room (first ++ t.run.bits)

-- items tried
pub record TrialPromise (memory : List ℕ) (page : Bool) (items first : List ℕ) (r : Found) (memory' room : List ℕ) : Type 0 where
  pub traced : Traced (try_items (length memory) page (begun memory) items) first r memory' room
  pub few : r.at ≤ 8 * most_data

-- ---- the packet

-- a packet that was written, with a total
abbrev pub totalled : ℕ → Outcome ℕ (List ℕ) → Outcome PacketValues (List ℕ)
totalled total o = onward_to (λ n. accept (record { written = n; total = total }) o.leaves) o.leaves o.answer

-- the packet of what a trial found: 12 where a result does not fit, then why the next item may not be taken, then 3
abbrev pub writing : Found → Paper (Unit {0}) → ℕ → List ℕ → List ℕ → Outcome PacketValues (List ℕ)
writing f next apid data' buffer =
    pick f.fits (onward_to (λ x. totalled f.total (write_means buffer apid (take ((f.at + 7) / 8) data'))) buffer next) (refuse 12 buffer)

-- the same as a promise, of data that are bytes
pub record WrittenPromise (f : Found) (next : Result (Unit {0}) NotTaken) (apid : ℕ) (data' buffer : List ℕ) (r : Result Packet NotBuilt) (after : List ℕ)
    : Type 0 where
  pub fine : Bytes data'
  pub outcome : outcome_of (built_paper r) after ≡ writing f (checked_paper next) apid data' buffer

-- the items run behind first bits, and their packet
abbrev pub assembling : List ℕ → Bool → Inputs → List ℕ → List ℕ → Outcome PacketValues MemoryAndBuffer
assembling memory page i first buffer =
    onward_to (λ (r : Run). sending memory buffer r (write_means buffer (apid_of i.low) (bytes_of_bits (first ++ r.bits)))) (memory_and_buffer memory buffer)
    (run_items page (first_run memory) i.items)

-- the same as a promise
pub record RunPromise (memory : List ℕ) (page : Bool) (i : Inputs) (first buffer : List ℕ) (r : Result Packet NotBuilt) (memory' buffer' : List ℕ)
    : Type 0 where
  pub outcome : outcome_of (built_paper r) (memory_and_buffer memory' buffer') ≡ assembling memory page i first buffer
