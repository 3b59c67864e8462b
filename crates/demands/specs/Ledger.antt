-- Demand 3: the ledger of every sequence of calls on lent memory and a lent state, and the repeat.
-- Assumes nothing.
use Rattle.std.specs.Prelude.{◌≡◌, List, ◌∷◌, ◌++◌, ℕ, ◌+◌, ◌≤◌, length, take}
use Rattle.ground.specs.Paper.{accepted}
use Rattle.pages.specs.Totals.{total}
use Rattle.pages.specs.declared.Window.{Window}
use Rattle.ground.specs.Outcome.{accept}
use Rattle.ground.specs.Putting.{put}
use Rattle.data_packet.specs.Meaning.{PacketValues}
use Rattle.item.specs.Inputs.{Inputs}
use Rattle.packet_ask.specs.Meaning.{new_packet, packet_again, packet_lent, packet_means}
use Rattle.histogram.specs.Meaning.{open_means, lent, done, new, again}
use Rattle.ledger.specs.Runs.{Call, Ledger, ask, ask_packet, opening, answered, step, run, NoNew}
use Rattle.ledger.specs.Conservation.{conservation}
use Rattle.ledger.specs.Repeat.{packet_repeat, repeat_from_opening}

-- "From freshly opened memory, after every sequence of increments, flips and numbered asks .., refused ones among them: the counts held in
-- both pages plus the sums of all clearing asks answered as new equal the number of accepted increments." 2026-07, "The ask also answers the total of its
-- clearing items' own window sums, and demand 3 counts that total": packet asks are among the calls, and what was cleared has their totals.
pub nothing_lost : (memory state : List ℕ) → (open_means memory state).answer ≡ accepted done → (calls : List Call)
    → total (run (opening memory state) calls).memory + (run (opening memory state) calls).cleared
    ≡ (run (opening memory state) calls).increments
nothing_lost memory state e calls = conservation memory state e calls

-- "An ask repeated with the last accepted number and its window answers the same sum and changes nothing."
pub nothing_twice : (memory state : List ℕ) (earlier later : List Call) (number sum : ℕ) (window : Window)
    → (answered (run (opening memory state) earlier) (ask number window)).answer ≡ accepted (new sum)
    → NoNew (step (run (opening memory state) earlier) (ask number window)) later
    → answered (run (opening memory state) (earlier ++ (ask number window ∷ later))) (ask number window)
    ≡ accept (again sum)
    (lent (run (opening memory state) (earlier ++ (ask number window ∷ later))).memory
    (run (opening memory state) (earlier ++ (ask number window ∷ later))).state)
nothing_twice memory state earlier later number sum window a n = repeat_from_opening memory state earlier later number sum window a n

-- the ledger after calls from opening, a packet ask, and further calls
abbrev pub after_packet : List ℕ → List ℕ → List Call → ℕ → Inputs → List ℕ → List Call → Ledger
after_packet memory state earlier number i buffer later = run (step (run (opening memory state) earlier) (ask_packet number i buffer)) later

-- 2026-07, "A repeat with all of them the same answers "again" with the same total, writes the same bytes into the lent buffer if they fit, and changes
-- neither histogram memory nor state."
pub packet_nothing_twice : (memory state : List ℕ) (earlier later : List Call) (number : ℕ) (i : Inputs) (buffer : List ℕ) (v : PacketValues)
    → (packet_means (run (opening memory state) earlier).memory (run (opening memory state) earlier).state buffer number i).answer ≡ accepted (new_packet v)
    → NoNew (step (run (opening memory state) earlier) (ask_packet number i buffer)) later
    → (room : List ℕ) → v.written ≤ length room
    → packet_means (after_packet memory state earlier number i buffer later).memory (after_packet memory state earlier number i buffer later).state room
    number i
    ≡ accept (packet_again v)
    (packet_lent (after_packet memory state earlier number i buffer later).memory (after_packet memory state earlier number i buffer later).state
    (put room 0
    (take v.written
    (packet_means (run (opening memory state) earlier).memory (run (opening memory state) earlier).state buffer number i).leaves.buffer)))
packet_nothing_twice memory state earlier later number i buffer v = packet_repeat (run (opening memory state) earlier) number i buffer v later
