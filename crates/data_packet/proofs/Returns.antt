-- The ends of a table's run.
-- Assumes nothing.
use mathlib.Core.Path.{◌≡◌, refl, ap, ap₂, sym, subst, ◌∙◌}
use mathlib.Core.Bool.{Bool, true, false}
use mathlib.Core.List.{List, [], ◌∷◌, ◌++◌}
use Prim.Native.Nat.{ℕ, zero, suc, ◌+◌, ◌*◌, ◌/◌, ◌≤◌, ◌<◌}
use native.Mathlib.Omega.{arith}
use Rattle.std.specs.Prelude.{Result, Ok, Err, is_ok}
use lib.ListN.{length, get_or, take, drop, take-append-drop}
use lib.Seq.{split_at, take_all, length-take-le}
use borrow.Author.Tests.{le-ltb}
use lib.Dec.{ltb}
use Rattle.ground.specs.Bytes.{Bytes}
use Rattle.ground.specs.Choice.{pick, pick_elim}
use Rattle.ground.specs.Outcome.{Outcome, outcome_of, onward_to, refuse}
use Rattle.ground.specs.Paper.{Paper, accepted, refusal, refused, number_of}
use Rattle.ground.specs.Questions.{both_ways}
use Rattle.item.specs.Filling.{filled_front}
use Rattle.item.specs.Inputs.{Inputs}
use Rattle.item.specs.Meaning.{bytes_of_bits, window_of}
use Rattle.packet.specs.Meaning.{write_means}
use Rattle.packet.specs.Promise.{WritePromise}
use Rattle.packet.specs.ReadBack.{write_elim, written}
use Rattle.packet.specs.declared.NotWritten.{NotWritten}
use Rattle.packet.specs.declared.NotWritten.TheVariants as W
use Rattle.pages.specs.Answers.{checked_paper, not_taken}
use Rattle.pages.specs.Meaning.{check_means}
use Rattle.pages.specs.Passes.{left_of}
use Rattle.pages.specs.declared.NotTaken.{NotTaken}
use Rattle.pages.specs.declared.Pass.{Pass}
use Rattle.data_packet.specs.Answers.{built_paper}
use Rattle.data_packet.specs.Marks.{touch}
use Rattle.data_packet.specs.Meaning.{MemoryAndBuffer, PacketValues, Run, apid_of, first_run, memory_and_buffer, run_items, sending}
use Rattle.data_packet.specs.Running.{Fair, Inside, cleared_of, ends_by_12, ends_by_check, ends_well, settled_back, settled_zero, takable}
use Rattle.data_packet.specs.Running.{tried_all, cleared_all, with_memory}
use Rattle.data_packet.specs.Steps.{LeadingPromise, Next, RunPromise, TrialPromise, WrittenPromise, assembling, most_data, totalled, writing}
use Rattle.data_packet.specs.declared.Found.{Found}
use Rattle.data_packet.specs.declared.NotBuilt.{NotBuilt}
use Rattle.data_packet.specs.declared.NotBuilt.TheVariants.{BufferTooShort}
use Rattle.data_packet.specs.declared.Packet.{Packet}

-- one of items that may all be taken
fair_at : (o : List ℕ) (page : Bool) (xs : List ℕ) (i : ℕ) → Fair o page xs → i < length xs → check_means o page (window_of (get_or xs i 0)) ≡ accepted tt
fair_at o page [] i u h = absurd (omega arith)
fair_at o page (x ∷ xs) zero u h = u.0
fair_at o page (x ∷ xs) (suc i) u h = fair_at o page xs i u.1 (omega arith)

-- the windows of the leading items end under N, in a memory as long
pub lead_inside : (o : List ℕ) (page : Bool) (table : List ℕ) (g : ℕ) {next : Result (Unit {0}) NotTaken} (m : List ℕ) → LeadingPromise o page table g next
    → length m ≡ length o → Inside (length m) (take g table) (length (take g table))
lead_inside o page table g m p l =
    rw l (λ i k. (takable o page (window_of (get_or (take g table) i 0)) (fair_at o page (take g table) i p.fair k)).inside)

module _ (f : Found) (next : Result (Unit {0}) NotTaken) (apid : ℕ) (room buffer : List ℕ) (far : f.at ≤ 8 * most_data)
    (long : length room ≡ most_data) where
  -- there is never too much data
  never : 2 ≡ number_of (write_means buffer apid (take ((f.at + 7) / 8) room)).answer → ⊥
  unfolding write_means
  never =
      let h : length (take ((f.at + 7) / 8) room) ≤ 8187 = omega (arith, length-take-le ((f.at + 7) / 8) room (omega arith)) in
      pick_elim (λ (x : Outcome ℕ (List ℕ)). 2 ≡ number_of x.answer → ⊥) (ltb 8187 (length (take ((f.at + 7) / 8) room))) _ _
      (λ k z. both_ways k (le-ltb _ _ h))
      (λ k. pick_elim (λ (x : Outcome ℕ (List ℕ)). 2 ≡ number_of x.answer → ⊥) (ltb (length buffer) (length (take ((f.at + 7) / 8) room) + 10)) _ _
      (λ l z. omega arith) (λ l z. omega arith))

  -- so that writing is refused by 3 alone
  pub written_short : Bytes room → (why : NotWritten) {after : List ℕ} {x : Unit {0}} → f.fits ≡ true → next ≡ Ok x
      → WritePromise buffer apid (take ((f.at + 7) / 8) room) (Err why) after → WrittenPromise f next apid room buffer (Err BufferTooShort) after
  written_short b W.BufferTooShort {after} t e p =
      record {
        fine = b;
        outcome =
            ap (totalled f.total) p.outcome
            ∙ sym (ap₂ (λ (b : Bool) (r : Result (Unit {0}) NotTaken). pick b (onward_to (λ x. totalled f.total
            (write_means buffer apid (take ((f.at + 7) / 8) room))) buffer (checked_paper r)) (refuse 12 buffer)) t e);
      }
  written_short b W.TooMuchData {after} t e p = absurd (never (ap (λ (x : Outcome ℕ (List ℕ)). number_of x.answer) p.outcome))

-- the pass that ends a trial: marked words to 0 where a packet was written, marks taken back where it is refused
abbrev pub ending : Result Packet NotBuilt → Pass
ending (Ok p) = Pass.Zero
ending (Err why) = Pass.Unmark

-- it puts to 0 where the answer is a packet
pub ends_zero : (r : Result Packet NotBuilt) → true ≡ is_ok r → Pass.Zero ≡ ending r
ends_zero (Ok p) e = refl
ends_zero (Err why) e = absurd (both_ways (sym e) refl)

-- and takes back where it is none
pub ends_unmark : (r : Result Packet NotBuilt) → false ≡ is_ok r → Pass.Unmark ≡ ending r
ends_unmark (Ok p) e = absurd (both_ways refl (sym e))
ends_unmark (Err why) e = refl

module _ (o : List ℕ) (page : Bool) (i : Inputs) (first buffer : List ℕ) (g : ℕ) (next : Result (Unit {0}) NotTaken) (f : Found) (m room : List ℕ)
    (lead : LeadingPromise o page i.items g next) (tried : TrialPromise o page (take g i.items) first f m room) (l : length m ≡ length o) (b : Bytes room) where
  -- the leading items
  abbrev good : List ℕ
  good = take g i.items

  -- the memory after the pass that an answer asks for
  abbrev settled_by : Paper PacketValues → List ℕ
  settled_by (accepted v) = touch (left_of Pass.Zero) (length m) page m (cleared_of good)
  settled_by (refusal n carried) = touch (left_of Pass.Unmark) (length m) page m (cleared_of good)

  -- what is left after it
  abbrev ended : Outcome PacketValues (List ℕ) → Outcome PacketValues MemoryAndBuffer
  ended q = outcome_of q.answer (memory_and_buffer (settled_by q.answer) q.leaves)

  -- the marks taken back
  back : touch (left_of Pass.Unmark) (length m) page m (cleared_of good) ≡ o
  back =
      ap₂ (λ (n : ℕ) (x : List ℕ). touch (left_of Pass.Unmark) n page x (cleared_of good)) l tried.traced.marked
      ∙ settled_back o page good lead.fair

  -- a refused run, with the memory as it was
  by_run : (n : ℕ) → run_items page (first_run o) i.items ≡ refused n → ended (refuse n buffer) ≡ assembling o page i first buffer
  by_run n e = ap (λ (x : List ℕ). outcome_of (refused n) (memory_and_buffer x buffer)) back ∙ rw e

  -- every item was tried, and fits
  module _ (h : length i.items ≤ g) (k : f.fits ≡ true) where
    all : good ≡ i.items
    all = take_all g i.items h

    -- the run
    abbrev run : Run
    run = with_memory (cleared_all o page i.items) (tried_all o page i.items).run

    ran : run_items page (first_run o) i.items ≡ accepted run
    ran =
        subst (λ (xs : List ℕ). run_items page (first_run o) xs ≡ accepted (with_memory (cleared_all o page xs) (tried_all o page xs).run)) all
        (ends_well o page good lead.fair (sym tried.traced.fits ∙ k))

    -- its data is in the room
    data_is : take ((f.at + 7) / 8) room ≡ bytes_of_bits (first ++ run.bits)
    data_is =
        ap (λ (n : ℕ). take ((n + 7) / 8) room) tried.traced.at
        ∙ filled_front tried.traced.filled b
        ∙ ap (λ (xs : List ℕ). bytes_of_bits (first ++ (tried_all o page xs).run.bits)) all

    -- the marked words set to 0
    zeroed : touch (left_of Pass.Zero) (length m) page m (cleared_of good) ≡ run.memory
    zeroed =
        ap₂ (λ (n : ℕ) (x : List ℕ). touch (left_of Pass.Zero) n page x (cleared_of good)) l tried.traced.marked
        ∙ settled_zero o page good lead.fair
        ∙ ap (cleared_all o page) all

    -- written, or refused with memory and buffer as they were
    finished : (w : List ℕ) → ended (totalled f.total (write_means buffer (apid_of i.low) w)) ≡ sending o buffer run (write_means buffer (apid_of i.low) w)
    finished w =
        write_elim (λ (x : Outcome ℕ (List ℕ)). ended (totalled f.total x) ≡ sending o buffer run x) buffer (apid_of i.low) w
        (λ s q. ap₂ (λ (t : ℕ) (x : List ℕ). outcome_of {A = PacketValues} (accepted (record { written = length w + 10; total = t }))
        (memory_and_buffer x (written (apid_of i.low) w (drop (length w + 10) buffer))))
        (tried.traced.total ∙ ap (λ (xs : List ℕ). (tried_all o page xs).run.total) all) zeroed)
        (λ n z. ap (λ (x : List ℕ). outcome_of (refused n) (memory_and_buffer x buffer)) back)

    by_packet : ended (totalled f.total (write_means buffer (apid_of i.low) (take ((f.at + 7) / 8) room))) ≡ assembling o page i first buffer
    by_packet =
        ap (λ (w : List ℕ). ended (totalled f.total (write_means buffer (apid_of i.low) w))) data_is
        ∙ finished (bytes_of_bits (first ++ run.bits))
        ∙ rw ran

  -- every leading item fits: the next item decides
  by_next : (r : Result (Unit {0}) NotTaken) → Next o page i.items g r → f.fits ≡ true
      → ended (onward_to (λ x. totalled f.total (write_means buffer (apid_of i.low) (take ((f.at + 7) / 8) room))) buffer (checked_paper r))
      ≡ assembling o page i first buffer
  by_next (Ok x) h k = by_packet h k
  by_next (Err why) h k =
      by_run (not_taken.number why)
      (ap (run_items page (first_run o)) (split_at i.items g 0 h.0)
      ∙ ends_by_check o page good (drop (suc g) i.items) (get_or i.items g 0) (not_taken.number why) lead.fair (sym tried.traced.fits ∙ k) h.1)

  -- all ways
  by_writing : ended (writing f (checked_paper next) (apid_of i.low) room buffer) ≡ assembling o page i first buffer
  by_writing = either f.fits refl
    where
      either : (t : Bool) → f.fits ≡ t → ended (pick t (onward_to (λ x. totalled f.total
          (write_means buffer (apid_of i.low) (take ((f.at + 7) / 8) room))) buffer (checked_paper next)) (refuse 12 buffer)) ≡ assembling o page i first buffer
      either true t = by_next next lead.ends t
      either false t =
          by_run 12
          (ap (run_items page (first_run o)) (sym (take-append-drop g i.items))
          ∙ ends_by_12 o page good (drop g i.items) lead.fair (sym tried.traced.fits ∙ t))

  -- the pass that the answer asks for
  settled_as : (r : Result Packet NotBuilt) → touch (left_of (ending r)) (length m) page m (cleared_of good) ≡ settled_by (built_paper r)
  settled_as (Ok p) = refl
  settled_as (Err why) = refl

  -- the packet written or refused, and the marks settled by that
  pub run_ended : {r : Result Packet NotBuilt} {apid : ℕ} {pass : Pass} {after buffer' : List ℕ} → apid ≡ apid_of i.low
      → WrittenPromise f next apid room buffer r buffer' → pass ≡ ending r → after ≡ touch (left_of pass) (length m) page m (cleared_of good)
      → RunPromise o page i first buffer r after buffer'
  run_ended {r} {apid} {pass} {after} {buffer'} a p e s =
      record {
        outcome =
            ap (λ (x : List ℕ). outcome_of (built_paper r) (memory_and_buffer x buffer'))
            (s ∙ ap (λ (q : Pass). touch (left_of q) (length m) page m (cleared_of good)) e ∙ settled_as r)
            ∙ ap ended (p.outcome ∙ ap (λ (n : ℕ). writing f (checked_paper next) n room buffer) a)
            ∙ by_writing;
      }
