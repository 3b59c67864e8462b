-- What a call of a sequence may answer and leave: to show something of every call, show it of a refusal by any number but 0, an
-- increment, a flip, a new ask and a repeat, a new packet and a repeated one.
-- Assumes nothing.
use Rattle.std.specs.Prelude.{not, ◌≡◌, refl, List, length, Result, Ok, Err}
use Prim.Native.Nat.{ℕ, ◌+◌, ◌/◌, ◌≤◌, ◌<◌}
use Rattle.std.proofs.Common.{arith}
use Rattle.ground.specs.Outcome.{Outcome, Stays, accept, refuse}
use Rattle.ground.specs.Paper.{accepted}
use Rattle.data_packet.specs.Meaning.{Run, first_run, most_items, run_items}
use Rattle.item.specs.Inputs.{Inputs}
use Rattle.packet_ask.specs.Meaning.{PacketOutcome}
use Rattle.packet_ask.specs.Outcomes.{packet_elim, packet_for}
use Rattle.pages.specs.Meaning.{last_of, put_of, word_of}
use Rattle.pages.specs.Outcomes.{count_elim, take_elim}
use Rattle.pages.specs.declared.Window.{Window}
use Rattle.state.specs.Turns.{turn_of}
use Rattle.state.specs.Words.{Asked, window, flip_in, keep_packet_in, kept_in, page_in}
use Rattle.state.specs.declared.NoTurn.{NoTurn}
use Rattle.state.specs.declared.NoTurn.TheVariants.{OtherAsk, OutOfTurn}
use Rattle.state.specs.declared.Turn.TheVariants.{NewAsk, LastAsk}
use Rattle.state.specs.declared.Turn.{Turn}
use Rattle.histogram.specs.Meaning.{Admits, CallOutcome, again, counting, done, flip_means, increment_means, lent, new}
use Rattle.ledger.specs.Runs.{Call, increment, flip, ask, ask_packet, call_means, without_buffer}
use Rattle.histogram.specs.Outcomes.{admitted_elim}
use Rattle.window_ask.specs.Meaning.{ask_means, new_means, new_taken, taking, turn_means}

-- a new packet ask whose items were run: its total, what they left, and its packet kept
abbrev pub new_built : List ℕ → ℕ → Inputs → Run → CallOutcome
new_built w number i r = accept (new r.total) (lent r.memory (keep_packet_in w number i r.total (packet_for i r)))

module _ (P : Call → CallOutcome → Type 0) (m w : List ℕ) (refuses : (c : Call) (n : ℕ) → 0 < n → P c (refuse n (lent m w))) where
  -- an ask of any turn
  turn_elim : ((number : ℕ) (v : Window) → last_of v < length m / 2 → turn_of (kept_in w) number (window v) ≡ Ok NewAsk
      → P (ask number v) (new_taken m w number v))
      → ((number sum : ℕ) (v : Window) → P (ask number v) (accept (again sum) (lent m w)))
      → (number : ℕ) (v : Window) (t : Result Turn NoTurn) → turn_of (kept_in w) number (window v) ≡ t → P (ask number v) (turn_means t m w number v)
  unfolding new_means
  turn_elim asked repeated number v (Ok NewAsk) e =
      take_elim (λ (o : Outcome ℕ (List ℕ)). P (ask number v) (taking w number v o)) m (not (page_in w)) v
      (λ h. asked number v h e)
      (refuses (ask number v))
  turn_elim asked repeated number v (Ok (LastAsk sum)) e = repeated number sum v
  turn_elim asked repeated number v (Err OtherAsk) e = refuses (ask number v) 18 (omega arith)
  turn_elim asked repeated number v (Err OutOfTurn) e = refuses (ask number v) 17 (omega arith)

  -- every call: a refusal, an increment, a flip, a new ask, a repeat, a new packet, a repeated one
  pub call_elim : (Admits m w → (address : ℕ) → address < length m / 2
      → P (increment address) (accept done (lent (put_of m (page_in w) address (word_of m (page_in w) address + 1)) w)))
      → (Admits m w → P flip (accept done (lent m (flip_in w))))
      → (Admits m w → (number : ℕ) (v : Window) → last_of v < length m / 2 → turn_of (kept_in w) number (window v) ≡ Ok NewAsk
      → P (ask number v) (new_taken m w number v))
      → (Admits m w → (number sum : ℕ) (v : Window) → P (ask number v) (accept (again sum) (lent m w)))
      → (Admits m w → (number : ℕ) (i : Inputs) (buffer : List ℕ) (r : Run) → length i.items ≤ most_items
      → run_items (not (page_in w)) (first_run m) i.items ≡ accepted r → turn_of (kept_in w) number (Asked.packet i) ≡ Ok NewAsk
      → P (ask_packet number i buffer) (new_built w number i r))
      → (Admits m w → (number total : ℕ) (i : Inputs) (buffer : List ℕ) → P (ask_packet number i buffer) (accept (again total) (lent m w)))
      → (c : Call) → P c (call_means m w c)
  unfolding increment_means flip_means ask_means
  call_elim counted flipped asked repeated built rebuilt (increment address) =
      admitted_elim m w (P (increment address)) _
      (λ h. count_elim (λ (o : Outcome (Unit {0}) (List ℕ)). P (increment address) (counting w o)) m (page_in w) address
      (counted h address)
      (refuses (increment address)))
      (refuses (increment address))
  call_elim counted flipped asked repeated built rebuilt flip = admitted_elim m w (P flip) _ flipped (refuses flip)
  call_elim counted flipped asked repeated built rebuilt (ask number v) =
      admitted_elim m w (P (ask number v)) _
      (λ h. turn_elim (asked h) (repeated h) number v (turn_of (kept_in w) number (window v)) refl)
      (refuses (ask number v))
  call_elim counted flipped asked repeated built rebuilt (ask_packet number i buffer) =
      packet_elim m w buffer number i (λ (o : PacketOutcome). P (ask_packet number i buffer) (without_buffer o)) (refuses (ask_packet number i buffer))
      (λ h r few e t k. built h number i buffer r few e t)
      (λ h total t k. rebuilt h number total i buffer)

-- demand 1 of every call on an opened memory: refused, it leaves memory and state as they were
pub call_stays : (m w : List ℕ) (c : Call) → Stays (lent m w) (call_means m w c)
call_stays m w =
    call_elim (λ c o. Stays (lent m w) o) m w (λ c n z f. refl)
    (λ h a k f. absurd (f refl))
    (λ h f. absurd (f refl))
    (λ h number v k t f. absurd (f refl))
    (λ h number sum v f. absurd (f refl))
    (λ h number i buffer r few e t f. absurd (f refl))
    (λ h number total i buffer f. absurd (f refl))
