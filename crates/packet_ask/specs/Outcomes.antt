-- What a packet ask may answer and leave: to show something of every outcome, show it of a refusal by any number but 0, a new packet and a repeat.
-- Assumes nothing.
use Rattle.std.specs.Prelude.{not, List, ◌++◌, ◌≡◌, leb, length, drop, Result, Ok, Err}
use Rattle.std.proofs.Math.Path.{refl}
use Rattle.std.proofs.Common.{sym, subst, arith, take_at, leb-true}
use Prim.Native.Nat.{ℕ, ◌+◌, ◌≤◌, ◌<◌}
use Rattle.ground.specs.Choice.{pick_elim}
use Rattle.ground.specs.Outcome.{Outcome, Stays, accept, onward_to, refuse}
use Rattle.ground.specs.Paper.{Paper, accepted}
use Rattle.ground.specs.Putting.{put}
use Rattle.data_packet.specs.Meaning.{MemoryAndBuffer, PacketValues, Run, apid_of, data_of, first_run, most_items, run_items}
use Rattle.data_packet.specs.Outcomes.{build_elim, built_of}
use Rattle.histogram.specs.Meaning.{Admits, admission}
use Rattle.histogram.specs.States.{admission_elim}
use Rattle.item.specs.Inputs.{Inputs}
use Rattle.packet.specs.Meaning.{packet_of}
use Rattle.packet.specs.ReadBack.{packet_length}
use Rattle.state.specs.Turns.{turn_of}
use Rattle.state.specs.Words.{Asked, bytes_in, keep_packet_in, kept_in, page_in}
use Rattle.state.specs.declared.NoTurn.{NoTurn}
use Rattle.state.specs.declared.NoTurn.TheVariants.{OtherAsk, OutOfTurn}
use Rattle.state.specs.declared.Turn.TheVariants.{NewAsk, LastAsk}
use Rattle.state.specs.declared.Turn.{Turn}
use Rattle.packet_ask.specs.Meaning.{PacketOutcome, building, handing, new_packet, new_packet_means, packet_again, packet_lent}
use Rattle.packet_ask.specs.Meaning.{packet_means, packet_turn_means}

-- the packet of a run
abbrev pub packet_for : Inputs → Run → List ℕ
packet_for i r = packet_of (apid_of i.low) (data_of i r.bits)

-- a new packet ask whose items were run: its packet at the buffer's front, and kept
abbrev pub built_packet : List ℕ → List ℕ → ℕ → Inputs → Run → PacketOutcome
built_packet state buffer number i r =
    let count = length (data_of i r.bits) + 10 in
    accept (new_packet (record { written = count; total = r.total }))
    (packet_lent r.memory (keep_packet_in state number i r.total (packet_for i r)) (packet_for i r ++ drop count buffer))

-- the kept packet handed out again
abbrev pub same_packet : List ℕ → List ℕ → List ℕ → ℕ → PacketOutcome
same_packet memory state buffer total =
    accept (packet_again (record { written = length (bytes_in state); total = total })) (packet_lent memory state (put buffer 0 (bytes_in state)))

module _ (m w buffer : List ℕ) (number : ℕ) (i : Inputs) (P : PacketOutcome → Type 0) (refuses : (n : ℕ) → 0 < n → P (refuse n (packet_lent m w buffer))) where
  -- the bytes that are kept are the packet's
  kept_is : (r : Run) → P (built_packet w buffer number i r) → P (building w number i (built_of i buffer r))
  kept_is r p =
      let count = length (data_of i r.bits) + 10 in
      subst
      (λ (bytes : List ℕ). P (accept (new_packet (record { written = count; total = r.total }))
      (packet_lent r.memory (keep_packet_in w number i r.total bytes) (packet_for i r ++ drop count buffer))))
      (sym (take_at (packet_for i r) (drop count buffer) count (packet_length (apid_of i.low) (data_of i r.bits)))) p

  -- a packet ask of any turn
  turn_elim : ((r : Run) → length i.items ≤ most_items → run_items (not (page_in w)) (first_run m) i.items ≡ accepted r
      → turn_of (kept_in w) number (Asked.packet i) ≡ Ok NewAsk → length (data_of i r.bits) + 10 ≤ length buffer → P (built_packet w buffer number i r))
      → ((total : ℕ) → turn_of (kept_in w) number (Asked.packet i) ≡ Ok (LastAsk total) → length (bytes_in w) ≤ length buffer
      → P (same_packet m w buffer total))
      → (t : Result Turn NoTurn) → turn_of (kept_in w) number (Asked.packet i) ≡ t → P (packet_turn_means t m w buffer number i)
  unfolding new_packet_means
  turn_elim built repeated (Ok NewAsk) e =
      build_elim m (not (page_in w)) i buffer (λ (o : Outcome PacketValues MemoryAndBuffer). P (building w number i o))
      (λ r h f k. kept_is r (built r h f e k))
      refuses
  turn_elim built repeated (Ok (LastAsk total)) e =
      pick_elim (λ (o : Outcome ℕ (List ℕ)). P (handing m w total o)) (leb (length (bytes_in w)) (length buffer)) _ _
      (λ h. repeated total e (leb-true _ _ h))
      (λ h. refuses 3 (omega arith))
  turn_elim built repeated (Err OtherAsk) e = refuses 18 (omega arith)
  turn_elim built repeated (Err OutOfTurn) e = refuses 17 (omega arith)

  -- every packet ask: a refusal, a new packet, a repeat
  pub packet_elim : (Admits m w → (r : Run) → length i.items ≤ most_items → run_items (not (page_in w)) (first_run m) i.items ≡ accepted r
      → turn_of (kept_in w) number (Asked.packet i) ≡ Ok NewAsk → length (data_of i r.bits) + 10 ≤ length buffer → P (built_packet w buffer number i r))
      → (Admits m w → (total : ℕ) → turn_of (kept_in w) number (Asked.packet i) ≡ Ok (LastAsk total) → length (bytes_in w) ≤ length buffer
      → P (same_packet m w buffer total))
      → P (packet_means m w buffer number i)
  unfolding packet_means
  packet_elim built repeated =
      admission_elim
      (λ (a : Paper (Unit {0})). admission m w ≡ a → P (onward_to (λ x. packet_turn_means (turn_of (kept_in w) number (Asked.packet i)) m w buffer number i)
      (packet_lent m w buffer) a))
      m w
      (λ h e. turn_elim (built e) (repeated e) (turn_of (kept_in w) number (Asked.packet i)) refl)
      (λ n z e. refuses n z)
      refl

-- demand 1 of a packet ask: refused, it leaves memory, state and buffer as they were
pub packet_stays : (m w buffer : List ℕ) (number : ℕ) (i : Inputs) → Stays (packet_lent m w buffer) (packet_means m w buffer number i)
packet_stays m w buffer number i =
    packet_elim m w buffer number i (Stays (packet_lent m w buffer)) (λ n z f. refl) (λ h r few e t k f. absurd (f refl)) (λ h total t k f. absurd (f refl))
