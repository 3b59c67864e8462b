-- What building may answer and leave: to show something of every outcome, show it of the accepted one and of a refusal by any number but 0.
-- Assumes nothing.
use Rattle.std.specs.Prelude.{Bool, false, List, ◌≡◌, refl, leb, length, drop}
use Prim.Native.Nat.{ℕ, ◌+◌, ◌≤◌, ◌<◌}
use Rattle.std.proofs.Common.{arith, leb-true}
use Rattle.ground.specs.Choice.{pick_elim}
use Rattle.ground.specs.Outcome.{Outcome, Stays, accept, onward_to, refuse}
use Rattle.ground.specs.Paper.{Paper, accepted, refused}
use Rattle.item.specs.Inputs.{Inputs}
use Rattle.packet.specs.ReadBack.{write_elim, written}
use Rattle.data_packet.specs.Meaning.{MemoryAndBuffer, PacketValues, Run, allowed_from, apid_of, build_means, data_of, first_run, in_range, inputs_means}
use Rattle.data_packet.specs.Meaning.{memory_and_buffer, most_items, packing, run_items, sending}
use Rattle.data_packet.specs.Runs.{run_elim}

-- what is asked: taken, or a refusal
pub inputs_elim : (P : Paper (Unit {0}) → Type 0) (i : Inputs) → (length i.items ≤ most_items → P (accepted tt)) → ((n : ℕ) → 0 < n → P (refused n))
    → P (inputs_means i)
unfolding inputs_means
inputs_elim P i p q =
    pick_elim P (leb (length i.items) most_items) _ _
    (λ h. pick_elim P (allowed_from false i.items) _ _
    (λ k. pick_elim P (in_range i.flags i.initial i.second) _ _ (λ l. p (leb-true _ _ h)) (λ l. q 19 (omega arith)))
    (λ k. q 22 (omega arith)))
    (λ h. q 23 (omega arith))

-- a packet that was built of a run: in front of the buffer, and the run's memory and total
abbrev pub built_of : Inputs → List ℕ → Run → Outcome PacketValues MemoryAndBuffer
built_of i buffer r =
    let data' = data_of i r.bits in
    let count = length data' + 10 in
    accept (record { written = count; total = r.total }) (memory_and_buffer r.memory (written (apid_of i.low) data' (drop count buffer)))

module _ (m : List ℕ) (page : Bool) (i : Inputs) (buffer : List ℕ) where
  -- building: a packet of an accepted run that fits, or a refusal that leaves memory and buffer
  pub build_elim : (P : Outcome PacketValues MemoryAndBuffer → Type 0)
      → ((r : Run) → length i.items ≤ most_items → run_items page (first_run m) i.items ≡ accepted r → length (data_of i r.bits) + 10 ≤ length buffer
      → P (built_of i buffer r))
      → ((n : ℕ) → 0 < n → P (refuse n (memory_and_buffer m buffer)))
      → P (build_means m page i buffer)
  unfolding build_means
  build_elim P p q =
      inputs_elim
      (λ (a : Paper (Unit {0})). P (onward_to (λ x. onward_to (packing i m buffer) (memory_and_buffer m buffer) (run_items page (first_run m) i.items))
      (memory_and_buffer m buffer) a))
      i
      (λ h. run_elim (λ (a : Paper Run). P (onward_to (packing i m buffer) (memory_and_buffer m buffer) a)) m page i.items
      (λ r e. write_elim (λ (o : Outcome ℕ (List ℕ)). P (sending m buffer r o)) buffer (apid_of i.low) (data_of i r.bits) (λ s k. p r h e k) q)
      q)
      q

  -- demand 1 of building: refused, it leaves memory and buffer as they were
  pub build_stays : Stays (memory_and_buffer m buffer) (build_means m page i buffer)
  build_stays = build_elim (Stays (memory_and_buffer m buffer)) (λ r h e k f. absurd (f refl)) (λ n z f. refl)
