-- "those bytes read back as the packet": whatever follows in the buffer.
-- Assumes nothing.
use Rattle.std.specs.Prelude.{◌≡◌, true, ℕ, zero, suc, ◌+◌, ◌-◌, ◌^◌, ◌<◌, ◌≤◌, ltb, drop}
use Rattle.std.proofs.Math.Path.{refl, ap}
use Rattle.std.proofs.Common.{sym, ap₂, ◌∙◌, arith, le-ltb, ltb-false}
use mathlib.Core.List.{List, ◌++◌}
use Rattle.std.proofs.Math.Nat.{sub-zero}
use Rattle.std.proofs.Math.ListN.{length, take}
use Rattle.std.proofs.Math.Seq.{take_at}
use Rattle.ground.specs.Paper.{accepted}
use Rattle.ground.specs.Bytes.{Bytes, bytes_append, bytes_bytes_of}
use Rattle.ground.specs.Choice.{pick_elim}
use Rattle.ground.specs.Outcome.{Outcome, accept, refuse, two_passed}
use Rattle.ground.specs.Words.{bytes_of, word_at, number-bytes_of}
use Rattle.crc.specs.Meaning.{checksum_of, sealed_of, sealed_at}
use Rattle.crc.specs.Sealing.{length_sealed, sealed_front, sealed_stands, sealed_lies}
use Rattle.packet.specs.Meaning.{covered, mark, packet_of, data_length, stands, find_from, find_means, header_means, payload_means, write_means}
use Rattle.packet.specs.Laws.{Standing, stands_so, find_here}

-- what a packet's checksum covers has n+8 bytes
pub covered-length : (apid : ℕ) (payload : List ℕ) → length (covered apid payload) ≡ length payload + 8
covered-length apid payload = omega arith

-- the whole packet has n+10 bytes
pub packet_length : (apid : ℕ) (payload : List ℕ) → length (packet_of apid payload) ≡ length payload + 10
unfolding packet_of
packet_length apid payload = omega (arith, length_sealed (covered apid payload), covered-length apid payload)

-- and is bytes, where its data is
pub packet_bytes : (apid : ℕ) (payload : List ℕ) → Bytes payload → Bytes (packet_of apid payload)
unfolding packet_of sealed_of
packet_bytes apid payload b =
    let size = bytes_of 2 (length payload + 4) in
    let named = bytes_of 2 apid in
    let sum = bytes_of 2 (checksum_of (covered apid payload)) in
    bytes_append (covered apid payload) sum
    (bytes_append mark (size ++ (named ++ payload)) mark_bytes
    (bytes_append size (named ++ payload) (bytes_bytes_of 2 (length payload + 4)) (bytes_append named payload (bytes_bytes_of 2 apid) b)))
    (bytes_bytes_of 2 (checksum_of (covered apid payload)))
  where
    mark_bytes : Bytes mark
    mark_bytes zero = omega arith
    mark_bytes (suc zero) = omega arith
    mark_bytes (suc (suc zero)) = omega arith
    mark_bytes (suc (suc (suc zero))) = omega arith
    mark_bytes (suc (suc (suc (suc i)))) = omega arith

-- a written packet and whatever follows it
abbrev pub written : ℕ → List ℕ → List ℕ → List ℕ
written apid payload rest = packet_of apid payload ++ rest

module _ (apid : ℕ) (payload rest : List ℕ) (small : length payload ≤ 8187) (word : apid < 2 ^ 16) where
  -- the length word says n+4
  length-word : word_at (written apid payload rest) 4 ≡ length payload + 4
  unfolding packet_of sealed_of
  length-word = number-bytes_of 2 (length payload + 4) (omega arith)

  -- so n is the length of the data
  data_length_lem : data_length (written apid payload rest) 0 ≡ length payload
  data_length_lem = let same : length payload + 4 - 4 ≡ length payload = omega arith in ap (λ (w : ℕ). w - 4) length-word ∙ same

  -- the checksum is that of all before it
  summed : sealed_at (written apid payload rest) 0 (length payload + 8) ≡ true
  unfolding packet_of
  summed = sealed_stands (written apid payload rest) 0 (covered apid payload) rest (length payload + 8) refl (covered-length apid payload)

  -- all of it lies there
  long : length payload + 10 ≤ length (written apid payload rest)
  long = omega (arith, sealed_lies (written apid payload rest) 0 (length payload + 8) summed)

  -- mark, length and checksum agree
  all_holds : Standing (written apid payload rest) 0
  unfolding packet_of sealed_of
  all_holds =
      record {
        mark = refl;
        least = omega (arith, length-word);
        most = omega (arith, length-word);
        whole = omega (arith, long, data_length_lem);
        sealed = ap (λ (n : ℕ). sealed_at (written apid payload rest) 0 (n + 8)) data_length_lem ∙ summed;
      }

  -- a written packet stands at place 0
  pub written_stands : stands (written apid payload rest) 0 ≡ true
  written_stands = stands_so (written apid payload rest) 0 all_holds

  module _ (fits : length (written apid payload rest) ≤ 65536) where
    -- `find` answers 0, skipped 0
    pub written_found : find_means (written apid payload rest) ≡ accepted (record { place = 0; skipped = 0 })
    unfolding find_means
    written_found =
        let w = written apid payload rest in
        rw (le-ltb 65536 (length w) fits)
        (ap (find_from w 0) (sym (sub-zero (length w))) ∙ find_here w 0 (omega (arith, long)) written_stands)

    -- `header` answers its APID and n
    pub written_header : header_means (written apid payload rest) 0 ≡ accepted (record { apid = apid; length = length payload })
    unfolding header_means packet_of sealed_of
    written_header =
        rw (le-ltb 65536 (length (written apid payload rest)) fits, written_stands)
        (ap₂ (λ (a n : ℕ). accepted (record { apid = a; length = n })) (number-bytes_of 2 apid word) data_length_lem)

    -- `payload` hands its data back
    pub written_payload : payload_means (written apid payload rest) 0 ≡ payload
    unfolding payload_means packet_of
    written_payload =
        let past = bytes_of 2 (checksum_of (covered apid payload)) ++ rest in
        rw (le-ltb 65536 (length (written apid payload rest)) fits, written_stands)
        (ap (λ (n : ℕ). take n (drop 8 (written apid payload rest))) data_length_lem
        ∙ ap (λ (l : List ℕ). take (length payload) (drop 8 l)) (sealed_front (covered apid payload) rest)
        ∙ take_at payload past (length payload) refl)

-- writing was accepted: the data was small enough, the buffer long enough, and it holds the packet and what lay past it
pub record Accepted (buffer : List ℕ) (apid : ℕ) (payload : List ℕ) (n : ℕ) (after : List ℕ) : Type 0 where
  pub small : length payload ≤ 8187
  pub room : length payload + 10 ≤ length buffer
  pub count : n ≡ length payload + 10
  pub leaves : after ≡ written apid payload (drop (length payload + 10) buffer)

-- what an accepted outcome of writing says
pub write_accepted : (buffer : List ℕ) (apid : ℕ) (payload : List ℕ) {n : ℕ} {after : List ℕ} → accept n after ≡ write_means buffer apid payload
    → Accepted buffer apid payload n after
unfolding write_means
write_accepted buffer apid payload e =
    let passed = two_passed (ltb 8187 (length payload)) (ltb (length buffer) (length payload + 10)) 2 3 buffer e in
    record {
      small = ltb-false 8187 (length payload) passed.first;
      room = ltb-false (length buffer) (length payload + 10) passed.second;
      count = passed.value;
      leaves = passed.leaving;
    }

-- to show something of what writing may leave, show it of an accepted outcome and of a refusal by any number but 0
pub write_elim : (P : Outcome ℕ (List ℕ) → Type 0) (buffer : List ℕ) (apid : ℕ) (payload : List ℕ)
    → (length payload ≤ 8187 → length payload + 10 ≤ length buffer
    → P (accept (length payload + 10) (written apid payload (drop (length payload + 10) buffer))))
    → ((n : ℕ) → 0 < n → P (refuse n buffer))
    → P (write_means buffer apid payload)
unfolding write_means
write_elim P buffer apid payload p q =
    pick_elim P (ltb 8187 (length payload)) _ _ (λ h. q 2 (omega arith))
    (λ h. pick_elim P (ltb (length buffer) (length payload + 10)) _ _ (λ k. q 3 (omega arith)) (λ k. p (ltb-false _ _ h) (ltb-false _ _ k)))
