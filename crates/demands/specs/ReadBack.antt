-- Demand 2: "A written packet or message reads back as itself". Of the calls' outcomes, whatever follows in the buffer.
-- Assumes nothing.
use Rattle.std.specs.Prelude.{◌≡◌, List, [], ℕ, Result, Ok, ◌+◌, ◌^◌, ◌<◌, ◌≤◌, length, drop, take}
use Rattle.std.proofs.Common.{sym, ap, ◌∙◌, subst, append-nil, take_at, arith}
use Rattle.std.specs.Borrow.{Bor}
use Rattle.ground.specs.Paper.{Paper, accepted}
use Rattle.ground.specs.Outcome.{outcome_of}
use Rattle.packet.specs.declared.Found.{Found}
use Rattle.packet.specs.declared.Headed.{Headed}
use Rattle.packet.specs.declared.NoHeader.{NoHeader}
use Rattle.packet.specs.declared.NotFound.{NotFound}
use Rattle.packet.specs.declared.NotWritten.{NotWritten}
use Rattle.packet.specs.Answers.{written_paper}
use Rattle.packet.specs.Meaning.{packet_of, payload_means}
use Rattle.packet.specs.OneOutcome.{find_one, header_one}
use Rattle.packet.specs.Promise.{FindPromise, HeaderPromise, PayloadPromise, WritePromise}
use Rattle.packet.specs.ReadBack.{packet_length, written, written_found, written_header, written_payload, write_accepted}
use Rattle.message.specs.declared.Message.{Message}
use Rattle.message.specs.declared.NotRead.{NotRead}
use Rattle.message.specs.declared.NotWritten as unwritten
use Rattle.message.specs.Answers as message
use Rattle.message.specs.Meaning.{data_size}
use Rattle.message.specs.OneOutcome.{read_one}
use Rattle.message.specs.Promise as messages
use Rattle.message.specs.ReadBack as reads

-- what the calls answer on a buffer that a packet was written into
pub record PacketAgain (apid : ℕ) (payload after : List ℕ) : Type 0 where
  pub found : (f : Result Found NotFound) → FindPromise after f → f ≡ Ok (record { place = 0; skipped = 0 })
  pub headed : (h : Result Headed NoHeader) → HeaderPromise after 0 h → h ≡ Ok (record { apid = apid; length = length payload })
  pub handed : (capture r : Bor (List ℕ)) → capture.now ≡ after → PayloadPromise capture 0 r → r.now ≡ payload

-- a packet at the front of a capture is found at 0 with nothing skipped, and has its APID, its length and its data
pub packet_again_lem : (apid : ℕ) (payload rest capture : List ℕ) → capture ≡ written apid payload rest → length payload ≤ 8187 → apid < 2 ^ 16
    → length capture ≤ 65536 → PacketAgain apid payload capture
packet_again_lem apid payload rest capture is small a fits =
    let short : length (written apid payload rest) ≤ 65536 = subst (λ (l : List ℕ). length l ≤ 65536) is fits in
    record {
      found = λ f q.
          find_one (subst (λ (l : List ℕ). FindPromise l f) is q) (record { answer = sym (written_found apid payload rest small a short) });
      headed = λ h q.
          header_one (subst (λ (l : List ℕ). HeaderPromise l 0 h) is q) (record { answer = sym (written_header apid payload rest small a short) });
      handed = λ lent r c q. q.bytes ∙ ap (λ (l : List ℕ). payload_means l 0) (c ∙ is) ∙ written_payload apid payload rest small a short;
    }

-- what `write` accepted reads back from the whole buffer, where that is a capture
pub packet_reads_back : (buffer payload after : List ℕ) (apid n : ℕ) (w : Result ℕ NotWritten) → apid < 2 ^ 16 → length after ≤ 65536
    → WritePromise buffer apid payload w after → written_paper w ≡ accepted n → PacketAgain apid payload after
packet_reads_back buffer payload after apid n w a fits p e =
    let so = write_accepted buffer apid payload (ap (λ (x : Paper ℕ). outcome_of x after) (sym e) ∙ p.outcome) in
    packet_again_lem apid payload (drop (length payload + 10) buffer) after so.leaves so.small a fits

-- "It answers n+10, and those bytes read back as the packet": those bytes alone, whatever the buffer's length
pub packet_bytes_read_back : (buffer payload after : List ℕ) (apid n : ℕ) (w : Result ℕ NotWritten) → apid < 2 ^ 16
    → WritePromise buffer apid payload w after → written_paper w ≡ accepted n → PacketAgain apid payload (take n after)
packet_bytes_read_back buffer payload after apid n w a p e =
    let so = write_accepted buffer apid payload (ap (λ (x : Paper ℕ). outcome_of x after) (sym e) ∙ p.outcome) in
    let long : length (packet_of apid payload) ≡ n = packet_length apid payload ∙ sym so.count in
    let is : take n after ≡ packet_of apid payload
    = ap (take n) so.leaves ∙ take_at (packet_of apid payload) (drop (length payload + 10) buffer) n long in
    packet_again_lem apid payload [] (take n after) (is ∙ sym (append-nil (packet_of apid payload))) so.small a
    (let same : length (take n after) ≡ n = ap length is ∙ long in omega (arith, same, so.count, so.small))

-- a message that `write` accepted reads as its address, tag and value, with as many bytes used as were written
pub message_reads_back : (buffer after : List ℕ) (address tag value n : ℕ) (w : Result ℕ unwritten.NotWritten) (r : Result Message NotRead)
    → messages.WritePromise buffer address tag value w after → message.written_paper w ≡ accepted n → messages.ReadPromise after r
    → r ≡ Ok (record { address = address; tag = tag; value = value; used = n })
message_reads_back buffer after address tag value n w r p e q =
    let so = reads.write_accepted buffer address tag value (ap (λ (x : Paper ℕ). outcome_of x after) (sym e) ∙ p.outcome) in
    read_one (subst (λ (l : List ℕ). messages.ReadPromise l r) so.leaves q)
    (record {
      answer =
          ap (λ (k : ℕ). accepted (record { address = address; tag = tag; value = value; used = k })) so.count
          ∙ sym (reads.written_read address tag value (drop (data_size tag + 6) buffer) so.inside);
    })
