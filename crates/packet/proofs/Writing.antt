-- The buffer as the writer leaves it, step by step, is the packet and what lay past it.
-- Assumes nothing.
use mathlib.Core.Path.{◌≡◌, refl, sym, ap, ap₂, ◌∙◌}
use mathlib.Core.List.{List, ◌++◌, append_assoc}
use Prim.Native.Nat.{ℕ, ◌+◌, ◌-◌, ◌<◌, ◌≤◌}
use native.Mathlib.Nat.{add_comm}
use native.Mathlib.Omega.{arith}
use borrow.Author.Tests.{lt-ltb, le-ltb}
use borrow.Rule.Slice.PartMut.{put_mid, Post-is}
use lib.ListN.{length, drop}
use Rattle.std.specs.Prelude.{Ok, Err}
use lib.Seq.{take_at, drop_at, drop-drop}
use Rattle.ground.specs.Outcome.{accept}
use Rattle.crc.specs.Promise.{SealPromise}
use Rattle.crc.specs.Sealing.{seal_front}
use Rattle.packet.specs.Meaning.{covered, packet_of, write_means}
use Rattle.packet.specs.declared.NotWritten.TheVariants as W
use Rattle.packet.specs.Promise.{WritePromise}
use Rattle.packet.specs.Putting.{head_of}
use Rattle.packet.specs.ReadBack.{covered-length}

-- the data in the middle, after the header
filled : (buffer : List ℕ) (apid : ℕ) (payload : List ℕ) {head part : List ℕ} → head ≡ head_of (length payload + 4) apid ++ drop 8 buffer → part ≡ payload
    → put_mid 8 (length payload + 8 - 8) head part ≡ covered apid payload ++ drop (length payload + 8) buffer
filled buffer apid payload p q =
    let h = head_of (length payload + 4) apid in
    let n = length payload in
    ap₂ (λ (x y : List ℕ). put_mid 8 (n + 8 - 8) x y) p q
    ∙ ap₂ (λ (x y : List ℕ). x ++ (payload ++ y)) (take_at h (drop 8 buffer) 8 refl)
    (Post-is 8 (n + 8) (h ++ drop 8 buffer) (omega arith)
    ∙ ap (λ (k : ℕ). drop k (h ++ drop 8 buffer)) (add_comm n 8)
    ∙ sym (drop-drop n 8 (h ++ drop 8 buffer))
    ∙ ap (drop n) (drop_at h (drop 8 buffer) 8 refl)
    ∙ drop-drop n 8 buffer
    ∙ ap (λ (k : ℕ). drop k buffer) (add_comm 8 n))
    ∙ sym (append_assoc h payload (drop (n + 8) buffer))

module _ {buffer : List ℕ} {apid : ℕ} {payload : List ℕ} where
  -- more data than a packet takes
  pub too_much : 8187 < length payload → WritePromise buffer apid payload (Err W.TooMuchData) buffer
  unfolding write_means
  too_much h = record { outcome = rw (lt-ltb 8187 (length payload) h) }

  -- a buffer that is too short
  pub too_short : length payload ≤ 8187 → length buffer < length payload + 10 → WritePromise buffer apid payload (Err W.BufferTooShort) buffer
  unfolding write_means
  too_short g h = record { outcome = rw (le-ltb 8187 (length payload) g, lt-ltb (length buffer) (length payload + 10) h) }

  -- the whole packet, and what lay past it
  pub done : {head part after : List ℕ} → length payload ≤ 8187 → length payload + 10 ≤ length buffer
      → head ≡ head_of (length payload + 4) apid ++ drop 8 buffer → part ≡ payload
      → SealPromise (put_mid 8 (length payload + 8 - 8) head part) (length payload + 8) after
      → WritePromise buffer apid payload (Ok (length payload + 10)) after
  unfolding write_means packet_of
  done {after = after} g h p q s =
      let n = length payload in
      let past : n + 8 + 2 ≡ n + 10 = omega arith in
      let whole : after ≡ packet_of apid payload ++ drop (n + 10) buffer =
      seal_front (covered apid payload) buffer (n + 8) (covered-length apid payload) (omega arith) (filled buffer apid payload p q) s
      ∙ ap (λ (k : ℕ). packet_of apid payload ++ drop k buffer) past in
      record { outcome = rw (le-ltb 8187 n g, le-ltb (length buffer) (n + 10) h) (ap (accept (n + 10)) whole) }
