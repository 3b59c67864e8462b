-- What the finder has in hand, as answers of the definition.
-- Assumes nothing.
use mathlib.Core.Path.{◌≡◌, refl, sym, ap, ap₂, ◌∙◌}
use mathlib.Core.Bool.{Bool, true, false}
use mathlib.Core.List.{List, []}
use Prim.Native.Nat.{ℕ, ◌+◌, ◌-◌, ◌<◌, ◌≤◌, zero-le}
use Rattle.std.specs.Prelude.{Ok, Err}
use native.Mathlib.Nat.{sub-zero, le_antisymm}
use native.Mathlib.Omega.{arith}
use borrow.Author.Tests.{lt-ltb, le-ltb}
use denote.Ref.{Bor}
use lib.ListN.{length, take, drop}
use Rattle.ground.specs.Choice.{pick}
use Rattle.ground.specs.Paper.{accepted, refused_with}
use Rattle.packet.specs.Meaning.{stands, failed_before, find_from, find_means, header_means, apid_at, data_length, handed, payload_means, payload_start}
use Rattle.packet.specs.Laws.{find_on, find_here, find_none, failed_more}
use Rattle.packet.specs.declared.NotFound.TheVariants as F
use Rattle.packet.specs.declared.NoHeader.TheVariants as H
use Rattle.packet.specs.Promise.{FindPromise, HeaderPromise, PayloadPromise}

-- the places before one are settled: none of them held a packet
pub record Passed (l : List ℕ) (at : ℕ) : Type 0 where
  pub within : at ≤ length l
  pub rest : find_from l 0 (length l) ≡ find_from l at (length l - at)
  pub failed : failed_before l at ≡ at

-- before the first place
pub passed_none : (l : List ℕ) → Passed l 0
passed_none l = record { within = zero-le; rest = ap (find_from l 0) (sym (sub-zero (length l))); failed = refl }

-- one place more at which no packet stands
pub passed_more : {l : List ℕ} {at : ℕ} → Passed l at → at < length l → stands l at ≡ false → Passed l (at + 1)
passed_more {l} {at} p h e =
    record { within = omega arith; rest = p.rest ∙ find_on l at h e; failed = failed_more l at e p.failed }

-- a capture that is too long
pub too_long : {l : List ℕ} → 65536 < length l → FindPromise l (Err F.TooLong)
unfolding find_means
too_long {l} h = record { answer = rw (lt-ltb 65536 (length l) h) }

-- the first packet
pub here : {l : List ℕ} {at : ℕ} → length l ≤ 65536 → Passed l at → at < length l → stands l at ≡ true
    → FindPromise l (Ok (record { place = at; skipped = at }))
unfolding find_means
here {l} {at} n p h e =
    record {
      answer = rw (le-ltb 65536 (length l) n)
          (ap (λ (s : ℕ). accepted (record { place = at; skipped = s })) (sym p.failed) ∙ sym (p.rest ∙ find_here l at h e));
    }

-- no packet
pub nowhere : {l : List ℕ} {at : ℕ} → length l ≤ 65536 → Passed l at → length l ≤ at → FindPromise l (Err (F.Nothing (length l)))
unfolding find_means
nowhere {l} {at} n p h =
    let all : length l ≡ at = le_antisymm h p.within in
    record { answer = rw (le-ltb 65536 (length l) n) (ap (refused_with 20) (all ∙ sym p.failed) ∙ sym (p.rest ∙ find_none l at h)) }

-- the header of a capture that is too long
pub header_long : {l : List ℕ} {at : ℕ} → 65536 < length l → HeaderPromise l at (Err H.TooLong)
unfolding header_means
header_long {l} h = record { answer = rw (lt-ltb 65536 (length l) h) }

-- where a packet stands
pub header_here : {l : List ℕ} {at apid n : ℕ} → length l ≤ 65536 → stands l at ≡ true → apid ≡ apid_at l at → n ≡ data_length l at
    → HeaderPromise l at (Ok (record { apid = apid; length = n }))
unfolding header_means
header_here {l} fits e a n =
    record { answer = rw (le-ltb 65536 (length l) fits, e) (ap₂ (λ (x y : ℕ). accepted (record { apid = x; length = y })) a n) }

-- where none stands
pub header_none : {l : List ℕ} {at : ℕ} → length l ≤ 65536 → stands l at ≡ false → HeaderPromise l at (Err H.NoPacket)
unfolding header_means
header_none {l} n e = record { answer = rw (le-ltb 65536 (length l) n, e) }

-- of a capture that is too long no data is handed back
pub handed_long : (l : List ℕ) (at : ℕ) → 65536 < length l → handed l at ≡ false
handed_long l at h = rw (lt-ltb 65536 (length l) h)

-- of a capture that is not too long, the packet settles it
pub handed_by : (l : List ℕ) (at : ℕ) {b : Bool} → length l ≤ 65536 → stands l at ≡ b → handed l at ≡ b
handed_by l at n e = rw (le-ltb 65536 (length l) n) e

-- what is handed back by that test: the data, 8 after the packet's place, or an empty part at the capture's start
pub handed_part : (capture : Bor (List ℕ)) (at : ℕ) {r : Bor (List ℕ)} (b : Bool) → handed capture.now at ≡ b
    → r.now ≡ pick b (take (data_length capture.now at) (drop (at + 8) capture.now)) [] → r.ref_ptr.0 ≡ capture.ref_ptr.0
    → r.ref_ptr.1 ≡ capture.ref_ptr.1 + pick b (at + 8) 0 → PayloadPromise capture at r
unfolding payload_means payload_start
handed_part capture at b h bytes block place =
    record {
      bytes = bytes ∙ ap (λ (x : Bool). pick x (take (data_length capture.now at) (drop (at + 8) capture.now)) []) (sym h);
      block = block;
      place = place ∙ ap (λ (x : Bool). capture.ref_ptr.1 + pick x (at + 8) 0) (sym h);
    }
