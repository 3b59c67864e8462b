-- What holds where a packet stands, and how finding goes on: what callers cite.
-- Assumes nothing.
use Rattle.std.specs.Prelude.{◌≡◌, true, false, List, ℕ, suc, ◌+◌, ◌-◌, ◌<◌, ◌≤◌, ltb, length, take, drop}
use Rattle.std.proofs.Common.{add-one, arith, leb-true, ltb-true, le-leb, lt-ltb, length-take, length-drop}
use Rattle.ground.specs.Questions.{both_hold}
use Rattle.ground.specs.Paper.{accepted, refused_with}
use Rattle.ground.specs.Outcome.{Stays, two_stay}
use Rattle.ground.specs.Words.{word_at}
use Rattle.ground.specs.Meaning.{lies}
use Rattle.crc.specs.Meaning.{sealed_at}
use Rattle.crc.specs.Sealing.{sealed_lies}
use Rattle.packet.specs.Meaning.{marked, sized, data_length, stands, failed_before, find_from, write_means}

-- mark, length and checksum agree at a place, and all of it lies in the capture
pub record Standing (l : List ℕ) (at : ℕ) : Type 0 where
  pub mark : marked l at ≡ true
  pub least : 4 ≤ word_at l (at + 4)
  pub most : word_at l (at + 4) < 8192
  pub whole : at + (data_length l at + 10) ≤ length l
  pub sealed : sealed_at l at (data_length l at + 8) ≡ true

-- where the test says that a packet stands, all of it holds
pub standing : (l : List ℕ) (at : ℕ) → stands l at ≡ true → Standing l at
unfolding stands
standing l at e =
    let marks = both_hold {a = marked l at} (both_hold {a = lies l at 10} e).1 in
    let sizes = both_hold {a = sized (word_at l (at + 4))} marks.1 in
    let word = both_hold sizes.0 in
    record {
      mark = marks.0;
      least = leb-true _ _ word.0;
      most = ltb-true _ _ word.1;
      whole = omega (arith, sealed_lies l at (data_length l at + 8) sizes.1);
      sealed = sizes.1;
    }

-- where all of it holds, the test says that a packet stands
pub stands_so : (l : List ℕ) (at : ℕ) → Standing l at → stands l at ≡ true
unfolding stands
stands_so l at s =
    rw (
      le-leb (at + 10) (length l) (omega (arith, s.whole)),
      s.mark,
      le-leb 4 (word_at l (at + 4)) s.least,
      lt-ltb (word_at l (at + 4)) 8192 s.most,
      s.sealed,
    )

-- the data of a packet that stands has n bytes
pub data_long : (l : List ℕ) (at : ℕ) → Standing l at → length (take (data_length l at) (drop (at + 8) l)) ≡ data_length l at
data_long l at s = simp (length-take, length-drop) (omega (arith, s.whole))

-- a place at which no packet stands is one failed place more
pub failed_more : (l : List ℕ) (at : ℕ) → stands l at ≡ false → failed_before l at ≡ at → failed_before l (at + 1) ≡ at + 1
failed_more l at e h = rw (add-one at, e, h) (add-one at)

-- finding goes on where no packet stands
pub find_on : (l : List ℕ) (at : ℕ) → at < length l → stands l at ≡ false
    → find_from l at (length l - at) ≡ find_from l (at + 1) (length l - (at + 1))
find_on l at h e =
    let left : length l - at ≡ suc (length l - (at + 1)) = omega arith in
    rw (left, e, add-one at)

-- finding ends at the first packet
pub find_here : (l : List ℕ) (at : ℕ) → at < length l → stands l at ≡ true
    → find_from l at (length l - at) ≡ accepted (record { place = at; skipped = failed_before l at })
find_here l at h e =
    let left : length l - at ≡ suc (length l - (at + 1)) = omega arith in
    rw (left, e)

-- finding ends at the capture's end
pub find_none : (l : List ℕ) (at : ℕ) → length l ≤ at → find_from l at (length l - at) ≡ refused_with 20 (failed_before l at)
find_none l at h =
    let left : length l - at ≡ 0 = omega arith in
    rw left

-- demand 1 of writing: where it is refused, the buffer is as it was
pub write_stays : (buffer : List ℕ) (apid : ℕ) (payload : List ℕ) → Stays buffer (write_means buffer apid payload)
unfolding write_means
write_stays buffer apid payload = two_stay (ltb 8187 (length payload)) (ltb (length buffer) (length payload + 10)) 2 3 buffer _ _
