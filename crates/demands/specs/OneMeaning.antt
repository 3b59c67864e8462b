-- A packet and a message mean one thing, read or written: what stands at a place of a capture is the packet of the APID and the data that the calls
-- answer there, and what is read as a message is the message of the address, the tag and the value that are answered.
-- Assumes nothing.
use Rattle.std.specs.Prelude.{◌≡◌, refl, true, false, not, List, [], ◌∷◌, ℕ, ◌+◌, ◌^◌, ◌≤◌, ltb, length, take, drop, get_or}
use Rattle.std.proofs.Common.{sym, ap, ap₂, subst, ◌∙◌, add_assoc, div-add-mod', arith, eqb-true, ltb-false}
use Rattle.ground.specs.Choice.{pick_elim}
use Rattle.ground.specs.Paper.{Paper, accepted, accepted_same, refused_not}
use Rattle.ground.specs.Questions.{answered_yes, both_hold}
use Rattle.ground.specs.Words.{bytes_of, word_at}
use Rattle.ground.specs.Bytes.{Bytes, number_back, word_back, take_two, take_parts}
use Rattle.crc.specs.Sealing.{sealed_is}
use Rattle.message.specs.Meaning as message
use Rattle.message.specs.Meaning.{ReadValues, address_at, checked, marked, message_of, read_means, size_at, tag_at, value_at}
use Rattle.packet.specs.Laws.{Standing, standing, data_long}
use Rattle.packet.specs.Meaning.{HeaderValues, apid_at, covered, data_length, header_means, mark, packet_of, payload_means, stands, too_long}

-- the mark's four bytes
mark_back : (l : List ℕ) (at : ℕ) → Standing l at → take 4 (drop at l) ≡ mark
mark_back l at s =
    let whole : at + (data_length l at + 10) ≤ length l = s.whole in
    let m0 = both_hold s.mark in
    let m1 = both_hold m0.1 in
    let m2 = both_hold m1.1 in
    take_parts l at 2 2 (at + 2) refl
    (take_two l at (omega arith) ∙ ap₂ (λ (x y : ℕ). x ∷ y ∷ []) (eqb-true _ _ m0.0) (eqb-true _ _ m1.0))
    (take_two l (at + 2) (omega arith)
    ∙ ap₂ (λ (x y : ℕ). x ∷ y ∷ []) (eqb-true _ _ m2.0) (ap (λ (n : ℕ). get_or l n 0) (add_assoc at 2 1) ∙ eqb-true _ _ m2.1))

-- the bytes before a packet's checksum are those that it covers
packet_covered : (l : List ℕ) (at : ℕ) → Bytes l → Standing l at
    → take (data_length l at + 8) (drop at l) ≡ covered (apid_at l at) (take (data_length l at) (drop (at + 8) l))
packet_covered l at b s =
    let n = data_length l at in
    let whole : at + (n + 10) ≤ length l = s.whole in
    let least : 4 ≤ word_at l (at + 4) = s.least in
    let eight : n + 8 ≡ 4 + (2 + (2 + n)) = omega arith in
    let long : word_at l (at + 4) ≡ length (take n (drop (at + 8) l)) + 4 = omega (arith, data_long l at s) in
    ap (λ (k : ℕ). take k (drop at l)) eight
    ∙ take_parts l at 4 (2 + (2 + n)) (at + 4) refl (mark_back l at s)
    (take_parts l (at + 4) 2 (2 + n) (at + 6) (add_assoc at 4 2) (word_back l (at + 4) b (omega arith) ∙ ap (bytes_of 2) long)
    (take_parts l (at + 6) 2 n (at + 8) (add_assoc at 6 2) (word_back l (at + 6) b (omega arith)) refl))

-- what stands at a place is the packet of the APID and the data that are answered there
pub stands_is : (l : List ℕ) (at : ℕ) → Bytes l → stands l at ≡ true
    → take (data_length l at + 10) (drop at l) ≡ packet_of (apid_at l at) (take (data_length l at) (drop (at + 8) l))
unfolding packet_of
stands_is l at b e =
    let s = standing l at e in
    ap (λ (k : ℕ). take k (drop at l)) (sym (add_assoc (data_length l at) 8 2))
    ∙ sealed_is l at (data_length l at + 8) b s.sealed (packet_covered l at b s)

-- the data that is handed back where a packet stands
data_handed : (l : List ℕ) (at : ℕ) → too_long l ≡ false → stands l at ≡ true → take (data_length l at) (drop (at + 8) l) ≡ payload_means l at
unfolding payload_means
data_handed l at h e = rw (h, e)

-- the same of what the calls answer: where `header` answers an APID and n, the n+10 bytes at the place are the packet of that APID and of the data
-- that `payload` hands back
pub packet_is : (l : List ℕ) (at : ℕ) (v : HeaderValues) → Bytes l → header_means l at ≡ accepted v
    → take (v.length + 10) (drop at l) ≡ packet_of v.apid (payload_means l at)
unfolding header_means
packet_is l at v b =
    pick_elim Says (too_long l) _ _ (λ long e. absurd (refused_not e))
    (λ fits. pick_elim Says (stands l at) _ _
    (λ stood e. subst Is (accepted_same e) (stands_is l at b stood ∙ ap (packet_of (apid_at l at)) (data_handed l at fits stood)))
    (λ none e. absurd (refused_not e)))
  where
    Is : HeaderValues → Type 0
    Is x = take (x.length + 10) (drop at l) ≡ packet_of x.apid (payload_means l at)

    Says : Paper HeaderValues → Type 0
    Says p = p ≡ accepted v → Is v

-- the bytes before a message's checksum are those that it covers
message_covered : (l : List ℕ) → Bytes l → marked l ≡ true → size_at l + 6 ≤ length l
    → take (size_at l + 4) l ≡ message.covered (address_at l) (tag_at l) (value_at l)
message_covered l b m h =
    let n = size_at l in
    let four : n + 4 ≡ 2 + (2 + n) = omega arith in
    let marks = both_hold m in
    ap (λ (k : ℕ). take k l) four
    ∙ take_parts l 0 2 (2 + n) 2 refl
    (take_two l 0 (omega arith) ∙ ap₂ (λ (x y : ℕ). x ∷ y ∷ []) (eqb-true _ _ marks.0) (eqb-true _ _ marks.1))
    (take_parts l 2 2 n 4 refl (word_back l 2 b (omega arith) ∙ ap (bytes_of 2) (sym (div-add-mod' (word_at l 2) (2 ^ 14))))
    (number_back l 4 n b (omega arith)))

-- what is read as a message is the message of the address, the tag and the value that are answered: so many bytes as were used
pub message_is : (l : List ℕ) (v : ReadValues) → Bytes l → read_means l ≡ accepted v
    → take v.used l ≡ message_of v.address v.tag v.value
unfolding read_means message_of
message_is l v b =
    pick_elim Says (ltb (length l) 4) _ _ (λ short e. absurd (refused_not e))
    (λ room. pick_elim Says (not (marked l)) _ _ (λ unmarked e. absurd (refused_not e))
    (λ mark. pick_elim Says (ltb (length l) (size_at l + 6)) _ _ (λ cut e. absurd (refused_not e))
    (λ whole. pick_elim Says (not (checked l)) _ _ (λ wrong e. absurd (refused_not e))
    (λ sealed e.
    let before = message_covered l b (answered_yes refl mark) (ltb-false (length l) (size_at l + 6) whole) in
    subst Is (accepted_same e)
    (ap (λ (k : ℕ). take k l) (sym (add_assoc (size_at l) 4 2)) ∙ sealed_is l 0 (size_at l + 4) b (answered_yes refl sealed) before)))))
  where
    Is : ReadValues → Type 0
    Is x = take x.used l ≡ message_of x.address x.tag x.value

    Says : Paper ReadValues → Type 0
    Says p = p ≡ accepted v → Is v
