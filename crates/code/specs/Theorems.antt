-- What packing and unpacking do together: the same bits again, the same number again, a run of codes, and the ends of the range.
-- Assumes nothing.
use Rattle.std.specs.Prelude.{◌≡◌, refl, Bool, true, ◌&&◌, List, [], ◌∷◌, ◌++◌, map, ℕ, zero, suc, ◌+◌, ◌-◌, ◌/◌, ◌%◌, ◌^◌, ◌<◌, ◌≤◌, ℤ, nat_abs}
use Rattle.std.specs.Prelude.{length, take, drop, replicate, leb, eqb, Result, Err}
use Rattle.std.proofs.Common.{sym, ap, ap₂, ◌∙◌, subst, append_assoc, arith, length-append, length-take, length-drop, take-append-drop, take-take, take_at}
use Rattle.std.proofs.Common.{drop_at, length-take-le, le-leb, leb-true}
use Rattle.std.proofs.lemmas.List.{length-replicate}
use Rattle.ground.specs.Choice.{pick, pick_elim}
use Rattle.ground.specs.Questions.{both_hold}
use Rattle.ground.specs.Paper.{Paper, accepted, refused, refused_with, onward, mapped, paper_elim, refused_not, accepted_same}
use Rattle.ground.specs.Outcome.{Outcome, accept, refuse, Stays}
use Rattle.ground.specs.Bits.{to_bits, bits_of}
use Rattle.ground.specs.Putting.{length-put}
use Rattle.code.specs.Meaning.{Shape, nought, small, led, Parsed, found, ran_out, redundant_zero, run_too_long, ShapeValues, UnpackValues, values_of}
use Rattle.code.specs.Meaning.{bits, value, width, with_parity, ones_of, shape_of_number, code_of, decoded, bits_that_count, parse}
use Rattle.code.specs.Meaning.{past_end, answer_to}
use Rattle.code.specs.Meaning.{greatest_place, largest, answer_of, position_means, shape_means, number_read, unpack_means, in_rule, pack_means, place_means}
use Rattle.code.specs.Meaning.{fits_at, put_at, padded, to_byte_end, bytes_with, drop_known}
use Rattle.code.specs.declared.Refusal.{Refusal}
use Rattle.code.specs.declared.Shape as Read
use Rattle.code.specs.Answers.{shape_paper, refusal_paper, reason_of}
use Rattle.code.specs.Promise.{ShapePromise}
use Rattle.code.specs.BitLists.{all_bits, all_bits-append, all_bits-take, all_bits-drop, all_bits-to_bits, all_bits-bits_of, length-bits_of}
use Rattle.code.specs.Positions.{length-bits_that_count, all_bits-bits_that_count, before_end, bits_back, length-bytes_from}
use Rattle.code.specs.Shapes.{Drop, drop_of, Valid, bits_some, parse_bits, found_exact}
use Rattle.code.specs.Magnitudes.{places, shape_of_value, number_valid, magnitude_fits, magnitude_positive, error_fits, sign_bit, signed_back}

-- so many bits of bytes, from a position on
abbrev pub bits_at : List ℕ → ℕ → ℕ → List ℕ
bits_at bytes at n = take n (drop at (bits_of bytes))

-- ---- codes that stand in bytes

-- a cut behind a part leaves the part
part_of_take : (n at end : ℕ) (l : List ℕ) → at + n ≤ end → take n (drop at (take end l)) ≡ take n (drop at l)
part_of_take n zero end l h = take-take n end l (omega arith)
part_of_take n (suc at) zero l h = absurd (omega arith)
part_of_take n (suc at) (suc end) [] h = refl
part_of_take n (suc at) (suc end) (b ∷ l) h = part_of_take n at end l (omega arith)

-- the same of the bits that count
part_that_counts : (bytes : List ℕ) (at n : ℕ) → at + n ≤ length (bits_that_count bytes) → take n (drop at (bits_that_count bytes)) ≡ bits_at bytes at n
unfolding bits_that_count
part_that_counts bytes at n h = part_of_take n at (2 ^ 63) (bits_of bytes) (omega (arith, length-take (2 ^ 63) (bits_of bytes)))

-- where a code stands in bytes, it is first among the bits from its position on
pub stands_first : (bytes : List ℕ) (at : ℕ) (code : List ℕ) → at + length code ≤ length (bits_that_count bytes) → bits_at bytes at (length code) ≡ code
    → drop at (bits_that_count bytes) ≡ code ++ drop (length code) (drop at (bits_that_count bytes))
stands_first bytes at code h e =
    let n : ℕ = length code in
    let l : List ℕ = drop at (bits_that_count bytes) in
    sym (take-append-drop n l) ∙ ap (λ (k : List ℕ). k ++ drop n l) (part_that_counts bytes at n h ∙ e)

-- where a shape's bits stand in bytes, that shape is read, with the position after it
pub reads_shape : (bytes : List ℕ) (at d : ℕ) (shape : Shape) → drop_known d ≡ true → Valid greatest_place d shape
    → at + length (bits d shape) ≤ length (bits_that_count bytes) → bits_at bytes at (length (bits d shape)) ≡ bits d shape
    → shape_means bytes at d ≡ accepted (values_of d shape (at + length (bits d shape)))
reads_shape bytes at d shape t v h e =
    let l : List ℕ = drop at (bits_that_count bytes) in
    let rest : List ℕ = drop (length (bits d shape)) l in
    before_end greatest_place bytes at d t (omega (arith, bits_some d shape))
    ∙ ap (answer_to greatest_place d at) (stands_first bytes at (bits d shape) h e)
    ∙ ap (answer_of greatest_place d at (bits d shape ++ rest)) (parse_bits greatest_place d shape rest v)

-- what was read at a position: a valid shape, whose bits stand there
pub record ReadAt (bytes : List ℕ) (at d : ℕ) (v : ShapeValues) : Type 0 where
  pub shape : Shape
  pub known : drop_known d ≡ true
  pub valid : Valid greatest_place d shape
  pub values : v ≡ values_of d shape (at + length (bits d shape))
  pub inside : at + length (bits d shape) ≤ length (bits_that_count bytes)
  pub stands : bits_at bytes at (length (bits d shape)) ≡ bits d shape

-- an accepted reading read a shape
pub read_at : (bytes : List ℕ) (at d : ℕ) {v : ShapeValues} → shape_means bytes at d ≡ accepted v → ReadAt bytes at d v
read_at bytes at d {v} e =
    pick_elim (λ (p : Paper ShapeValues). p ≡ accepted v → ReadAt bytes at d v) (drop_known d) (position_means greatest_place bytes at d) (refused 8)
    (λ k.
    pick_elim (λ (p : Paper ShapeValues). p ≡ accepted v → ReadAt bytes at d v) (past_end (length (bits_that_count bytes)) at) (refused_with 9 0)
    (answer_to greatest_place d at (drop at (bits_that_count bytes)))
    (λ past f. absurd (refused_not f))
    (λ here. by_shape (parse greatest_place d (drop at (bits_that_count bytes))) refl k))
    (λ k f. absurd (refused_not f))
    e
  where
    by_shape : (q : Parsed) → parse greatest_place d (drop at (bits_that_count bytes)) ≡ q → drop_known d ≡ true
        → answer_of greatest_place d at (drop at (bits_that_count bytes)) q ≡ accepted v → ReadAt bytes at d v
    by_shape (found shape rest) p k e =
        let l : List ℕ = drop at (bits_that_count bytes) in
        let x = found_exact greatest_place d l (all_bits-drop at (bits_that_count bytes) (all_bits-bits_that_count bytes)) p in
        let n : ℕ = length (bits d shape) in
        let long : length l ≡ n + length rest = ap length x.0 ∙ length-append (bits d shape) rest in
        let room : at + n ≤ length (bits_that_count bytes) = omega (arith, length-drop at (bits_that_count bytes), bits_some d shape) in
        record {
          shape = shape;
          known = k;
          valid = x.1;
          values = sym (accepted_same e);
          inside = room;
          stands = sym (part_that_counts bytes at n room) ∙ ap (take n) x.0 ∙ take_at (bits d shape) rest n refl;
        }
    by_shape ran_out p k e = absurd (refused_not e)
    by_shape redundant_zero p k e = absurd (refused_not e)
    by_shape run_too_long p k e = absurd (refused_not e)

-- a number that was read: that of a shape that was read
pub record NumberAt (bytes : List ℕ) (at d : ℕ) (t : UnpackValues) : Type 0 where
  pub values : ShapeValues
  pub read : shape_means bytes at d ≡ accepted values
  pub number : t ≡ number_read values

-- every accepted reading is so
pub number_at : (bytes : List ℕ) (at d : ℕ) {t : UnpackValues} → unpack_means bytes at d ≡ accepted t → NumberAt bytes at d t
number_at bytes at d {t} e =
    paper_elim (λ (p : Paper ShapeValues). mapped number_read p ≡ accepted t → NumberAt bytes at d t) (shape_means bytes at d)
    (λ v q f. record { values = v; read = q; number = sym (accepted_same f) })
    (λ n carried q f. absurd (refused_not f))
    e

-- what a caller computes with: a sign that is a bit and no sign of nothing, a magnitude inside the rule, a small error
pub record ReadFits (v : ShapeValues) : Type 0 where
  pub sign_fits : v.sign < 2
  pub some : v.sign ≡ 1 → 1 ≤ v.magnitude
  pub in_rule_lem : v.magnitude ≤ largest
  pub error_few : v.error ≤ 2 ^ (greatest_place / 2 + 2)

-- so is all that is read
pub read_fits : (bytes : List ℕ) (at d : ℕ) {v : ShapeValues} → shape_means bytes at d ≡ accepted v → ReadFits v
read_fits bytes at d e =
    let r = read_at bytes at d e in
    let shape : Shape = r.shape in
    let dr : Drop d = drop_of d r.known in
    subst ReadFits (sym r.values)
    (record {
      sign_fits = sign_bit greatest_place d shape r.valid;
      some = magnitude_positive greatest_place d shape dr r.valid;
      in_rule_lem = magnitude_fits greatest_place places d shape dr r.valid;
      error_few = error_fits greatest_place places d shape dr r.valid;
    })

-- a refusal of the shape is handed on by all that goes on from it
pub hands_on : {A : Type 0} (then : ShapeValues → Paper A) (bytes : List ℕ) (at d : ℕ) (r : Result Read.Shape Refusal) (why given : Refusal)
    → ShapePromise bytes at d r → r ≡ Err given → why ≡ reason_of r → refusal_paper why ≡ onward then (shape_means bytes at d)
hands_on then bytes at d r why given p e f =
    ap refusal_paper (f ∙ ap reason_of e) ∙ sym (ap (λ (a : Result Read.Shape Refusal). onward then (shape_paper a)) e) ∙ ap (onward then) p.answer

-- ---- codes that are put into bytes

-- a code with the rest of its last byte has room where the code has
padded_room : (buffer : List ℕ) (at : ℕ) (code : List ℕ) → at + length code ≤ length (bits_that_count buffer)
    → at + length (padded at code) ≤ length (bits_of buffer)
padded_room buffer at code h =
    let long : length (padded at code) ≡ length code + to_byte_end (at + length code)
    = length-append code (replicate (to_byte_end (at + length code)) 0)
    ∙ ap (λ (n : ℕ). length code + n) (length-replicate (to_byte_end (at + length code)) 0) in
    omega (arith, length-bits_that_count buffer, length-bits_of buffer)

-- zeros are bits
all_bits-zeros : (n : ℕ) → all_bits (replicate n 0)
all_bits-zeros zero = tt
all_bits-zeros (suc n) = (omega arith, all_bits-zeros n)

module _ (buffer : List ℕ) (at : ℕ) (code : List ℕ) (room : at + length code ≤ length (bits_that_count buffer)) (fine : all_bits code) where
  -- the bits that a put code leaves
  pub put_bits : bits_of (bytes_with buffer at code) ≡ put_at (bits_of buffer) at code
  put_bits =
      let old : List ℕ = bits_of buffer in
      let new : List ℕ = padded at code in
      bits_back (length buffer) (put_at old at code)
      (length-put old at new (padded_room buffer at code room) ∙ length-bits_of buffer)
      (all_bits-append (take at old) (new ++ drop (at + length new) old) (all_bits-take at old (all_bits-bits_of buffer))
      (all_bits-append new (drop (at + length new) old)
      (all_bits-append code (replicate (to_byte_end (at + length code)) 0) fine (all_bits-zeros (to_byte_end (at + length code))))
      (all_bits-drop (at + length new) old (all_bits-bits_of buffer))))

  -- the bits before the code are as many as its position says
  front : length (take at (bits_of buffer)) ≡ at
  front = length-take-le at (bits_of buffer) (omega (arith, padded_room buffer at code room))

  -- "changes no other bit": those before it
  pub put_keeps : take at (bits_of (bytes_with buffer at code)) ≡ take at (bits_of buffer)
  put_keeps =
      let old : List ℕ = bits_of buffer in
      let new : List ℕ = padded at code in
      ap (take at) put_bits ∙ take_at (take at old) (new ++ drop (at + length new) old) at front

  -- and those after its last byte
  pub put_keeps_after : drop (at + length (padded at code)) (bits_of (bytes_with buffer at code)) ≡ drop (at + length (padded at code)) (bits_of buffer)
  put_keeps_after =
      let old : List ℕ = bits_of buffer in
      let new : List ℕ = padded at code in
      ap (drop (at + length new)) (put_bits ∙ sym (append_assoc (take at old) new (drop (at + length new) old)))
      ∙ drop_at (take at old ++ new) (drop (at + length new) old) (at + length new)
      (length-append (take at old) new ∙ ap (λ (n : ℕ). n + length new) front)

  -- the code stands at its place
  pub put_stands : bits_at (bytes_with buffer at code) at (length code) ≡ code
  put_stands =
      let old : List ℕ = bits_of buffer in
      let new : List ℕ = padded at code in
      let zeros : List ℕ = replicate (to_byte_end (at + length code)) 0 in
      ap (λ (k : List ℕ). take (length code) (drop at k)) put_bits
      ∙ ap (take (length code))
      (drop_at (take at old) (new ++ drop (at + length new) old) at front ∙ append_assoc code zeros (drop (at + length new) old))
      ∙ take_at code (zeros ++ drop (at + length new) old) (length code) refl

  -- as many bits count as before
  pub put_counts : length (bits_that_count (bytes_with buffer at code)) ≡ length (bits_that_count buffer)
  put_counts =
      let same : length (bytes_with buffer at code) ≡ length buffer = length-bytes_from (length buffer) (put_at (bits_of buffer) at code) in
      omega (arith, length-bits_that_count (bytes_with buffer at code), length-bits_that_count buffer)

-- a number that was packed: inside the rule, with room, and its code put
pub record PackedAt (buffer : List ℕ) (at : ℕ) (v : ℤ) (d n : ℕ) (left : List ℕ) : Type 0 where
  pub known : drop_known d ≡ true
  pub small : nat_abs v ≤ largest
  pub room : at + length (code_of d v) ≤ length (bits_that_count buffer)
  pub after : n ≡ at + length (code_of d v)
  pub leaves : left ≡ bytes_with buffer at (code_of d v)

-- a number inside the rule, with room, is packed
pub packs : (buffer : List ℕ) (at : ℕ) (v : ℤ) (d : ℕ) → drop_known d ≡ true → nat_abs v ≤ largest → at + length (code_of d v) ≤ length (bits_that_count buffer)
    → pack_means buffer at v d ≡ accept (at + length (code_of d v)) (bytes_with buffer at (code_of d v))
packs buffer at v d t h room =
    ap₂ (λ (a b : Bool). pick a (pick b (accept (at + length (code_of d v)) (bytes_with buffer at (code_of d v))) (refuse 3 buffer)) (refuse 8 buffer))
    (ap₂ (λ (a b : Bool). a && b) t (le-leb (nat_abs v) largest h))
    (le-leb (at + length (code_of d v)) (length (bits_that_count buffer)) room)

-- what is shown of each outcome of writing: packed, or refused with the buffer as it was
pub pack_elim : (buffer : List ℕ) (at : ℕ) (v : ℤ) (d : ℕ) (P : Outcome ℕ (List ℕ) → Type 0)
    → ((n : ℕ) (left : List ℕ) → PackedAt buffer at v d n left → P (accept n left)) → ((n : ℕ) → 0 < n → P (refuse n buffer))
    → P (pack_means buffer at v d)
pack_elim buffer at v d P packed none =
    pick_elim P (in_rule v d) (place_means buffer at (code_of d v)) (refuse 8 buffer)
    (λ rule.
    let both = both_hold {a = drop_known d} {b = leb (nat_abs v) largest} rule in
    pick_elim P (fits_at buffer at (code_of d v)) (accept (at + length (code_of d v)) (bytes_with buffer at (code_of d v))) (refuse 3 buffer)
    (λ fits.
    packed (at + length (code_of d v)) (bytes_with buffer at (code_of d v))
    (record {
      known = both.0;
      small = leb-true (nat_abs v) largest both.1;
      room = leb-true (at + length (code_of d v)) (length (bits_that_count buffer)) fits;
      after = refl;
      leaves = refl;
    }))
    (λ short. none 3 (omega arith)))
    (λ outside. none 8 (omega arith))

-- an accepted writing packed the number
pub packed_at : (buffer : List ℕ) (at : ℕ) (v : ℤ) (d : ℕ) {n : ℕ} {left : List ℕ} → pack_means buffer at v d ≡ accept n left → PackedAt buffer at v d n left
packed_at buffer at v d {n} {left} e =
    pack_elim buffer at v d (λ (o : Outcome ℕ (List ℕ)). o ≡ accept n left → PackedAt buffer at v d n left)
    (λ m k p f.
    let same : m ≡ n = accepted_same (ap (λ (o : Outcome ℕ (List ℕ)). o.answer) f) in
    let kept : k ≡ left = ap (λ (o : Outcome ℕ (List ℕ)). o.leaves) f in
    record { known = p.known; small = p.small; room = p.room; after = sym same ∙ p.after; leaves = sym kept ∙ p.leaves })
    (λ m h f. absurd (refused_not (ap (λ (o : Outcome ℕ (List ℕ)). o.answer) f)))
    e

-- demand 1 of writing: a refusal leaves the buffer as it was
pub pack_stays : (buffer : List ℕ) (at : ℕ) (v : ℤ) (d : ℕ) → Stays buffer (pack_means buffer at v d)
pack_stays buffer at v d = pack_elim buffer at v d (Stays buffer) (λ n left p f. absurd (f refl)) (λ n h f. refl)

-- ones are bits
all_bits_ones : (n : ℕ) → all_bits (replicate n 1)
all_bits_ones zero = tt
all_bits_ones (suc n) = (omega arith, all_bits_ones n)

-- the bits of a shape are bits
pub all_bits_shape : (d : ℕ) (shape : Shape) → Valid greatest_place d shape → all_bits (bits d shape)
all_bits_shape d nought v = (omega arith, tt)
all_bits_shape d (small s x) v = (omega arith, (v.0, (omega arith, all_bits-to_bits (4 - d) x)))
all_bits_shape d (led s k x) v =
    let l : List ℕ = to_bits (width d k) x in
    let fine : all_bits (with_parity k l)
    = pick_elim all_bits (eqb k 4) l ((k - 1) % 2 ∷ l) (λ e. all_bits-to_bits (width d k) x) (λ e. (omega arith, all_bits-to_bits (width d k) x)) in
    (omega arith, (v.0, all_bits-append (replicate (ones_of k) 1) (0 ∷ with_parity k l) (all_bits_ones (ones_of k)) (omega arith, fine)))

-- ---- the theorems

-- "each accepted code, decoded, packs again to the same bits": in any buffer with room, at the same position, with the same next position
pub record SameBits (bytes buffer : List ℕ) (at d : ℕ) (t : UnpackValues) : Type 0 where
  pub left : List ℕ
  pub packed : pack_means buffer at t.value d ≡ accept t.next left
  pub same : bits_at left at (t.next - at) ≡ bits_at bytes at (t.next - at)

-- and they do
pub same_bits : (bytes buffer : List ℕ) (at d : ℕ) {t : UnpackValues} → unpack_means bytes at d ≡ accepted t → t.next ≤ length (bits_that_count buffer)
    → SameBits bytes buffer at d t
same_bits bytes buffer at d {t} e room =
    let n = number_at bytes at d e in
    let v : ShapeValues = n.values in
    let r = read_at bytes at d n.read in
    let f = read_fits bytes at d n.read in
    let shape : Shape = r.shape in
    let read : t ≡ record { value = value d shape; next = at + length (bits d shape) } = n.number ∙ ap number_read r.values in
    let after : t.next ≡ at + length (bits d shape) = ap (λ (u : UnpackValues). u.next) read in
    let code : code_of d t.value ≡ bits d shape
    = ap (λ (u : UnpackValues). code_of d u.value) read
    ∙ ap (bits d) (shape_of_value greatest_place places d shape (drop_of d r.known) r.valid) in
    let fits : nat_abs t.value ≤ largest
    = subst (λ (m : ℕ). m ≤ largest)
    (sym (ap (λ (u : UnpackValues). nat_abs u.value) n.number ∙ (signed_back v.sign v.magnitude f.sign_fits f.some).1)) f.in_rule_lem in
    let long : length (code_of d t.value) ≡ length (bits d shape) = ap length code in
    let next_is : at + length (code_of d t.value) ≡ t.next = omega arith in
    let n_is : t.next - at ≡ length (bits d shape) = omega arith in
    record {
      left = bytes_with buffer at (code_of d t.value);
      packed =
          packs buffer at t.value d r.known fits (omega arith)
          ∙ ap (λ (m : ℕ). accept m (bytes_with buffer at (code_of d t.value))) next_is;
      same =
          ap₂ (λ (k : List ℕ) (m : ℕ). bits_at k at m) (ap (bytes_with buffer at) code) n_is
          ∙ put_stands buffer at (bits d shape) (omega arith) (all_bits_shape d shape r.valid)
          ∙ sym r.stands
          ∙ ap (bits_at bytes at) (sym n_is);
    }

-- the shape of a number that was packed is read, with the position that packing answered
pub shape_reads_back : (buffer : List ℕ) (at : ℕ) (v : ℤ) (d : ℕ) {n : ℕ} {left : List ℕ} → pack_means buffer at v d ≡ accept n left
    → shape_means left at d ≡ accepted (values_of d (shape_of_number d v) n)
shape_reads_back buffer at v d e =
    let p = packed_at buffer at v d e in
    let valid = number_valid greatest_place places d v (drop_of d p.known) p.small in
    let fine = all_bits_shape d (shape_of_number d v) valid in
    ap (λ (k : List ℕ). shape_means k at d) p.leaves
    ∙ reads_shape (bytes_with buffer at (code_of d v)) at d (shape_of_number d v) p.known valid
    (omega (arith, p.room, put_counts buffer at (code_of d v) p.room fine))
    (put_stands buffer at (code_of d v) p.room fine)
    ∙ ap (λ (m : ℕ). accepted (values_of d (shape_of_number d v) m)) (sym p.after)

-- "what pack wrote unpack reads, with the same next position, as the decoded number"
pub reads_back : (buffer : List ℕ) (at : ℕ) (v : ℤ) (d : ℕ) {n : ℕ} {left : List ℕ} → pack_means buffer at v d ≡ accept n left
    → unpack_means left at d ≡ accepted (record { value = decoded d v; next = n })
reads_back buffer at v d e = ap (mapped number_read) (shape_reads_back buffer at v d e)

-- numbers written one after the other, each at the position that the last answered
pub data Wrote (d : ℕ) : List ℕ → ℕ → List ℤ → List ℕ → ℕ → Type 0 where
  none : {buffer : List ℕ} {at : ℕ} → Wrote d buffer at [] buffer at
  next : {buffer left last : List ℕ} {at after end : ℕ} {v : ℤ} {vs : List ℤ}
      → pack_means buffer at v d ≡ accept after left → Wrote d left after vs last end → Wrote d buffer at (v ∷ vs) last end

-- numbers read one after the other, each at the position that the last answered
pub data ReadRun (d : ℕ) (bytes : List ℕ) : ℕ → List ℤ → ℕ → Type 0 where
  none : {at : ℕ} → ReadRun d bytes at [] at
  next : {at after end : ℕ} {v : ℤ} {vs : List ℤ}
      → unpack_means bytes at d ≡ accepted (record { value = v; next = after }) → ReadRun d bytes after vs end → ReadRun d bytes at (v ∷ vs) end

-- what a run of writings keeps: the bits before it, and how many bits count
pub record Keeps (buffer last : List ℕ) (at : ℕ) : Type 0 where
  pub before : take at (bits_of last) ≡ take at (bits_of buffer)
  pub counts : length (bits_that_count last) ≡ length (bits_that_count buffer)

-- bits before an earlier position are kept where those before a later one are
keeps_earlier : (buffer last : List ℕ) (at after : ℕ) → at ≤ after → take after (bits_of last) ≡ take after (bits_of buffer)
    → take at (bits_of last) ≡ take at (bits_of buffer)
keeps_earlier buffer last at after h e = sym (take-take at after (bits_of last) h) ∙ ap (take at) e ∙ take-take at after (bits_of buffer) h

-- one writing
pack_keeps : (buffer : List ℕ) (at : ℕ) (v : ℤ) (d : ℕ) {n : ℕ} {left : List ℕ} → pack_means buffer at v d ≡ accept n left → Keeps buffer left at
pack_keeps buffer at v d e =
    let p = packed_at buffer at v d e in
    let fine = all_bits_shape d (shape_of_number d v) (number_valid greatest_place places d v (drop_of d p.known) p.small) in
    subst (λ (k : List ℕ). Keeps buffer k at) (sym p.leaves)
    (record { before = put_keeps buffer at (code_of d v) p.room fine; counts = put_counts buffer at (code_of d v) p.room fine })

-- a run of writings
pub wrote_keeps : {d : ℕ} {buffer last : List ℕ} {at end : ℕ} {vs : List ℤ} → Wrote d buffer at vs last end → Keeps buffer last at
wrote_keeps none = record { before = refl; counts = refl }
wrote_keeps {d} (next {buffer = buffer} {left = left} {last = last} {at = at} {after = after} {v = v} e w) =
    let one = pack_keeps buffer at v d e in
    let rest = wrote_keeps w in
    let later : at ≤ after = omega (arith, (packed_at buffer at v d e).after) in
    record {
      before = keeps_earlier left last at after later rest.before ∙ one.before;
      counts = rest.counts ∙ one.counts;
    }

-- bits before a position that are kept are kept at each place before it
kept_at : (one two : List ℕ) (at n : ℕ) → take (at + n) (bits_of two) ≡ take (at + n) (bits_of one) → bits_at two at n ≡ bits_at one at n
kept_at one two at n e =
    sym (part_of_take n at (at + n) (bits_of two) (omega arith))
    ∙ ap (λ (k : List ℕ). take n (drop at k)) e
    ∙ part_of_take n at (at + n) (bits_of one) (omega arith)

-- "two codes never run into each other": a written run reads back as the run, each number as its decoded number
pub run_reads_back : {d : ℕ} {buffer last : List ℕ} {at end : ℕ} {vs : List ℤ} → Wrote d buffer at vs last end
    → ReadRun d last at (map (decoded d) vs) end
run_reads_back none = none
run_reads_back {d} (next {buffer = buffer} {left = left} {last = last} {at = at} {after = after} {v = v} e w) =
    next (first e (wrote_keeps w)) (run_reads_back w)
  where
    first : pack_means buffer at v d ≡ accept after left → Keeps left last after
        → unpack_means last at d ≡ accepted (record { value = decoded d v; next = after })
    first e keeps =
        let p = packed_at buffer at v d e in
        let valid = number_valid greatest_place places d v (drop_of d p.known) p.small in
        let fine = all_bits_shape d (shape_of_number d v) valid in
        let n : ℕ = length (code_of d v) in
        let same : take (at + n) (bits_of last) ≡ take (at + n) (bits_of (bytes_with buffer at (code_of d v)))
        = subst (λ (m : ℕ). take m (bits_of last) ≡ take m (bits_of left)) p.after keeps.before
        ∙ ap (λ (k : List ℕ). take (at + n) (bits_of k)) p.leaves in
        let many : length (bits_that_count last) ≡ length (bits_that_count buffer)
        = keeps.counts ∙ ap (λ (k : List ℕ). length (bits_that_count k)) p.leaves ∙ put_counts buffer at (code_of d v) p.room fine in
        ap (mapped number_read)
        (reads_shape last at d (shape_of_number d v) p.known valid (omega (arith, p.room, many))
        (kept_at (bytes_with buffer at (code_of d v)) last at n same ∙ put_stands buffer at (code_of d v) p.room fine))
        ∙ ap (λ (m : ℕ). accepted (record { value = decoded d v; next = m })) (sym p.after)
