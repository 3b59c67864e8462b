-- Request 2026-06: "Codes already on file keep their bits and meaning", and what is new about the others.
-- Assumes nothing.
use Rattle.std.specs.Prelude.{◌≡◌, Bool, true, false, ◌&&◌, ◌⊎◌, ℕ, zero, suc, ◌+◌, ◌*◌, ◌-◌, ◌%◌, ◌/◌, ◌^◌, ◌<◌, ◌≤◌, ℤ, nat_abs, length, drop, replicate}
use Rattle.std.specs.Prelude.{ltb, leb, Result}
use Rattle.std.proofs.Math.Path.{refl}
use Rattle.std.proofs.Common.{sym, ap, ap₂, ◌∙◌, inl, ⊎_elim, arith}
use mathlib.Core.List.{List, [], ◌∷◌, ◌++◌}
use Rattle.std.proofs.Math.Logic.{inr}
use borrow.Author.Tests.{lt-ltb, le-ltb, ltb-true, le-leb, leb-true}
use Rattle.ground.specs.Choice.{pick}
use Rattle.ground.specs.Questions.{both_ways, both_hold}
use Rattle.ground.specs.Paper.{Paper, accepted, refused, refused_with, onward, mapped, refused_not}
use Rattle.ground.specs.Outcome.{Outcome, accept, refuse, outcome_of}
use Rattle.ground.specs.Bits.{to_bits}
use Rattle.code.specs.Meaning.{Parsed, found, ran_out, redundant_zero, run_too_long, ShapeValues, UnpackValues, greatest_place, largest, longest_run}
use Rattle.code.specs.Meaning.{least_coded, led_of, shape_of, coded, bits, sign_of, shape_of_number, code_of, led_then, after_run, after_sign, parse}
use Rattle.code.specs.Meaning.{bits_that_count, past_end, answer_of, answer_to, shape_means}
use Rattle.code.specs.Meaning.{number_read, unpack_means, drop_known, place_means, pack_means, bytes_with}
use Rattle.code.specs.OldReader.{old_place, old_largest, old_shape_means, old_unpack_means, old_pack_means}
use Rattle.code.specs.Answers.{packed_paper, unpacked_paper}
use Rattle.code.specs.Promise.{PackPromise, UnpackPromise}
use Rattle.code.specs.declared.NotPacked.{NotPacked}
use Rattle.code.specs.declared.Refusal.{Refusal}
use Rattle.code.specs.declared.Unpacked.{Unpacked}
use Rattle.code.specs.BitLists.{all_bits, all_bits-drop}
use Rattle.code.specs.Positions.{all_bits-bits_that_count, before_end}
use Rattle.code.specs.Shapes.{Drop, none, three, drop_of, bits_some}
use Rattle.code.specs.Missing.{missing_computed_lem}
use Rattle.code.specs.Magnitudes.{places, leading_is, number_valid}
use Rattle.code.specs.Theorems.{stands_first, put_stands, put_counts, packed_at, all_bits_shape}

-- ---- what a greater range changes

-- what was found before is found still, or it was refused as a run that is too long
abbrev pub Stands : Parsed → Parsed → Type 0
Stands old new = (old ≡ run_too_long) ⊎ (old ≡ new)

-- what goes on under a test, or is a run that is too long, stands under a test that follows from it
test_stands : (a b : Bool) {p q : Parsed} → (a ≡ true → b ≡ true) → Stands p q → Stands (pick a p run_too_long) (pick b q run_too_long)
test_stands true true follows s = s
test_stands true false follows s = absurd (both_ways (follows refl) refl)
test_stands false b follows s = inl refl

module _ (low high d s : ℕ) (more : low ≤ high) where
  -- under a leading one
  led_stands : (k : ℕ) (l : List ℕ) → Stands (led_then low d s k l) (led_then high d s k l)
  led_stands k l = test_stands (leb k low) (leb k high) (λ t. le-leb k high (omega (arith, leb-true k low t))) (inr refl)

  -- after the run of ones and its zero
  run_stands : (ones : ℕ) (l : List ℕ) → Stands (after_run low d s ones l) (after_run high d s ones l)
  run_stands zero l = inr refl
  run_stands (suc zero) l = led_stands 4 l
  run_stands (suc (suc ones)) [] = inr refl
  run_stands (suc (suc ones)) (p ∷ l) = led_stands (2 * suc (suc ones) + 1 + p) l

  -- after the sign
  sign_stands : (ones : ℕ) (l : List ℕ) → Stands (after_sign low d s ones l) (after_sign high d s ones l)
  unfolding after_sign
  sign_stands ones [] = inr refl
  sign_stands ones (zero ∷ l) = run_stands ones l
  sign_stands ones (suc b ∷ l) =
      test_stands (ltb ones (longest_run low)) (ltb ones (longest_run high))
      (λ t. lt-ltb ones (longest_run high) (omega (arith, ltb-true ones (longest_run low) t)))
      (sign_stands (suc ones) l)

-- whatever the bits are: a greater range changes nothing but what was refused as a run that is too long
pub parse_stands : (low high d : ℕ) (l : List ℕ) → low ≤ high → Stands (parse low d l) (parse high d l)
unfolding parse
parse_stands low high d [] more = inr refl
parse_stands low high d (zero ∷ l) more = inr refl
parse_stands low high d (suc b ∷ []) more = inr refl
parse_stands low high d (suc b ∷ (s ∷ l)) more = sign_stands low high d s more 0 l

-- ---- reading

-- the answers to the same bits: a greater range completes no code with fewer bits, so the number that 9 carries stands too
answers_stand : (d at : ℕ) (l : List ℕ) → Drop d → all_bits l
    → (answer_to old_place d at l ≡ refused 11) ⊎ (answer_to old_place d at l ≡ answer_to greatest_place d at l)
answers_stand d at l dr ok =
    ⊎_elim (λ e. inl (ap (answer_of old_place d at l) e))
    (λ e. inr (same (parse old_place d l) refl (sym e) ∙ ap (answer_of greatest_place d at l) e))
    (parse_stands old_place greatest_place d l (omega arith))
  where
    same : (p : Parsed) → parse old_place d l ≡ p → parse greatest_place d l ≡ p → answer_of old_place d at l p ≡ answer_of greatest_place d at l p
    same (found shape rest) e f = refl
    same ran_out e f =
        ap (λ (n : ℕ). refused_with 9 n)
        (missing_computed_lem old_place d dr (omega arith) l ok e ∙ sym (missing_computed_lem greatest_place d dr (omega arith) l ok f))
    same redundant_zero e f = refl
    same run_too_long e f = refl

-- every answer of the old reader but 11 is today's, refusals too
pub shape_stands : (bytes : List ℕ) (at d : ℕ) → (old_shape_means bytes at d ≡ refused 11) ⊎ (old_shape_means bytes at d ≡ shape_means bytes at d)
shape_stands bytes at d = go (drop_known d) refl (past_end (length (bits_that_count bytes)) at)
  where
    told : ℕ → Bool → Bool → Paper ShapeValues
    told top a b = pick a (pick b (refused_with 9 0) (answer_to top d at (drop at (bits_that_count bytes)))) (refused 8)

    go : (a : Bool) → drop_known d ≡ a → (b : Bool) → (told old_place a b ≡ refused 11) ⊎ (told old_place a b ≡ told greatest_place a b)
    go false t b = inr refl
    go true t true = inr refl
    go true t false =
        answers_stand d at (drop at (bits_that_count bytes)) (drop_of d t) (all_bits-drop at (bits_that_count bytes) (all_bits-bits_that_count bytes))

-- what was accepted, and not refused, is accepted still
accepted_stands : {A : Type 0} {old new : Paper A} {n : ℕ} {x : A} → (old ≡ refused n) ⊎ (old ≡ new) → old ≡ accepted x → new ≡ accepted x
accepted_stands (inl r) e = absurd (refused_not (sym r ∙ e))
accepted_stands (inr q) e = sym q ∙ e

-- "every code accepted before decodes as before": its sign, its magnitude, its error and its next position
pub reads_as_before : (bytes : List ℕ) (at d : ℕ) {v : ShapeValues} → old_shape_means bytes at d ≡ accepted v → shape_means bytes at d ≡ accepted v
reads_as_before bytes at d = accepted_stands (shape_stands bytes at d)

-- the same of all that goes on from what was read: numbers, readings, rates
pub onward_stands : {A : Type 0} (then : ShapeValues → Paper A) (bytes : List ℕ) (at d : ℕ)
    → (onward then (old_shape_means bytes at d) ≡ refused 11) ⊎ (onward then (old_shape_means bytes at d) ≡ onward then (shape_means bytes at d))
onward_stands then bytes at d = ⊎_elim (λ r. inl (ap (onward then) r)) (λ q. inr (ap (onward then) q)) (shape_stands bytes at d)

-- what was made of a code before is made of it now
pub onward_as_before : {A : Type 0} (then : ShapeValues → Paper A) (bytes : List ℕ) (at d : ℕ) {x : A} → onward then (old_shape_means bytes at d) ≡ accepted x
    → onward then (shape_means bytes at d) ≡ accepted x
onward_as_before then bytes at d = accepted_stands (onward_stands then bytes at d)

-- "decodes as before": the same number, the same next position
pub decodes_as_before : (bytes : List ℕ) (at d : ℕ) {t : UnpackValues} → old_unpack_means bytes at d ≡ accepted t → unpack_means bytes at d ≡ accepted t
decodes_as_before = onward_as_before (λ v. accepted (number_read v))

-- what is accepted now and was not accepted before, the old reader refused by 11
pub new_was_refused : (bytes : List ℕ) (at d : ℕ) {t : UnpackValues} → unpack_means bytes at d ≡ accepted t
    → ((u : UnpackValues) → old_unpack_means bytes at d ≡ accepted u → ⊥) → old_unpack_means bytes at d ≡ refused 11
new_was_refused bytes at d {t} e never =
    ⊎_elim (λ r. r) (λ q. absurd (never t (q ∙ e))) (onward_stands (λ v. accepted (number_read v)) bytes at d)

-- ---- writing

-- every outcome of the old writer but 8 is today's
pub pack_stands : (buffer : List ℕ) (at : ℕ) (v : ℤ) (d : ℕ)
    → (old_pack_means buffer at v d ≡ refuse 8 buffer) ⊎ (old_pack_means buffer at v d ≡ pack_means buffer at v d)
pack_stands buffer at v d = go (drop_known d && leb (nat_abs v) old_largest) refl
  where
    go : (t : Bool) → (drop_known d && leb (nat_abs v) old_largest) ≡ t
        → (old_pack_means buffer at v d ≡ refuse 8 buffer) ⊎ (old_pack_means buffer at v d ≡ pack_means buffer at v d)
    go true t =
        let both = both_hold {a = drop_known d} {b = leb (nat_abs v) old_largest} t in
        let small : nat_abs v ≤ largest = omega (arith, leb-true (nat_abs v) old_largest both.1) in
        let rule : (drop_known d && leb (nat_abs v) largest) ≡ true = ap₂ (λ (a b : Bool). a && b) both.0 (le-leb (nat_abs v) largest small) in
        inr (ap (λ (b : Bool). pick b (place_means buffer at (code_of d v)) (refuse 8 buffer)) (t ∙ sym rule))
    go false t = inl (ap (λ (b : Bool). pick b (place_means buffer at (code_of d v)) (refuse 8 buffer)) t)

-- "Codes already on file keep their bits": a number packed before leaves the same bytes and the same next position
pub packs_as_before : (buffer : List ℕ) (at : ℕ) (v : ℤ) (d : ℕ) {n : ℕ} {left : List ℕ} → old_pack_means buffer at v d ≡ accept n left
    → pack_means buffer at v d ≡ accept n left
packs_as_before buffer at v d e =
    ⊎_elim (λ r. absurd (refused_not (ap (λ (o : Outcome ℕ (List ℕ)). o.answer) (sym r ∙ e)))) (λ q. sym q ∙ e) (pack_stands buffer at v d)

-- ---- of the calls

-- what `unpack` answers of a code that was accepted before
pub unpack_as_before : {bytes : List ℕ} {at d : ℕ} {t : UnpackValues} {r : Result Unpacked Refusal} → UnpackPromise bytes at d r
    → old_unpack_means bytes at d ≡ accepted t → unpacked_paper r ≡ accepted t
unpack_as_before {bytes} {at} {d} p e = p.answer ∙ decodes_as_before bytes at d e

-- what `pack` leaves of a number that was packed before
pub pack_as_before : {buffer after left : List ℕ} {at d n : ℕ} {v : ℤ} {r : Result ℕ NotPacked} → PackPromise buffer at v d r after
    → old_pack_means buffer at v d ≡ accept n left → outcome_of (packed_paper r) after ≡ accept n left
pack_as_before {buffer} {at = at} {d = d} {v = v} p e = p.outcome ∙ packs_as_before buffer at v d e

-- ---- the new codes

-- "New ones have 12 ones, a zero, a zero and, for drop 0, 13 further bits, 29 in all"; three fewer with drop 3
pub record NewCode (d : ℕ) (v : ℤ) : Type 0 where
  pub bits_are : code_of d v ≡ coded (sign_of v) 12 (0 ∷ to_bits (13 - d) (nat_abs v % 2 ^ 25 / 2 ^ (12 + d)))
  pub many : length (code_of d v) ≡ 29 - d

-- the leading one of a number above the old limit stands at the greatest place
new_shape : (d : ℕ) (v : ℤ) → least_coded d ≤ 4 → old_largest < nat_abs v → nat_abs v ≤ largest
    → shape_of_number d v ≡ led_of d (sign_of v) greatest_place (nat_abs v)
unfolding shape_of
new_shape d v few over fits =
    let m : ℕ = nat_abs v in
    rw (le-ltb m (least_coded d) (omega arith), le-ltb m 16 (omega arith))
    (ap (λ (k : ℕ). led_of d (sign_of v) k m) (leading_is 31 greatest_place m (omega arith) (omega arith) (omega arith)))

-- so are the codes of all numbers above the old limit
pub new_codes : (d : ℕ) (v : ℤ) → Drop d → old_largest < nat_abs v → nat_abs v ≤ largest → NewCode d v
new_codes d v none over fits =
    let e = ap (bits 0) (new_shape 0 v (omega arith) over fits) in
    record { bits_are = e; many = ap length e }
new_codes d v three over fits =
    let e = ap (bits 3) (new_shape 3 v (omega arith) over fits) in
    record { bits_are = e; many = ap length e }

-- "The old reader refuses those by 11", whatever follows them
pub new_too_long : (d : ℕ) (v : ℤ) (rest : List ℕ) → Drop d → old_largest < nat_abs v → nat_abs v ≤ largest
    → parse old_place d (code_of d v ++ rest) ≡ run_too_long
unfolding parse after_sign
new_too_long d v rest dr over fits = ap (λ (l : List ℕ). parse old_place d (l ++ rest)) (new_codes d v dr over fits).bits_are

-- and so it does with what is written of them
pub written_too_long : (buffer : List ℕ) (at : ℕ) (v : ℤ) (d : ℕ) {n : ℕ} {left : List ℕ} → old_largest < nat_abs v → pack_means buffer at v d ≡ accept n left
    → old_unpack_means left at d ≡ refused 11
written_too_long buffer at v d over e =
    let p = packed_at buffer at v d e in
    let dr : Drop d = drop_of d p.known in
    let code : List ℕ = code_of d v in
    let bytes : List ℕ = bytes_with buffer at code in
    let fine = all_bits_shape d (shape_of_number d v) (number_valid greatest_place places d v dr p.small) in
    let room : at + length code ≤ length (bits_that_count bytes) = omega (arith, p.room, put_counts buffer at code p.room fine) in
    let rest : List ℕ = drop (length code) (drop at (bits_that_count bytes)) in
    ap (λ (k : List ℕ). old_unpack_means k at d) p.leaves
    ∙ ap (mapped number_read) (before_end old_place bytes at d p.known (omega (arith, bits_some d (shape_of_number d v))))
    ∙ ap (λ (k : List ℕ). mapped number_read (answer_to old_place d at k)) (stands_first bytes at code room (put_stands buffer at code p.room fine))
    ∙ ap (λ (q : Parsed). mapped number_read (answer_of old_place d at (code ++ rest) q)) (new_too_long d v rest dr over p.small)

-- ---- "11 now comes at the 13th one, or after 12 ones, a zero and a one"

-- at the 13th one, whatever follows
pub thirteenth_one : (d s : ℕ) (l : List ℕ) → parse greatest_place d (1 ∷ s ∷ (replicate 13 1 ++ l)) ≡ run_too_long
unfolding parse after_sign
thirteenth_one d s l = refl

-- after 12 ones, a zero and a one, whatever follows, and where nothing does
pub one_after_twelve : (d s : ℕ) (l : List ℕ) → parse greatest_place d (coded s 12 (1 ∷ l)) ≡ run_too_long
unfolding parse after_sign
one_after_twelve d s l = refl

-- after 12 ones, or after them and a zero, with nothing behind, bits ran out
pub twelve_and_nothing : (d s : ℕ) → (parse greatest_place d (1 ∷ s ∷ replicate 12 1) ≡ ran_out) × (parse greatest_place d (coded s 12 []) ≡ ran_out)
unfolding parse after_sign
twelve_and_nothing d s = (refl, refl)
