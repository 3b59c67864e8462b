-- Laws that the proofs of reading cite: what each part of a code answers for, over plain lists of bits.
-- Assumes nothing.
use mathlib.Core.Path.{◌≡◌, refl, sym, ap, ap₂, ◌∙◌, subst}
use mathlib.Core.Bool.{Bool, true, false}
use mathlib.Core.List.{List, ◌∷◌}
use Prim.Native.Nat.{ℕ, zero, suc, ◌+◌, ◌-◌, ◌^◌, ◌<◌, ◌≤◌}
use native.Mathlib.Numerals.{add-one}
use native.Mathlib.Omega.{arith}
use lib.ListN.{length, length-append, length-drop, drop, get_or, drop_of_length-le}
use lib.Seq.{drop-cons}
use lib.Dec.{ltb, leb, eqb}
use lib.IntN.{ℤ}
use borrow.Author.Tests.{le-leb, lt-leb}
use Rattle.ground.specs.Choice.{pick}
use Rattle.ground.specs.Paper.{Paper, accepted, refused, refused_with, mapped}
use Rattle.code.specs.Meaning.{led, Parsed, found, ran_out, redundant_zero, run_too_long, ShapeValues, bits_that_count, filled, signed}
use Rattle.code.specs.Meaning.{left_out, width}
use Rattle.code.specs.Meaning.{after_sign, parse, bits, values_of, answer_of, answer_to}
use Rattle.code.specs.Meaning.{past_end, shape_means}
use Rattle.code.specs.Meaning.{number_read, unpack_means, drop_known, greatest_place, largest, longest_run}
use Rattle.code.specs.Shapes.{Drop, drop_of, below_led, Exact, parse_exact, bits_some}
use Rattle.code.specs.BitLists.{all_bits, all_bits-drop}
use Rattle.code.specs.Missing.{behind_run, missing_after_sign, missing_computed, missing_computed_lem, by_place}
use Rattle.code.specs.Positions.{all_bits-bits_that_count}
use Rattle.code.specs.Magnitudes.{places, magnitude_fits}
use Rattle.code.specs.Theorems.{read_fits}
use Rattle.code.specs.Answers.{shape_values}
use Rattle.code.specs.Promise.{ShapePromise}
use Rattle.code.specs.declared.Shape.{Shape}
use Rattle.std.specs.Prelude.{Ok}
use Rattle.std.specs.Borrow.{Bor}
use Rattle.unpack.specs.declared.cursor.Cursor.{Cursor}
use Rattle.unpack.specs.Cursors.{bits_left}
use Rattle.unpack.specs.Steps.{rest_answer, code_answer, sign_answer, run_answer}

-- ---- under a leading one

-- whatever the field holds, the magnitude is inside the rule
pub led_fits : (d s k w x : ℕ) → Drop d → s < 2 → 4 ≤ k → k ≤ greatest_place → w ≡ width d k → x < 2 ^ w → 2 ^ k + filled (k - w) x ≤ largest
led_fits d s k w x dr hs four top e hx =
    let left : left_out d k ≡ k - w = omega (arith, e, (below_led k dr four).all) in
    subst (λ (n : ℕ). 2 ^ k + filled n x ≤ largest) left
    (magnitude_fits greatest_place places d (led s k x) dr (hs, four, top, subst (λ (n : ℕ). x < 2 ^ n) e hx))

-- ---- the run of ones

-- a bit that is not 0
one_is : (b : ℕ) → (b ≡ 0 → ⊥) → (n : ℕ) × (b ≡ suc n)
one_is zero h = absurd (h refl)
one_is (suc n) h = (n, refl)

-- where reading stands after a run of ones: the definition from here on, or one one too many
abbrev pub so_far : ℕ → ℕ → ℕ → ℕ → List ℕ → Paper ShapeValues
so_far d end s ones l = pick (leb ones (longest_run greatest_place)) (sign_answer d end s ones l) (refused 11)

-- not too many yet
pub far_in : (d end s ones : ℕ) (l : List ℕ) → ones ≤ longest_run greatest_place → so_far d end s ones l ≡ sign_answer d end s ones l
far_in d end s ones l few = rw (le-leb ones (longest_run greatest_place) few)

-- one too many
pub far_out : (d end s ones : ℕ) (l : List ℕ) → longest_run greatest_place < ones → so_far d end s ones l ≡ refused 11
far_out d end s ones l many = rw (lt-leb ones (longest_run greatest_place) many)

module _ (l : List ℕ) (here end b : ℕ) (end_is : end ≡ length l) (inside : here < end) (bit : b ≡ get_or l here 0) where
  -- the bits from here are this bit and those from the next place
  from_here : drop here l ≡ b ∷ drop (here + 1) l
  from_here = drop-cons l here 0 (omega arith) ∙ ap₂ ◌∷◌ (sym bit) (ap (λ (n : ℕ). drop n l) (sym (add-one here)))

  -- a zero
  zero_here : b ≡ 0 → drop here l ≡ 0 ∷ drop (here + 1) l
  zero_here z = from_here ∙ ap (λ (n : ℕ). n ∷ drop (here + 1) l) z

  -- a one
  one_here : (b ≡ 0 → ⊥) → (n : ℕ) × (drop here l ≡ suc n ∷ drop (here + 1) l)
  one_here h = let o = one_is b h in (o.0, from_here ∙ ap (λ (n : ℕ). n ∷ drop (here + 1) l) o.1)

  module _ (d s ones : ℕ) where
    -- a zero ends the run
    pub run_ends : b ≡ 0 → sign_answer d end s ones (drop here l) ≡ run_answer d end s ones (drop (here + 1) l)
    unfolding after_sign missing_after_sign
    run_ends z = ap (sign_answer d end s ones) (zero_here z)

    -- a one goes on with the run, or is one too many
    run_on : (t : Bool) → (b ≡ 0 → ⊥) → ltb ones (longest_run greatest_place) ≡ t
        → sign_answer d end s ones (drop here l) ≡ pick t (sign_answer d end s (suc ones) (drop (here + 1) l)) (refused 11)
    unfolding after_sign missing_after_sign
    run_on t h e = ap (sign_answer d end s ones) (one_here h).1 ∙ go t (drop (here + 1) l) (one_here h).0 e
      where
        go : (t : Bool) (k : List ℕ) (n : ℕ) → ltb ones (longest_run greatest_place) ≡ t
            → sign_answer d end s ones (suc n ∷ k) ≡ pick t (sign_answer d end s (suc ones) k) (refused 11)
        go true k n e = rw e
        go false k n e = rw e

    -- a one that is not one too many goes on with it, and any other is the end
    pub run_goes_on : (next : ℕ) → next ≡ here + 1 → (b ≡ 0 → ⊥) → ones ≤ longest_run greatest_place
        → so_far d end s ones (drop here l) ≡ so_far d end s (ones + 1) (drop next l)
    run_goes_on next after h few =
        let more : leb (ones + 1) (longest_run greatest_place) ≡ ltb ones (longest_run greatest_place)
        = ap (λ (n : ℕ). leb n (longest_run greatest_place)) (add-one ones) in
        far_in d end s ones (drop here l) few
        ∙ run_on (ltb ones (longest_run greatest_place)) h refl
        ∙ ap₂ (λ (t : Bool) (n : ℕ). pick t (sign_answer d end s n (drop (here + 1) l)) (refused 11)) (sym more) (sym (add-one ones))
        ∙ ap (λ (n : ℕ). so_far d end s (ones + 1) (drop n l)) (sym after)

-- bits ran out in the run
pub run_out : (l : List ℕ) (here end d s ones missing : ℕ) → end ≡ length l → end ≤ here → missing ≡ behind_run d ones
    → sign_answer d end s ones (drop here l) ≡ refused_with 9 (1 + missing)
unfolding after_sign missing_after_sign
run_out l here end d s ones missing e h m =
    let one_more : suc (behind_run d ones) ≡ 1 + missing = omega arith in
    rw (drop_of_length-le l {i = here} (omega arith)) (ap (λ (n : ℕ). refused_with 9 n) one_more)

-- the answer to what the start means, by what it means here
pub answer_by : {p x y z : Paper ShapeValues} → x ≡ y → y ≡ z → p ≡ z → p ≡ x
answer_by u v q = q ∙ sym (u ∙ v)

-- ---- from the first bit on

-- no bit at the position
pub code_out : (l : List ℕ) (at end d : ℕ) → end ≡ length l → end ≤ at → refused_with 9 1 ≡ code_answer d end (drop at l)
unfolding parse missing_computed
code_out l at end d e h = rw (drop_of_length-le l {i = at} (omega arith))

module _ (l : List ℕ) (at end d b : ℕ) (end_is : end ≡ length l) (inside : at < end) (bit : b ≡ get_or l at 0) where
  -- what is answered for the bits from the position on
  from_bits_lem : {k : List ℕ} → drop at l ≡ k → code_answer d end k ≡ code_answer d end (drop at l)
  from_bits_lem e = ap (code_answer d end) (sym e)

  -- a zero is nought
  pub code_nought : (error : ℕ) → b ≡ 0 → error ≡ pick (eqb d 0) 0 3
      → accepted (record { sign = 0; magnitude = 0; error = error; next = at + 1 }) ≡ code_answer d end (drop at l)
  unfolding parse
  code_nought error z error-is =
      let next : at + 1 ≡ end - length (drop (at + 1) l) = omega (arith, length-drop (at + 1) l) in
      ap₂ (λ (m n : ℕ). accepted (record { sign = 0; magnitude = 0; error = m; next = n })) error-is next
      ∙ from_bits_lem (zero_here l at end b end_is inside bit z)

  -- no bit for the sign
  pub sign_out : (left : ℕ) → left ≡ d → (b ≡ 0 → ⊥) → end ≤ at + 1 → refused_with 9 (6 - left) ≡ code_answer d end (drop at l)
  unfolding parse missing_computed
  sign_out left left_is h out =
      let o = one_here l at end b end_is inside bit h in
      ap (λ (n : ℕ). refused_with 9 (6 - n)) left_is
      ∙ from_bits_lem (o.1 ∙ ap (λ (k : List ℕ). suc o.0 ∷ k) (drop_of_length-le l {i = at + 1} (omega arith)))

  -- the sign, and what follows it
  pub sign_there : (s : ℕ) {p : Paper ShapeValues} → (b ≡ 0 → ⊥) → at + 1 < end → s ≡ get_or l (at + 1) 0
      → p ≡ sign_answer d end s 0 (drop (at + 2) l) → p ≡ code_answer d end (drop at l)
  unfolding parse missing_computed
  sign_there s h more q r =
      let o = one_here l at end b end_is inside bit h in
      let two : suc (at + 1) ≡ at + 2 = omega arith in
      let rest : drop (at + 1) l ≡ s ∷ drop (at + 2) l
      = drop-cons l (at + 1) 0 (omega arith) ∙ ap₂ ◌∷◌ (sym q) (ap (λ (n : ℕ). drop n l) two) in
      let first : drop at l ≡ suc o.0 ∷ (s ∷ drop (at + 2) l) = o.1 ∙ ap (λ (k : List ℕ). suc o.0 ∷ k) rest in
      r ∙ from_bits_lem first

-- ---- the whole call

-- the next position, told by what is left or by the code's length; the bits missing, computed or by the sentence
rest_answer_lem : (d at end : ℕ) (l : List ℕ) → Drop d → end ≡ length l → all_bits (drop at l)
    → code_answer d end (drop at l) ≡ answer_to greatest_place d at (drop at l)
rest_answer_lem d at end l dr e ok = go (parse greatest_place d (drop at l)) refl (parse_exact greatest_place d (drop at l) ok)
  where
    go : (q : Parsed) → parse greatest_place d (drop at l) ≡ q → Exact greatest_place d (drop at l) q
        → rest_answer d end (missing_computed d (drop at l)) q ≡ answer_of greatest_place d at (drop at l) q
    go (found shape rest) f x =
        let whole : length (drop at l) ≡ length (bits d shape) + length rest = ap length x.0 ∙ length-append (bits d shape) rest in
        let next : end - length rest ≡ at + length (bits d shape) = omega (arith, length-drop at l, bits_some d shape) in
        ap (λ (n : ℕ). accepted (values_of d shape n)) next
    go ran_out f x = ap (λ (n : ℕ). refused_with 9 n) (sym (missing_computed_lem greatest_place d dr (omega arith) (drop at l) ok f))
    go redundant_zero f x = refl
    go run_too_long f x = refl

module _ (bytes : List ℕ) (at d : ℕ) where
  -- from any other
  pub shape_is : (end : ℕ) {p : Paper ShapeValues} → drop_known d ≡ true → end ≡ length (bits_that_count bytes) → past_end end at ≡ false
      → p ≡ code_answer d end (drop at (bits_that_count bytes)) → p ≡ shape_means bytes at d
  shape_is end t e h r =
      r
      ∙ rest_answer_lem d at end (bits_that_count bytes) (drop_of d t) e (all_bits-drop at (bits_that_count bytes) (all_bits-bits_that_count bytes))
      ∙ sym (by_place bytes at d t false (subst (λ (n : ℕ). past_end n at ≡ false) e h))

  module _ (s : Shape) (p : ShapePromise bytes at d (Ok s)) where
    -- what was read, as the definitions have it
    was_read : shape_means bytes at d ≡ accepted (shape_values s)
    was_read = sym p.answer

    -- its magnitude is inside the rule
    pub read_small : s.magnitude ≤ largest
    read_small = (read_fits bytes at d was_read).in_rule_lem

    -- and its number is the call's
    pub number_is : (v : ℤ) → v ≡ signed s.sign s.magnitude → accepted (record { value = v; next = s.next }) ≡ unpack_means bytes at d
    number_is v q = ap (λ (z : ℤ). accepted (record { value = z; next = s.next })) q ∙ sym (ap (mapped number_read) was_read)

-- ---- a place behind another

module _ (here there : Cursor) (n : ℕ)
    (e : (there.bytes ≡ here.bytes) × (there.at ≡ here.at + n) × (there.end ≡ here.end) × (there.drop ≡ here.drop)) where
  -- the bit there
  pub bit_behind : {b : ℕ} → b ≡ get_or (bits_that_count there.bytes.now) there.at 0 → b ≡ get_or (bits_that_count here.bytes.now) (here.at + n) 0
  bit_behind q = q ∙ ap₂ (λ (l : Bor (List ℕ)) (k : ℕ). get_or (bits_that_count l.now) k 0) e.0 e.1

-- what is answered at a place, of the same bytes with the same drop
pub answer_at : (here there : Cursor) {at : ℕ} → there.bytes ≡ here.bytes → there.at ≡ at → there.end ≡ here.end → there.drop ≡ here.drop
    → {p : Paper ShapeValues} (answer : ℕ → ℕ → List ℕ → Paper ShapeValues) → p ≡ answer there.drop there.end (bits_left there)
    → p ≡ answer here.drop here.end (drop at (bits_that_count here.bytes.now))
answer_at here there b a e d answer q =
    q
    ∙ ap₂ (λ (k m : ℕ). answer k m (bits_left there)) d e
    ∙ ap₂ (λ (l : Bor (List ℕ)) (k : ℕ). answer here.drop here.end (drop k (bits_that_count l.now))) b a
