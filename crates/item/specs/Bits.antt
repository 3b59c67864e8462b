-- The bits that an item is sent in: no more than the longest code has, all of them bits, and 12 where there are none.
-- Assumes nothing.
use Rattle.std.specs.Prelude.{◌≡◌, refl, Bool, true, false, List, [], ℕ, ◌^◌, ◌≤◌, eqb, leb, ltb, pos, length}
use Rattle.std.proofs.Common.{sym, ◌∙◌, subst, arith, leb-true}
use Rattle.std.proofs.Math.Path.{ap}
use Rattle.ground.specs.Bits.{to_bits}
use Rattle.ground.specs.Choice.{pick, pick_elim}
use Rattle.ground.specs.Outcome.{outcome_of, accept, onward_to}
use Rattle.ground.specs.Paper.{Paper, accepted, refusal, refused, mapped, paper_elim}
use Rattle.code.specs.BitLists.{all_bits, all_bits-to_bits, length-to_bits}
use Rattle.code.specs.Magnitudes.{places, number_valid}
use Rattle.code.specs.Meaning.{code_of, greatest_place, largest, longest_code, place_means, shape_of_number}
use Rattle.code.specs.Shapes.{none, Valid, bits_few as code_few}
use Rattle.code.specs.Theorems.{all_bits_shape}
use Rattle.format.specs.Meaning as format
use Rattle.logarithm.specs.Meaning as logarithm
use Rattle.item.specs.Meaning.{sends_of, comp_of, format_bits, item_bits, format_means, send_means}

-- the most bits that an item is sent in, 29: those of the longest packed code
abbrev pub most_bits : ℕ
most_bits = longest_code greatest_place

-- what holds of the bits of a result: at most so many, and bits; or 12
abbrev Fine : Paper (List ℕ) → Type 0
Fine (accepted l) = (length l ≤ most_bits) × all_bits l
Fine (refusal n carried) = ◌≡◌ {A = Paper (List ℕ)} (refusal n carried) (refused 12)

-- so many bits of a number
fixed_fine : (width x : ℕ) → width ≤ most_bits → Fine (accepted (to_bits width x))
fixed_fine width x h = (omega (arith, length-to_bits width x), all_bits-to_bits width x)

-- a packed code
packed_fine : (r : ℕ) → r ≤ largest → Fine (accepted (code_of 0 (pos r)))
packed_fine r h =
    let v : Valid greatest_place 0 (shape_of_number 0 (pos r)) = number_valid greatest_place places 0 (pos r) none h in
    (code_few greatest_place 0 (shape_of_number 0 (pos r)) (omega arith) none v, all_bits_shape 0 (shape_of_number 0 (pos r)) v)

-- each of the four formats
format_fine : (comp r : ℕ) → Fine (format_bits comp r)
unfolding format_bits
format_fine comp r =
    pick_elim Fine (eqb comp 0) (mapped (to_bits 16) (format.code_means 12 (2 ^ 27) r)) _
    (λ _.
    pick_elim (λ (p : Paper ℕ). Fine (mapped (to_bits 16) p)) (ltb r (2 ^ 27)) (accepted (format.code_of 12 r)) (refused 12)
    (λ _. fixed_fine 16 (format.code_of 12 r) (omega arith)) (λ _. refl))
    (λ _.
    pick_elim Fine (eqb comp 1) (mapped (to_bits 8) (logarithm.log8_means r)) _
    (λ _.
    pick_elim (λ (p : Paper ℕ). Fine (mapped (to_bits 8) p)) (leb r 2147483647) (accepted (logarithm.log8_of r)) (refused 12)
    (λ _. fixed_fine 8 (logarithm.log8_of r) (omega arith)) (λ _. refl))
    (λ _.
    pick_elim Fine (eqb comp 2) (mapped (to_bits 24) (format.int24_means r)) _
    (λ _.
    pick_elim (λ (p : Paper ℕ). Fine (mapped (to_bits 24) p)) (ltb 16777215 r) (refused 12) (accepted r)
    (λ _. refl) (λ _. fixed_fine 24 r (omega arith)))
    (λ _.
    pick_elim Fine (leb r largest) (accepted (code_of 0 (pos r))) (refused 12)
    (λ t. packed_fine r (leb-true r largest t)) (λ _. refl))))

-- an item's bits
item_fine : (x r : ℕ) → Fine (item_bits x r)
unfolding item_bits
item_fine x r =
    pick_elim Fine (sends_of x) (format_bits (comp_of x) r) (accepted [])
    (λ _. format_fine (comp_of x) r) (λ _. (omega arith, tt))

-- no item takes more bits
pub bits_few : (x r : ℕ) {l : List ℕ} → item_bits x r ≡ accepted l → length l ≤ most_bits
bits_few x r e = (subst Fine e (item_fine x r)).0

-- an item's bits are bits
pub bits_bits : (x r : ℕ) {l : List ℕ} → item_bits x r ≡ accepted l → all_bits l
bits_bits x r e = (subst Fine e (item_fine x r)).1

-- "12 (sent items only)": an item without bits is refused by 12, whatever was said of it
pub bits_refused : (x r : ℕ) {n : ℕ} {carried : List ℕ} → item_bits x r ≡ refusal n carried → item_bits x r ≡ refused 12
bits_refused x r e = e ∙ subst Fine e (item_fine x r)

-- to show something of what an item sends, show it of bits and of 12
pub bits_elim : (P : Paper (List ℕ) → Type 0) (x r : ℕ) → ((l : List ℕ) → P (accepted l)) → P (refused 12) → P (item_bits x r)
bits_elim P x r p q = paper_elim P (item_bits x r) (λ l e. p l) (λ n carried e. subst P (sym (bits_refused x r e) ∙ e) q)

-- ---- what sending means, by an item's bits

module _ (buffer : List ℕ) (at x r : ℕ) where
  -- an item's bits are put where it is sent
  pub send_puts : {l : List ℕ} → sends_of x ≡ true → item_bits x r ≡ accepted l → send_means buffer at x r ≡ place_means buffer at l
  unfolding send_means item_bits
  send_puts {l} t e =
      ap (λ (b : Bool). pick b (format_means buffer at (comp_of x) r) (accept at buffer)) t
      ∙ ap (onward_to (place_means buffer at) buffer) (sym (ap (λ (b : Bool). pick b (format_bits (comp_of x) r) (accepted [])) t) ∙ e)

  -- where it is not sent nothing is put, and it has no bits
  pub send_nothing : sends_of x ≡ false → (send_means buffer at x r ≡ accept at buffer) × (item_bits x r ≡ accepted [])
  unfolding send_means item_bits
  send_nothing t = (
    ap (λ (b : Bool). pick b (format_means buffer at (comp_of x) r) (accept at buffer)) t,
    ap (λ (b : Bool). pick b (format_bits (comp_of x) r) (accepted [])) t,
  )

  -- an item that is refused is one that is sent
  pub send_refuses : {n : ℕ} {carried : List ℕ} → sends_of x ≡ true → item_bits x r ≡ refusal n carried
      → send_means buffer at x r ≡ outcome_of (refusal n carried) buffer
  unfolding send_means item_bits
  send_refuses {n} {carried} t e =
      ap (λ (b : Bool). pick b (format_means buffer at (comp_of x) r) (accept at buffer)) t
      ∙ ap (onward_to (place_means buffer at) buffer) (sym (ap (λ (b : Bool). pick b (format_bits (comp_of x) r) (accepted [])) t) ∙ e)
