-- Laws that sending cites: results put in their formats.
-- Assumes nothing.
use mathlib.Core.Path.{◌≡◌, refl, sym, ap, ◌∙◌}
use mathlib.Core.Bool.{Bool, true, false}
use mathlib.Core.List.{List}
use Prim.Native.Nat.{ℕ, ◌+◌, ◌^◌}
use native.Mathlib.Omega.{arith}
use Rattle.std.specs.Prelude.{Result, Ok, Err}
use lib.Dec.{leb, lit≤, lit<}
use lib.IntN.{pos}
use lib.ListN.{length}
use borrow.Author.Tests.{ne_eqb}
use Rattle.ground.specs.Bits.{to_bits}
use Rattle.ground.specs.Choice.{pick, pick_elim}
use Rattle.ground.specs.Outcome.{Outcome, outcome_of, accept, refuse, onward_to}
use Rattle.ground.specs.Paper.{Paper, accepted, refused, number_of, mapped}
use Rattle.ground.specs.Refusals.{on_paper}
use Rattle.code.specs.Meaning.{place_means, fits_at, bytes_with, code_of, largest}
use Rattle.code.specs.Answers.{packed_paper}
use Rattle.code.specs.declared.NotPacked.{NotPacked}
use Rattle.code.specs.declared.NotPacked.TheVariants as P
use Rattle.code.specs.Promise.{PackPromise}
use Rattle.format.specs.Answers.{too_large}
use Rattle.format.specs.declared.TooLarge as format
use Rattle.format.specs.Promise.{Float16CodePromise, Int24CodePromise}
use Rattle.logarithm.specs.Answers as logarithm_answers
use Rattle.logarithm.specs.declared.TooLarge as logarithm
use Rattle.logarithm.specs.Promise.{Log8CodePromise}
use Rattle.format.specs.Floats.{takes_means}
use Rattle.logarithm.specs.Logarithms.{log8_means_lem}
use Rattle.item.specs.Meaning.{format_bits}
use Rattle.item.specs.Answers.{sent_paper, sent_of}
use Rattle.item.specs.Steps.{PlacePromise, FormatPromise}
use Rattle.item.specs.declared.NotSent.{NotSent}
use Rattle.item.specs.declared.NotSent.TheVariants.{TooLarge}

-- ---- what writing answered

-- putting bits is refused by 3 alone
never_8 : (buffer : List ℕ) (at : ℕ) (l : List ℕ) → number_of (place_means buffer at l).answer ≡ 8 → ⊥
never_8 buffer at l =
    pick_elim (λ (o : Outcome ℕ (List ℕ)). number_of o.answer ≡ 8 → ⊥) (fits_at buffer at l) (accept (at + length l) (bytes_with buffer at l))
    (refuse 3 buffer) (λ t e. omega arith) (λ t e. omega arith)

-- bits whose putting was answered so
placed : (buffer after : List ℕ) (at : ℕ) (l : List ℕ) (packed : Result ℕ NotPacked) → outcome_of (packed_paper packed) after ≡ place_means buffer at l
    → outcome_of (sent_paper (sent_of packed)) after ≡ place_means buffer at l
placed buffer after at l (Ok next) p = p
placed buffer after at l (Err P.OutsideRule) p = absurd (never_8 buffer at l (sym (ap (λ (u : Outcome ℕ (List ℕ)). number_of u.answer) p)))
placed buffer after at l (Err P.TooShort) p = p

-- ---- the four formats

-- the format of every comp but 00, 01 and 10
rest_is : (comp r : ℕ) → (comp ≡ 0 → ⊥) → (comp ≡ 1 → ⊥) → (comp ≡ 2 → ⊥) → format_bits comp r ≡ format_bits 3 r
unfolding format_bits
rest_is comp r a b c = rw (ne_eqb comp 0 a, ne_eqb comp 1 b, ne_eqb comp 2 c)

module _ (buffer : List ℕ) (at comp r : ℕ) where
  -- a result in the format of its comp
  format_so : {means : Paper (List ℕ)} {after : List ℕ} {s : Result ℕ NotSent} → format_bits comp r ≡ means
      → outcome_of (sent_paper s) after ≡ onward_to (place_means buffer at) buffer means → FormatPromise buffer at comp r s after
  format_so e p = record { outcome = p ∙ sym (ap (onward_to (place_means buffer at) buffer) e) }

  -- a result whose bits are known, put
  pub format_put : (n : ℕ) {l after : List ℕ} {s : Result ℕ NotSent} → comp ≡ n → format_bits n r ≡ accepted l → PlacePromise buffer at l s after
      → FormatPromise buffer at comp r s after
  format_put n e known p = format_so (ap (λ (k : ℕ). format_bits k r) e ∙ known) p.outcome

  -- a result that its format does not take
  pub format_large : (n : ℕ) {s : Result ℕ NotSent} → comp ≡ n → format_bits n r ≡ refused 12 → s ≡ Err TooLarge → FormatPromise buffer at comp r s buffer
  format_large n e known t = format_so (ap (λ (k : ℕ). format_bits k r) e ∙ known) (ap (λ (a : Result ℕ NotSent). outcome_of (sent_paper a) buffer) t)

  -- a packed code's bits, and where there are none
  packed_known : {t : Bool} → leb r largest ≡ t → format_bits 3 r ≡ pick t (accepted (code_of 0 (pos r))) (refused 12)
  unfolding format_bits
  packed_known e = ap (λ (b : Bool). pick b (accepted (code_of 0 (pos r))) (refused 12)) e

  -- a number outside the rule of packing is a result too large for its format
  outside : (after : List ℕ) (packed : Result ℕ NotPacked) → outcome_of (packed_paper packed) after ≡ refuse 8 buffer
      → outcome_of (sent_paper (sent_of packed)) after ≡ refuse 12 buffer
  outside after (Ok next) e = absurd (omega (arith, ap (λ (o : Outcome ℕ (List ℕ)). number_of o.answer) e))
  outside after (Err P.OutsideRule) e = ap (λ (o : Outcome ℕ (List ℕ)). refuse 12 o.leaves) e
  outside after (Err P.TooShort) e = absurd (omega (arith, ap (λ (o : Outcome ℕ (List ℕ)). number_of o.answer) e))

  -- every comp but 00, 01 and 10 is sent packed, where it is not too large
  pub format_rest : {after : List ℕ} {packed : Result ℕ NotPacked} → (comp ≡ 0 → ⊥) → (comp ≡ 1 → ⊥) → (comp ≡ 2 → ⊥)
      → PackPromise buffer at (pos r) 0 packed after → {s : Result ℕ NotSent} → s ≡ sent_of packed → FormatPromise buffer at comp r s after
  format_rest {after} {packed} a b c p {s} e = either (leb r largest) refl
    where
      of : {o : Outcome ℕ (List ℕ)} → outcome_of (sent_paper (sent_of packed)) after ≡ o → outcome_of (sent_paper s) after ≡ o
      of q = ap (λ (x : Result ℕ NotSent). outcome_of (sent_paper x) after) e ∙ q

      wrote : {t : Bool} → leb r largest ≡ t → outcome_of (packed_paper packed) after ≡ pick t (place_means buffer at (code_of 0 (pos r))) (refuse 8 buffer)
      wrote t = p.outcome ∙ ap (λ (b : Bool). pick b (place_means buffer at (code_of 0 (pos r))) (refuse 8 buffer)) t

      either : (t : Bool) → leb r largest ≡ t → FormatPromise buffer at comp r s after
      either true t = format_so (rest_is comp r a b c ∙ packed_known t) (of (placed buffer after at (code_of 0 (pos r)) packed (wrote t)))
      either false t = format_so (rest_is comp r a b c ∙ packed_known t) (of (outside after packed (wrote t)))

-- the 16-bit float that was answered
pub float_known : (r : ℕ) {float : Result ℕ format.TooLarge} → Float16CodePromise r float → format_bits 0 r ≡ mapped (to_bits 16) (on_paper too_large float)
unfolding format_bits
float_known r {float} p = ap (mapped (to_bits 16)) (sym (takes_means 12 (2 ^ 27) r (lit< tt) (lit≤ tt) (on_paper too_large float) p.answer))

-- the logarithm byte that was answered
pub logarithm_known : (r : ℕ) {log8 : Result ℕ logarithm.TooLarge} → Log8CodePromise r log8
    → format_bits 1 r ≡ mapped (to_bits 8) (on_paper logarithm_answers.too_large log8)
unfolding format_bits
logarithm_known r {log8} p = ap (mapped (to_bits 8)) (sym (log8_means_lem r (on_paper logarithm_answers.too_large log8) p.answer))

-- the 24-bit integer that was answered
pub integer_known : (r : ℕ) {integer : Result ℕ format.TooLarge} → Int24CodePromise r integer
    → format_bits 2 r ≡ mapped (to_bits 24) (on_paper too_large integer)
unfolding format_bits
integer_known r p = ap (mapped (to_bits 24)) (sym p.answer)
