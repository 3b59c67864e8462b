-- Demand 2: "each accepted code, decoded, packs again to the same bits". Of the calls' outcomes, in the bytes, at the position.
-- Assumes nothing.
use Rattle.std.specs.Prelude.{◌≡◌, List, ℕ, ◌-◌, ◌≤◌, length, Result}
use Rattle.std.proofs.Common.{sym, ap, ◌∙◌, subst}
use Rattle.ground.specs.Outcome.{Outcome, accept, outcome_of}
use Rattle.ground.specs.Paper.{accepted}
use Rattle.code.specs.declared.NotPacked.{NotPacked}
use Rattle.code.specs.declared.Refusal.{Refusal}
use Rattle.code.specs.declared.Unpacked.{Unpacked}
use Rattle.code.specs.Answers.{packed_paper, unpacked_paper}
use Rattle.code.specs.Promise.{PackPromise, UnpackPromise}
use Rattle.code.specs.Meaning.{bits_that_count, UnpackValues}
use Rattle.code.specs.Theorems.{bits_at, same_bits}

-- what packing the number that was read leaves
pub record Same (bytes : List ℕ) (at : ℕ) (t : UnpackValues) (p : Result ℕ NotPacked) (after : List ℕ) : Type 0 where
  pub answer : packed_paper p ≡ accepted t.next
  pub bits : bits_at after at (t.next - at) ≡ bits_at bytes at (t.next - at)

-- a code that `unpack` accepted, packed again at its position of any buffer that holds it, has the same bits and the same next position
pub code_same_bits : (bytes buffer after : List ℕ) (at drop : ℕ) (t : UnpackValues) (u : Result Unpacked Refusal) (p : Result ℕ NotPacked)
    → UnpackPromise bytes at drop u → unpacked_paper u ≡ accepted t → t.next ≤ length (bits_that_count buffer)
    → PackPromise buffer at t.value drop p after → Same bytes at t p after
code_same_bits bytes buffer after at drop t u p q e room r =
    let s = same_bits bytes buffer at drop (sym q.answer ∙ e) room in
    let packs : outcome_of (packed_paper p) after ≡ accept t.next s.left = r.outcome ∙ s.packed in
    let left : after ≡ s.left = ap (λ (o : Outcome ℕ (List ℕ)). o.leaves) packs in
    record {
      answer = ap (λ (o : Outcome ℕ (List ℕ)). o.answer) packs;
      bits = subst (λ (l : List ℕ). bits_at l at (t.next - at) ≡ bits_at bytes at (t.next - at)) (sym left) s.same;
    }
