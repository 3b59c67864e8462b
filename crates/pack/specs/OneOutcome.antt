-- Two outcomes that meet the promise of `field` are equal, answer and buffer, and a refusal leaves the buffer; those of `pack` are in `code`.
-- Assumes nothing.
use Rattle.std.specs.Prelude.{◌≡◌, refl, List, ℕ, ◌+◌, leb, length, Result}
use Rattle.ground.specs.Bits.{to_bits}
use Rattle.ground.specs.Choice.{pick_elim}
use Rattle.ground.specs.Outcome.{accept, refuse, Stays}
use Rattle.ground.specs.Refusals.{one_outcome}
use Rattle.code.specs.Meaning.{fits_at, bytes_with, place_means}
use Rattle.code.specs.Answers.{not_packed}
use Rattle.code.specs.declared.NotPacked.{NotPacked}
use Rattle.pack.specs.Meaning.{field_means}
use Rattle.pack.specs.Promise.{FieldPromise}

-- putting a field has one outcome
pub field_one : {buffer : List ℕ} {at x w : ℕ} {r s : Result ℕ NotPacked} {a b : List ℕ}
    → FieldPromise buffer at x w r a → FieldPromise buffer at x w s b → (r ≡ s) × (a ≡ b)
field_one p q = one_outcome not_packed p.outcome q.outcome

-- bits that do not fit leave the buffer as it was
pub place_stays : (buffer : List ℕ) (at : ℕ) (l : List ℕ) → Stays buffer (place_means buffer at l)
place_stays buffer at l =
    pick_elim (Stays buffer) (fits_at buffer at l) (accept (at + length l) (bytes_with buffer at l)) (refuse 3 buffer)
    (λ t f. absurd (f refl)) (λ t f. refl)

-- demand 1 of a field: a refusal leaves the buffer as it was
pub field_stays : (buffer : List ℕ) (at x w : ℕ) → Stays buffer (field_means buffer at x w)
field_stays buffer at x w =
    pick_elim (Stays buffer) (leb w 32) (place_means buffer at (to_bits w x)) (refuse 8 buffer)
    (λ t. place_stays buffer at (to_bits w x)) (λ t f. refl)
