-- A run over what is left of a piece.
-- Assumes nothing.
use mathlib.Core.Path.{◌≡◌, sym, ap, ◌∙◌}
use mathlib.Core.Bool.{Bool}
use mathlib.Core.List.{List, [], ◌∷◌}
use Prim.Native.Nat.{ℕ, ◌+◌, ◌-◌, ◌<◌, ◌≤◌}
use native.Mathlib.Omega.{arith}
use lib.ListN.{length, take, drop, length-drop}
use lib.Seq.{take_all}
use Rattle.lines.specs.declared.Line.{Line}
use Rattle.lines.specs.declared.Ran.{Ran}
use Rattle.lines.specs.Promise.{RunPromise}
use Rattle.lines.specs.Meaning.{enough}
use Rattle.lines.specs.Moving.{run_used, run_moves}
use Rattle.printing.specs.Promise.{PrintPiecePromise, capped}
use Rattle.lines.specs.After.{line_after, after_none, run_left, answers_within, within_none, run_count}

-- all that is left, as a part
whole : (piece : List ℕ) (at : ℕ) → take (length piece - at) (drop at piece) ≡ drop at piece
whole piece at = take_all (length piece - at) (drop at piece) (omega (arith, length-drop at piece))

module _ (rest : List ℕ) {line : Line} {room after : List ℕ} {r : Ran} (p : RunPromise line rest room r after) where
  -- it gets on
  pub gets_on : enough ≤ length room → (length rest ≡ 0 → ⊥) → length (take (length rest - r.used) (drop r.used rest)) < length rest
  gets_on k some = omega (arith, run_used p, run_moves p k (omega arith), ap length (whole rest r.used), length-drop r.used rest)

  -- what it leaves comes to the same
  pub comes_to : {end : Line} → line_after line rest ≡ end → line_after r.line (take (length rest - r.used) (drop r.used rest)) ≡ end
  comes_to e = ap (line_after r.line) (whole rest r.used) ∙ run_left p ∙ e

  -- and so does the count
  pub counts_to : (put end : ℕ) {given next : ℕ} → next ≡ capped (put + given) → given ≡ r.put
      → capped (put + length (answers_within line rest)) ≡ capped end
      → capped (next + length (answers_within r.line (take (length rest - r.used) (drop r.used rest)))) ≡ capped end
  counts_to put end n g e =
      omega (arith, n, g, e, run_count p, ap (λ (l : List ℕ). length (answers_within r.line l)) (whole rest r.used))

-- at the end of the piece all of it is taken
pub all_taken : (piece rest : List ℕ) (put : ℕ) {line last : Line} {written : Bool} → length rest ≡ 0 → line_after last rest ≡ line_after line piece
    → capped (put + length (answers_within last rest)) ≡ capped (length (answers_within line piece)) → put ≡ capped put
    → PrintPiecePromise line piece (record { line = last; put = put; written = written })
all_taken piece [] put {line} {last} {written} none e f k =
    record { answer = sym (after_none last) ∙ e; count = omega (arith, f, ap length (within_none last), k) }
all_taken piece (b ∷ rest) put none e f k = absurd (omega arith)
