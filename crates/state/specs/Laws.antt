-- Laws of the turn and of the next number.
-- Assumes nothing.
use Rattle.std.specs.Prelude.{Bool, true, false, ◌&&◌, ◌≡◌, refl, List, [], ◌∷◌, ℕ, ◌+◌, ◌≤◌, eqb, leb, get_or, length, Result, Ok, Err}
use Rattle.std.proofs.Common.{sym, ap, ◌∙◌, arith, eq-eqb, eqb-true, le-leb, ne_eqb}
use Rattle.ground.specs.Choice.{pick, pick_elim}
use Rattle.ground.specs.Paper.{Paper, accepted, accepted_same, refused, refused_not}
use Rattle.item.specs.Inputs.{Inputs}
use Rattle.pages.specs.declared.Window.{Window}
use Rattle.state.specs.Meaning.{next_after, repeats_in, roomy, turn_by, turn_in}
use Rattle.state.specs.Turns.{next_of, same_asked, same_flag, same_inputs, same_items, same_of, turn_of, turn_told}
use Rattle.state.specs.Words.{Asked, window, packet, Kept, Last, Nothing, asked_in, flag_in, kept_at, kept_in, last_in, number_at, state_words}
use Rattle.state.specs.declared.NoTurn.{NoTurn}
use Rattle.state.specs.declared.NoTurn.TheVariants.{OutOfTurn}
use Rattle.state.specs.declared.Turn.{Turn}
use Rattle.state.specs.declared.Turn.TheVariants.{NewAsk}

-- beside enough words the turn is what they keep
pub turn_kept : (w : List ℕ) (number : ℕ) (a : Asked) → state_words ≤ length w → turn_in w number a ≡ turn_of (kept_in w) number a
turn_kept w number a h = rw (le-leb state_words (length w) h)

-- the turn, told whether the ask asks for the same as the words' kept one
pub turn_told_lem : (w : List ℕ) (number : ℕ) (a : Asked) → turn_by w number (same_asked (asked_in w) a) ≡ turn_in w number a
turn_told_lem w number a = ap (λ (t : Result Turn NoTurn). pick (roomy w) t (Err OutOfTurn)) (kept_told (flag_in (get_or w kept_at 0)))
  where
    kept_told : (b : Bool) → turn_told (pick b (last_in w) Nothing) number (same_asked (asked_in w) a) ≡ turn_of (pick b (last_in w) Nothing) number a
    kept_told true = refl
    kept_told false = refl

-- the same, told so for the last number alone
pub turn_repeats : (w : List ℕ) (number : ℕ) (a : Asked) → turn_by w number (repeats_in w number a) ≡ turn_in w number a
turn_repeats w number a = either (roomy w) (flag_in (get_or w kept_at 0)) (eqb number (get_or w number_at 0)) refl ∙ turn_told_lem w number a
  where
    same : Bool
    same = same_asked (asked_in w) a

    either : (r b e : Bool) → eqb number (get_or w number_at 0) ≡ e
        → pick r (turn_told (pick b (last_in w) Nothing) number (r && (e && same))) (Err OutOfTurn)
        ≡ pick r (turn_told (pick b (last_in w) Nothing) number same) (Err OutOfTurn)
    either false b e h = refl
    either true false e h = refl
    either true true true h = refl
    either true true false h = rw h

module _ (w : List ℕ) (number : ℕ) (a : Asked) (h : state_words ≤ length w) {last : Bool} (e : last ≡ eqb number (get_or w number_at 0)) where
  -- the last number: an ask repeated, where it asks for the same
  pub repeats_last : last ≡ true → {r : Bool} → r ≡ same_asked (asked_in w) a → r ≡ repeats_in w number a
  repeats_last k f = rw (le-leb state_words (length w) h, ← e, k) f

  -- any other number repeats nothing
  pub repeats_not : last ≡ false → false ≡ repeats_in w number a
  repeats_not k = rw (le-leb state_words (length w) h, ← e, k)

-- the number of the next ask is the turn of a new one, whatever it asks for
pub next_is_new : (kept : Kept) (n : ℕ) (a : Asked) → next_after kept ≡ accepted n → turn_of kept n a ≡ Ok NewAsk
next_is_new Nothing n a e = let same : 1 ≡ n = accepted_same e in rw (eq-eqb n 1 (sym same))
next_is_new (Last k b sum) n a e =
    pick_elim (λ (p : Paper ℕ). p ≡ accepted n → turn_of (Last k b sum) n a ≡ Ok NewAsk) (leb k 65535) (accepted (next_of k)) (refused 13)
    (λ h q. let same : next_of k ≡ n = accepted_same q in rw (ne_eqb n k (λ z. other k (same ∙ z)), eq-eqb n (next_of k) (sym same)))
    (λ h q. absurd (refused_not q))
    e
  where
    other : (k : ℕ) → next_of k ≡ k → ⊥
    other k = pick_elim (λ (m : ℕ). m ≡ k → ⊥) (eqb k 65535) 0 (k + 1) (λ h q. omega (arith, eqb-true k 65535 h)) (λ h q. omega arith)

-- a flag is the same as itself
pub flag_same : (b : Bool) → same_flag b b ≡ true
flag_same true = refl
flag_same false = refl

-- a window is the same as itself
pub window_same : (w : Window) → same_of w w ≡ true
window_same w =
    rw (eq-eqb w.address w.address refl, eq-eqb w.xsize w.xsize refl, eq-eqb w.ysize w.ysize refl, eq-eqb w.ystride w.ystride refl)
    (flag_same w.clear)

-- a table is the same as itself
pub items_same : (l : List ℕ) → same_items l l ≡ true
items_same [] = refl
items_same (x ∷ xs) = rw (eq-eqb x x refl) (items_same xs)

-- inputs are the same as themselves
pub inputs_same : (i : Inputs) → same_inputs i i ≡ true
inputs_same i =
    rw (eq-eqb i.low i.low refl, eq-eqb i.flags i.flags refl, eq-eqb i.initial i.initial refl, eq-eqb i.second i.second refl)
    (items_same i.items)

-- what is asked for is the same as itself
pub asked_same : (a : Asked) → same_asked a a ≡ true
asked_same (window v) = window_same v
asked_same (packet i) = inputs_same i
