-- The answer to what is known of a line, and a run over bytes.
-- Assumes nothing.
use mathlib.Core.Path.{◌≡◌, refl, sym, ap, ap₂, ◌∙◌, subst}
use mathlib.Core.Bool.{Bool, true, false, not, ◌&&◌}
use mathlib.Core.List.{List, [], ◌∷◌, ◌++◌}
use Prim.Native.Nat.{ℕ, zero, suc, ◌+◌, ◌<◌, ◌≤◌, zero-le}
use native.Mathlib.Numerals.{add-one}
use native.Mathlib.Omega.{arith}
use borrow.Author.Tests.{leb-true, ltb-false, eq-eqb}
use lib.Dec.{leb, ltb}
use lib.IntN.{ℤ, pos, neg_ℤ, nat_abs}
use lib.ListN.{length, drop, get_or, drop_of_length-le}
use lib.Seq.{drop-cons}
use Rattle.ground.specs.Choice.{pick}
use Rattle.ground.specs.Questions.{both_hold}
use Rattle.ground.specs.Putting.{put}
use Rattle.code.specs.Meaning.{largest}
use Rattle.lines.specs.declared.Line.{Line}
use Rattle.lines.specs.Meaning.{number_text, refused_text}
use Rattle.lines.specs.Reading.{sound, known, answer_of}
use Rattle.lines.specs.Meaning.{enough}
use Rattle.lines.specs.Running.{Stand, next_line, says, waits, goes, ran_over}
use Rattle.lines.specs.Promise.{RunPromise}
use Rattle.lines.specs.Texts.{Put, put_then, put_fits}

-- ---- what is known of a line

module _ (s : Line) where
  -- a good line has a number in range
  pub sound_value : sound s ≡ true → s.value ≤ largest
  sound_value e =
      leb-true s.value largest
      (both_hold {a = leb 1 s.digits} {b = leb s.value largest} (both_hold {a = not s.other}
      {b = leb 1 s.digits && leb s.value largest} e).1).1

  -- a negated number keeps its magnitude
  abs_neg : (n : ℕ) → nat_abs (neg_ℤ (pos n)) ≡ n
  abs_neg zero = refl
  abs_neg (suc n) = refl

  -- the magnitude of the number of a line
  abs_known : (b : Bool) → nat_abs (pick b (neg_ℤ (pos s.value)) (pos s.value)) ≡ s.value
  abs_known true = abs_neg s.value
  abs_known false = refl

  -- the number of a good line is in range
  pub known_small : {z : ℤ} → z ≡ known s → sound s ≡ true → nat_abs z ≤ largest
  known_small {z} e h = subst (λ (n : ℕ). n ≤ largest) (sym (ap nat_abs e ∙ abs_known s.minus)) (sound_value h)

  -- a good line is answered by its number
  pub answer_good : {room after : List ℕ} {at r : ℕ} (w z : ℤ) → w ≡ z → z ≡ known s → sound s ≡ true
      → Put room at (number_text w) r after → Put room at (answer_of s) r after
  unfolding answer_of
  answer_good {room} {after} {at} {r} w z e f h p =
      subst (λ (l : List ℕ). Put room at l r after)
      (ap number_text (e ∙ f) ∙ ap (λ (b : Bool). pick b (number_text (known s)) refused_text) (sym h)) p

  -- any other line is answered by the refusal
  pub answer_refused : {room after : List ℕ} {at r : ℕ} → sound s ≡ false → Put room at refused_text r after → Put room at (answer_of s) r after
  unfolding answer_of
  answer_refused {room} {after} {at} {r} h p =
      subst (λ (l : List ℕ). Put room at l r after) (ap (λ (b : Bool). pick b (number_text (known s)) refused_text) (sym h)) p
  -- ---- what a byte does

-- a test that fails
unless : (t : Bool) → true ≡ not t → t ≡ false
unless true e = e
unless false e = refl

-- a test that holds
whenever : (t : Bool) → not t ≡ false → t ≡ true
whenever true e = refl
whenever false e = sym e

-- a newline that may go has room
pub newline_room : (b at size : ℕ) {t : Bool} → t ≡ not (waits size at b) → t ≡ true → b ≡ 10 → at + enough ≤ size
newline_room b at size p q e =
    ltb-false size (at + enough) (ap (λ (x : Bool). x && ltb size (at + enough)) (sym (eq-eqb b 10 e)) ∙ unless (waits size at b) (sym q ∙ p))

-- ---- the front of a room

-- ---- a run

-- so far: the run from where it stands is the whole run, and its text stands in the room
pub record Running (room₀ input : List ℕ) (line₀ : Line) (room : List ℕ) (line : Line) (used at : ℕ) : Type 0 where
  pub text : List ℕ
  pub so_far : goes (length room₀) (record { line = line; used = used; text = text }) (drop used input) ≡ ran_over (length room₀) line₀ input
  pub stands : Put room₀ 0 text at room
  pub fits : at ≤ length room₀
  pub long : length room ≡ length room₀
  pub inside : used ≤ length input

-- a run begins
pub running_start : (room input : List ℕ) (line : Line) → Running room input line room line 0 0
running_start room input line =
    record { text = []; so_far = refl; stands = record { memory = refl; place = refl; long = refl }; fits = zero-le; long = refl; inside = zero-le }

-- one byte of a run
goes_on : (size : ℕ) (s : Stand) (b : ℕ) (bs : List ℕ) → waits size (length s.text) b ≡ false
    → goes size s (b ∷ bs) ≡ goes size (record { line = next_line s.line b; used = s.used + 1; text = s.text ++ says s.line b }) bs
unfolding goes
goes_on size s b bs e =
    ap (λ (x : Bool). pick x s (goes size (record { line = next_line s.line b; used = s.used + 1; text = s.text ++ says s.line b }) bs)) e

-- a byte that waits ends it
goes_ends : (size : ℕ) (s : Stand) (b : ℕ) (bs : List ℕ) → waits size (length s.text) b ≡ true → goes size s (b ∷ bs) ≡ s
unfolding goes
goes_ends size s b bs e =
    ap (λ (x : Bool). pick x s (goes size (record { line = next_line s.line b; used = s.used + 1; text = s.text ++ says s.line b }) bs)) e

-- a run over nothing stays where it stands
goes_none : (size : ℕ) (s : Stand) → goes size s [] ≡ s
unfolding goes
goes_none size s = refl

module _ {room₀ input room : List ℕ} {line₀ line : Line} {used at : ℕ} (p : Running room₀ input line₀ room line used at) where
  -- the place is the length of the text
  many : at ≡ length p.text
  many = omega (arith, p.stands.place)

  -- the byte that comes next
  here : used < length input → drop used input ≡ get_or input used 0 ∷ drop (used + 1) input
  here h = drop-cons input used 0 h ∙ ap (λ (n : ℕ). get_or input used 0 ∷ drop n input) (sym (add-one used))

  -- one byte more
  pub running_more : {after : List ℕ} {next : Line} {r : ℕ} {t : Bool} → used < length input
      → t ≡ not (waits (length room) at (get_or input used 0)) → t ≡ true
      → Put room at (says line (get_or input used 0)) r after → next ≡ next_line line (get_or input used 0)
      → Running room₀ input line₀ after next (used + 1) r
  running_more {after} {next} {r} {t} h g k q n =
      let b : ℕ = get_or input used 0 in
      let free : waits (length room₀) (length p.text) b ≡ false
      = ap₂ (λ (x y : ℕ). waits x y b) (sym p.long) (sym many) ∙ unless (waits (length room) at b) (sym k ∙ g) in
      let end = put_fits q (omega (arith, p.fits, p.long)) in
      record {
        text = p.text ++ says line b;
        so_far =
            ap (λ (x : Line). goes (length room₀) (record { line = x; used = used + 1; text = p.text ++ says line b }) (drop (used + 1) input)) n
            ∙ sym (goes_on (length room₀) (record { line = line; used = used; text = p.text }) b (drop (used + 1) input) free)
            ∙ ap (goes (length room₀) (record { line = line; used = used; text = p.text })) (sym (here h))
            ∙ p.so_far;
        stands = put_then p.stands q (omega (arith, p.fits, many));
        fits = omega (arith, q.place, p.long, end);
        long = q.long ∙ p.long;
        inside = omega arith;
      }

  -- where the run ends is the outcome
  ended : record { line = line; used = used; text = p.text } ≡ ran_over (length room₀) line₀ input
      → RunPromise line₀ input room₀ (record { line = line; used = used; put = at }) room
  ended e =
      record {
        state = ap (λ (s : Stand). s.line) e;
        used = ap (λ (s : Stand). s.used) e;
        answer = many ∙ ap (λ (s : Stand). length s.text) e;
        memory = p.stands.memory ∙ ap (λ (s : Stand). put room₀ 0 s.text) e;
      }

  -- it ends before a newline that waits
  pub running_waits : {t : Bool} → used < length input → t ≡ not (waits (length room) at (get_or input used 0)) → t ≡ false
      → RunPromise line₀ input room₀ (record { line = line; used = used; put = at }) room
  running_waits h g k =
      let b : ℕ = get_or input used 0 in
      let held : waits (length room₀) (length p.text) b ≡ true
      = ap₂ (λ (x y : ℕ). waits x y b) (sym p.long) (sym many) ∙ whenever (waits (length room) at b) (sym g ∙ k) in
      ended
      (sym (goes_ends (length room₀) (record { line = line; used = used; text = p.text }) b (drop (used + 1) input) held)
      ∙ ap (goes (length room₀) (record { line = line; used = used; text = p.text })) (sym (here h))
      ∙ p.so_far)

  -- it ends at the end of the piece
  pub running_over : length input ≤ used → RunPromise line₀ input room₀ (record { line = line; used = used; put = at }) room
  running_over h =
      ended
      (sym (goes_none (length room₀) (record { line = line; used = used; text = p.text }))
      ∙ ap (goes (length room₀) (record { line = line; used = used; text = p.text })) (sym (drop_of_length-le input h))
      ∙ p.so_far)
