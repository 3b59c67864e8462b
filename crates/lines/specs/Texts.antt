-- Text put into a room, piece after piece, and how long each piece is.
-- Assumes nothing.
use Rattle.std.specs.Prelude.{◌≡◌, refl, List, [], ◌∷◌, ◌++◌, ℕ, zero, suc, ◌+◌, ◌*◌, ◌/◌, ◌%◌, ◌≤◌, ltb, eqb, ℤ, nat_abs, length, take, drop}
use Rattle.std.proofs.Common.{sym, ap, ap₂, ◌∙◌, subst, append_assoc, zero-le, add-zero, arith, length-append, take-append-drop, length-take-le}
use Rattle.std.proofs.lemmas.List.{length-map}
use Rattle.ground.specs.Choice.{pick_elim}
use Rattle.ground.specs.Putting.{put, put_next}
use Rattle.code.specs.Meaning.{code_of, shape_of_number, greatest_place, largest, longest_code, sign_of}
use Rattle.code.specs.Shapes.{Drop, none, three, bits_few}
use Rattle.code.specs.Magnitudes.{places, number_valid}
use Rattle.lines.specs.Meaning.{shortest, value_text, code_text, number_text, enough}

-- the text was put from a place on, and the place after it is answered
pub record Put (room : List ℕ) (at : ℕ) (text : List ℕ) (next : ℕ) (after : List ℕ) : Type 0 where
  pub memory : after ≡ put room at text
  pub place : next ≡ at + length text
  pub long : length after ≡ length room

-- no text leaves a room as it is
pub put_nothing : (room : List ℕ) (at : ℕ) → Put room at [] at room
put_nothing room at =
    record {
      memory = sym (take-append-drop at room) ∙ ap (λ (n : ℕ). take at room ++ drop n room) (sym (add-zero at));
      place = sym (add-zero at);
      long = refl;
    }

-- one text put right after another is both of them put
pub put_then : {room one two a b : List ℕ} {at m r : ℕ} → Put room at a m one → Put one m b r two → at + length a ≤ length room
    → Put room at (a ++ b) r two
put_then {room} {one} {two} {a} {b} {at} {m} {r} p q h =
    let k : ℕ = at + length a in
    let front : length (take at room ++ a) ≡ k = length-append (take at room) a ∙ ap (λ (n : ℕ). n + length a) (length-take-le at room (omega arith)) in
    let past : k + length b ≡ at + length (a ++ b) = omega (arith, length-append a b) in
    record {
      memory =
          q.memory
          ∙ ap₂ (λ (x : List ℕ) (n : ℕ). put x n b) (p.memory ∙ sym (append_assoc (take at room) a (drop k room))) p.place
          ∙ put_next (take at room ++ a) room b k front
          ∙ ap₂ (λ (x : List ℕ) (n : ℕ). x ++ drop n room) (append_assoc (take at room) a b) past
          ∙ append_assoc (take at room) (a ++ b) (drop (at + length (a ++ b)) room);
      place = omega (arith, q.place, p.place, length-append a b);
      long = q.long ∙ p.long;
    }

-- a text that was put lies in its room
pub put_fits : {room text after : List ℕ} {at r : ℕ} → Put room at text r after → at ≤ length room → at + length text ≤ length room
put_fits {room} {text} {after} {at} {r} p h =
    omega (
      arith,
      ap length p.memory,
      p.long,
      length-append (take at room) (text ++ drop (at + length text) room),
      length-append text (drop (at + length text) room),
      length-take-le at room h,
    )

-- a short text ends near its place
pub put_ends : {room text after : List ℕ} {at r k : ℕ} → Put room at text r after → length text ≤ k → r ≤ at + k
put_ends p h = omega (arith, p.place)

-- ---- how long each piece is

-- a code is no longer than the longest
pub code_few : (d : ℕ) (v : ℤ) → Drop d → nat_abs v ≤ largest → length (code_of d v) ≤ longest_code greatest_place
code_few d v dr h = bits_few greatest_place d (shape_of_number d v) places.from dr (number_valid greatest_place places d v dr h)

-- and so is its text
pub code_text_few : (d : ℕ) (v : ℤ) → Drop d → nat_abs v ≤ largest → length (code_text d v) ≤ longest_code greatest_place
code_text_few d v dr h = subst (λ (n : ℕ). n ≤ longest_code greatest_place) (sym (length-map (code_of d v) (λ b. 48 + b))) (code_few d v dr h)

-- a shortest decimal has as many digits as it may at most
shortest_few : (places n : ℕ) → length (shortest places n) ≤ places
unfolding shortest
shortest_few zero n = zero-le
shortest_few (suc places) n =
    pick_elim (λ (l : List ℕ). length l ≤ suc places) (ltb n 10) _ _ (λ e. omega arith)
    (λ e. omega (arith, shortest_few places (n / 10), length-append (shortest places (n / 10)) ((48 + n % 10) ∷ [])))

-- a value is at most nine bytes long
pub value_few : (v : ℤ) → length (value_text v) ≤ 9
value_few v =
    pick_elim (λ (l : List ℕ). length l ≤ 9) (eqb (sign_of v) 1) _ _ (λ e. omega (arith, shortest_few 8 (nat_abs v)))
    (λ e. omega (arith, shortest_few 8 (nat_abs v)))

-- a number's line is at most a value, two codes and three further bytes long
pub number_few : (v : ℤ) → nat_abs v ≤ largest → length (number_text v) ≤ 9 + 2 * longest_code greatest_place + 3
number_few v h =
    let tail : List ℕ = 32 ∷ (code_text 3 v ++ (10 ∷ [])) in
    omega (
      arith,
      value_few v,
      code_text_few 0 v none h,
      code_text_few 3 v three h,
      length-append (value_text v) (32 ∷ (code_text 0 v ++ tail)),
      length-append (code_text 0 v) tail,
      length-append (code_text 3 v) (10 ∷ []),
    )

-- so it fits the room that is enough for any answer
pub number_enough : (v : ℤ) → nat_abs v ≤ largest → length (number_text v) ≤ enough
number_enough v h = omega (arith, number_few v h)
