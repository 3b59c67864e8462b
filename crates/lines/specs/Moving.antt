-- What a program that moves the bytes relies on: nothing is used or put past an end, and a run over a piece gets on.
-- Assumes nothing.
use Rattle.std.specs.Prelude.{◌≡◌, refl, Bool, true, false, ◌&&◌, List, [], ◌∷◌, ◌++◌, ℕ, ◌+◌, ◌≤◌, ltb, eqb, length, drop}
use Rattle.std.proofs.Common.{sym, ap, subst, zero-le, arith, not-suc-le-zero, le-ltb, length-append}
use Rattle.ground.specs.Choice.{pick}
use Rattle.ground.specs.Putting.{put}
use Rattle.lines.specs.declared.Line.{Line}
use Rattle.lines.specs.declared.Ran.{Ran}
use Rattle.lines.specs.Meaning.{header}
use Rattle.lines.specs.Reading.{answer_of}
use Rattle.lines.specs.Meaning.{enough}
use Rattle.lines.specs.Running.{Stand, next_line, says, goes, ran_over, fair, used_within}
use Rattle.lines.specs.Promise.{HeaderPromise, AnswerPromise, RunPromise}

-- what is put at the front of a room lies in it
front_inside : (room text after : List ℕ) → after ≡ put room 0 text → length text ≤ length after
front_inside room text after e = omega (arith, ap length e, length-append text (drop (0 + length text) room))

-- a test that is taken with the other it needs
no_wait : (t : Bool) (size : ℕ) → enough ≤ size → (t && ltb size (0 + enough)) ≡ false
no_wait true size h = le-ltb size (0 + enough) h
no_wait false size h = refl

-- a first byte does not wait in a room of 80 bytes
first_goes : (size : ℕ) (line : Line) (b : ℕ) (bs : List ℕ) → enough ≤ size → 1 ≤ (ran_over size line (b ∷ bs)).used
unfolding goes
first_goes size line b bs h =
    let next : Stand = record { line = next_line line b; used = 0 + 1; text = [] ++ says line b } in
    let f = fair size next bs [] in
    subst (λ (s : Stand). 1 ≤ s.used)
    (ap (λ (x : Bool). pick x (record { line = line; used = 0; text = [] }) (goes size next bs)) (sym (no_wait (eqb b 10) size h)))
    (omega (arith, f.used))

-- a run uses no more bytes than there are
pub run_used : {line : Line} {input room after : List ℕ} {r : Ran} → RunPromise line input room r after → r.used ≤ length input
run_used {line} {input} {room} p = subst (λ (n : ℕ). n ≤ length input) (sym p.used) (used_within (length room) line input)

-- what it put lies in the room
pub run_put : {line : Line} {input room after : List ℕ} {r : Ran} → RunPromise line input room r after → r.put ≤ length after
run_put {line} {input} {room} {after} p =
    subst (λ (n : ℕ). n ≤ length after) (sym p.answer) (front_inside room (ran_over (length room) line input).text after p.memory)

-- with a room of 80 bytes a run over some bytes uses some
pub run_moves : {line : Line} {input room after : List ℕ} {r : Ran} → RunPromise line input room r after → enough ≤ length room → 1 ≤ length input → 1 ≤ r.used
run_moves {line} {input} {room} p h g = subst (λ (n : ℕ). 1 ≤ n) (sym p.used) (go input g)
  where
    go : (l : List ℕ) → 1 ≤ length l → 1 ≤ (ran_over (length room) line l).used
    go [] g = absurd (not-suc-le-zero g)
    go (b ∷ bs) g = first_goes (length room) line b bs h

-- the header lies in the room
pub header_inside : {room after : List ℕ} {r : ℕ} → HeaderPromise room r after → r ≤ length after
header_inside {room} {after} {r} p = go (ltb (length room) enough) p.answer p.memory
  where
    go : (t : Bool) → r ≡ pick t 0 (length header) → after ≡ pick t room (put room 0 header) → r ≤ length after
    go true e f = subst (λ (n : ℕ). n ≤ length after) (sym e) zero-le
    go false e f = subst (λ (n : ℕ). n ≤ length after) (sym e) (front_inside room header after f)

-- an answer lies in the room
pub answer_inside : {line : Line} {room after : List ℕ} {r : ℕ} → AnswerPromise line room r after → r ≤ length after
answer_inside {line} {room} {after} {r} p = go (ltb (length room) enough) p.answer p.memory
  where
    go : (t : Bool) → r ≡ pick t 0 (length (answer_of line)) → after ≡ pick t room (put room 0 (answer_of line)) → r ≤ length after
    go true e f = subst (λ (n : ℕ). n ≤ length after) (sym e) zero-le
    go false e f = subst (λ (n : ℕ). n ≤ length after) (sym e) (front_inside room (answer_of line) after f)
