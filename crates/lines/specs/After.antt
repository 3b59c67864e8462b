-- What is known of a line after bytes, one after the other, and what they print: pieces joined, and what a run leaves.
-- Assumes nothing.
use Rattle.std.specs.Prelude.{◌≡◌, refl, List, [], ◌∷◌, ◌++◌, ℕ, suc, ◌+◌, length, take, drop}
use Rattle.std.proofs.Common.{sym, ap, ap₂, ◌∙◌, append_assoc, arith, take-append-drop, length-append}
use Rattle.ground.specs.Choice.{pick_elim}
use Rattle.lines.specs.declared.Line.{Line}
use Rattle.lines.specs.declared.Ran.{Ran}
use Rattle.lines.specs.Running.{Stand, next_line, says, waits, goes, ran_over, answers_from, piece}
use Rattle.lines.specs.Promise.{RunPromise}

-- what is known after bytes, the one after the other
unfoldable pub line_after : Line → List ℕ → Line
line_after s [] = s
line_after s (b ∷ bs) = line_after (next_line s b) bs

-- after no bytes nothing else is known
pub after_none : (s : Line) → line_after s [] ≡ s
unfolding line_after
after_none s = refl

-- two pieces joined are the one after the other
pub after_joined : (s : Line) (xs ys : List ℕ) → line_after s (xs ++ ys) ≡ line_after (line_after s xs) ys
unfolding line_after
after_joined s [] ys = refl
after_joined s (b ∷ xs) ys = after_joined (next_line s b) xs ys

-- what bytes print: the answers of the lines that end in them
unfoldable pub answers_within : Line → List ℕ → List ℕ
answers_within s [] = []
answers_within s (b ∷ bs) = says s b ++ answers_within (next_line s b) bs

-- no bytes print nothing
pub within_none : (s : Line) → answers_within s [] ≡ []
unfolding answers_within
within_none s = refl

-- all that is printed is what a first piece prints, and then what is printed from its line on
pub within_first : (s : Line) (xs ys : List ℕ) → answers_from s (xs ++ ys) ≡ answers_within s xs ++ answers_from (line_after s xs) ys
unfolding line_after answers_within answers_from
within_first s [] ys = refl
within_first s (b ∷ xs) ys =
    ap (λ (l : List ℕ). says s b ++ l) (within_first (next_line s b) xs ys)
    ∙ sym (append_assoc (says s b) (answers_within (next_line s b) xs) (answers_from (line_after (next_line s b) xs) ys))

-- a run's line is that after the bytes that it used
record Folded (s : Stand) (bs : List ℕ) (r : Stand) : Type 0 where
  pub more : ℕ
  pub used : r.used ≡ s.used + more
  pub line : r.line ≡ line_after s.line (take more bs)

-- so is every run's
folded : (size : ℕ) (s : Stand) (bs : List ℕ) → Folded s bs (goes size s bs)
unfolding goes line_after
folded size s [] = record { more = 0; used = omega arith; line = refl }
folded size s (b ∷ bs) =
    pick_elim (λ (r : Stand). Folded s (b ∷ bs) r) (waits size (length s.text) b) _ _
    (λ e. record { more = 0; used = omega arith; line = refl })
    (λ e. further (folded size (record { line = next_line s.line b; used = s.used + 1; text = s.text ++ says s.line b }) bs))
  where
    further : {r : Stand} → Folded (record { line = next_line s.line b; used = s.used + 1; text = s.text ++ says s.line b }) bs r
        → Folded s (b ∷ bs) r
    further f = record { more = suc f.more; used = omega (arith, f.used); line = f.line }

-- what a run knows in the end is what is known after the bytes that it used
pub run_line : (size : ℕ) (line : Line) (input : List ℕ)
    → (ran_over size line input).line ≡ line_after line (take (ran_over size line input).used input)
run_line size line input =
    let f = folded size (record { line = line; used = 0; text = [] }) input in
    let many : f.more ≡ (ran_over size line input).used = omega (arith, f.used) in
    f.line ∙ ap (λ (n : ℕ). line_after line (take n input)) many

-- what a run left, taken from the line that it ends in, comes to the same as all of the input
left_same : (size : ℕ) (line : Line) (input : List ℕ)
    → line_after (ran_over size line input).line (drop (ran_over size line input).used input) ≡ line_after line input
left_same size line input =
    let n : ℕ = (ran_over size line input).used in
    ap (λ (s : Line). line_after s (drop n input)) (run_line size line input)
    ∙ sym (after_joined line (take n input) (drop n input))
    ∙ ap (line_after line) (take-append-drop n input)

-- so for every run that meets its promise
pub run_left : {line : Line} {input room after : List ℕ} {r : Ran} → RunPromise line input room r after
    → line_after r.line (drop r.used input) ≡ line_after line input
run_left {line} {input} {room} {after} {r} p =
    ap₂ (λ (s : Line) (k : ℕ). line_after s (drop k input)) p.state p.used ∙ left_same (length room) line input

-- the bytes that a run put, with those that what it left prints, are all that the input prints
pub run_count : {line : Line} {input room after : List ℕ} {r : Ran} → RunPromise line input room r after
    → r.put + length (answers_within r.line (drop r.used input)) ≡ length (answers_within line input)
run_count {line} {input} {room} {after} {r} p =
    let z : Stand = ran_over (length room) line input in
    let rest : List ℕ = drop z.used input in
    omega (
      arith,
      p.answer,
      ap₂ (λ (s : Line) (k : ℕ). length (answers_within s (drop k input))) p.state p.used,
      ap (λ (s : Line). length (answers_from s [])) (left_same (length room) line input),
      ap length (piece (length room) line input []),
      length-append z.text (answers_from z.line (rest ++ [])),
      ap length (within_first z.line rest []),
      length-append (answers_within z.line rest) (answers_from (line_after z.line rest) []),
      ap length (within_first line input []),
      length-append (answers_within line input) (answers_from (line_after line input) []),
    )
