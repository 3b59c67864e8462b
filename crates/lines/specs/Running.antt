-- Lines one after the other, in pieces of any length, into a lent room: what a run over one piece does, and that pieces joined
-- print what document 01 says.
-- Assumes nothing.
use Rattle.std.specs.Prelude.{◌≡◌, refl, Bool, true, false, not, ◌&&◌, List, [], ◌∷◌, ◌++◌, ℕ, suc, ◌+◌, ◌≤◌, ltb, eqb, length, drop}
use Rattle.std.proofs.Common.{ap, ap₂, ◌∙◌, append_assoc, zero-le, arith}
use Rattle.ground.specs.Choice.{pick, pick_elim}
use Rattle.lines.specs.declared.Line.{Line}
use Rattle.lines.specs.Meaning.{line_means, answers, printed, header, enough}
use Rattle.lines.specs.Reading.{fresh, step, answer_of, Holds, step_holds, fresh_holds, answer_so}

-- what is known after a byte: a newline begins a fresh line
abbrev pub next_line : Line → ℕ → Line
next_line s b = pick (eqb b 10) fresh (step s b)

-- what a byte prints: a newline, the line's answer
abbrev pub says : Line → ℕ → List ℕ
says s b = pick (eqb b 10) (answer_of s) []

-- a newline whose answer might not fit waits
abbrev pub waits : ℕ → ℕ → ℕ → Bool
waits size put b = eqb b 10 && ltb size (put + enough)

-- where a run stands: what is known of the line, the bytes used, the text
pub record Stand : Type 0 where
  pub line : Line
  pub used : ℕ
  pub text : List ℕ

-- a run over bytes, with a room of so many bytes: it ends at their end, or before a newline that waits
unfoldable pub goes : ℕ → Stand → List ℕ → Stand
goes size s [] = s
goes size s (b ∷ bs) =
    pick (waits size (length s.text) b) s
    (goes size (record { line = next_line s.line b; used = s.used + 1; text = s.text ++ says s.line b }) bs)

-- a run from its start
abbrev pub ran_over : ℕ → Line → List ℕ → Stand
ran_over size line input = goes size (record { line = line; used = 0; text = [] }) input

-- what the end of input prints: "the end of input ends a last line that has any bytes"
abbrev pub last_answer : Line → List ℕ
last_answer s = pick s.begun (answer_of s) []

-- what all further bytes print
unfoldable pub answers_from : Line → List ℕ → List ℕ
answers_from s [] = last_answer s
answers_from s (b ∷ bs) = says s b ++ answers_from (next_line s b) bs

-- ---- pieces

-- nothing more to add
append_none : (l : List ℕ) → l ++ [] ≡ l
append_none [] = refl
append_none (x ∷ l) = ap (λ (k : List ℕ). x ∷ k) (append_none l)

-- a run prints the front of what the piece and all that comes after it print, and leaves the rest
pub record Fair (size : ℕ) (s : Stand) (bs more : List ℕ) (r : Stand) : Type 0 where
  pub left : ℕ
  pub used : r.used ≡ s.used + left
  pub within : left ≤ length bs
  pub same : r.text ++ answers_from r.line (drop left bs ++ more) ≡ s.text ++ answers_from s.line (bs ++ more)

-- a run over a piece is fair
pub fair : (size : ℕ) (s : Stand) (bs more : List ℕ) → Fair size s bs more (goes size s bs)
unfolding goes answers_from
fair size s [] more = record { left = 0; used = omega arith; within = zero-le; same = refl }
fair size s (b ∷ bs) more =
    pick_elim (λ (r : Stand). Fair size s (b ∷ bs) more r) (waits size (length s.text) b) _ _
    (λ e. record { left = 0; used = omega arith; within = zero-le; same = refl })
    (λ e. further (fair size (record { line = next_line s.line b; used = s.used + 1; text = s.text ++ says s.line b }) bs more))
  where
    further : {r : Stand} → Fair size (record { line = next_line s.line b; used = s.used + 1; text = s.text ++ says s.line b }) bs more r
        → Fair size s (b ∷ bs) more r
    further f =
        record {
          left = suc f.left;
          used = omega (arith, f.used);
          within = omega (arith, f.within);
          same = f.same ∙ append_assoc s.text (says s.line b) (answers_from (next_line s.line b) (bs ++ more));
        }

-- no more bytes are used than there are
pub used_within : (size : ℕ) (line : Line) (input : List ℕ) → (ran_over size line input).used ≤ length input
used_within size line input =
    let f = fair size (record { line = line; used = 0; text = [] }) input [] in
    omega (arith, f.used, f.within)

-- a run over a piece prints the front of all that is to be printed, and what it did not use prints the rest
pub piece : (size : ℕ) (line : Line) (input more : List ℕ)
    → (ran_over size line input).text ++ answers_from (ran_over size line input).line (drop (ran_over size line input).used input ++ more)
    ≡ answers_from line (input ++ more)
piece size line input more =
    let f = fair size (record { line = line; used = 0; text = [] }) input more in
    let left : (ran_over size line input).used ≡ f.left = omega (arith, f.used) in
    ap (λ (n : ℕ). (ran_over size line input).text ++ answers_from (ran_over size line input).line (drop n input ++ more)) left
    ∙ f.same

-- ---- all pieces

-- input taken in pieces of any length, each into a room of any size, bytes not used being given again; at the end the last answer
pub data Session : Line → List ℕ → List ℕ → Type 0 where
  ends : (line : Line) → Session line [] (last_answer line)
  turn : (size : ℕ) (line : Line) (chunk more out : List ℕ)
      → Session (ran_over size line chunk).line (drop (ran_over size line chunk).used chunk ++ more) out
      → Session line (chunk ++ more) ((ran_over size line chunk).text ++ out)

-- whatever the pieces, the same is printed
pub session_prints : {line : Line} {input out : List ℕ} → Session line input out → out ≡ answers_from line input
unfolding answers_from
session_prints (ends line) = refl
session_prints (turn size line chunk more out rest) =
    ap (λ (l : List ℕ). (ran_over size line chunk).text ++ l) (session_prints rest) ∙ piece size line chunk more

-- what is known of a line is enough for all that comes
pub answers_so : (s : Line) (p bs : List ℕ) → Holds s p → answers_from s bs ≡ answers p bs
unfolding answers_from
answers_so s p [] h = go (eqb (length p) 0) h.begun (answer_so s p h)
  where
    go : (t : Bool) → s.begun ≡ not t → answer_of s ≡ line_means p → pick s.begun (answer_of s) [] ≡ pick t [] (line_means p)
    go true e a = ap (λ (x : Bool). pick x (answer_of s) []) e
    go false e a = ap₂ (λ (x : Bool) (l : List ℕ). pick x l []) e a
answers_so s p (b ∷ bs) h =
    go (eqb b 10) (answers_so fresh [] bs fresh_holds) (answers_so (step s b) (p ++ (b ∷ [])) bs (step_holds s p b h))
  where
    go : (t : Bool) → answers_from fresh bs ≡ answers [] bs → answers_from (step s b) bs ≡ answers (p ++ (b ∷ [])) bs
        → pick t (answer_of s) [] ++ answers_from (pick t fresh (step s b)) bs ≡ pick t (line_means p ++ answers [] bs) (answers (p ++ (b ∷ [])) bs)
    go true e f = ap₂ ◌++◌ (answer_so s p h) e
    go false e f = f

-- the header, and then pieces of the input in any way, print exactly what document 01 says
pub session_printed : {input out : List ℕ} → Session fresh input out → header ++ out ≡ printed input
unfolding printed
session_printed {input} {out} s = ap (λ (l : List ℕ). header ++ l) (session_prints s ∙ answers_so fresh [] input fresh_holds)
