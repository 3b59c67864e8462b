-- What each answer is on document 01's paper, and the way back.
-- Assumes nothing.
use Rattle.std.specs.Prelude.{◌≡◌, refl, List, [], ◌∷◌, ℕ, eqb, get_or, Result, Ok, Err}
use Rattle.ground.specs.Choice.{pick}
use Rattle.ground.specs.Paper.{Paper, refusal, mapped}
use Rattle.ground.specs.Refusals.{Refusals, on_paper}
use Rattle.code.specs.Meaning.{ShapeValues, UnpackValues}
use Rattle.code.specs.declared.NotPacked.{NotPacked}
use Rattle.code.specs.declared.NotPacked.TheVariants as N
use Rattle.code.specs.declared.Refusal.{Refusal}
use Rattle.code.specs.declared.Refusal.TheVariants.{OutsideRule, RanOut, RedundantZero, RunTooLong}
use Rattle.code.specs.declared.Shape.{Shape}
use Rattle.code.specs.declared.Unpacked.{Unpacked}

-- why nothing was written: 8 or 3
abbrev pub not_packed_number : NotPacked → ℕ
not_packed_number N.OutsideRule = 8
not_packed_number N.TooShort = 3

-- the refusal of writing that has a number
abbrev pub not_packed_back : ℕ → NotPacked
not_packed_back n = pick (eqb n 8) N.OutsideRule N.TooShort

-- no two refusals of writing have one number
pub not_packed_home : (why : NotPacked) → not_packed_back (not_packed_number why) ≡ why
not_packed_home N.OutsideRule = refl
not_packed_home N.TooShort = refl

-- the refusals of writing
abbrev pub not_packed : Refusals NotPacked
not_packed = record { number = not_packed_number; carried = λ why. []; back = λ n carried. not_packed_back n; home = not_packed_home }

-- the next position; 8 or 3
abbrev pub packed_paper : Result ℕ NotPacked → Paper ℕ
packed_paper = on_paper not_packed

-- the numbers of the refusals of reading: drop or number 8, "9, 10, 11 as bits arrive"
abbrev pub refusal_number : Refusal → ℕ
refusal_number OutsideRule = 8
refusal_number (RanOut missing) = 9
refusal_number RedundantZero = 10
refusal_number RunTooLong = 11

-- what they carry: 2026-02, "9 gains a number"
abbrev pub refusal_carries : Refusal → List ℕ
refusal_carries OutsideRule = []
refusal_carries (RanOut missing) = missing ∷ []
refusal_carries RedundantZero = []
refusal_carries RunTooLong = []

-- a refusal of reading, the same on the paper of everything that reads codes
abbrev pub refusal_paper : {A : Type 0} → Refusal → Paper A
refusal_paper why = refusal (refusal_number why) (refusal_carries why)

-- the refusal of a number and what it carries
abbrev pub refusal_back : ℕ → List ℕ → Refusal
refusal_back n carried = pick (eqb n 8) OutsideRule (pick (eqb n 9) (RanOut (get_or carried 0 0)) (pick (eqb n 10) RedundantZero RunTooLong))

-- a refusal is the one of its number and what it carries
pub refusal_home : (why : Refusal) → refusal_back (refusal_number why) (refusal_carries why) ≡ why
refusal_home OutsideRule = refl
refusal_home (RanOut missing) = refl
refusal_home RedundantZero = refl
refusal_home RunTooLong = refl

-- the refusals of reading
abbrev pub not_read : Refusals Refusal
not_read = record { number = refusal_number; carried = refusal_carries; back = refusal_back; home = refusal_home }

-- a shape that was read, in document 01's words
abbrev pub shape_values : Shape → ShapeValues
shape_values s = record { sign = s.sign; magnitude = s.magnitude; error = s.error; next = s.next }

-- the shape that has these values
abbrev pub shape_from : ShapeValues → Shape
shape_from v = record { sign = v.sign; magnitude = v.magnitude; error = v.error; next = v.next }

-- sign, magnitude, error and the next position; 8, 9 with the bits missing, 10 or 11
abbrev pub shape_paper : Result Shape Refusal → Paper ShapeValues
shape_paper r = mapped shape_values (on_paper not_read r)

-- why no shape was read; of one that was read nothing is asked
abbrev pub reason_of : {V : Type 0} → Result V Refusal → Refusal
reason_of (Ok x) = OutsideRule
reason_of (Err why) = why

-- a number that was read, in document 01's words
abbrev pub unpack_values : Unpacked → UnpackValues
unpack_values u = record { value = u.value; next = u.next }

-- the number that has these values
abbrev pub unpacked_from : UnpackValues → Unpacked
unpacked_from t = record { value = t.value; next = t.next }

-- the number and the next position; 8, 9 with the bits missing, 10 or 11
abbrev pub unpacked_paper : Result Unpacked Refusal → Paper UnpackValues
unpacked_paper r = mapped unpack_values (on_paper not_read r)
