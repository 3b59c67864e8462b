-- A pass as three flags: on trial, clearing, settling. The walk takes them one by one, so that plain asks are built as if there were no trials.
-- Assumes nothing.
use Rattle.std.specs.Prelude.{Bool, true, false, ◌≡◌, refl, ℕ, ◌+◌, ◌%◌}
use Rattle.ground.specs.Choice.{pick}
use Rattle.pages.specs.Passes.{left_of, mark, seen, take_pass, value_of}
use Rattle.pages.specs.declared.Flags.{Flags}
use Rattle.pages.specs.declared.Pass.{Pass}

-- three flags
abbrev pub three : Bool → Bool → Bool → Flags
three trial clear settle = record { trial = trial; clear = clear; settle = settle }

-- the flags of a pass
abbrev pub flags_of : Pass → Flags
flags_of Pass.Keep = three false false false
flags_of Pass.Clear = three false true false
flags_of Pass.Look = three true false false
flags_of Pass.Mark = three true true false
flags_of Pass.Unmark = three true false true
flags_of Pass.Zero = three true true true

-- the pass of three flags
abbrev pub pass_by : Bool → Bool → Bool → Pass
pass_by false clear settle = take_pass clear
pass_by true clear false = pick clear Pass.Mark Pass.Look
pass_by true clear true = pick clear Pass.Zero Pass.Unmark

-- every pass is the pass of its flags
pub pass_by_lem : (pass : Pass) → pass_by (flags_of pass).trial (flags_of pass).clear (flags_of pass).settle ≡ pass
pass_by_lem Pass.Keep = refl
pass_by_lem Pass.Clear = refl
pass_by_lem Pass.Look = refl
pass_by_lem Pass.Mark = refl
pass_by_lem Pass.Unmark = refl
pass_by_lem Pass.Zero = refl

-- what three flags leave of a word
abbrev pub left_by : Bool → Bool → Bool → ℕ → ℕ
left_by trial clear settle word =
    pick trial (pick settle (pick clear (seen word) (word % mark)) (pick clear (word % mark + mark) word)) (pick clear 0 word)

-- it is what their pass leaves
pub left_by_lem : (trial clear settle : Bool) (word : ℕ) → left_by trial clear settle word ≡ left_of (pass_by trial clear settle) word
left_by_lem false true settle word = refl
left_by_lem false false settle word = refl
left_by_lem true true true word = refl
left_by_lem true true false word = refl
left_by_lem true false true word = refl
left_by_lem true false false word = refl

-- what their pass sees of a word: on trial nothing of a marked one
pub value_by : (trial clear settle : Bool) (word : ℕ) → pick trial (seen word) word ≡ value_of (pass_by trial clear settle) word
value_by false true settle word = refl
value_by false false settle word = refl
value_by true true true word = refl
value_by true true false word = refl
value_by true false true word = refl
value_by true false false word = refl
