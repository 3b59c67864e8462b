-- What each call says of a state's words: 13, whose turn it is, and the next number.
-- Assumes nothing.
use Rattle.std.specs.Prelude.{Bool, ◌&&◌, List, ℕ, eqb, leb, get_or, length, Result, Err}
use Rattle.ground.specs.Choice.{pick}
use Rattle.ground.specs.Paper.{Paper, accepted, refused}
use Rattle.pages.specs.Meaning.{sized_of}
use Rattle.state.specs.Turns.{next_of, same_asked, turn_of, turn_told}
use Rattle.state.specs.Words.{Asked, Kept, Last, Nothing, asked_in, kept_in, number_at, state_words, words_at}
use Rattle.state.specs.declared.NoTurn.{NoTurn}
use Rattle.state.specs.declared.NoTurn.TheVariants.{OutOfTurn}
use Rattle.state.specs.declared.Turn.{Turn}

-- enough words for a state
abbrev pub roomy : List ℕ → Bool
roomy state = leb state_words (length state)

-- 13: "memory length odd, outside 2 to 524,288, or not the state's 2N"; where this fails, or fewer words than a state takes are lent
abbrev pub fitting_of : ℕ → List ℕ → Bool
fitting_of words state = roomy state && (sized_of words && eqb words (get_or state words_at 0))

-- whose turn it is beside a state's words; fewer words than a state takes are nobody's
abbrev pub turn_in : List ℕ → ℕ → Asked → Result Turn NoTurn
turn_in state number a = pick (roomy state) (turn_of (kept_in state) number a) (Err OutOfTurn)

-- the same, told whether the ask asks for the same as the kept one
abbrev pub turn_by : List ℕ → ℕ → Bool → Result Turn NoTurn
turn_by state number same = pick (roomy state) (turn_told (kept_in state) number same) (Err OutOfTurn)

-- whether an ask bears the last number and asks for the same as the kept one
abbrev pub repeats_in : List ℕ → ℕ → Asked → Bool
repeats_in state number a = roomy state && (eqb number (get_or state number_at 0) && same_asked (asked_in state) a)

-- "A new ask bears the number after the last accepted, 1 after opening, 0 after 65535"; 13 for a last number that no ask bears
abbrev pub next_after_last : ℕ → Paper ℕ
next_after_last number = pick (leb number 65535) (accepted (next_of number)) (refused 13)

-- the same after what is kept
abbrev pub next_after : Kept → Paper ℕ
next_after Nothing = accepted 1
next_after (Last number a sum) = next_after_last number

-- the number of the next new ask; refusal 13, also for fewer words than a state takes
unfoldable pub next_means : List ℕ → Paper ℕ
next_means state = pick (roomy state) (next_after (kept_in state)) (refused 13)
