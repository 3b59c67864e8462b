-- The one-hour cadence, in document 01's words.
-- Assumes nothing.
use Rattle.std.specs.Prelude.{◌≡◌, Bool, List, [], ◌∷◌, ℕ, ◌+◌, ◌%◌, ◌≤◌, ◌<◌, eqb, ltb, get_or}
use Rattle.ground.specs.Choice.{pick}
use Rattle.ground.specs.Greatest.{Greatest, greatest_to}
use Rattle.ground.specs.Paper.{Paper, accepted, refusal, refused}

-- "Levels 0 to 7 last 1, 5, 10, 30, 60, 300, 600, 3600 seconds"
abbrev pub lengths : List ℕ
lengths = 1 ∷ 5 ∷ 10 ∷ 30 ∷ 60 ∷ 300 ∷ 600 ∷ 3600 ∷ []

-- the seconds that a level lasts
abbrev pub length_of : ℕ → ℕ
length_of level = get_or lengths level 0

-- a level "whose length divides t": nothing is left over
pub record Divides (t level : ℕ) : Type 0 where
  pub within : level ≤ 7
  pub whole : t % length_of level ≡ 0

-- "the highest whose length divides t"
abbrev pub Highest : ℕ → ℕ → Type 0
Highest t level = Greatest (Divides t) level

-- "In second t, 0 to 3599": the level of a number of seconds, here t or t + 1; "19: second or level out of range"
abbrev pub LevelIn : ℕ → ℕ → Paper ℕ → Type 0
LevelIn second elapsed (accepted level) = (second ≤ 3599) × Highest elapsed level
LevelIn second elapsed (refusal n carried) = (3599 < second) × (◌≡◌ {A = Paper ℕ} (refusal n carried) (refused 19))

-- "In second t, 0 to 3599, the beginning level is the highest whose length divides t"
abbrev pub Begins : ℕ → Paper ℕ → Type 0
Begins t = LevelIn t t

-- "the ending level, the highest whose length divides t+1"
abbrev pub Ends : ℕ → Paper ℕ → Type 0
Ends t = LevelIn t (t + 1)

-- "19: second or level out of range"; else the level's length
abbrev pub seconds_means : ℕ → Paper ℕ
seconds_means level = pick (ltb 7 level) (refused 19) (accepted (length_of level))

-- whether a level's length divides t, as a test
abbrev pub divides_of : ℕ → ℕ → Bool
divides_of t level = eqb (t % length_of level) 0

-- the highest level whose length divides t, computed: `Sentence` shows that it is the one above; level 0's length divides everything
abbrev pub highest_dividing : ℕ → ℕ
highest_dividing t = greatest_to (divides_of t) 7

-- what `LevelIn` asks for, computed
abbrev pub level_means : ℕ → ℕ → Paper ℕ
level_means second elapsed = pick (ltb 3599 second) (refused 19) (accepted (highest_dividing elapsed))

-- what `Begins` asks for, computed
abbrev pub beginning_means : ℕ → Paper ℕ
beginning_means t = level_means t t

-- what `Ends` asks for, computed
abbrev pub ending_means : ℕ → Paper ℕ
ending_means t = level_means t (t + 1)
