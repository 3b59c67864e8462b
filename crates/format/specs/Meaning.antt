-- The plain formats, in document 01's words. w is the number of a float's mantissa bits.
-- Assumes nothing.
use Rattle.std.specs.Prelude.{◌≡◌, ℕ, ◌+◌, ◌-◌, ◌*◌, ◌/◌, ◌%◌, ◌^◌, ◌≤◌, ◌<◌, eqb, ltb}
use Rattle.std.specs.Int.Count.{count_leading_zeros}
use Rattle.ground.specs.Choice.{pick}
use Rattle.ground.specs.Greatest.{Greatest, Reaches}
use Rattle.ground.specs.Paper.{Paper, accepted, refusal, refused}

-- the exponent e of a code: what stands above its mantissa
abbrev pub exponent : ℕ → ℕ → ℕ
exponent w code = code / 2 ^ w

-- the mantissa f of a code: its w lowest bits
abbrev pub mantissa : ℕ → ℕ → ℕ
mantissa w code = code % 2 ^ w

-- "With w mantissa bits: value f if e = 0, else (f + 2^w)·2^(e-1)"
abbrev pub float_value : ℕ → ℕ → ℕ
float_value w code =
    pick (eqb (exponent w code) 0) (mantissa w code) ((mantissa w code + 2 ^ w) * 2 ^ (exponent w code - 1))

-- "A count takes the largest code whose value is not above it"
abbrev pub Largest : (ℕ → ℕ) → ℕ → ℕ → Type 0
Largest value count code = Greatest (Reaches value count) code

-- below the format's limit a count takes that code; "Counts from .. on are refused" by 12, count too large for the format
abbrev pub Takes : (ℕ → ℕ) → ℕ → ℕ → Paper ℕ → Type 0
Takes value limit count (accepted code) = (count < limit) × Largest value count code
Takes value limit count (refusal n carried) = (limit ≤ count) × (◌≡◌ {A = Paper ℕ} (refusal n carried) (refused 12))

-- how often a count is halved until w + 1 bits hold it: "w mantissa bits" and the leading one
abbrev pub halvings_of : ℕ → ℕ → ℕ
halvings_of w count = 63 - w - count_leading_zeros 64 count

-- the largest code whose value is not above a count, computed: `Floats` shows that it is the one of the sentence
abbrev pub code_of : ℕ → ℕ → ℕ
code_of w count = halvings_of w count * 2 ^ w + count / 2 ^ halvings_of w count

-- what `Takes` asks for, computed
abbrev pub code_means : ℕ → ℕ → ℕ → Paper ℕ
code_means w limit count = pick (ltb count limit) (accepted (code_of w count)) (refused 12)

-- "The 24-bit integer takes counts to 16,777,215"; "a 24-bit one above its limit is refused by 12"
abbrev pub int24_means : ℕ → Paper ℕ
int24_means n = pick (ltb 16777215 n) (refused 12) (accepted n)
