-- The logarithm byte, in 2026-01's words.
-- Assumes nothing.
use Rattle.std.specs.Prelude.{◌≡◌, ℕ, zero, suc, ◌*◌, ◌^◌, ◌≤◌, ◌<◌, leb}
use Rattle.ground.specs.Choice.{pick}
use Rattle.ground.specs.Greatest.{Greatest, Least, greatest_to}
use Rattle.ground.specs.Paper.{Paper, accepted, refusal, refused}
use Rattle.format.specs.Meaning.{Largest}

-- "2^(v-8) not above c to the eighth power" is, without fractions, 2^v not above (2c)^8
unfoldable pub twice_to_eighth : ℕ → ℕ
twice_to_eighth c = (2 * c) ^ 8

-- "Count 0 is 0; count c .. is the largest v with 2^(v-8) not above c to the eighth power"
abbrev pub Log8 : ℕ → ℕ → Type 0
Log8 zero v = v ≡ 0
Log8 (suc n) v = Largest (λ (k : ℕ). 2 ^ k) (twice_to_eighth (suc n)) v

-- the byte that a count "from 1 to 2,147,483,647", or 0, gives
pub record Gives (code count : ℕ) : Type 0 where
  pub within : count ≤ 2147483647
  pub log : Log8 count code

-- "12 for a larger count"
abbrev pub Log8Takes : ℕ → Paper ℕ → Type 0
Log8Takes count (accepted code) = Gives code count
Log8Takes count (refusal n carried) = (2147483647 < count) × (◌≡◌ {A = Paper ℕ} (refusal n carried) (refused 12))

-- what is said of a byte: two counts, "or a plain word"
pub data Giving : Type 0 where
  between : ℕ → ℕ → Giving
  no_count : Giving

-- "from a byte, the smallest and largest counts that give it, or a plain word that no count does"
abbrev pub Log8Given : ℕ → Giving → Type 0
Log8Given code (between low high) = Least (Gives code) low × Greatest (Gives code) high
Log8Given code no_count = (count : ℕ) → Gives code count → ⊥

-- the byte of a count in range, computed: `Logarithms` shows that it is the one of the sentence
abbrev pub log8_of : ℕ → ℕ
log8_of zero = 0
log8_of (suc n) = greatest_to (λ (k : ℕ). leb (2 ^ k) (twice_to_eighth (suc n))) 255

-- what `Log8Takes` asks for, computed
abbrev pub log8_means : ℕ → Paper ℕ
log8_means count = pick (leb count 2147483647) (accepted (log8_of count)) (refused 12)
