-- What holds of every format that takes the largest code: what needs nothing of its values, what needs that they grow, and what needs that they grow strictly.
-- Assumes nothing.
use Rattle.std.specs.Prelude.{◌≡◌, ℕ, suc, ◌≤◌, ◌<◌}
use Rattle.std.proofs.Common.{sym, ap, ◌∙◌, lt_of_lt_of_le, lt_irrefl}
use Rattle.ground.specs.Greatest.{Grows, GrowsStrictly, greatest_one, next_above, code_below, code_grows, value_greatest}
use Rattle.ground.specs.Paper.{Paper, accepted, refusal}
use Rattle.format.specs.Meaning.{Takes}

-- the sentence has one answer to a count
pub takes_one : (value : ℕ → ℕ) (limit count : ℕ) (p q : Paper ℕ) → Takes value limit count p → Takes value limit count q → p ≡ q
takes_one value limit count (accepted a) (accepted b) x y = ap accepted (greatest_one x.1 y.1)
takes_one value limit count (accepted a) (refusal n carried) x y = absurd (lt_irrefl count (lt_of_lt_of_le x.0 y.0))
takes_one value limit count (refusal n carried) (accepted b) x y = absurd (lt_irrefl count (lt_of_lt_of_le y.0 x.0))
takes_one value limit count (refusal m c) (refusal n d) x y = x.1 ∙ sym y.1

module _ (value : ℕ → ℕ) (limit : ℕ) where
  -- the value of a count's code is not above the count
  pub takes_reached : {count code : ℕ} → Takes value limit count (accepted code) → value code ≤ count
  takes_reached t = t.1.has

  -- and the next code's value is
  pub takes_next : {count code : ℕ} → Takes value limit count (accepted code) → count < value (suc code)
  takes_next t = next_above {value = value} t.1

  -- a greater count never takes a smaller code
  pub takes_grows : {m n a b : ℕ} → m ≤ n → Takes value limit m (accepted a) → Takes value limit n (accepted b) → a ≤ b
  takes_grows h s t = code_grows {value = value} h s.1 t.1

-- where values grow, a format whose limit is the value of the first code past its bits takes codes below that one
pub takes_below : (value : ℕ → ℕ) → Grows value → (bound : ℕ) {count code : ℕ} → Takes value (value bound) count (accepted code) → code < bound
takes_below value grows bound t = code_below {value = value} grows bound t.1 t.0

-- where they grow strictly, it answers the value of a code by that code
pub takes_back : (value : ℕ → ℕ) → GrowsStrictly value → (bound code : ℕ) (p : Paper ℕ) → code < bound → Takes value (value bound) (value code) p
    → p ≡ accepted code
takes_back value strict bound code p h t =
    takes_one value (value bound) (value code) p (accepted code) t (strict code bound h, value_greatest {value = value} strict code)
