-- The greatest number with a property: "the largest code ..", "the highest level .."; and the least: "the smallest .. count".
-- Assumes nothing.
use Rattle.std.specs.Prelude.{◌≡◌, Bool, true, false, ℕ, zero, suc, ◌+◌, ◌≤◌, ◌<◌}
use Rattle.std.proofs.Common.{ap, subst, ◌∙◌, ⊎_elim, le_refl, le_of_eq, le_of_lt, le_trans, le_antisymm, lt_of_lt_of_le, lt_irrefl, eq-or-lt_of_le, arith}
use Rattle.std.proofs.Math.Decide.{dec_lt}
use Rattle.ground.specs.Choice.{pick, pick_elim}
use Rattle.ground.specs.Questions.{both_ways, past}

-- a number that has the property, and no greater one has
pub record Greatest (P : ℕ → Type 0) (n : ℕ) : Type 0 where
  pub has : P n
  pub most : (other : ℕ) → P other → other ≤ n

-- there is one
pub greatest_one : {P : ℕ → Type 0} {a b : ℕ} → Greatest P a → Greatest P b → a ≡ b
greatest_one {a = a} {b = b} p q = le_antisymm (q.most a p.has) (p.most b q.has)

-- a number that has the property, and no smaller one has
pub record Least (P : ℕ → Type 0) (n : ℕ) : Type 0 where
  pub has : P n
  pub least : (other : ℕ) → P other → n ≤ other

-- there is one
pub least_one : {P : ℕ → Type 0} {a b : ℕ} → Least P a → Least P b → a ≡ b
least_one {a = a} {b = b} p q = le_antisymm (p.least b q.has) (q.least a p.has)

-- of a wider property it is no smaller
pub greatest_wider : {P Q : ℕ → Type 0} {a b : ℕ} → ((n : ℕ) → P n → Q n) → Greatest P a → Greatest Q b → a ≤ b
greatest_wider {a = a} wider p q = q.most a (wider a p.has)

-- the greatest of 0 to n at which a test holds, computed; 0 where it holds at none
abbrev pub greatest_to : (ℕ → Bool) → ℕ → ℕ
greatest_to test zero = 0
greatest_to test (suc n) = pick (test (suc n)) (suc n) (greatest_to test n)

-- the computed one is the greatest, where the test holds at 0
pub greatest_is : (test : ℕ → Bool) (n : ℕ) → test 0 ≡ true → Greatest (λ (k : ℕ). (k ≤ n) × (test k ≡ true)) (greatest_to test n)
greatest_is test zero h = record { has = (le_refl 0, h); most = λ k p. p.0 }
greatest_is test (suc n) h =
    pick_elim (λ (l : ℕ). Greatest (λ (k : ℕ). (k ≤ suc n) × (test k ≡ true)) l) (test (suc n)) (suc n) (greatest_to test n)
    (λ e. record { has = (le_refl (suc n), e); most = λ k p. p.0 })
    (λ e. passed e (greatest_is test n h))
  where
    passed : {l : ℕ} → test (suc n) ≡ false → Greatest (λ (k : ℕ). (k ≤ n) × (test k ≡ true)) l
        → Greatest (λ (k : ℕ). (k ≤ suc n) × (test k ≡ true)) l
    passed {l} e g = record { has = (omega (arith, g.has.0), g.has.1); most = most }
      where
        most : (k : ℕ) → (k ≤ suc n) × (test k ≡ true) → k ≤ l
        most k p =
            ⊎_elim (λ (q : k ≡ suc n). absurd (both_ways p.1 (ap test q ∙ e)))
            (λ (q : k < suc n). g.most k (omega arith, p.1))
            (eq-or-lt_of_le p.0)

-- the least from k on at which a test holds, computed, looked for over so many numbers; the last where it holds at none before
abbrev pub least_from : (ℕ → Bool) → ℕ → ℕ → ℕ
least_from test zero k = k
least_from test (suc n) k = pick (test k) k (least_from test n (suc k))

-- the computed one is the least, where the test holds at none below k, and at one of those looked at
pub least_is : (test : ℕ → Bool) (n k m : ℕ) → ((j : ℕ) → test j ≡ true → k ≤ j) → m ≤ k + n → test m ≡ true
    → Least (λ (j : ℕ). test j ≡ true) (least_from test n k)
least_is test zero k m none h t =
    let same : m ≡ k = omega (arith, none m t) in
    record { has = subst (λ (j : ℕ). test j ≡ true) same t; least = none }
least_is test (suc n) k m none h t =
    pick_elim (λ (l : ℕ). Least (λ (j : ℕ). test j ≡ true) l) (test k) k (least_from test n (suc k))
    (λ e. record { has = e; least = none })
    (λ e. least_is test n (suc k) m (λ j p. past (none j p) (λ (q : j ≡ k). both_ways p (ap test q ∙ e))) (omega arith) t)

-- a greater code never has a smaller value
abbrev pub Grows : (ℕ → ℕ) → Type 0
Grows value = (a b : ℕ) → a ≤ b → value a ≤ value b

-- a greater code has a greater value
abbrev pub GrowsStrictly : (ℕ → ℕ) → Type 0
GrowsStrictly value = (a b : ℕ) → a < b → value a < value b

-- values that grow strictly grow
pub strictly_grows : {value : ℕ → ℕ} → GrowsStrictly value → Grows value
strictly_grows {value} strict a b h =
    ⊎_elim (λ (e : a ≡ b). le_of_eq (ap value e)) (λ (l : a < b). le_of_lt (strict a b l)) (eq-or-lt_of_le h)

-- "the largest code whose value is not above it"
abbrev pub Reaches : (ℕ → ℕ) → ℕ → ℕ → Type 0
Reaches value count code = value code ≤ count

-- the next code's value is above the count
pub next_above : {value : ℕ → ℕ} {count code : ℕ} → Greatest (Reaches value count) code → count < value (suc code)
next_above {value} {count} {code} p =
    elim (dec_lt count (value (suc code))) [
      | yes h ↦ h
      | no h ↦ absurd (lt_irrefl code (p.most (suc code) (omega arith)))
    ]

-- a greater count never takes a smaller code, whatever the values
pub code_grows : {value : ℕ → ℕ} {m n a b : ℕ} → m ≤ n → Greatest (Reaches value m) a → Greatest (Reaches value n) b → a ≤ b
code_grows h = greatest_wider (λ k r. le_trans r h)

module _ {value : ℕ → ℕ} (grows : Grows value) where
  -- what lies between the values of a code and the next takes that code
  pub between_greatest : {count code : ℕ} → value code ≤ count → count < value (suc code) → Greatest (Reaches value count) code
  between_greatest {count} {code} a b = record { has = a; most = most }
    where
      most : (other : ℕ) → value other ≤ count → other ≤ code
      most other h =
          elim (dec_lt code other) [
            | yes k ↦ absurd (lt_irrefl count (lt_of_lt_of_le b (le_trans (grows (suc code) other k) h)))
            | no k ↦ omega arith
          ]

  -- a count below the value of a code takes a code below it
  pub code_below : {count code : ℕ} (bound : ℕ) → Greatest (Reaches value count) code → count < value bound → code < bound
  code_below {count} {code} bound p h =
      elim (dec_lt code bound) [
        | yes k ↦ k
        | no k ↦
            let l : bound ≤ code = omega arith in
            absurd (lt_irrefl count (lt_of_lt_of_le h (le_trans (grows bound code l) p.has)))
      ]

-- where values grow strictly, the code of a value is that code
pub value_greatest : {value : ℕ → ℕ} → GrowsStrictly value → (code : ℕ) → Greatest (Reaches value (value code)) code
value_greatest {value} strict code =
    between_greatest (strictly_grows strict) (le_refl (value code)) (strict code (suc code) (le_refl (suc code)))
