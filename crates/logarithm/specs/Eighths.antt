-- How the logarithm byte is found: the bits of a count, the eighths of a doubling that it lies above 2^31 when it is raised to 32 bits, and the first count
-- that reaches a power.
-- Assumes nothing.
use Rattle.std.specs.Prelude.{◌≡◌, Bool, true, false, ◌&&◌, ℕ, zero, suc, ◌+◌, ◌-◌, ◌*◌, ◌/◌, ◌^◌, ◌≤◌, ◌<◌, leb, ltb}
use Rattle.std.proofs.Common.{sym, ap, ◌∙◌, subst, le_refl, le_trans, lt_of_lt_of_le, lt_of_le_of_lt, lt_irrefl, one-mul, add-mul, mul_assoc}
use Rattle.std.proofs.Common.{mul-le-mul_right, mul-lt-mul_of_pos_right, pow-suc, div-lt_iff_lt-mul, arith, lit<, pow_pos, pow-add, pow_mono, leb-true}
use Rattle.std.proofs.Common.{ltb-true, leb-false, le-leb}
use Rattle.std.proofs.Math.Nat.{lt-div-mul-add}
use Rattle.std.proofs.Math.Decide.{dec_lt}
use Rattle.std.specs.Int.Count.{count_leading_zeros}
use Rattle.std.proofs.lemmas.Nat.{leading_top}
use Rattle.std.proofs.lemmas.Bool.{lt-leb}
use Rattle.ground.specs.Choice.{pick, pick_elim}
use Rattle.ground.specs.Greatest.{Greatest, Least}
use Rattle.ground.specs.Questions.{both_hold}
use Rattle.logarithm.specs.Meaning.{twice_to_eighth, Gives, between, no_count, Log8Given}
use Rattle.logarithm.specs.Logarithms.{Reached, reached_grows, reached_doubled, doubled_reached, reached_nothing, reached_limit, unreached, eighth_grows}

-- ---- a count by its bits and eighths

-- a count of so many bits, of which the first is set
pub record Bits (count bits : ℕ) : Type 0 where
  pub few : bits ≤ 31
  pub below : count < 2 ^ bits
  pub above : 2 ^ bits ≤ 2 * count

-- as many bits as there are below the leading zeros
pub bits_leading : (count : ℕ) → 0 < count → count ≤ 2147483647 → Bits count (64 - count_leading_zeros 64 count)
bits_leading count p h =
    let t = leading_top 64 count p (lt_of_le_of_lt h (lit< tt)) in
    let e : 64 - count_leading_zeros 64 count ≡ suc t.0 = omega (arith, t.1) in
    subst (λ (x : ℕ). Bits count x) (sym e) (record { few = few t.0 t.2; below = t.3; above = omega (arith, pow-suc 2 t.0, t.2) })
  where
    few : (j : ℕ) → 2 ^ j ≤ count → suc j ≤ 31
    few j l =
        elim (dec_lt j 31) [
          | yes a ↦ a
          | no a ↦ let m : 2 ^ 31 ≤ 2 ^ j = pow_mono {i = 31} (omega arith) in omega arith
        ]

-- doubled until it has 32 bits
pub bits_raised : {count bits : ℕ} → Bits count bits → (2147483648 ≤ count * 2 ^ (32 - bits)) × (count * 2 ^ (32 - bits) < 4294967296)
bits_raised {count} {bits} b =
    let e : 2 ^ bits * 2 ^ (32 - bits) ≡ 4294967296 =
    sym (pow-add 2 bits (32 - bits)) ∙ ap (λ (x : ℕ). 2 ^ x) (let s : bits + (32 - bits) ≡ 32 = omega (arith, b.few) in s) in (
      omega (arith, mul-le-mul_right (2 ^ (32 - bits)) b.above, mul_assoc 2 count (2 ^ (32 - bits)), e),
      omega (arith, mul-lt-mul_of_pos_right b.below (pow_pos (32 - bits)), e),
    )

-- of the first i eighths of a doubling above 2^31, a count reaches n, and no more
pub record Eighths (i count n : ℕ) : Type 0 where
  pub below : n < i
  pub reached : Reached (256 + n) count
  pub most : (k : ℕ) → k < i → Reached (256 + k) count → k ≤ n

-- from 2^31 on it reaches none
pub eighths_none : {count : ℕ} → 2147483648 ≤ count → Eighths 1 count 0
eighths_none h = record { below = le_refl 1; reached = reached_grows (le_refl 256) h reached_limit; most = λ k l r. omega arith }

-- one more is looked at
pub eighths_more : {i count n r : ℕ} → Eighths i count n → r ≡ pick (leb (2 ^ (256 + i)) (twice_to_eighth count)) 1 0 → Eighths (i + 1) count (n + r)
eighths_more {i} {count} {n} {r} g e =
    subst (λ (x : ℕ). Eighths (i + 1) count (n + x)) (sym e)
    (pick_elim (λ (x : ℕ). Eighths (i + 1) count (n + x)) (leb (2 ^ (256 + i)) (twice_to_eighth count)) 1 0 reached missed)
  where
    reached : leb (2 ^ (256 + i)) (twice_to_eighth count) ≡ true → Eighths (i + 1) count (n + 1)
    reached t =
        let here : Reached (256 + i) count = record { reaches = leb-true (2 ^ (256 + i)) (twice_to_eighth count) t } in
        let last : i - 1 ≤ n = g.most (i - 1) (omega (arith, g.below)) (reached_grows (omega arith) (le_refl count) here) in
        let same : n + 1 ≡ i = omega (arith, g.below) in
        record { below = omega arith; reached = subst (λ (x : ℕ). Reached (256 + x) count) (sym same) here; most = λ k l x. omega arith }

    missed : leb (2 ^ (256 + i)) (twice_to_eighth count) ≡ false → Eighths (i + 1) count (n + 0)
    missed f = record { below = omega (arith, g.below); reached = subst (λ (x : ℕ). Reached (256 + x) count) same g.reached; most = most }
      where
        same : n ≡ n + 0
        same = omega arith

        most : (k : ℕ) → k < i + 1 → Reached (256 + k) count → k ≤ n + 0
        most k l x =
            elim (dec_lt k i) [
              | yes a ↦ omega (arith, g.most k a x)
              | no a ↦
                  let e : k ≡ i = omega arith in
                  absurd (lt_irrefl (twice_to_eighth count) (lt_of_lt_of_le (leb-false (2 ^ (256 + i)) (twice_to_eighth count) f)
                  (subst (λ (y : ℕ). Reached (256 + y) count) e x).reaches))
            ]

-- below 2^32 it reaches less than 264
reached_few : {k count : ℕ} → count < 4294967296 → Reached k count → k < 264
unfolding twice_to_eighth
reached_few h r = unreached (lt_of_le_of_lt (eighth_grows {b = 4294967295} (omega arith)) (lit< tt)) r

-- so the eighths that it reaches are all that it reaches
eighths_all : {count n : ℕ} → count < 4294967296 → Eighths 8 count n → Greatest (λ (k : ℕ). Reached k count) (256 + n)
eighths_all {count} {n} h g = record { has = g.reached; most = most }
  where
    most : (k : ℕ) → Reached k count → k ≤ 256 + n
    most k r =
        elim (dec_lt k 256) [
          | yes l ↦ omega arith
          | no l ↦
              let e : k ≡ 256 + (k - 256) = omega arith in
              omega (arith, g.most (k - 256) (omega (arith, reached_few h r)) (subst (λ (x : ℕ). Reached x count) e r))
        ]

-- the largest v that a count reaches is that of the doubled count, less 8 for each doubling
largest_doubled : (v s : ℕ) {c : ℕ} → Greatest (λ (k : ℕ). Reached k (c * 2 ^ s)) (v + 8 * s) → Greatest (λ (k : ℕ). Reached k c) v
largest_doubled v s {c} g = record { has = doubled_reached s g.has; most = most }
  where
    most : (k : ℕ) → Reached k c → k ≤ v
    most k r = omega (arith, g.most (k + 8 * s) (reached_doubled s r))

-- a count of so many bits that reaches so many eighths when raised gives eight times the bits, and the eighths
pub bits_give : (count : ℕ) {bits n : ℕ} → 0 < count → Bits count bits → Eighths 8 (count * 2 ^ (32 - bits)) n → Gives (bits * 8 + n) count
bits_give zero p b g = omega arith
bits_give (suc c) {bits} {n} p b g = record { within = within; log = record { has = top.has.reaches; most = λ k r. top.most k (record { reaches = r }) } }
  where
    within : suc c ≤ 2147483647
    within = omega (arith, b.below, pow_mono b.few)

    sum : 256 + n ≡ bits * 8 + n + 8 * (32 - bits)
    sum = omega (arith, b.few)

    top : Greatest (λ (k : ℕ). Reached k (suc c)) (bits * 8 + n)
    top =
        largest_doubled (bits * 8 + n) (32 - bits)
        (subst (λ (x : ℕ). Greatest (λ (k : ℕ). Reached k (suc c * 2 ^ (32 - bits))) x) sum (eighths_all (bits_raised b).1 g))

-- ---- the first count that reaches a power

-- the first count that reaches v
abbrev pub First : ℕ → ℕ → Type 0
First v count = Least (Reached v) count

-- a count reaches v, and the one before it does not
abbrev pub is_first : ℕ → ℕ → Bool
is_first v count = leb (2 ^ v) (twice_to_eighth count) && ltb (twice_to_eighth (count - 1)) (2 ^ v)

-- so a first count is shown by computing
pub first_computed : (v : ℕ) {count : ℕ} → is_first v count ≡ true → First v count
first_computed v {count} t = record { has = record { reaches = leb-true (2 ^ v) (twice_to_eighth count) both.0 }; least = least }
  where
    both : (leb (2 ^ v) (twice_to_eighth count) ≡ true) × (ltb (twice_to_eighth (count - 1)) (2 ^ v) ≡ true)
    both = both_hold {a = leb (2 ^ v) (twice_to_eighth count)} t

    least : (other : ℕ) → Reached v other → count ≤ other
    least other r =
        elim (dec_lt other count) [
          | yes h ↦
              let l : other ≤ count - 1 = omega arith in
              absurd (lt_irrefl (2 ^ v) (lt_of_le_of_lt (le_trans r.reaches (eighth_grows l)) (ltb-true (twice_to_eighth (count - 1)) (2 ^ v) both.1)))
          | no h ↦ omega arith
        ]

-- it is reached by the counts from it on
pub first_reached : {v first count : ℕ} → First v first → first ≤ count → leb (2 ^ v) (twice_to_eighth count) ≡ true
first_reached {v} {count = count} f h = le-leb (2 ^ v) (twice_to_eighth count) (reached_grows (le_refl v) h f.has).reaches

-- and by none before
pub first_missed : {v first count : ℕ} → First v first → count < first → leb (2 ^ v) (twice_to_eighth count) ≡ false
first_missed {v} {first} {count} f h = lt-leb (2 ^ v) (twice_to_eighth count) below
  where
    below : twice_to_eighth count < 2 ^ v
    below =
        elim (dec_lt (twice_to_eighth count) (2 ^ v)) [
          | yes l ↦ l
          | no l ↦ absurd (lt_irrefl count (lt_of_lt_of_le h (f.least count (record { reaches = omega arith }))))
        ]

-- it is some count
pub first_some : {v first : ℕ} → First v first → 0 < first
first_some {v} {first} f =
    elim (dec_lt 0 first) [
      | yes l ↦ l
      | no l ↦ absurd (reached_nothing (reached_grows (le_refl v) (omega arith) f.has))
    ]

-- the first count that reaches 8s more, halved s times and rounded up, is the first that reaches v
pub first_halved : (v s : ℕ) {root : ℕ} → First (v + 8 * s) root → First v ((root - 1) / 2 ^ s + 1)
first_halved v s {root} f = record { has = doubled_reached s (reached_grows (le_refl (v + 8 * s)) up f.has); least = least }
  where
    some : 0 < root
    some = first_some f

    up : root ≤ ((root - 1) / 2 ^ s + 1) * 2 ^ s
    up = omega (arith, lt-div-mul-add {a = root - 1} (pow_pos s), add-mul ((root - 1) / 2 ^ s) 1 (2 ^ s), one-mul (2 ^ s))

    least : (other : ℕ) → Reached v other → (root - 1) / 2 ^ s + 1 ≤ other
    least other r =
        let l : root - 1 < other * 2 ^ s = omega (arith, some, f.least (other * 2 ^ s) (reached_doubled s r)) in
        omega (arith, (div-lt_iff_lt-mul {x = root - 1} {y = other} (pow_pos s)).1 l)

module _ {code low next : ℕ} (nonzero : 0 < code) (byte : code < 256) (first : First code low) (after : First (code + 1) next) where
  -- a count between the first of a byte and the first of the next gives the byte
  first_gives : (c : ℕ) → low ≤ c → c < next → Gives code c
  first_gives zero a b = absurd (reached_nothing (reached_grows (le_refl code) a first.has))
  first_gives (suc n) a b = record { within = within; log = record { has = (reached_grows (le_refl code) a first.has).reaches; most = most } }
    where
      within : suc n ≤ 2147483647
      within = omega (arith, after.least 2147483648 (reached_grows (omega arith) (le_refl 2147483648) reached_limit))

      most : (k : ℕ) → 2 ^ k ≤ twice_to_eighth (suc n) → k ≤ code
      most k r =
          elim (dec_lt code k) [
            | yes l ↦ omega (arith, after.least (suc n) (reached_grows (omega arith) (le_refl (suc n)) (record { reaches = r })))
            | no l ↦ omega arith
          ]

  -- and no other does
  gives_first : (c : ℕ) → Gives code c → (low ≤ c) × (c < next)
  gives_first zero g = omega (arith, g.log)
  gives_first (suc n) g = (
    first.least (suc n) (record { reaches = g.log.has }),
    elim (dec_lt (suc n) next) [
      | yes l ↦ l
      | no l ↦ omega (arith, g.log.most (code + 1) (reached_grows (le_refl (code + 1)) (omega arith) after.has).reaches)
    ],
  )

  -- so the smallest is the first of the byte, and the largest the one before the first of the next
  pub ends_given : low < next → Log8Given code (between low (next - 1))
  ends_given l = (
    record { has = first_gives low (le_refl low) l; least = λ c g. (gives_first c g).0 },
    record { has = first_gives (next - 1) (omega arith) (omega arith); most = λ c g. omega (arith, (gives_first c g).1) },
  )

  -- where there is none between them, no count gives the byte
  pub none_given : next ≤ low → Log8Given code no_count
  none_given l c g = omega (arith, (gives_first c g).0, (gives_first c g).1)
