-- The logarithm byte: one byte for a count, in the order of the counts; and a byte's counts, which are those that give it.
-- Assumes nothing.
use Rattle.std.specs.Prelude.{◌≡◌, refl, ℕ, zero, suc, ◌+◌, ◌-◌, ◌*◌, ◌^◌, ◌≤◌, ◌<◌, leb}
use Rattle.std.proofs.Common.{sym, ap, ap₂, ◌∙◌, subst, zero-le, suc-le-suc, le_refl, le_of_eq, le_of_lt, zero-lt-suc, le_trans, le_antisymm}
use Rattle.std.proofs.Common.{le_of_suc-le-suc, lt_of_lt_of_le, lt_of_le_of_lt, lt_irrefl, mul_assoc, mul_comm, zero-mul, suc-mul, mul_left_comm}
use Rattle.std.proofs.Common.{mul-le-mul_left, mul-le-mul_right, le_of_mul-le-mul_right, pow-suc, arith, lit<, lit≤, pow_pos, pow-add, pow_mono, leb-true}
use Rattle.std.proofs.Common.{leb-false, le-leb}
use Rattle.std.proofs.Math.Nat.{one-le-pow, pow-zero, pow-le-pow_left}
use Rattle.std.proofs.Math.Decide.{dec_lt}
use Rattle.ground.specs.Choice.{pick_elim}
use Rattle.ground.specs.Greatest.{greatest_one, greatest_is, least_one}
use Rattle.ground.specs.Paper.{Paper, accepted, refusal, refused}
use Rattle.format.specs.Codes.{takes_one, takes_grows, takes_below}
use Rattle.format.specs.Meaning.{Largest, Takes}
use Rattle.logarithm.specs.Meaning.{twice_to_eighth, Log8, Gives, Log8Takes, Giving, between, no_count, Log8Given, log8_of, log8_means}

-- ---- powers

-- a product's power is the product of the powers
product_power : (a b n : ℕ) → (a * b) ^ n ≡ a ^ n * b ^ n
product_power a b zero = pow-zero (a * b) ∙ sym (ap₂ (λ (x y : ℕ). x * y) (pow-zero a) (pow-zero b))
product_power a b (suc n) =
    pow-suc (a * b) n ∙ ap (λ (x : ℕ). x * (a * b)) (product_power a b n) ∙ mul_assoc (a ^ n) (b ^ n) (a * b)
    ∙ ap (λ (x : ℕ). a ^ n * x) (mul_left_comm (b ^ n) a b) ∙ sym (mul_assoc (a ^ n) a (b ^ n * b))
    ∙ ap₂ (λ (x y : ℕ). x * y) (sym (pow-suc a n)) (sym (pow-suc b n))

-- a power of a power of two
power_power : (s n : ℕ) → (2 ^ s) ^ n ≡ 2 ^ (n * s)
power_power s zero = pow-zero (2 ^ s) ∙ ap (λ (x : ℕ). 2 ^ x) (sym (zero-mul s))
power_power s (suc n) =
    pow-suc (2 ^ s) n ∙ ap (λ (x : ℕ). x * 2 ^ s) (power_power s n) ∙ sym (pow-add 2 (n * s) s) ∙ ap (λ (x : ℕ). 2 ^ x) (sym (suc-mul n s))

-- a greater count has no smaller eighth power
pub eighth_grows : {a b : ℕ} → a ≤ b → twice_to_eighth a ≤ twice_to_eighth b
unfolding twice_to_eighth
eighth_grows h = pow-le-pow_left (mul-le-mul_left 2 h) 8

-- a count doubled s times has 2^(8s) times the eighth power
eighth_doubled : (c s : ℕ) → twice_to_eighth (c * 2 ^ s) ≡ twice_to_eighth c * 2 ^ (8 * s)
unfolding twice_to_eighth
eighth_doubled c s =
    ap (λ (x : ℕ). x ^ 8) (sym (mul_assoc 2 c (2 ^ s))) ∙ product_power (2 * c) (2 ^ s) 8 ∙ ap (λ (x : ℕ). (2 * c) ^ 8 * x) (power_power s 8)

-- ---- what a count reaches

-- 2^v is not above a count's eighth power
pub record Reached (v count : ℕ) : Type 0 where
  pub reaches : 2 ^ v ≤ twice_to_eighth count

-- a greater count reaches as much, and less is reached as well
pub reached_grows : {v w m n : ℕ} → v ≤ w → m ≤ n → Reached w m → Reached v n
reached_grows a b r = record { reaches = le_trans (pow_mono a) (le_trans r.reaches (eighth_grows b)) }

-- it reaches less than what it does not reach
pub unreached : {v k count : ℕ} → twice_to_eighth count < 2 ^ v → Reached k count → k < v
unreached {v} {k} h r =
    elim (dec_lt k v) [
      | yes l ↦ l
      | no l ↦ let m : 2 ^ v ≤ 2 ^ k = pow_mono (omega arith) in absurd (lt_irrefl (2 ^ v) (lt_of_le_of_lt (le_trans m r.reaches) h))
    ]

-- a count doubled s times reaches 8s more
pub reached_doubled : {v c : ℕ} (s : ℕ) → Reached v c → Reached (v + 8 * s) (c * 2 ^ s)
reached_doubled {v} {c} s r = record { reaches = rw (pow-add 2 v (8 * s), eighth_doubled c s) (mul-le-mul_right (2 ^ (8 * s)) r.reaches) }

-- and no more than that
pub doubled_reached : {v c : ℕ} (s : ℕ) → Reached (v + 8 * s) (c * 2 ^ s) → Reached v c
doubled_reached {v} {c} s r =
    let h : 2 ^ v * 2 ^ (8 * s) ≤ twice_to_eighth c * 2 ^ (8 * s) = rw (pow-add 2 v (8 * s), eighth_doubled c s) at r.reaches in
    record { reaches = le_of_mul-le-mul_right h (pow_pos (8 * s)) }

-- count 0 reaches nothing
pub reached_nothing : {v : ℕ} → Reached v 0 → ⊥
unfolding twice_to_eighth
reached_nothing {v} r = lt_irrefl 0 (lt_of_lt_of_le (pow_pos v) r.reaches)

-- a count that is not 0 reaches 8
reached_one : (n : ℕ) → Reached 8 (suc n)
unfolding twice_to_eighth
reached_one n = let one : Reached 8 1 = record { reaches = le_refl 256 } in reached_grows (le_refl 8) (suc-le-suc zero-le) one

-- ---- the request's sentence

-- "2^(v-8) not above c to the eighth power", from v = 8 on
without_fractions : (k c : ℕ) → (2 ^ k ≤ c ^ 8 → 2 ^ (k + 8) ≤ twice_to_eighth c) × (2 ^ (k + 8) ≤ twice_to_eighth c → 2 ^ k ≤ c ^ 8)
unfolding twice_to_eighth
without_fractions k c =
    let e : (2 * c) ^ 8 ≡ c ^ 8 * 2 ^ 8 = product_power 2 c 8 ∙ mul_comm (2 ^ 8) (c ^ 8) in
    let p : 2 ^ (k + 8) ≡ 2 ^ k * 2 ^ 8 = pow-add 2 k 8 in
    (λ h. rw (e, p) (mul-le-mul_right (2 ^ 8) h), λ h. le_of_mul-le-mul_right {k = 2 ^ 8} (rw (e, p) at h) (pow_pos 8))

-- and below it, where 2^(v-8) is a fraction (and `v - 8` is 0 here): every count from 1 on is above it, and reaches 8
as_said : (n k : ℕ) → (2 ^ (k - 8) ≤ suc n ^ 8 → 2 ^ k ≤ twice_to_eighth (suc n)) × (2 ^ k ≤ twice_to_eighth (suc n) → 2 ^ (k - 8) ≤ suc n ^ 8)
as_said n k =
    elim (dec_lt k 8) [
      | yes l ↦
          let e : k - 8 ≡ 0 = omega arith in
          (λ h. (reached_grows (le_of_lt l) (le_refl (suc n)) (reached_one n)).reaches, λ h. rw e (one-le-pow 8 (suc n) (zero-lt-suc n)))
      | no l ↦
          let e : k - 8 + 8 ≡ k = omega arith in
          subst (λ (x : ℕ). (2 ^ (k - 8) ≤ suc n ^ 8 → 2 ^ x ≤ twice_to_eighth (suc n)) × (2 ^ x ≤ twice_to_eighth (suc n) → 2 ^ (k - 8) ≤ suc n ^ 8)) e
          (without_fractions (k - 8) (suc n))
    ]

-- "the largest v with 2^(v-8) not above c to the eighth power", to the letter
pub log8_to_the_letter : (n v : ℕ) → Log8 (suc n) v → Largest (λ (k : ℕ). 2 ^ (k - 8)) (suc n ^ 8) v
log8_to_the_letter n v g = record { has = (as_said n v).1 g.has; most = λ k r. g.most k ((as_said n k).0 r) }

-- and the other way
pub log8_from_the_letter : (n v : ℕ) → Largest (λ (k : ℕ). 2 ^ (k - 8)) (suc n ^ 8) v → Log8 (suc n) v
log8_from_the_letter n v g = record { has = (as_said n v).0 g.has; most = λ k r. g.most k ((as_said n k).1 r) }

-- ---- one byte, in the order of the counts

-- what a count is held against 2^v by: (2c)^8, and 1 for count 0, so that "Count 0 is 0" is a largest v too
abbrev pub weight : ℕ → ℕ
weight zero = 1
weight (suc n) = twice_to_eighth (suc n)

-- a greater count has no smaller weight
weight_grows : (m n : ℕ) → m ≤ n → weight m ≤ weight n
weight_grows zero zero h = le_refl 1
weight_grows zero (suc n) h = le_trans (lit≤ tt) (reached_one n).reaches
weight_grows (suc m) zero h = omega arith
weight_grows (suc m) (suc n) h = eighth_grows h

-- the counts in range have weights below 2^256
weight_within : (c : ℕ) → c ≤ 2147483647 → weight c < 2 ^ 256
unfolding twice_to_eighth
weight_within zero h = lit< tt
weight_within (suc n) h = lt_of_le_of_lt (eighth_grows h) (lit< tt)

-- the first count past it reaches 2^256
pub reached_limit : Reached 256 2147483648
unfolding twice_to_eighth
reached_limit = record { reaches = le_refl (2 ^ 256) }

-- and so do all others
weight_beyond : (c : ℕ) → 2147483647 < c → 2 ^ 256 ≤ weight c
weight_beyond zero h = absurd (lt_irrefl 0 (lt_of_le_of_lt zero-le h))
weight_beyond (suc n) h = (reached_grows (le_refl 256) h reached_limit).reaches

-- the sentence by the weight
log_largest : (c v : ℕ) → Log8 c v → Largest (λ (k : ℕ). 2 ^ k) (weight c) v
log_largest zero v h = record { has = le_of_eq (ap (λ (k : ℕ). 2 ^ k) h); most = most }
  where
    most : (k : ℕ) → 2 ^ k ≤ 1 → k ≤ v
    most k r =
        elim (dec_lt 0 k) [
          | yes l ↦ let two : 2 ^ 1 ≤ 2 ^ k = pow_mono l in omega arith
          | no l ↦ omega arith
        ]
log_largest (suc n) v g = g

-- the byte is the format whose values are the powers of two, of the count's weight
log8_takes : (c : ℕ) (p : Paper ℕ) → Log8Takes c p → Takes (λ (k : ℕ). 2 ^ k) (2 ^ 256) (weight c) p
log8_takes c (accepted v) g = (weight_within c g.within, log_largest c v g.log)
log8_takes c (refusal n carried) g = (weight_beyond c g.0, g.1)

-- the sentence has one answer to a count
pub log8_one : (c : ℕ) (p q : Paper ℕ) → Log8Takes c p → Log8Takes c q → p ≡ q
log8_one c p q s t = takes_one (λ (k : ℕ). 2 ^ k) (2 ^ 256) (weight c) p q (log8_takes c p s) (log8_takes c q t)

-- "Order of bytes must follow order of counts": a greater count never gives a smaller byte
pub bytes_follow_counts : {m n a b : ℕ} → m ≤ n → Gives a m → Gives b n → a ≤ b
bytes_follow_counts {m} {n} {a} {b} h s t =
    takes_grows (λ (k : ℕ). 2 ^ k) (2 ^ 256) (weight_grows m n h) (log8_takes m (accepted a) s) (log8_takes n (accepted b) t)

-- what a count gives is a byte
pub log8_fits : {c v : ℕ} → Gives v c → v < 256
log8_fits {c} {v} g = takes_below (λ (k : ℕ). 2 ^ k) (λ a b h. pow_mono h) 256 (log8_takes c (accepted v) g)

-- the computed byte is the one of the sentence
log8_of_lem : (c : ℕ) → c ≤ 2147483647 → Log8 c (log8_of c)
log8_of_lem zero h = refl
log8_of_lem (suc n) h =
    let g = greatest_is (λ (k : ℕ). leb (2 ^ k) (twice_to_eighth (suc n))) 255
    (le-leb 1 (twice_to_eighth (suc n)) (le_trans (lit≤ tt) (reached_one n).reaches)) in
    record {
      has = leb-true (2 ^ log8_of (suc n)) (twice_to_eighth (suc n)) g.has.1;
      most = λ k r. g.most k (few k r, le-leb (2 ^ k) (twice_to_eighth (suc n)) r);
    }
  where
    few : (k : ℕ) → 2 ^ k ≤ twice_to_eighth (suc n) → k ≤ 255
    few k r = le_of_suc-le-suc (unreached {v = 256} {count = suc n} (weight_within (suc n) h) (record { reaches = r }))

-- the computed answer is the sentence's
pub log8_computed : (c : ℕ) → Log8Takes c (log8_means c)
log8_computed c =
    pick_elim (λ (p : Paper ℕ). Log8Takes c p) (leb c 2147483647) (accepted (log8_of c)) (refused 12)
    (λ e. record { within = leb-true c 2147483647 e; log = log8_of_lem c (leb-true c 2147483647 e) })
    (λ e. (leb-false c 2147483647 e, refl))

-- the sentence's answer is the computed one
pub log8_means_lem : (c : ℕ) (p : Paper ℕ) → Log8Takes c p → p ≡ log8_means c
log8_means_lem c p t = log8_one c p (log8_means c) t (log8_computed c)

-- ---- the counts of a byte

-- "Count 0 is 0", and no other count is
pub nought_given : Log8Given 0 (between 0 0)
nought_given = (record { has = nought; least = λ c g. omega arith }, record { has = nought; most = most })
  where
    nought : Gives 0 0
    nought = record { within = omega arith; log = refl }

    most : (c : ℕ) → Gives 0 c → c ≤ 0
    most zero g = le_refl 0
    most (suc n) g = omega (arith, g.log.most 8 (reached_one n).reaches)

-- a byte has one answer
pub given_one : (code : ℕ) (a b : Giving) → Log8Given code a → Log8Given code b → a ≡ b
given_one code (between low high) (between bottom top) p q = ap₂ between (least_one p.0 q.0) (greatest_one p.1 q.1)
given_one code (between low high) no_count p q = absurd (q low p.0.has)
given_one code no_count (between bottom top) p q = absurd (p bottom q.0.has)
given_one code no_count no_count p q = refl

-- a count lies between the counts that are said of a byte
abbrev pub Encloses : Giving → ℕ → Type 0
Encloses (between low high) c = (low ≤ c) × (c ≤ high)
Encloses no_count c = ⊥

-- "the smallest and largest counts that give it": a count gives a byte if and only if the byte's two counts enclose it
pub two_sides : (code c : ℕ) (a : Giving) → Log8Given code a → (Gives code c → Encloses a c) × (Encloses a c → Gives code c)
two_sides code c (between low high) p = (λ g. (p.0.least c g, p.1.most c g), gives)
  where
    gives : (low ≤ c) × (c ≤ high) → Gives code c
    gives e =
        let within : c ≤ 2147483647 = le_trans e.1 p.1.has.within in
        let g : Gives (log8_of c) c = record { within = within; log = log8_of_lem c within } in
        let same : log8_of c ≡ code = le_antisymm (bytes_follow_counts e.1 g p.1.has) (bytes_follow_counts e.0 p.0.has g) in
        subst (λ (v : ℕ). Gives v c) same g
two_sides code c no_count p = (λ g. absurd (p c g), λ e. absurd e)
