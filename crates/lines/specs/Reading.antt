-- A line as its bytes come: what is known of it after each byte, and that this is enough to answer it.
-- Assumes nothing.
use Rattle.std.specs.Prelude.{◌≡◌, refl, Bool, true, false, not, ◌&&◌, List, [], ◌∷◌, ◌++◌, ℕ, suc, ◌+◌, ◌-◌, ◌*◌, ◌^◌, ◌<◌, ◌≤◌, leb, ltb}
use Rattle.std.specs.Prelude.{eqb, ℤ, pos, neg_ℤ, length}
use Rattle.std.proofs.Common.{sym, ap, ap₂, ◌∙◌, subst, zero-le, pow-suc, zero-lt-suc, add-zero, zero-add, add-suc, suc-add, arith}
use Rattle.std.proofs.Common.{leb-true, ltb-true, le-leb, lt-ltb, length-append}
use Rattle.std.proofs.Math.Nat.{pow-le-pow_right}
use Rattle.std.proofs.Math.Dec.{eqb-suc-zero}
use Rattle.ground.specs.Choice.{pick, pick_elim}
use Rattle.ground.specs.Questions.{both_hold, both_ways, answered_no}
use Rattle.code.specs.Meaning.{largest}
use Rattle.lines.specs.declared.Line.{Line}
use Rattle.lines.specs.Meaning.{digit, all_digits, decimal, minus, after_minus, numeral, number, good, refused_text, number_text, line_means}

-- a line that has no bytes yet
abbrev pub fresh : Line
fresh = record { begun = false; minus = false; digits = 0; value = 0; other = false }

-- a byte that is one more digit: at most eight, and the line is no other line yet
abbrev pub one_more : Line → ℕ → Bool
one_more s b = not s.other && (digit b && (ltb s.digits 8 && ltb s.value 10000000))

-- the line with one digit more
abbrev pub with_digit : Line → ℕ → Line
with_digit s b = record { begun = true; minus = s.minus; digits = s.digits + 1; value = s.value * 10 + (b - 48); other = false }

-- a byte after a minus, or with none before it
abbrev pub digit_step : Line → ℕ → Line
digit_step s b =
    pick (one_more s b) (with_digit s b)
    (record { begun = true; minus = s.minus; digits = s.digits; value = s.value; other = true })

-- one byte more of a line
unfoldable pub step : Line → ℕ → Line
step s b =
    pick (not s.begun && eqb b 45)
    (record { begun = true; minus = true; digits = s.digits; value = s.value; other = s.other })
    (digit_step s b)

-- the number that is known of a line
abbrev pub known : Line → ℤ
known s = pick s.minus (neg_ℤ (pos s.value)) (pos s.value)

-- a line that is known to be good
abbrev pub sound : Line → Bool
sound s = not s.other && (leb 1 s.digits && leb s.value largest)

-- the answer to what is known of a line
unfoldable pub answer_of : Line → List ℕ
answer_of s = pick (sound s) (number_text (known s)) refused_text

-- what is known of digits is so
pub record Counts (s : Line) (q : List ℕ) : Type 0 where
  pub fine : s.other ≡ false → (all_digits q ≡ true) × (length q ≤ 8)
  pub wrong : s.other ≡ true → (all_digits q && leb (length q) 8) ≡ false
  pub digits : s.other ≡ false → s.digits ≡ length q
  pub value : s.other ≡ false → s.value ≡ decimal 0 q

-- what is known is so of the bytes that came
pub record Holds (s : Line) (p : List ℕ) : Type 0 where
  pub begun : s.begun ≡ not (eqb (length p) 0)
  pub minus : s.minus ≡ minus p
  pub counts : Counts s (after_minus p)

-- ---- small laws of tests

-- a test with one that holds is the test
and_true : (a : Bool) → a && true ≡ a
and_true true = refl
and_true false = refl

-- three tests together, however they are taken
and_assoc : (a b c : Bool) → (a && b && c) ≡ (a && (b && c))
and_assoc true b c = refl
and_assoc false b c = refl

-- a test that cannot hold fails
never : (t : Bool) → (t ≡ true → ⊥) → t ≡ false
never true h = absurd (h refl)
never false h = refl

-- both tests of two that hold together, of tests that are written out
both : (a b : Bool) → (a && b) ≡ true → (a ≡ true) × (b ≡ true)
both a b e = both_hold {a = a} {b = b} e

-- all tests of a digit that is taken
pub four_hold : (o d x y : Bool) → (not o && (d && (x && y))) ≡ true → (o ≡ false) × (d ≡ true) × (x ≡ true) × (y ≡ true)
four_hold o d x y e =
    let p = both (not o) (d && (x && y)) e in
    let q = both d (x && y) p.1 in
    let r = both x y q.1 in
    (answered_no refl p.0, q.0, r.0, r.1)

-- and they hold together
four_so : {o d x y : Bool} → o ≡ false → d ≡ true → x ≡ true → y ≡ true → (not o && (d && (x && y))) ≡ true
four_so p q r s = rw (p, q, r, s)

-- ---- digits after digits

-- one byte more: all are digits where it is one
all_digits_snoc : (q : List ℕ) (b : ℕ) → all_digits (q ++ (b ∷ [])) ≡ (all_digits q && digit b)
all_digits_snoc [] b = and_true (digit b)
all_digits_snoc (a ∷ q) b = ap (λ (t : Bool). digit a && t) (all_digits_snoc q b) ∙ sym (and_assoc (digit a) (all_digits q) (digit b))

-- what they mean with it
decimal_snoc : (n : ℕ) (q : List ℕ) (b : ℕ) → decimal n (q ++ (b ∷ [])) ≡ decimal n q * 10 + (b - 48)
decimal_snoc n [] b = refl
decimal_snoc n (a ∷ q) b = decimal_snoc (n * 10 + (a - 48)) q b

-- and how many they are
length_snoc : (q : List ℕ) (b : ℕ) → length (q ++ (b ∷ [])) ≡ length q + 1
length_snoc q b = length-append q (b ∷ [])

-- so many digits mean a number below that power of ten
decimal_lt : (n k : ℕ) (q : List ℕ) → all_digits q ≡ true → n < 10 ^ k → decimal n q < 10 ^ (k + length q)
decimal_lt n k [] e h = subst (λ (m : ℕ). n < 10 ^ m) (sym (add-zero k)) h
decimal_lt n k (a ∷ q) e h =
    let parts = both (digit a) (all_digits q) e in
    let upper : a ≤ 57 = leb-true a 57 (both (leb 48 a) (leb a 57) parts.0).1 in
    let power : 10 ^ suc k ≡ 10 ^ k * 10 = pow-suc 10 k in
    let more : n * 10 + (a - 48) < 10 ^ suc k = omega arith in
    subst (λ (m : ℕ). decimal (n * 10 + (a - 48)) q < 10 ^ m) (suc-add k (length q) ∙ sym (add-suc k (length q)))
    (decimal_lt (n * 10 + (a - 48)) (suc k) q parts.1 more)

-- fewer than eight digits mean a number under ten million
seven : (q : List ℕ) → all_digits q ≡ true → length q < 8 → decimal 0 q < 10000000
seven q e h =
    let few : length q ≤ 7 = omega arith in
    let top : 10 ^ length q ≤ 10 ^ 7 = pow-le-pow_right (zero-lt-suc 9) few in
    let below : decimal 0 q < 10 ^ length q = subst (λ (m : ℕ). decimal 0 q < 10 ^ m) (zero-add (length q)) (decimal_lt 0 0 q e (zero-lt-suc 0)) in
    omega arith

-- ---- a digit more

module _ (s : Line) (q : List ℕ) (b : ℕ) (c : Counts s q) where
  -- a digit that is taken
  taken : one_more s b ≡ true
      → Counts (with_digit s b) (q ++ (b ∷ []))
  taken e =
      let all = four_hold s.other (digit b) (ltb s.digits 8) (ltb s.value 10000000) e in
      let fine = all.0 in
      let room : s.digits < 8 = ltb-true s.digits 8 all.2 in
      record {
        fine = λ o. (all_digits_snoc q b ∙ ap₂ ◌&&◌ (c.fine fine).0 all.1, omega (arith, length_snoc q b, c.digits fine));
        wrong = λ o. absurd (both_ways o refl);
        digits = λ o. omega (arith, length_snoc q b, c.digits fine);
        value = λ o. ap (λ (n : ℕ). n * 10 + (b - 48)) (c.value fine) ∙ sym (decimal_snoc 0 q b);
      }

  -- where the digits would still be fine, the byte would have been taken
  no_more : one_more s b ≡ false → (t : Bool) → s.other ≡ t → (all_digits (q ++ (b ∷ [])) && leb (length (q ++ (b ∷ []))) 8) ≡ true → ⊥
  no_more e t o f =
      let parts = both (all_digits (q ++ (b ∷ []))) (leb (length (q ++ (b ∷ []))) 8) f in
      let digs = both (all_digits q) (digit b) (sym (all_digits_snoc q b) ∙ parts.0) in
      let few : length q < 8 = omega (arith, length_snoc q b, leb-true (length (q ++ (b ∷ []))) 8 parts.1) in
      go t o digs few
    where
      go : (t : Bool) → s.other ≡ t → (all_digits q ≡ true) × (digit b ≡ true) → length q < 8 → ⊥
      go true o digs few = both_ways (ap₂ ◌&&◌ digs.0 (le-leb (length q) 8 (omega arith))) (c.wrong o)
      go false o digs few =
          both_ways (four_so o digs.1 (lt-ltb s.digits 8 (omega (arith, c.digits o)))
          (lt-ltb s.value 10000000 (omega (arith, c.value o, seven q digs.0 few))))
          e

  -- a byte that makes it any other line
  spoilt : one_more s b ≡ false
      → Counts (record { begun = true; minus = s.minus; digits = s.digits; value = s.value; other = true }) (q ++ (b ∷ []))
  spoilt e =
      record {
        fine = λ o. absurd (both_ways refl o);
        wrong = λ o. never (all_digits (q ++ (b ∷ [])) && leb (length (q ++ (b ∷ []))) 8) (no_more e s.other refl);
        digits = λ o. absurd (both_ways refl o);
        value = λ o. absurd (both_ways refl o);
      }

-- one byte more of the digits
digit_counts : (s : Line) (q : List ℕ) (b : ℕ) → Counts s q → Counts (digit_step s b) (q ++ (b ∷ []))
digit_counts s q b c = pick_elim (λ (t : Line). Counts t (q ++ (b ∷ []))) (one_more s b) _ _ (taken s q b c) (spoilt s q b c)

-- a line has bytes after any byte
digit_begun : (s : Line) (b : ℕ) → (digit_step s b).begun ≡ true
digit_begun s b = pick_elim (λ (t : Line). t.begun ≡ true) (one_more s b) _ _ (λ e. refl) (λ e. refl)

-- and its minus stays
digit_minus : (s : Line) (b : ℕ) → (digit_step s b).minus ≡ s.minus
digit_minus s b = pick_elim (λ (t : Line). t.minus ≡ s.minus) (one_more s b) _ _ (λ e. refl) (λ e. refl)

-- a line with bytes is not empty
some : (p : List ℕ) (b : ℕ) → true ≡ not (eqb (length (p ++ (b ∷ []))) 0)
some [] b = refl
some (x ∷ xs) b = ap not (sym (eqb-suc-zero (length (xs ++ (b ∷ [])))))

-- a byte after the first does not change the minus
later_minus : (x : ℕ) (xs : List ℕ) (b : ℕ) → after_minus ((x ∷ xs) ++ (b ∷ [])) ≡ after_minus (x ∷ xs) ++ (b ∷ [])
later_minus x xs b = go (eqb x 45)
  where
    go : (t : Bool) → pick t (xs ++ (b ∷ [])) (x ∷ (xs ++ (b ∷ []))) ≡ pick t xs (x ∷ xs) ++ (b ∷ [])
    go true = refl
    go false = refl

-- what is known of digits does not hang on the minus
recount : (s : Line) (q : List ℕ) (begun minus : Bool) → Counts s q
    → Counts (record { begun = begun; minus = minus; digits = s.digits; value = s.value; other = s.other }) q
recount s q begun minus c = record { fine = c.fine; wrong = c.wrong; digits = c.digits; value = c.value }

-- the first byte
first_holds : (s : Line) (b : ℕ) → Holds s [] → Holds (step s b) (b ∷ [])
unfolding step
first_holds s b h = go (eqb b 45) refl
  where
    go : (t : Bool) → eqb b 45 ≡ t → Holds (step s b) (b ∷ [])
    go true e = rw (h.begun, e) (record { begun = refl; minus = sym e; counts = rw e (recount s [] true true h.counts) })
    go false e =
        rw (h.begun, e)
        (record {
          begun = digit_begun s b;
          minus = digit_minus s b ∙ h.minus ∙ sym e;
          counts = rw e (digit_counts s [] b h.counts);
        })

-- what is known stays so, byte after byte
pub step_holds : (s : Line) (p : List ℕ) (b : ℕ) → Holds s p → Holds (step s b) (p ++ (b ∷ []))
unfolding step
step_holds s [] b h = first_holds s b h
step_holds s (x ∷ xs) b h =
    let going : s.begun ≡ true = h.begun ∙ ap not (eqb-suc-zero (length xs)) in
    rw going
    (record {
      begun = digit_begun s b ∙ some (x ∷ xs) b;
      minus = digit_minus s b ∙ h.minus;
      counts = subst (Counts (digit_step s b)) (sym (later_minus x xs b)) (digit_counts s (after_minus (x ∷ xs)) b h.counts);
    })

-- nothing is known of a line with no bytes
pub fresh_holds : Holds fresh []
fresh_holds =
    record {
      begun = refl;
      minus = refl;
      counts =
          record {
            fine = λ o. (refl, zero-le);
            wrong = λ o. absurd (both_ways o refl);
            digits = λ o. refl;
            value = λ o. refl;
          };
    }

-- ---- the answer

-- a line that is any other line
other_refused : (q : List ℕ) (t : Bool) → (all_digits q && leb (length q) 8) ≡ false → (numeral q && t) ≡ false
other_refused q t e = never (numeral q && t) (λ f.
    let n = both (leb 1 (length q)) (leb (length q) 8 && all_digits q) (both (numeral q) t f).0 in
    let m = both (leb (length q) 8) (all_digits q) n.1 in
    both_ways (ap₂ ◌&&◌ m.1 m.0) e)

-- the tests of a line with digits alone
good_is : (t u v w : Bool) → u ≡ true → v ≡ true → (t && w) ≡ (t && (u && v) && w)
good_is t u v w p q = rw (p, q, and_true t)

-- what is known of a line is enough to answer it
pub answer_so : (s : Line) (p : List ℕ) → Holds s p → answer_of s ≡ line_means p
unfolding answer_of line_means
answer_so s p h = go s.other refl
  where
    go : (t : Bool) → s.other ≡ t → answer_of s ≡ line_means p
    go true o =
        let other_sound : sound s ≡ false = ap (λ (x : Bool). not x && (leb 1 s.digits && leb s.value largest)) o in
        ap (λ (x : Bool). pick x (number_text (known s)) refused_text) other_sound
        ∙ ap (λ (x : Bool). pick x (number_text (number p)) refused_text)
        (sym (other_refused (after_minus p) (leb (decimal 0 (after_minus p)) largest) (h.counts.wrong o)))
    go false o =
        let q = after_minus p in
        let fine = h.counts.fine o in
        let tests : sound s ≡ good p =
        ap (λ (x : Bool). not x && (leb 1 s.digits && leb s.value largest)) o
        ∙ ap₂ (λ (m n : ℕ). leb 1 m && leb n largest) (h.counts.digits o) (h.counts.value o)
        ∙ good_is (leb 1 (length q)) (leb (length q) 8) (all_digits q) (leb (decimal 0 q) largest) (le-leb (length q) 8 fine.1) fine.0 in
        let numbers : known s ≡ number p =
        ap₂ (λ (m : Bool) (n : ℕ). pick m (neg_ℤ (pos n)) (pos n)) h.minus (h.counts.value o) in
        ap₂ (λ (x : Bool) (v : ℤ). pick x (number_text v) refused_text) tests numbers
