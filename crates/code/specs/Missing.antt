-- Request 2026-02: the bits that are missing. The definition is the sentence (`missing`); here it is in full, over every list of bits, and beside it the
-- number as it is computed from what was read, shown to be the same.
-- Assumes nothing.
use Rattle.std.specs.Prelude.{◌≡◌, refl, Bool, false, ◌&&◌, ◌⊎◌, take, ltb, leb, eqb}
use Rattle.std.proofs.Common.{sym, ap₂, subst, ◌∙◌, inl, inr, take_all, pow_pos}
use Rattle.std.proofs.Math.Path.{ap}
use Rattle.std.proofs.Math.Bool.{true}
use mathlib.Core.List.{List, [], ◌∷◌, ◌++◌, append_assoc, append-nil}
use Prim.Native.Nat.{ℕ, zero, suc, ◌+◌, ◌*◌, ◌-◌, ◌^◌, ◌<◌, ◌≤◌}
use native.Mathlib.Omega.{arith}
use Rattle.std.proofs.Math.ListN.{length, length-append, length-replicate, drop, replicate, drop_of_length-le}
use borrow.Author.Tests.{lt-ltb, le-ltb, le-leb, ltb-true, ltb-false, leb-true, ne_eqb}
use Rattle.ground.specs.Choice.{pick, pick_elim}
use Rattle.ground.specs.Questions.{both_ways}
use Rattle.ground.specs.Greatest.{Least, least_one, least_is}
use Rattle.ground.specs.Paper.{Paper, accepted, refusal, refused, refused_with, onward}
use Rattle.code.specs.Meaning.{Parsed, found, ran_out, redundant_zero, run_too_long, greatest_place, longest_run, longest_code, width, led, from_bits, field}
use Rattle.code.specs.Meaning.{small_found, led_then, parity_then, after_run, after_sign, parse, is_code, completed, missing}
use Rattle.code.specs.Meaning.{bits_that_count, drop_known, answer_of, answer_to, past_end, shape_means}
use Rattle.code.specs.BitLists.{all_bits, all_bits-append, all_bits-drop}
use Rattle.code.specs.Positions.{all_bits-bits_that_count, not_past}
use Rattle.code.specs.Shapes.{Drop, none, three, drop_of, drop_small, width_is, width_four}

-- ---- the sentence

-- so many further bits with which what was read becomes an accepted code
pub record Completion (reads : List ℕ → Parsed) (read : List ℕ) (n : ℕ) : Type 0 where
  pub more : List ℕ
  pub many : length more ≡ n
  pub fine : all_bits more
  pub complete : is_code (reads (read ++ more)) ≡ true

-- one bit, then the rest
bit_first : (read more : List ℕ) (b : ℕ) → (read ++ (b ∷ [])) ++ more ≡ read ++ (b ∷ more)
bit_first read more b = append_assoc read (b ∷ []) more

-- where the search says so, there are such bits
pub completed_some : (top d : ℕ) (read : List ℕ) (n : ℕ) → completed top d read n ≡ true → Completion (parse top d) read n
unfolding completed
completed_some top d read zero e =
    record { more = []; many = refl; fine = tt; complete = ap (λ (l : List ℕ). is_code (parse top d l)) (append-nil read) ∙ e }
completed_some top d read (suc n) e =
    pick_elim (λ (t : Bool). t ≡ true → Completion (parse top d) read (suc n)) (completed top d (read ++ (0 ∷ [])) n) true
    (completed top d (read ++ (1 ∷ [])) n)
    (λ z f. behind 0 (omega arith) (completed_some top d (read ++ (0 ∷ [])) n z))
    (λ z f. behind 1 (omega arith) (completed_some top d (read ++ (1 ∷ [])) n f))
    e
  where
    behind : (b : ℕ) → b < 2 → Completion (parse top d) (read ++ (b ∷ [])) n → Completion (parse top d) read (suc n)
    behind b h c =
        record {
          more = b ∷ c.more;
          many = ap suc c.many;
          fine = (h, c.fine);
          complete = ap (λ (l : List ℕ). is_code (parse top d l)) (sym (bit_first read c.more b)) ∙ c.complete;
        }

-- a second test that holds
either : (a : Bool) {b : Bool} → b ≡ true → pick a true b ≡ true
either true p = refl
either false p = p

-- where there are such bits, the search says so
pub some_completed : (top d : ℕ) (read more : List ℕ) → all_bits more → is_code (parse top d (read ++ more)) ≡ true → completed top d read (length more) ≡ true
unfolding completed
some_completed top d read [] ok e = ap (λ (l : List ℕ). is_code (parse top d l)) (sym (append-nil read)) ∙ e
some_completed top d read (zero ∷ more) ok e =
    rw (some_completed top d (read ++ (0 ∷ [])) more ok.1 (ap (λ (l : List ℕ). is_code (parse top d l)) (bit_first read more 0) ∙ e))
some_completed top d read (suc zero ∷ more) ok e =
    either (completed top d (read ++ (0 ∷ [])) (length more))
    (some_completed top d (read ++ (1 ∷ [])) more ok.1 (ap (λ (l : List ℕ). is_code (parse top d l)) (bit_first read more 1) ∙ e))
some_completed top d read (suc (suc b) ∷ more) ok e = absurd (omega arith)

-- ---- computed

-- the bits behind a run of ones and its zero: a field, and from two ones on a parity before it
abbrev pub behind_run : ℕ → ℕ → ℕ
behind_run d zero = 4 - d
behind_run d (suc zero) = 3 - d
behind_run d (suc (suc ones)) = suc (suc ones) + 2 - d

-- after the sign, so many ones having been seen: the zero and what is behind it; after the zero, what is left of that
unfoldable pub missing_after_sign : ℕ → ℕ → List ℕ → ℕ
missing_after_sign d ones [] = suc (behind_run d ones)
missing_after_sign d ones (zero ∷ l) = behind_run d ones - length l
missing_after_sign d ones (suc b ∷ l) = missing_after_sign d (suc ones) l

-- from the first bit on: `0` is a code; after `1` the sign, a zero and a field
unfoldable pub missing_computed : ℕ → List ℕ → ℕ
missing_computed d [] = 1
missing_computed d (zero ∷ l) = 0
missing_computed d (suc b ∷ []) = 6 - d
missing_computed d (suc b ∷ (s ∷ l)) = missing_after_sign d 0 l

-- a further one never makes the shortest code shorter
behind_grows : {d : ℕ} (ones : ℕ) → Drop d → behind_run d ones ≤ suc (behind_run d (suc ones))
behind_grows zero dr = omega arith
behind_grows (suc zero) dr = omega arith
behind_grows (suc (suc ones)) dr = omega arith

-- ---- no fewer bits complete what was read

module _ (top d s : ℕ) (dr : Drop d) where
  -- a field that is there has its bits
  field_some : (w : ℕ) (then : ℕ → List ℕ → Parsed) (l : List ℕ) → is_code (field w then l) ≡ true → w ≤ length l
  field_some w then l =
      pick_elim (λ (p : Parsed). is_code p ≡ true → w ≤ length l) (ltb (length l) w) ran_out _
      (λ t e. absurd (both_ways e refl))
      (λ t e. ltb-false (length l) w t)

  led_some : (k : ℕ) (l : List ℕ) → is_code (led_then top d s k l) ≡ true → width d k ≤ length l
  led_some k l =
      pick_elim (λ (p : Parsed). is_code p ≡ true → width d k ≤ length l) (leb k top) (field (width d k) (λ x. found (led s k x)) l) run_too_long
      (λ t e. field_some (width d k) (λ x. found (led s k x)) l e)
      (λ t e. absurd (both_ways e refl))

  -- after the run of ones and its zero
  run_some : (ones : ℕ) (l : List ℕ) → all_bits l → is_code (after_run top d s ones l) ≡ true → behind_run d ones ≤ length l
  run_some zero l ok e = field_some (4 - d) (small_found d s) l e
  run_some (suc zero) l ok e = omega (arith, led_some 4 l e, width_four d)
  run_some (suc (suc ones)) [] ok e = absurd (both_ways e refl)
  run_some (suc (suc ones)) (p ∷ l) ok e =
      let k : ℕ = 2 * suc (suc ones) + 1 + p in
      let bit : p < 2 = ok.0 in
      omega (arith, led_some k l e, width_is d k dr (omega arith), drop_small dr)

  -- after the sign, nothing further having been read
  sign_some : (ones : ℕ) (l : List ℕ) → all_bits l → is_code (after_sign top d s ones l) ≡ true → suc (behind_run d ones) ≤ length l
  unfolding after_sign
  sign_some ones [] ok e = absurd (both_ways e refl)
  sign_some ones (zero ∷ l) ok e = let h = run_some ones l ok.1 e in omega arith
  sign_some ones (suc b ∷ l) ok e =
      pick_elim (λ (p : Parsed). is_code p ≡ true → suc (behind_run d ones) ≤ suc (length l)) (ltb ones (longest_run top))
      (after_sign top d s (suc ones) l) run_too_long
      (λ t f. omega (arith, sign_some (suc ones) l ok.1 f, behind_grows ones dr))
      (λ t f. absurd (both_ways f refl))
      e

  -- after the sign, something having been read
  after_sign_least : (ones : ℕ) (read more : List ℕ) → all_bits read → all_bits more → is_code (after_sign top d s ones (read ++ more)) ≡ true
      → missing_after_sign d ones read ≤ length more
  unfolding after_sign missing_after_sign
  after_sign_least ones [] more ok fine e = sign_some ones more fine e
  after_sign_least ones (zero ∷ read) more ok fine e =
      omega (arith, run_some ones (read ++ more) (all_bits-append read more ok.1 fine) e, length-append read more)
  after_sign_least ones (suc b ∷ read) more ok fine e =
      pick_elim (λ (p : Parsed). is_code p ≡ true → missing_after_sign d (suc ones) read ≤ length more) (ltb ones (longest_run top))
      (after_sign top d s (suc ones) (read ++ more)) run_too_long
      (λ t f. after_sign_least (suc ones) read more ok.1 fine f)
      (λ t f. absurd (both_ways f refl))
      e

-- from the first bit on
computed_least : (top d : ℕ) → Drop d → (read more : List ℕ) → all_bits read → all_bits more → is_code (parse top d (read ++ more)) ≡ true
    → missing_computed d read ≤ length more
unfolding parse missing_computed
computed_least top d dr [] [] ok fine e = absurd (both_ways e refl)
computed_least top d dr [] (b ∷ more) ok fine e = omega arith
computed_least top d dr (zero ∷ read) more ok fine e = omega arith
computed_least top d dr (suc b ∷ []) [] ok fine e = absurd (both_ways e refl)
computed_least top d dr (suc b ∷ []) (s ∷ more) ok fine e = omega (arith, sign_some top d s dr 0 more fine.1 e)
computed_least top d dr (suc b ∷ (s ∷ read)) more ok fine e = after_sign_least top d s dr 0 read more ok.1.1 fine e

-- ---- so many do

-- whether bits ran out
abbrev is_out : Parsed → Bool
is_out (found shape rest) = false
is_out ran_out = true
is_out redundant_zero = false
is_out run_too_long = false

-- repeated bits are bits
all_bits-replicate : (n : ℕ) {b : ℕ} → b < 2 → all_bits (replicate n b)
all_bits-replicate zero h = tt
all_bits-replicate (suc n) h = (h, all_bits-replicate n h)

-- bits that end in a one mean no zero
ends_in_one : (l : List ℕ) (n : ℕ) → 1 ≤ from_bits (l ++ replicate (suc n) 1)
ends_in_one [] n = omega (arith, pow_pos (length (replicate {A = ℕ} n 1)))
ends_in_one (b ∷ l) n = let h = ends_in_one l n in omega arith

-- what fills a field up: ones where it may not be the redundant zero, else zeros, the parity among them
abbrev filler : ℕ → ℕ
filler zero = 1
filler (suc ones) = 0

filler_bit : (ones : ℕ) → filler ones < 2
filler_bit zero = omega arith
filler_bit (suc ones) = omega arith

-- so much of it fills up what was read
filled-length : (l : List ℕ) (n b : ℕ) → length l ≤ n → length (l ++ replicate (n - length l) b) ≡ n
filled-length l n b h = omega (arith, length-append l (replicate (n - length l) b), length-replicate {A = ℕ} (n - length l) b)

module _ (top d s : ℕ) (dr : Drop d) (places : 8 ≤ top) where
  -- a field under a leading one that has its bits is there
  led_there : (k : ℕ) (l : List ℕ) → k ≤ top → width d k ≤ length l → is_code (led_then top d s k l) ≡ true
  led_there k l h w = rw (le-leb k top h, le-ltb (length l) (width d k) w)

  -- so is a small one that is not zero
  small_there : (l : List ℕ) → 4 - d ≤ length l → 1 ≤ from_bits (take (4 - d) l) → is_code (after_run top d s 0 l) ≡ true
  small_there l w h =
      rw (le-ltb (length l) (4 - d) w)
      (some d (from_bits (take (4 - d) l)) (drop (4 - d) l) h)
    where
      some : (d x : ℕ) (rest : List ℕ) → 1 ≤ x → is_code (small_found d s x rest) ≡ true
      some zero x rest h = rw (ne_eqb x 0 (λ e. omega arith))
      some (suc d) x rest h = rw (ne_eqb (suc d) 0 (λ e. omega arith))

  -- bits ran out before the field's end
  field_short : (w : ℕ) (then : ℕ → List ℕ → Parsed) (l : List ℕ) → ((x : ℕ) (rest : List ℕ) → is_out (then x rest) ≡ false)
      → is_out (field w then l) ≡ true → length l < w
  field_short w then l never =
      pick_elim (λ (p : Parsed). is_out p ≡ true → length l < w) (ltb (length l) w) ran_out _
      (λ t e. ltb-true (length l) w t)
      (λ t e. absurd (both_ways e (never _ _)))

  led_short : (k : ℕ) (l : List ℕ) → is_out (led_then top d s k l) ≡ true → (k ≤ top) × (length l < width d k)
  led_short k l =
      pick_elim (λ (p : Parsed). is_out p ≡ true → (k ≤ top) × (length l < width d k)) (leb k top) (field (width d k) (λ x. found (led s k x)) l) run_too_long
      (λ t e. (leb-true k top t, field_short (width d k) (λ x. found (led s k x)) l (λ x rest. refl) e))
      (λ t e. absurd (both_ways e refl))

  -- after the run of ones and its zero, nothing further having been read
  run_fills : (ones : ℕ) → ones ≤ longest_run top → is_code (after_run top d s ones (replicate (behind_run d ones) (filler ones))) ≡ true
  run_fills zero few = go dr
    where
      go : {d : ℕ} → Drop d → is_code (after_run top d s 0 (replicate (4 - d) 1)) ≡ true
      go none = refl
      go three = refl
  run_fills (suc zero) few =
      led_there 4 (replicate {A = ℕ} (3 - d) 0) (omega arith) (omega (arith, width_four d, length-replicate {A = ℕ} (3 - d) 0))
  run_fills (suc (suc ones)) few =
      let j : ℕ = suc (suc ones) in
      let n : ℕ = j + 1 - d in
      let one : j + 2 - d ≡ suc n = omega (arith, drop_small dr) in
      let first : replicate {A = ℕ} (j + 2 - d) 0 ≡ 0 ∷ replicate n 0 = ap (λ (m : ℕ). replicate {A = ℕ} m 0) one in
      let k : ℕ = 2 * j + 1 + 0 in
      ap (λ (l : List ℕ). is_code (parity_then top d s j l)) first
      ∙ led_there k (replicate n 0) (omega arith) (omega (arith, width_is d k dr (omega arith), length-replicate {A = ℕ} n 0))

  -- after the run of ones and its zero, what is left being filled up
  run_completes : (ones : ℕ) (l : List ℕ) → ones ≤ longest_run top → all_bits l → is_out (after_run top d s ones l) ≡ true
      → is_code (after_run top d s ones (l ++ replicate (behind_run d ones - length l) (filler ones))) ≡ true
  run_completes zero l few ok e =
      let short : length l < 4 - d = field_short (4 - d) (small_found d s) l never e in
      let n : ℕ = 4 - d - length l - 1 in
      let same : 4 - d - length l ≡ suc n = omega arith in
      let all : length (l ++ replicate (suc n) 1) ≡ 4 - d
      = ap (λ (m : ℕ). length (l ++ replicate m 1)) (sym same) ∙ filled-length l (4 - d) 1 (omega arith) in
      ap (λ (m : ℕ). is_code (after_run top d s 0 (l ++ replicate m 1))) same
      ∙ small_there (l ++ replicate (suc n) 1) (omega arith)
      (subst (λ (k : List ℕ). 1 ≤ from_bits k) (sym (take_all (4 - d) (l ++ replicate (suc n) 1) (omega arith))) (ends_in_one l n))
    where
      never : (x : ℕ) (rest : List ℕ) → is_out (small_found d s x rest) ≡ false
      never x rest = pick_elim (λ (p : Parsed). is_out p ≡ false) (eqb d 0 && eqb x 0) redundant_zero _ (λ t. refl) (λ t. refl)
  run_completes (suc zero) l few ok e =
      let short = led_short 4 l e in
      let same : width d 4 ≡ 3 - d = width_four d in
      led_there 4 (l ++ replicate (3 - d - length l) 0) short.0 (omega (arith, short.1, filled-length l (3 - d) 0 (omega (arith, short.1))))
  run_completes (suc (suc ones)) [] few ok e =
      let j : ℕ = suc (suc ones) in
      let all : j + 2 - d - 0 ≡ j + 2 - d = omega arith in
      ap (λ (n : ℕ). is_code (after_run top d s j (replicate n 0))) all ∙ run_fills j few
  run_completes (suc (suc ones)) (p ∷ l) few ok e =
      let j : ℕ = suc (suc ones) in
      let k : ℕ = 2 * j + 1 + p in
      let bit : p < 2 = ok.0 in
      let short = led_short k l e in
      let wide : width d k ≡ j + 1 - d = omega (arith, width_is d k dr (omega arith)) in
      let left : j + 2 - d - suc (length l) ≡ j + 1 - d - length l = omega (arith, drop_small dr) in
      led_there k (l ++ replicate (j + 2 - d - suc (length l)) 0) short.0
      (omega (arith, short.1, ap (λ (m : ℕ). length (l ++ replicate m 0)) left, filled-length l (j + 1 - d) 0 (omega (arith, short.1))))

  -- after the sign
  sign_completes : (ones : ℕ) (read : List ℕ) → ones ≤ longest_run top → all_bits read → is_out (after_sign top d s ones read) ≡ true
      → Completion (after_sign top d s ones) read (missing_after_sign d ones read)
  unfolding after_sign missing_after_sign
  sign_completes ones [] few ok e =
      record {
        more = 0 ∷ replicate (behind_run d ones) (filler ones);
        many = omega (arith, length-replicate {A = ℕ} (behind_run d ones) (filler ones));
        fine = (omega arith, all_bits-replicate (behind_run d ones) (filler_bit ones));
        complete = run_fills ones few;
      }
  sign_completes ones (zero ∷ read) few ok e =
      record {
        more = replicate (behind_run d ones - length read) (filler ones);
        many = length-replicate {A = ℕ} (behind_run d ones - length read) (filler ones);
        fine = all_bits-replicate (behind_run d ones - length read) (filler_bit ones);
        complete = run_completes ones read few ok.1 e;
      }
  sign_completes ones (suc b ∷ read) few ok e =
      pick_elim (λ (p : Parsed). is_out p ≡ true → Completion (after_sign top d s ones) (suc b ∷ read) (missing_after_sign d (suc ones) read))
      (ltb ones (longest_run top)) (after_sign top d s (suc ones) read) run_too_long
      (λ t f.
      let c = sign_completes (suc ones) read (omega (arith, ltb-true ones (longest_run top) t)) ok.1 f in
      record { more = c.more; many = c.many; fine = c.fine; complete = rw t c.complete })
      (λ t f. absurd (both_ways f refl))
      e

  -- never more than after the longest run
  sign_few : (ones : ℕ) (read : List ℕ) → ones ≤ longest_run top → is_out (after_sign top d s ones read) ≡ true
      → missing_after_sign d ones read ≤ longest_run top + 3
  unfolding after_sign missing_after_sign
  sign_few zero [] few e = omega arith
  sign_few (suc zero) [] few e = omega arith
  sign_few (suc (suc ones)) [] few e = omega arith
  sign_few zero (zero ∷ read) few e = omega arith
  sign_few (suc zero) (zero ∷ read) few e = omega arith
  sign_few (suc (suc ones)) (zero ∷ read) few e = omega arith
  sign_few ones (suc b ∷ read) few e =
      pick_elim (λ (p : Parsed). is_out p ≡ true → missing_after_sign d (suc ones) read ≤ longest_run top + 3) (ltb ones (longest_run top))
      (after_sign top d s (suc ones) read) run_too_long
      (λ t f. sign_few (suc ones) read (omega (arith, ltb-true ones (longest_run top) t)) f)
      (λ t f. absurd (both_ways f refl))
      e

-- from the first bit on
computed_completes : (top d : ℕ) → Drop d → 8 ≤ top → (read : List ℕ) → all_bits read → is_out (parse top d read) ≡ true
    → Completion (parse top d) read (missing_computed d read)
unfolding parse missing_computed
computed_completes top d dr places [] ok e = record { more = 0 ∷ []; many = refl; fine = (omega arith, tt); complete = refl }
computed_completes top d dr places (zero ∷ read) ok e = absurd (both_ways e refl)
computed_completes top d dr places (suc b ∷ []) ok e =
    record {
      more = 0 ∷ (0 ∷ replicate (4 - d) 1);
      many = omega (arith, length-replicate {A = ℕ} (4 - d) 1, drop_small dr);
      fine = (omega arith, (omega arith, all_bits-replicate (4 - d) (omega arith)));
      complete = unfold after_sign in run_fills top d 0 dr places 0 (omega arith);
    }
computed_completes top d dr places (suc b ∷ (s ∷ read)) ok e =
    let c = sign_completes top d s dr places 0 read (omega arith) ok.1.1 e in
    record { more = c.more; many = c.many; fine = c.fine; complete = c.complete }

computed_few : (top d : ℕ) → Drop d → 8 ≤ top → (read : List ℕ) → is_out (parse top d read) ≡ true → missing_computed d read ≤ longest_run top + 3
unfolding parse missing_computed
computed_few top d dr places [] e = omega arith
computed_few top d dr places (zero ∷ read) e = omega arith
computed_few top d dr places (suc b ∷ []) e = omega arith
computed_few top d dr places (suc b ∷ (s ∷ read)) e = sign_few top d s dr places 0 read (omega arith) e

-- ---- the same number

module _ (top d : ℕ) (dr : Drop d) (places : 8 ≤ top) (read : List ℕ) (ok : all_bits read) (out : parse top d read ≡ ran_out) where
  ran_out_lem : is_out (parse top d read) ≡ true
  ran_out_lem = ap is_out out

  -- so many bits complete what was read, and no fewer do
  computed_is_least : Least (Completion (parse top d) read) (missing_computed d read)
  computed_is_least =
      record {
        has = computed_completes top d dr places read ok ran_out_lem;
        least = λ n c. subst (λ (m : ℕ). missing_computed d read ≤ m) c.many (computed_least top d dr read c.more ok c.fine c.complete);
      }

  -- the search says so of every completion
  so : (n : ℕ) → Completion (parse top d) read n → completed top d read n ≡ true
  so n c = subst (λ (m : ℕ). completed top d read m ≡ true) c.many (some_completed top d read c.more c.fine c.complete)

  -- the sentence in full: "the least number of further bits with which some accepted code could be completed from what was read"
  pub missing_is_least : Least (Completion (parse top d) read) (missing top d read)
  unfolding missing
  missing_is_least =
      let some : completed top d read (missing_computed d read) ≡ true
      = so (missing_computed d read) (computed_completes top d dr places read ok ran_out_lem) in
      let found_least = least_is (completed top d read) (longest_code top) 0 (missing_computed d read) (λ j p. omega arith)
      (omega (arith, computed_few top d dr places read ran_out_lem)) some in
      record {
        has = completed_some top d read (missing top d read) found_least.has;
        least = λ n c. found_least.least n (so n c);
      }

  -- it is the computed number
  pub missing_computed_lem : missing top d read ≡ missing_computed d read
  missing_computed_lem = least_one missing_is_least computed_is_least

  -- never more than after the longest run: its zero, its parity and its field
  pub missing_few : missing top d read ≤ longest_run top + 3
  missing_few = subst (λ (n : ℕ). n ≤ longest_run top + 3) (sym missing_computed_lem) (computed_few top d dr places read ran_out_lem)

-- ---- of what reading answers

module _ (bytes : List ℕ) (at d : ℕ) (known : drop_known d ≡ true) where
  -- the position decides
  pub by_place : (b : Bool) → past_end (length (bits_that_count bytes)) at ≡ b
      → shape_means bytes at d ≡ pick b (refused_with 9 0) (answer_to greatest_place d at (drop at (bits_that_count bytes)))
  by_place b e = ap₂ (λ (x y : Bool). pick x (pick y (refused_with 9 0) (answer_to greatest_place d at (drop at (bits_that_count bytes)))) (refused 8)) known e

  -- bits that run out are refused by 9 with the sentence's number, which is the computed one
  pub runs_out : at ≤ length (bits_that_count bytes) → at < 2 ^ 63 → parse greatest_place d (drop at (bits_that_count bytes)) ≡ ran_out
      → shape_means bytes at d ≡ refused_with 9 (missing_computed d (drop at (bits_that_count bytes)))
  runs_out h k out =
      let read : List ℕ = drop at (bits_that_count bytes) in
      by_place false (not_past (length (bits_that_count bytes)) at h k)
      ∙ ap (answer_of greatest_place d at read) out
      ∙ ap (λ (n : ℕ). refused_with 9 n)
      (missing_computed_lem greatest_place d (drop_of d known) (omega arith) read
      (all_bits-drop at (bits_that_count bytes) (all_bits-bits_that_count bytes)) out)

  -- "at the end exactly, under 2^63, it carries 1"
  pub at_the_end : at ≡ length (bits_that_count bytes) → at < 2 ^ 63 → shape_means bytes at d ≡ refused_with 9 1
  unfolding parse missing_computed
  at_the_end e k =
      let none_left : drop at (bits_that_count bytes) ≡ [] = drop_of_length-le (bits_that_count bytes) {i = at} (omega arith) in
      runs_out (omega arith) k (ap (parse greatest_place d) none_left) ∙ ap (λ (l : List ℕ). refused_with 9 (missing_computed d l)) none_left

  -- "and from any other position past the end, 0"
  pub past_the_end : (length (bits_that_count bytes) < at) ⊎ (2 ^ 63 ≤ at) → shape_means bytes at d ≡ refused_with 9 0
  past_the_end (inl h) = by_place true (ap (λ (b : Bool). pick b true (leb (2 ^ 63) at)) (lt-ltb (length (bits_that_count bytes)) at h))
  past_the_end (inr h) = by_place true (either (ltb (length (bits_that_count bytes)) at) (le-leb (2 ^ 63) at h))

-- no refusal but 9 carries a number
abbrev pub NineAlone : {A : Type 0} → Paper A → Type 0
NineAlone (accepted x) = Unit {0}
NineAlone (refusal n carried) = (n ≡ 9 → ⊥) → carried ≡ []

-- so it is with reading a shape
pub nine_alone : (bytes : List ℕ) (at d : ℕ) → NineAlone (shape_means bytes at d)
nine_alone bytes at d =
    pick_elim NineAlone (drop_known d) _ (refused 8)
    (λ t.
    pick_elim NineAlone (past_end (length (bits_that_count bytes)) at) (refused_with 9 0) _ (λ f other. absurd (other refl))
    (λ f. answered (parse greatest_place d (drop at (bits_that_count bytes)))))
    (λ t other. refl)
  where
    answered : (q : Parsed) → NineAlone (answer_of greatest_place d at (drop at (bits_that_count bytes)) q)
    answered (found shape rest) = tt
    answered ran_out = λ other. absurd (other refl)
    answered redundant_zero = λ other. refl
    answered run_too_long = λ other. refl

-- and with all that goes on from it and gives no number of its own
pub onward_nine_alone : {A B : Type 0} (then : A → Paper B) → ((x : A) → NineAlone (then x)) → (p : Paper A) → NineAlone p → NineAlone (onward then p)
onward_nine_alone then alone (accepted x) h = alone x
onward_nine_alone then alone (refusal n carried) h = h
