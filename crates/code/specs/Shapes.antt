-- The laws of shapes that callers cite: what parses, which bits it has, and how many.
-- Assumes nothing.
use Rattle.std.specs.Prelude.{◌≡◌, Bool, true, false, ◌&&◌, List, [], ◌∷◌, ◌++◌, length, take, drop, replicate, ltb, leb, eqb}
use Rattle.std.proofs.Math.Path.{refl, sym, ap}
use Rattle.std.proofs.Common.{ap₂, ◌∙◌, subst, append_assoc, suc-add, add-suc, add-zero, zero-add, mod-eq_of_lt, arith, length-append, take-append-drop}
use Rattle.std.proofs.Common.{take_at, drop_at, length-take-le, lt-ltb, le-ltb, le-leb, ltb-false, leb-true, eq-eqb, ne_eqb, eqb-true}
use Prim.Native.Nat.{ℕ, zero, suc, ◌+◌, ◌*◌, ◌-◌, ◌/◌, ◌%◌, ◌^◌, ◌<◌, ◌≤◌}
use Rattle.std.proofs.lemmas.List.{length-replicate}
use Rattle.std.proofs.lemmas.Bool.{eqb-false}
use Rattle.ground.specs.Choice.{pick, pick_elim}
use Rattle.ground.specs.Questions.{both_ways}
use Rattle.ground.specs.Bits.{to_bits}
use Rattle.code.specs.Meaning.{Shape, nought, small, led, Parsed, found, ran_out, redundant_zero, run_too_long, ones_of, longest_run, drop_known, bits}
use Rattle.code.specs.Meaning.{longest_code, left_out, width, with_parity, coded, parse, after_sign, after_run, parity_then, led_then, small_found}
use Rattle.code.specs.Meaning.{field, from_bits}
use Rattle.code.specs.BitLists.{all_bits, all_bits-take, length-to_bits, from_bits-to_bits, to_bits-from_bits, from_bits_lt}

-- the two drops
pub data Drop : ℕ → Type 0 where
  none : Drop 0
  three : Drop 3

-- a known drop is one of the two
pub drop_of : (d : ℕ) → drop_known d ≡ true → Drop d
drop_of d t = go (eqb d 0) refl (eqb d 3) refl t
  where
    go : (a : Bool) → eqb d 0 ≡ a → (b : Bool) → eqb d 3 ≡ b → pick a true b ≡ true → Drop d
    go true e b f t = subst Drop (sym (eqb-true d 0 e)) none
    go false e true f t = subst Drop (sym (eqb-true d 3 f)) three
    go false e false f t = absurd (both_ways refl (sym t))

-- both drops are known
pub drop_is_known : {d : ℕ} → Drop d → drop_known d ≡ true
drop_is_known none = refl
drop_is_known three = refl

-- no drop is above 3
pub drop_small : {d : ℕ} → Drop d → d ≤ 3
drop_small none = omega arith
drop_small three = omega arith

-- ---- the bits below a leading one

-- those left out and those that the code has
pub record Below (d k : ℕ) : Type 0 where
  pub some : 1 ≤ left_out d k
  pub half : k / 2 ≤ left_out d k + 1
  pub few : left_out d k ≤ k / 2 + 3
  pub all : width d k + left_out d k ≡ k

-- at every place from 4 on
pub below_led : {d : ℕ} (k : ℕ) → Drop d → 4 ≤ k → Below d k
below_led {d} k dr h =
    let b : (1 ≤ left_out d k) × (k / 2 ≤ left_out d k + 1) × (left_out d k ≤ k / 2 + 3) × (left_out d k ≤ k)
    = pick_elim (λ (n : ℕ). (1 ≤ n) × (k / 2 ≤ n + 1) × (n ≤ k / 2 + 3) × (n ≤ k)) (eqb k 4) (1 + d) (k / 2 + d)
    (λ e. (omega arith, omega (arith, eqb-true k 4 e), omega (arith, drop_small dr), omega (arith, drop_small dr)))
    (λ e. (omega arith, omega arith, omega (arith, drop_small dr), omega (arith, drop_small dr, five e))) in
    record { some = b.0; half = b.1; few = b.2; all = omega (arith, b.3) }
  where
    five : eqb k 4 ≡ false → 5 ≤ k
    five e = let n : (k ≡ 4 → ⊥) = eqb-false k 4 e in omega arith

-- "then the first j+1-drop bits after the leading one": what the code has from 32 on
pub width_is : (d k : ℕ) → Drop d → 5 ≤ k → width d k ≡ ones_of k + 1 - d
width_is d k dr h = rw (ne_eqb k 4 (λ e. omega arith)) (omega (arith, drop_small dr))

-- "the three bits after the leading one", less the drop: what it has of 16 to 31
pub width_four : (d : ℕ) → width d 4 ≡ 3 - d
width_four d = omega arith

-- k of its ones and its parity
pub place_is : (k : ℕ) → 1 ≤ k → 2 * ones_of k + 1 + (k - 1) % 2 ≡ k
place_is k h = omega arith

-- the bits of a place from 32 on, by its ones and its parity
led_bits : (d s ones p x : ℕ) → 2 ≤ ones → p < 2
    → bits d (led s (2 * ones + 1 + p) x) ≡ coded s ones (p ∷ to_bits (width d (2 * ones + 1 + p)) x)
led_bits d s ones p x two bit =
    let k : ℕ = 2 * ones + 1 + p in
    let l : List ℕ = to_bits (width d k) x in
    let run : ones_of k ≡ ones = omega arith in
    let parity : (k - 1) % 2 ≡ p = omega arith in
    ap (λ (b : Bool). coded s (ones_of k) (pick b l ((k - 1) % 2 ∷ l))) (ne_eqb k 4 (λ e. omega arith))
    ∙ ap₂ (λ (n q : ℕ). coded s n (q ∷ l)) run parity

-- ---- shapes that are read

-- a shape that some bits are read as: its fields lie in their widths, its place is not above the greatest, and it is no redundant zero
abbrev pub Valid : ℕ → ℕ → Shape → Type 0
Valid top d nought = Unit {0}
Valid top d (small s x) = (s < 2) × (x < 2 ^ (4 - d)) × (d ≡ 0 → x ≡ 0 → ⊥)
Valid top d (led s k x) = (s < 2) × (4 ≤ k) × (k ≤ top) × (x < 2 ^ width d k)

-- every code has a bit
pub bits_some : (d : ℕ) (shape : Shape) → 1 ≤ length (bits d shape)
bits_some d nought = omega arith
bits_some d (small s x) = omega arith
bits_some d (led s k x) = omega arith

-- the length of a code: what stands before the field's zero and after it
coded-length : (s ones : ℕ) (after : List ℕ) → length (coded s ones after) ≡ 3 + ones + length after
coded-length s ones after = omega (arith, length-append (replicate ones 1) (0 ∷ after), length-replicate {A = ℕ} ones 1)

-- no code is longer
pub bits_few : (top d : ℕ) (shape : Shape) → 4 ≤ top → Drop d → Valid top d shape → length (bits d shape) ≤ longest_code top
bits_few top d nought t dr v = omega arith
bits_few top d (small s x) t dr v = omega (arith, coded-length s 0 (to_bits (4 - d) x), length-to_bits (4 - d) x)
bits_few top d (led s k x) t dr v =
    let l : List ℕ = to_bits (width d k) x in
    let many : length (with_parity k l) ≤ ones_of k + 2
    = pick_elim (λ (n : List ℕ). length n ≤ ones_of k + 2) (eqb k 4) l ((k - 1) % 2 ∷ l)
    (λ e.
    let four : k ≡ 4 = eqb-true k 4 e in
    let same : width d k ≡ 3 - d = ap (width d) four ∙ width_four d in
    omega (arith, length-to_bits (width d k) x))
    (λ e.
    let other : (k ≡ 4 → ⊥) = eqb-false k 4 e in
    let same : width d k ≡ ones_of k + 1 - d = width_is d k dr (omega (arith, v.1)) in
    omega (arith, length-to_bits (width d k) x)) in
    omega (arith, coded-length s (ones_of k) (with_parity k l), v.2)

-- ---- a shape's bits are parsed to the shape

-- a field's bits are read as the field
field-to_bits : (w : ℕ) (then : ℕ → List ℕ → Parsed) (x : ℕ) (rest : List ℕ) → x < 2 ^ w → field w then (to_bits w x ++ rest) ≡ then x rest
field-to_bits w then x rest h =
    rw (le-ltb (length (to_bits w x ++ rest)) w (omega (arith, length-append (to_bits w x) rest, length-to_bits w x)))
    (ap₂ (λ (l r : List ℕ). then (from_bits l) r) (take_at (to_bits w x) rest w (length-to_bits w x)) (drop_at (to_bits w x) rest w (length-to_bits w x))
    ∙ ap (λ (n : ℕ). then n rest) (from_bits-to_bits w x ∙ mod-eq_of_lt h))

module _ (top d s : ℕ) where
  -- a run of ones and its zero are read as the run
  run_of_ones : (i j : ℕ) (after : List ℕ) → i + j ≤ longest_run top → after_sign top d s i (replicate j 1 ++ (0 ∷ after)) ≡ after_run top d s (i + j) after
  unfolding after_sign
  run_of_ones i zero after h = ap (λ (n : ℕ). after_run top d s n after) (sym (add-zero i))
  run_of_ones i (suc j) after h =
      rw (lt-ltb i (longest_run top) (omega arith))
      (run_of_ones (suc i) j after (omega arith) ∙ ap (λ (n : ℕ). after_run top d s n after) (suc-add i j ∙ sym (add-suc i j)))

  -- where the run of ones is seen from its start
  parse_coded : (ones : ℕ) (after rest : List ℕ) → ones ≤ longest_run top → parse top d (coded s ones after ++ rest) ≡ after_run top d s ones (after ++ rest)
  unfolding parse
  parse_coded ones after rest h =
      ap (after_sign top d s 0) (append_assoc (replicate ones 1) (0 ∷ after) rest)
      ∙ run_of_ones 0 ones (after ++ rest) (omega arith)
      ∙ ap (λ (n : ℕ). after_run top d s n (after ++ rest)) (zero-add ones)

  -- after a run of two ones or more stands the parity
  run_then_parity : (ones : ℕ) (l : List ℕ) → 2 ≤ ones → after_run top d s ones l ≡ parity_then top d s ones l
  run_then_parity zero l h = absurd (omega arith)
  run_then_parity (suc zero) l h = absurd (omega arith)
  run_then_parity (suc (suc ones)) l h = refl

  -- the ones and the parity of a place tell the place
  run_then_led : (k : ℕ) (l rest : List ℕ) → 4 ≤ k → after_run top d s (ones_of k) (with_parity k l ++ rest) ≡ led_then top d s k (l ++ rest)
  run_then_led k l rest h = go (eqb k 4) refl
    where
      go : (t : Bool) → eqb k 4 ≡ t → after_run top d s (ones_of k) (with_parity k l ++ rest) ≡ led_then top d s k (l ++ rest)
      go true t =
          let four : k ≡ 4 = eqb-true k 4 t in
          ap (λ (n : ℕ). after_run top d s (ones_of n) (with_parity n l ++ rest)) four ∙ ap (λ (n : ℕ). led_then top d s n (l ++ rest)) (sym four)
      go false t =
          let other : (k ≡ 4 → ⊥) = eqb-false k 4 t in
          ap (λ (b : Bool). after_run top d s (ones_of k) (pick b l ((k - 1) % 2 ∷ l) ++ rest)) t
          ∙ run_then_parity (ones_of k) ((k - 1) % 2 ∷ (l ++ rest)) (omega arith)
          ∙ ap (λ (n : ℕ). led_then top d s n (l ++ rest)) (place_is k (omega arith))

-- a small field that is no redundant zero is found
not_redundant : (d s x : ℕ) (rest : List ℕ) → (d ≡ 0 → x ≡ 0 → ⊥) → small_found d s x rest ≡ found (small s x) rest
not_redundant zero s x rest h = rw (ne_eqb x 0 (h refl))
not_redundant (suc d) s x rest h = rw (ne_eqb (suc d) 0 (λ e. omega arith))

-- parsing a shape's bits and anything after gives the shape and the rest
pub parse_bits : (top d : ℕ) (shape : Shape) (rest : List ℕ) → Valid top d shape → parse top d (bits d shape ++ rest) ≡ found shape rest
parse_bits top d nought rest v = unfold parse in refl
parse_bits top d (small s x) rest v =
    parse_coded top d s 0 (to_bits (4 - d) x) rest (omega arith)
    ∙ field-to_bits (4 - d) (small_found d s) x rest v.1
    ∙ not_redundant d s x rest v.2
parse_bits top d (led s k x) rest v =
    let l : List ℕ = to_bits (width d k) x in
    parse_coded top d s (ones_of k) (with_parity k l) rest (omega (arith, v.2))
    ∙ run_then_led top d s k l rest v.1
    ∙ ap (λ (b : Bool). pick b (field (width d k) (λ x. found (led s k x)) (l ++ rest)) run_too_long) (le-leb k top v.2)
    ∙ field-to_bits (width d k) (λ x. found (led s k x)) x rest v.3

-- ---- what is parsed has exactly those bits

-- what is claimed of what was found in bits: they are the shape's bits and the rest, and the shape is valid
abbrev pub Exact : ℕ → ℕ → List ℕ → Parsed → Type 0
Exact top d l (found shape rest) = (l ≡ bits d shape ++ rest) × Valid top d shape
Exact top d l ran_out = Unit {0}
Exact top d l redundant_zero = Unit {0}
Exact top d l run_too_long = Unit {0}

-- a field that was read: either bits ran out, or the bits are the field's and the rest
pub field_elim : (P : Parsed → Type 0) (w : ℕ) (then : ℕ → List ℕ → Parsed) (l : List ℕ) → all_bits l → P ran_out
    → ((x : ℕ) (rest : List ℕ) → x < 2 ^ w → l ≡ to_bits w x ++ rest → P (then x rest))
    → P (field w then l)
field_elim P w then l ok out is_found =
    pick_elim P (ltb (length l) w) ran_out (then (from_bits (take w l)) (drop w l))
    (λ e. out)
    (λ e.
    let long : length (take w l) ≡ w = length-take-le w l (ltb-false (length l) w e) in
    let fine = all_bits-take w l ok in
    is_found (from_bits (take w l)) (drop w l)
    (subst (λ (k : ℕ). from_bits (take w l) < 2 ^ k) long (from_bits_lt (take w l) fine))
    (sym (take-append-drop w l)
    ∙ ap (λ (k : List ℕ). k ++ drop w l)
    (sym (subst (λ (k : ℕ). to_bits k (from_bits (take w l)) ≡ take w l) long (to_bits-from_bits (take w l) fine)))))

-- both tests of a conjunction
both : (a b : Bool) → a ≡ true → b ≡ true → (a && b) ≡ true
both a b p q = rw (p, q)

-- a field under a leading one, after bits that the place's code has before its field
led_exact : (top d s k : ℕ) (l : List ℕ) (before : List ℕ → List ℕ) → s < 2 → 4 ≤ k → all_bits l
    → ((x : ℕ) (rest : List ℕ) → before (to_bits (width d k) x ++ rest) ≡ bits d (led s k x) ++ rest)
    → Exact top d (before l) (led_then top d s k l)
led_exact top d s k l before hs four ok same =
    pick_elim (Exact top d (before l)) (leb k top) (field (width d k) (λ x. found (led s k x)) l) run_too_long
    (λ t.
    field_elim (Exact top d (before l)) (width d k) (λ x. found (led s k x)) l ok tt
    (λ x rest hx e. (ap before e ∙ same x rest, (hs, four, leb-true k top t, hx))))
    (λ t. tt)

-- bits that follow a run of ones and its zero
after_run_exact : (top d s ones : ℕ) (l : List ℕ) → s < 2 → all_bits l → Exact top d (coded s ones l) (after_run top d s ones l)
after_run_exact top d s zero l hs ok =
    field_elim (Exact top d (coded s 0 l)) (4 - d) (small_found d s) l ok tt
    (λ x rest hx e.
    pick_elim (Exact top d (coded s 0 l)) (eqb d 0 && eqb x 0) redundant_zero (found (small s x) rest)
    (λ t. tt)
    (λ t. (ap (coded s 0) e, (hs, hx, λ p q. both_ways (both (eqb d 0) (eqb x 0) (eq-eqb d 0 p) (eq-eqb x 0 q)) t))))
after_run_exact top d s (suc zero) l hs ok = led_exact top d s 4 l (coded s 1) hs (omega arith) ok (λ x rest. refl)
after_run_exact top d s (suc (suc ones)) [] hs ok = tt
after_run_exact top d s (suc (suc ones)) (p ∷ l) hs ok =
    let j : ℕ = suc (suc ones) in
    let k : ℕ = 2 * j + 1 + p in
    led_exact top d s k l (λ (r : List ℕ). coded s j (p ∷ r)) hs (omega arith) ok.1
    (λ x rest.
    ap (λ (r : List ℕ). 1 ∷ s ∷ r) (sym (append_assoc (replicate j 1) (0 ∷ (p ∷ to_bits (width d k) x)) rest))
    ∙ ap (λ (r : List ℕ). r ++ rest) (sym (led_bits d s j p x (omega arith) ok.0)))

-- one more of the same at the end of a repeat
one_more : (n : ℕ) (l : List ℕ) → replicate n 1 ++ (1 ∷ l) ≡ replicate (suc n) 1 ++ l
one_more zero l = refl
one_more (suc n) l = ap (λ (k : List ℕ). 1 ∷ k) (one_more n l)

-- bits that follow the sign, so many ones having been seen
after_sign_exact : (top d s ones : ℕ) (l : List ℕ) → s < 2 → all_bits l → Exact top d (1 ∷ s ∷ (replicate ones 1 ++ l)) (after_sign top d s ones l)
unfolding after_sign
after_sign_exact top d s ones [] hs ok = tt
after_sign_exact top d s ones (zero ∷ l) hs ok = after_run_exact top d s ones l hs ok.1
after_sign_exact top d s ones (suc zero ∷ l) hs ok =
    pick_elim (Exact top d (1 ∷ s ∷ (replicate ones 1 ++ (1 ∷ l)))) (ltb ones (longest_run top)) (after_sign top d s (suc ones) l) run_too_long
    (λ t. rw (one_more ones l) (after_sign_exact top d s (suc ones) l hs ok.1))
    (λ t. tt)
after_sign_exact top d s ones (suc (suc b) ∷ l) hs ok = absurd (omega arith)

-- what parses has exactly those bits
pub parse_exact : (top d : ℕ) (l : List ℕ) → all_bits l → Exact top d l (parse top d l)
unfolding parse
parse_exact top d [] ok = tt
parse_exact top d (zero ∷ l) ok = (refl, tt)
parse_exact top d (suc zero ∷ []) ok = tt
parse_exact top d (suc zero ∷ (s ∷ l)) ok = after_sign_exact top d s 0 l ok.1.0 ok.1.1
parse_exact top d (suc (suc b) ∷ []) ok = absurd (omega arith)
parse_exact top d (suc (suc b) ∷ (s ∷ l)) ok = absurd (omega arith)

-- the same, of a shape that was found
pub found_exact : (top d : ℕ) (l : List ℕ) {shape : Shape} {rest : List ℕ} → all_bits l → parse top d l ≡ found shape rest
    → (l ≡ bits d shape ++ rest) × Valid top d shape
found_exact top d l ok e = subst (Exact top d l) e (parse_exact top d l ok)
