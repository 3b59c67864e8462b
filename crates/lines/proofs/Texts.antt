-- What is put into a room: a text, a code's bits.
-- Assumes nothing.
use mathlib.Core.Path.{◌≡◌, refl, sym, ap, ap₂, ◌∙◌, subst}
use mathlib.Core.Bool.{Bool, true, false}
use mathlib.Core.List.{List, [], ◌∷◌, ◌++◌, map}
use Prim.Native.Nat.{ℕ, zero, suc, ◌+◌, ◌-◌, ◌*◌, ◌/◌, ◌%◌, ◌^◌, ◌<◌, ◌≤◌}
use native.Mathlib.Nat.{not-suc-le-zero, le_of_suc-le-suc, pow-suc, pow-le-pow_right, zero-lt-suc, zero-add}
use native.Mathlib.Omega.{arith}
use borrow.Author.Tests.{lt-ltb, le-ltb, eq-eqb, ne_eqb, leb-true, leb-false}
use lib.Dec.{leb, eqb}
use lib.IntN.{ℤ, nat_abs}
use lib.ListN.{length, take, get_or, length-map}
use lib.Seq.{get_or-take, length-take-le}
use Rattle.ground.specs.Bits.{bits_of}
use Rattle.ground.specs.Choice.{pick}
use Rattle.ground.specs.Putting.{Copied, copied_all}
use Rattle.code.specs.BitLists.{length-bits_of}
use Rattle.code.specs.Positions.{get_or-bits_of, length-bits_that_count, length-bytes_from}
use Rattle.ground.specs.Outcome.{Outcome, outcome_of, accept}
use Rattle.code.specs.Answers.{packed_paper, not_packed}
use Rattle.code.specs.Promise.{PackPromise}
use Rattle.code.specs.Meaning.{greatest_place, largest, longest_code, code_of, sign_of, shape_of_number, bytes_with, put_at, pack_means, bits_that_count}
use Rattle.code.specs.Shapes.{Drop, drop_is_known}
use Rattle.code.specs.Magnitudes.{places, number_valid}
use Rattle.code.specs.Theorems.{packs, put_stands, all_bits_shape}
use Rattle.code.specs.declared.NotPacked.{NotPacked}
use Rattle.std.specs.Prelude.{Result, Ok}
use Rattle.ground.specs.Refusals.{off_paper, off_on_paper}
use Rattle.io.specs.Digits.{hex_digit_ascii, last_digits, IsDigitCount}
use Rattle.lines.specs.Meaning.{shortest, value_text, code_text, number_text}
use Rattle.lines.specs.Texts.{Put, put_then, put_fits, put_ends, code_few, code_text_few, value_few}

-- the digits of the first bits of bytes
abbrev pub bit_text : List ℕ → ℕ → List ℕ
bit_text bytes count = map (λ b. 48 + b) (take count (bits_of bytes))

-- an element of a mapped list
at_map : (l : List ℕ) (i : ℕ) → i < length l → 48 + get_or l i 0 ≡ get_or (map (λ b. 48 + b) l) i 0
at_map [] i h = absurd (not-suc-le-zero h)
at_map (x ∷ l) zero h = refl
at_map (x ∷ l) (suc i) h = at_map l i (le_of_suc-le-suc h)

module _ (bytes : List ℕ) (count : ℕ) (four : length bytes ≡ 4) (few : count ≤ 32) where
  -- as many digits as bits
  pub bit_length : length (bit_text bytes count) ≡ count
  bit_length = length-map (take count (bits_of bytes)) (λ b. 48 + b) ∙ length-take-le count (bits_of bytes) (omega (arith, length-bits_of bytes))

  -- each digit is its bit
  pub bit_at : (i : ℕ) → i < count → 48 + get_or bytes (i / 8) 0 / 2 ^ (7 - i % 8) % 2 ≡ get_or (bit_text bytes count) i 0
  bit_at i h =
      let bits : count ≤ length (bits_of bytes) = omega (arith, length-bits_of bytes) in
      let there : i < length (take count (bits_of bytes)) = omega (arith, length-take-le count (bits_of bytes) bits) in
      ap (λ (b : ℕ). 48 + b) (sym (get_or-bits_of bytes i (omega arith)) ∙ sym (get_or-take count (bits_of bytes) i 0 h))
      ∙ at_map (take count (bits_of bytes)) i there

-- all of a text is put
pub put_all : {room₀ : List ℕ} {at : ℕ} {text room : List ℕ} {i : ℕ} → Copied room₀ at text room i → length text ≤ i
    → Put room₀ at text (at + i) room
put_all {room₀} {at} {text} {room} {i} p h =
    record { memory = copied_all p h; place = ap (λ (n : ℕ). at + n) (omega (arith, p.within)); long = p.long }

-- ---- a number in shortest decimal

-- the digit of a number under ten
glyph_is : (d : ℕ) → d < 10 → hex_digit_ascii d ≡ 48 + d
glyph_is d h = rw (lt-ltb d 10 h)

-- the fewest digits are the shortest decimal
shortest_is : (places k n : ℕ) → IsDigitCount 10 1 n k → k ≤ places → last_digits 10 k n ≡ shortest places n
unfolding shortest
shortest_is zero zero n f h = absurd (not-suc-le-zero f.0)
shortest_is zero (suc k) n f h = absurd (not-suc-le-zero h)
shortest_is (suc places) zero n f h = absurd (not-suc-le-zero f.0)
shortest_is (suc places) (suc zero) n f h =
    let small : n < 10 = f.1 in
    let same : n % 10 ≡ n = omega arith in
    rw (lt-ltb n 10 small) (ap (λ (d : ℕ). d ∷ []) (glyph_is (n % 10) (omega arith) ∙ ap (λ (d : ℕ). 48 + d) same))
shortest_is (suc places) (suc (suc k)) n f h =
    let p : 10 ^ suc k ≡ 10 ^ k * 10 = pow-suc 10 k in
    let q : 10 ^ suc (suc k) ≡ 10 ^ suc k * 10 = pow-suc 10 (suc k) in
    let least : 0 ≤ k = Prim.Native.Nat.zero-le in
    let one : 10 ^ 0 ≤ 10 ^ k = pow-le-pow_right (zero-lt-suc 9) least in
    let less : suc (suc k) - 1 ≡ suc k = omega arith in
    let fewer : k ≡ suc k - 1 = omega arith in
    let low : 10 ^ suc k ≤ n = subst (λ (m : ℕ). 10 ^ m ≤ n) less (f.2 (omega arith)) in
    let high : n < 10 ^ suc (suc k) = f.1 in
    let big : 10 ≤ n = omega arith in
    let above : n / 10 < 10 ^ suc k = omega arith in
    let below : 10 ^ k ≤ n / 10 = omega arith in
    rw (le-ltb n 10 big)
    (ap₂ (λ (l : List ℕ) (d : ℕ). l ++ (d ∷ []))
    (shortest_is places (suc k) (n / 10) (omega arith, above, λ more. subst (λ (m : ℕ). 10 ^ m ≤ n / 10) fewer below) (le_of_suc-le-suc h))
    (glyph_is (n % 10) (omega arith)))

-- a number under a hundred million has at most eight digits
pub decimal_few : {n k : ℕ} → IsDigitCount 10 1 n k → n < 100000000 → k ≤ 8
decimal_few {n} {k} f h = go (leb k 8) refl
  where
    go : (b : Bool) → leb k 8 ≡ b → k ≤ 8
    go true t = leb-true k 8 t
    go false t =
        let over : 8 < k = leb-false k 8 t in
        let low : 10 ^ (k - 1) ≤ n = f.2 (omega arith) in
        let more : 8 ≤ k - 1 = omega arith in
        let top : 10 ^ 8 ≤ 10 ^ (k - 1) = pow-le-pow_right (zero-lt-suc 9) more in
        absurd (omega arith)

-- the digits that were put are the shortest decimal
pub decimal_put : {room text after : List ℕ} {at r n k : ℕ} → IsDigitCount 10 1 n k → n < 100000000 → text ≡ last_digits 10 k n
    → Put room at text r after → Put room at (shortest 8 n) r after
decimal_put {room} {text} {after} {at} {r} {n} {k} f h e p =
    subst (λ (l : List ℕ). Put room at l r after) (e ∙ shortest_is 8 k n f (decimal_few f h)) p

-- ---- a value

-- a magnitude inside the rule has at most eight digits
pub few_digits : {n : ℕ} (w v : ℤ) → w ≡ v → n ≡ nat_abs w → nat_abs v ≤ largest → n < 100000000
few_digits w v e m h = omega (arith, m, ap nat_abs e)

-- a value by its sign
value_is : {n : ℕ} (w v : ℤ) → w ≡ v → n ≡ nat_abs w → (b : Bool) → eqb (sign_of w) 1 ≡ b
    → pick b (45 ∷ shortest 8 n) (shortest 8 n) ≡ value_text v
value_is w v e m b t = ap₂ (λ (x : Bool) (k : ℕ). pick x (45 ∷ shortest 8 k) (shortest 8 k)) (sym t) m ∙ ap value_text e

-- a minus and the decimal are the value
pub value_minus : {room one after : List ℕ} {at next r s n : ℕ} (w v : ℤ) → w ≡ v → s ≡ sign_of w → n ≡ nat_abs w → s ≡ 1 → at ≤ length room
    → Put room at (45 ∷ []) next one → Put one next (shortest 8 n) r after → (Put room at (value_text v) r after) × (r ≤ at + 9)
value_minus {room} {one} {after} {at} {next} {r} w v e sign m t h p q =
    let all = subst (λ (l : List ℕ). Put room at l r after) (value_is w v e m true (eq-eqb (sign_of w) 1 (sym sign ∙ t))) (put_then p q (put_fits p h)) in
    (all, put_ends all (value_few v))

-- the decimal alone is the value
pub value_plus : {room after : List ℕ} {at r s n : ℕ} (w v : ℤ) → w ≡ v → s ≡ sign_of w → n ≡ nat_abs w → (s ≡ 1 → ⊥) → Put room at (shortest 8 n) r after
    → (Put room at (value_text v) r after) × (r ≤ at + 9)
value_plus {room} {after} {at} {r} w v e sign m t p =
    let all = subst (λ (l : List ℕ). Put room at l r after) (value_is w v e m false (ne_eqb (sign_of w) 1 (λ x. t (sign ∙ x)))) p in
    (all, put_ends all (value_few v))

-- ---- a code

module _ {buffer left : List ℕ} {w v : ℤ} {d : ℕ} {packed : Result ℕ NotPacked} (four : length buffer ≡ 4) (e : w ≡ v) (small : nat_abs v ≤ largest)
    (dr : Drop d) (p : PackPromise buffer 0 w d packed left) where
  -- four bytes have room for a code
  with_room : 0 + length (code_of d v) ≤ length (bits_that_count buffer)
  with_room = omega (arith, length-bits_that_count buffer, code_few d v dr small)

  -- the code is put at the front
  outcome : outcome_of (packed_paper packed) left ≡ accept (0 + length (code_of d v)) (bytes_with buffer 0 (code_of d v))
  outcome = p.outcome ∙ ap (λ (z : ℤ). pack_means buffer 0 z d) e ∙ packs buffer 0 v d (drop_is_known dr) small with_room

  -- it stands in the bytes
  leaves : left ≡ bytes_with buffer 0 (code_of d v)
  leaves = ap (λ (o : Outcome ℕ (List ℕ)). o.leaves) outcome

  -- the next position is the length of the code
  pub code_next : packed ≡ Ok (length (code_of d v))
  code_next =
      sym (off_on_paper not_packed packed)
      ∙ ap (λ (o : Outcome ℕ (List ℕ)). off_paper not_packed o.answer) outcome
      ∙ ap (λ (n : ℕ). Ok n) (zero-add (length (code_of d v)))

  -- the bytes are still four
  pub code_left : length left ≡ 4
  code_left = ap length leaves ∙ length-bytes_from (length buffer) (put_at (bits_of buffer) 0 (code_of d v)) ∙ four

  -- the first bits are the code
  code_bits : bit_text left (length (code_of d v)) ≡ code_text d v
  code_bits =
      ap (λ (l : List ℕ). bit_text l (length (code_of d v))) leaves
      ∙ ap (map (λ b. 48 + b))
      (put_stands buffer 0 (code_of d v) with_room (all_bits_shape d (shape_of_number d v) (number_valid greatest_place places d v dr small)))

  module _ {k : ℕ} (n : packed ≡ Ok k) where
    -- so many bits
    many : k ≡ length (code_of d v)
    many = let asked = code_next in cc

    -- what putting the bits asks
    pub code_asks : (at size : ℕ) → at + 32 ≤ size → (at + k ≤ size) × (k ≤ 32) × (length left ≡ 4)
    code_asks at size h = (omega (arith, many, code_few d v dr small), omega (arith, many, code_few d v dr small), code_left)

    -- the bits that were put are the code
    pub code_put : {room after : List ℕ} {at r : ℕ} → Put room at (bit_text left k) r after → Put room at (code_text d v) r after
    code_put {room} {after} {at} {r} q =
        subst (λ (l : List ℕ). Put room at l r after) (ap (bit_text left) many ∙ code_bits) q

-- ---- a line of a number

-- a space and a code are put
pub spaced_put : {room one after : List ℕ} {at m r d : ℕ} (w v : ℤ) → w ≡ v → nat_abs v ≤ largest → Drop d → at ≤ length room
    → Put room at (32 ∷ []) m one → Put one m (code_text d w) r after → (Put room at (32 ∷ code_text d v) r after) × (r ≤ at + 1 + longest_code greatest_place)
spaced_put {room} {one} {after} {at} {m} {r} {d} w v e small dr h p q =
    let all : Put room at (32 ∷ code_text d v) r after = subst (λ (z : ℤ). Put room at (32 ∷ code_text d z) r after) e (put_then p q (put_fits p h)) in
    (all, omega (arith, all.place, code_text_few d v dr small))

-- value, both codes and the newline are put
pub number_put : {room one two three after : List ℕ} {at k l m r : ℕ} (w v : ℤ) → w ≡ v → at ≤ length room
    → Put room at (value_text w) k one → Put one k (32 ∷ code_text 0 w) l two → Put two l (32 ∷ code_text 3 w) m three → Put three m (10 ∷ []) r after
    → Put room at (number_text v) r after
number_put {room} {one} {two} {three} {after} {at} {k} {l} {m} {r} w v e h a b c d =
    let fa = put_fits a h in
    let fb = put_fits b (omega (arith, a.place, a.long)) in
    let fc = put_fits c (omega (arith, a.place, a.long, b.place, b.long)) in
    subst (λ (z : ℤ). Put room at (number_text z) r after) e (put_then a (put_then b (put_then c d fc) fb) fa)
