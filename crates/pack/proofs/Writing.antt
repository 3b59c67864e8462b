-- Laws that the proofs of writing cite: a code's bits as a number, and bits put into bytes.
-- Assumes nothing.
use mathlib.Core.Path.{◌≡◌, refl, sym, ap, ap₂, ◌∙◌, subst}
use mathlib.Core.Bool.{Bool, true, false}
use mathlib.Core.List.{List, [], ◌∷◌, ◌++◌, append_assoc}
use Prim.Native.Nat.{ℕ, zero, suc, ◌+◌, ◌*◌, ◌-◌, ◌/◌, ◌%◌, ◌^◌, ◌<◌, ◌≤◌}
use native.Mathlib.Nat.{mod-eq_of_lt, mod-lt, suc-add, zero-add}
use native.Mathlib.Omega.{arith}
use lib.Count.{count_leading_zeros, leading_top}
use lib.ListN.{length, length-append, take, drop, get_or, set, replicate}
use lib.Seq.{take_at, drop_at, length-take-le, take-append-le}
use lib.Pow.{pow_pos, pow_mono, split, ones_lt, shr-shr}
use lib.Dec.{ltb}
use borrow.Author.Tests.{lt-ltb, le-ltb, le-leb, ltb-true, ltb-false}
use mir.Syntax.{w64}
use mir.Val.{Fits}
use Rattle.ground.specs.Choice.{pick}
use Rattle.ground.specs.Outcome.{accept, refuse}
use Rattle.ground.specs.Bits.{to_bits, bits_of}
use Rattle.ground.specs.Putting.{put, put_next}
use Rattle.code.specs.Meaning.{nought, small, bits, coded, shape_of, led_of, leading, left_out, width, least_coded, to_byte_end}
use Rattle.code.specs.Meaning.{bits_that_count, largest, greatest_place}
use Rattle.code.specs.Meaning.{padded, bytes_from, bytes_with, fits_at, place_means}
use Rattle.code.specs.BitLists.{length-to_bits, length-bits_of, to_bits_low, to_bits_join, to_bits_ones}
use Rattle.ground.specs.Bytes.{Bytes}
use Rattle.code.specs.Positions.{length-bits_that_count, bytes_back}
use Rattle.code.specs.Magnitudes.{leading_is, exponent_lt, high_lt, field_lt}
use Rattle.code.specs.Shapes.{Drop, below_led}
use Rattle.code.specs.Numbers.{shift_is}
use Rattle.pack.specs.Steps.{byte_bits, PlacePromise}
use Rattle.std.specs.Prelude.{Ok}

-- ---- a code's bits as a number

-- the place of the leading one, as the count of zeros above it gives it
pub leading_zeros : (m : ℕ) → 16 ≤ m → m ≤ largest
    → (31 - count_leading_zeros 32 m ≡ leading m) × (4 ≤ 31 - count_leading_zeros 32 m) × (31 - count_leading_zeros 32 m ≤ greatest_place)
leading_zeros m a b =
    let o = leading_top 32 m (omega arith) (omega arith) in
    let j : ℕ = o.0 in
    let e : 31 - count_leading_zeros 32 m ≡ j = omega (arith, o.1) in
    let low : 4 < suc j = exponent_lt 4 (suc j) a o.3 in
    let top : j < suc greatest_place = exponent_lt j (suc greatest_place) o.2 (omega arith) in
    (e ∙ sym (leading_is 31 j m (omega arith) o.2 o.3), omega arith, omega arith)

-- a power of two less one, as the code computes it
pub ones_are : (k : ℕ) → k ≤ 30 → (1 * 2 ^ k % 2 ^ 64 - 1 ≡ 2 ^ k - 1) × (1 * 2 ^ k % 2 ^ 64 - 1 < 2 ^ k)
ones_are k h =
    let e = ap (λ (n : ℕ). n - 1) (shift_is k 64 (omega arith)) in
    (e, subst (λ (n : ℕ). n < 2 ^ k) (sym e) (ones_lt k))

-- joined bits lie in their widths together
pub join_is : (number count more width : ℕ) → number < 2 ^ count → more < 2 ^ width → count + width ≤ 40
    → (number * 2 ^ width % 2 ^ 64 + more ≡ number * 2 ^ width + more) × (number * 2 ^ width % 2 ^ 64 + more < 2 ^ (count + width))
join_is number count more width a b h =
    let whole : number * 2 ^ width + more < 2 ^ (count + width) = field_lt count width (count + width) a b refl in
    let under : 2 ^ (count + width) ≤ 2 ^ 40 = pow_mono {i = count + width} {j = 40} h in
    let e : number * 2 ^ width % 2 ^ 64 ≡ number * 2 ^ width = mod-eq_of_lt (omega arith) in
    let f = ap (λ (n : ℕ). n + more) e in
    (f, subst (λ (n : ℕ). n < 2 ^ (count + width)) (sym f) whole)

-- and in 64 bits
pub join_fits : (number count more width : ℕ) → number < 2 ^ count → more < 2 ^ width → count + width ≤ 40
    → Fits w64 (number * 2 ^ width % 2 ^ 64 + more)
join_fits number count more width a b h =
    let o = join_is number count more width a b h in
    record { fits = omega (arith, o.1, pow_mono {i = count + width} {j = 40} h) }

-- the last bits of a number are those of its rest
to_bits-rest : (w x : ℕ) → to_bits w (x % 2 ^ w) ≡ to_bits w x
to_bits-rest w x = sym (to_bits_low w (x / 2 ^ w) (x % 2 ^ w)) ∙ ap (to_bits w) (split x w)

-- so many ones
pub ones_held : (count : ℕ) {l : List ℕ} → count ≤ 30 → l ≡ to_bits count (1 * 2 ^ count % 2 ^ 64 - 1) → l ≡ replicate count 1
ones_held count h e = e ∙ ap (to_bits count) (ones_are count h).0 ∙ to_bits_ones count

-- the last bits of a number
pub last_is : (number count : ℕ) {l : List ℕ} → count ≤ 40 → l ≡ to_bits count (number % (1 * 2 ^ count % 2 ^ 64)) → l ≡ to_bits count number
last_is number count h e = e ∙ ap (λ (n : ℕ). to_bits count (number % n)) (shift_is count 64 (omega arith)) ∙ to_bits-rest count number

-- as many bits are held as were counted
pub held_length : (count number : ℕ) {l : List ℕ} → to_bits count number ≡ l → count ≡ length l
held_length count number e = sym (length-to_bits count number) ∙ ap length e

module _ (number count more width : ℕ) {k l : List ℕ} (a : number < 2 ^ count) (b : more < 2 ^ width) (p : to_bits count number ≡ k)
    (q : to_bits width more ≡ l)
    (few : length k + length l ≤ 40) where
  -- so many bits
  together : count + width ≤ 40
  together = omega (arith, held_length count number p, held_length width more q)

  -- bits with more after them fit a number
  pub then_fits : Fits w64 (number * 2 ^ width % 2 ^ 64 + more)
  then_fits = join_fits number count more width a b together

  -- that so many bits hold
  pub then_held : (number * 2 ^ width % 2 ^ 64 + more < 2 ^ (count + width)) × (count + width ≤ 40)
  then_held = ((join_is number count more width a b together).1, together)

  -- and they are these
  pub then_is : to_bits (count + width) (number * 2 ^ width % 2 ^ 64 + more) ≡ k ++ l
  then_is = ap (to_bits (count + width)) (join_is number count more width a b together).0 ∙ to_bits_join count width number more b ∙ ap₂ ◌++◌ p q

-- ---- the shape of a magnitude, where the tests say which

-- a magnitude under the least coded one
pub shape_nought : (d s m : ℕ) → m < least_coded d → shape_of d s m ≡ nought
unfolding shape_of
shape_nought d s m h = rw (lt-ltb m (least_coded d) h)

-- a magnitude under 16
pub shape_small : (d s m : ℕ) → least_coded d ≤ m → m < 16 → shape_of d s m ≡ small s (m / 2 ^ d)
unfolding shape_of
shape_small d s m a h = rw (le-ltb m (least_coded d) a, lt-ltb m 16 h)

-- a magnitude from 16 on
pub shape_led : (d s m : ℕ) → least_coded d ≤ m → 16 ≤ m → shape_of d s m ≡ led_of d s (leading m) m
unfolding shape_of
shape_led d s m a b = rw (le-ltb m (least_coded d) a, le-ltb m 16 b)

-- ---- bits put into bytes

-- a number's bits are its first ones and its last ones
to_bits_split : (a b x : ℕ) → to_bits (a + b) x ≡ to_bits a (x / 2 ^ b) ++ to_bits b x
to_bits_split zero b x = ap (λ (k : ℕ). to_bits k x) (zero-add b)
to_bits_split (suc a) b x =
    let turn : a + b ≡ b + a = omega arith in
    ap (λ (k : ℕ). to_bits k x) (suc-add a b)
    ∙ ap₂ ◌∷◌ (ap (λ (k : ℕ). k % 2) (ap (λ (k : ℕ). x / 2 ^ k) turn ∙ sym (shr-shr x b a))) (to_bits_split a b x)

-- the bits of a number's last byte
byte_rest : (number : ℕ) → byte_bits (number % 256) ≡ to_bits 8 number
unfolding byte_bits
byte_rest number = to_bits-rest 8 number

module _ (byte room number top : ℕ) (small_byte : byte < 256) (in_byte : room ≤ 8) (fits : number < 2 ^ room) (top_is : top ≡ byte / 2 ^ room * 2 ^ room) where
  -- a byte whose last bits are replaced
  whole : top + number ≡ byte / 2 ^ room * 2 ^ room + number
  whole = ap (λ (n : ℕ). n + number) top_is

  -- is a byte
  pub filled_lt : top + number < 256
  filled_lt =
      subst (λ (n : ℕ). n < 256) (sym whole)
      (field_lt (8 - room) room 8 (high_lt (8 - room) room 8 small_byte (omega arith)) fits (omega arith))

  -- with the first bits of the byte and those of the number
  pub filled_bits : byte_bits (top + number) ≡ take (8 - room) (byte_bits byte) ++ to_bits room number
  unfolding byte_bits
  filled_bits =
      let place : ℕ = 8 - room in
      let eight : 8 ≡ place + room = omega arith in
      let first : List ℕ = to_bits place (byte / 2 ^ room) in
      ap₂ (λ (n x : ℕ). to_bits n x) eight whole
      ∙ to_bits_join place room (byte / 2 ^ room) number fits
      ∙ ap (λ (k : List ℕ). k ++ to_bits room number)
      (sym (ap (λ (n : ℕ). take place (to_bits n byte)) eight
      ∙ ap (take place) (to_bits_split place room byte)
      ∙ take_at first (to_bits room byte) place (length-to_bits place (byte / 2 ^ room))))

-- the first of bits, as many as there is room for
pub first_lt : (number count left room : ℕ) → number < 2 ^ count → count ≡ room + left → number / 2 ^ left < 2 ^ room
first_lt number count left room h e = high_lt room left count h (sym e)

-- bits put beyond the first list are put in the second
put_append_add : (xs ys : List ℕ) (n : ℕ) (zs : List ℕ) → put (xs ++ ys) (length xs + n) zs ≡ xs ++ put ys n zs
put_append_add [] ys n zs = ap (λ (k : ℕ). put ys k zs) (zero-add n)
put_append_add (x ∷ xs) ys n zs =
    let k : ℕ = length xs + n in
    ap (λ (m : ℕ). put (x ∷ (xs ++ ys)) m zs) (suc-add (length xs) n)
    ∙ ap (λ (m : ℕ). x ∷ (take k (xs ++ ys) ++ (zs ++ drop m (x ∷ (xs ++ ys))))) (suc-add k (length zs))
    ∙ ap (λ (l : List ℕ). x ∷ l) (put_append_add xs ys n zs)

-- bits put up to the end of the first list leave the second
put_append_end : (xs ys : List ℕ) (n : ℕ) (zs : List ℕ) → length xs ≡ n + length zs → put (xs ++ ys) n zs ≡ (take n xs ++ zs) ++ ys
put_append_end xs ys n zs e =
    ap₂ (λ (k l : List ℕ). k ++ (zs ++ l)) (take-append-le n xs ys (omega arith)) (drop_at xs ys (n + length zs) e)
    ∙ sym (append_assoc (take n xs) zs ys)

-- a byte stored with its last bits replaced is those bits put among the bits
set_bits_of : (bytes : List ℕ) (i r number : ℕ) → i < 8 * length bytes
    → byte_bits r ≡ take (i % 8) (byte_bits (get_or bytes (i / 8) 0)) ++ to_bits (8 - i % 8) number
    → bits_of (set bytes (i / 8) r) ≡ put (bits_of bytes) i (to_bits (8 - i % 8) number)
unfolding byte_bits
set_bits_of [] i r number h e = absurd (omega arith)
set_bits_of (b ∷ bytes) i r number h e = go (λ n k f. set_bits_of bytes n r number k f) (ltb i 8) refl
  where
    go : ((n : ℕ) → n < 8 * length bytes → byte_bits r ≡ take (n % 8) (byte_bits (get_or bytes (n / 8) 0)) ++ to_bits (8 - n % 8) number
        → bits_of (set bytes (n / 8) r) ≡ put (bits_of bytes) n (to_bits (8 - n % 8) number))
        → (t : Bool) → ltb i 8 ≡ t → bits_of (set (b ∷ bytes) (i / 8) r) ≡ put (to_bits 8 b ++ bits_of bytes) i (to_bits (8 - i % 8) number)
    go ih true t =
        let low : i < 8 = ltb-true i 8 t in
        let q : i / 8 ≡ 0 = omega arith in
        let m : i % 8 ≡ i = omega arith in
        let new : List ℕ = to_bits (8 - i % 8) number in
        ap (λ (n : ℕ). bits_of (set (b ∷ bytes) n r)) q
        ∙ ap (λ (k : List ℕ). k ++ bits_of bytes)
        (e ∙ ap₂ (λ (n k : ℕ). take k (byte_bits (get_or (b ∷ bytes) n 0)) ++ new) q m)
        ∙ sym (put_append_end (to_bits 8 b) (bits_of bytes) i new (omega (arith, length-to_bits (8 - i % 8) number)))
    go ih false t =
        let over : 8 ≤ i = ltb-false i 8 t in
        let n : ℕ = i - 8 in
        let f : i ≡ 8 + n = omega arith in
        let q : i / 8 ≡ suc (n / 8) = omega arith in
        let m : i % 8 ≡ n % 8 = omega arith in
        let same : to_bits (8 - i % 8) number ≡ to_bits (8 - n % 8) number = ap (λ (k : ℕ). to_bits (8 - k) number) m in
        ap (λ (k : ℕ). bits_of (set (b ∷ bytes) k r)) q
        ∙ ap (λ (k : List ℕ). to_bits 8 b ++ k)
        (ih n (omega arith) (e ∙ ap₂ (λ (j k : ℕ). take k (byte_bits (get_or (b ∷ bytes) j 0)) ++ to_bits (8 - k) number) q m))
        ∙ sym (ap₂ (λ (k : ℕ) (l : List ℕ). put (to_bits 8 b ++ bits_of bytes) k l) f same
        ∙ put_append_add (to_bits 8 b) (bits_of bytes) n (to_bits (8 - n % 8) number))

-- the byte at a position, stored with as many of its last bits replaced as it has room for
pub part_stored : (bytes : List ℕ) (i byte room r number : ℕ) → i < 8 * length bytes → byte ≡ get_or bytes (i / 8) 0 → room ≡ 8 - i % 8
    → byte_bits r ≡ take (8 - room) (byte_bits byte) ++ to_bits room number
    → bits_of (set bytes (i / 8) r) ≡ put (bits_of bytes) i (to_bits (8 - i % 8) number)
part_stored bytes i byte room r number h p q e =
    let before : 8 - room ≡ i % 8 = omega arith in
    set_bits_of bytes i r number h
    (e
    ∙ ap₂ (λ (n k : ℕ). take n (byte_bits k) ++ to_bits room number) before p
    ∙ ap (λ (n : ℕ). take (i % 8) (byte_bits (get_or bytes (i / 8) 0)) ++ to_bits n number) q)

-- a whole byte stored
pub byte_stored : (bytes : List ℕ) (i number : ℕ) → i < length bytes → bits_of (set bytes i (number % 256)) ≡ put (bits_of bytes) (8 * i) (to_bits 8 number)
byte_stored bytes i number h =
    let place : 8 * i / 8 ≡ i = omega arith in
    let front : 8 * i % 8 ≡ 0 = omega arith in
    sym (ap (λ (n : ℕ). bits_of (set bytes n (number % 256))) place)
    ∙ set_bits_of bytes (8 * i) (number % 256) number (omega arith)
    (byte_rest number ∙ sym (ap (λ (n : ℕ). take n (byte_bits (get_or bytes (8 * i / 8) 0)) ++ to_bits (8 - n) number) front))
    ∙ ap (λ (n : ℕ). put (bits_of bytes) (8 * i) (to_bits (8 - n) number)) front

-- bytes of one length count as many bits
pub same_bits_count : (a b : List ℕ) → length a ≡ length b → length (bits_that_count a) ≡ length (bits_that_count b)
same_bits_count a b e = omega (arith, length-bits_that_count a, length-bits_that_count b)

-- bits put after bits that were put
put_after : (l : List ℕ) (at here : ℕ) (a b : List ℕ) → at ≤ length l → here ≡ at + length a → put (put l at a) here b ≡ put l at (a ++ b)
put_after l at here a b h e =
    let p : List ℕ = take at l ++ a in
    let long : length p ≡ here = length-append (take at l) a ∙ ap (λ (n : ℕ). n + length a) (length-take-le at l h) ∙ sym e in
    let end : here + length b ≡ at + length (a ++ b) = omega (arith, e, length-append a b) in
    ap (λ (k : List ℕ). put k here b) (sym (append_assoc (take at l) a (drop (at + length a) l)) ∙ ap (λ (n : ℕ). p ++ drop n l) (sym e))
    ∙ put_next p l b here long
    ∙ ap (λ (n : ℕ). (p ++ b) ++ drop n l) end
    ∙ ap (λ (k : List ℕ). k ++ drop (at + length (a ++ b)) l) (append_assoc (take at l) a b)
    ∙ append_assoc (take at l) (a ++ b) (drop (at + length (a ++ b)) l)

-- one turn of putting bits
pub put_turn : (old now last : List ℕ) (at count number here left room rest : ℕ) → at + count ≤ length (bits_that_count old) → left ≤ count
    → here ≡ at + (count - left) → left ≡ rest + room
    → bits_of now ≡ put (bits_of old) at (to_bits (count - left) (number / 2 ^ left))
    → bits_of last ≡ put (bits_of now) here (to_bits room (number / 2 ^ rest))
    → bits_of last ≡ put (bits_of old) at (to_bits (count - rest) (number / 2 ^ rest))
put_turn old now last at count number here left room rest fits few place parts inv e =
    let l : List ℕ = bits_of old in
    let first : List ℕ = to_bits (count - left) (number / 2 ^ left) in
    let next : List ℕ = to_bits room (number / 2 ^ rest) in
    let many : count - rest ≡ count - left + room = omega arith in
    let same : number / 2 ^ rest / 2 ^ room ≡ number / 2 ^ left = shr-shr number rest room ∙ ap (λ (n : ℕ). number / 2 ^ n) (sym parts) in
    let joined : first ++ next ≡ to_bits (count - rest) (number / 2 ^ rest)
    = sym (ap (λ (n : ℕ). to_bits n (number / 2 ^ rest)) many
    ∙ to_bits_split (count - left) room (number / 2 ^ rest)
    ∙ ap (λ (n : ℕ). to_bits (count - left) n ++ next) same) in
    e
    ∙ ap (λ (k : List ℕ). put k here next) inv
    ∙ put_after l at here first next (omega (arith, length-bits_that_count old, length-bits_of old))
    (omega (arith, place, length-to_bits (count - left) (number / 2 ^ left)))
    ∙ ap (put l at) joined

-- bits put in two parts
pub put_both : (old now last : List ℕ) (at here number count room rest : ℕ) → at + count ≤ length (bits_that_count old) → here ≡ at + room → count ≡ rest + room
    → bits_of now ≡ put (bits_of old) at (to_bits room (number / 2 ^ rest)) → bits_of last ≡ put (bits_of now) here (to_bits rest number)
    → bits_of last ≡ put (bits_of old) at (to_bits count number)
put_both old now last at here number count room rest fits place parts e f =
    let first : List ℕ = to_bits room (number / 2 ^ rest) in
    let many : room + rest ≡ count = omega arith in
    f
    ∙ ap (λ (k : List ℕ). put k here (to_bits rest number)) e
    ∙ put_after (bits_of old) at here first (to_bits rest number) (omega (arith, length-bits_that_count old, length-bits_of old))
    (place ∙ ap (λ (n : ℕ). at + n) (sym (length-to_bits room (number / 2 ^ rest))))
    ∙ ap (put (bits_of old) at) (sym (to_bits_split room rest number) ∙ ap (λ (n : ℕ). to_bits n number) many)

-- ---- the code of a magnitude from 16 on

module _ (d s m k left x : ℕ) (place : k ≡ leading m) (left_is : left ≡ left_out d k) (x_is : x ≡ m % 2 ^ k / 2 ^ left) where
  -- it lies in its width
  pub field_fits : Drop d → 4 ≤ k → x < 2 ^ (k - left)
  field_fits dr four =
      let b = below_led k dr four in
      subst (λ (n : ℕ). n < 2 ^ (k - left)) (sym x_is) (high_lt (k - left) left k (mod-lt m (pow_pos k)) (omega (arith, b.all)))

module _ (d s m : ℕ) {l : List ℕ} where
  -- nought is one bit
  pub nought_code : m < least_coded d → l ≡ 0 ∷ [] → (l ≡ bits d (shape_of d s m)) × (length l ≤ 33)
  nought_code h e = (e ∙ ap (bits d) (sym (shape_nought d s m h)), omega (arith, ap length e))

  -- the code of a small magnitude
  pub small_code : {least : ℕ} → least ≡ least_coded d → least ≤ m → m < 16 → (l ≡ coded s 0 (to_bits (4 - d) (m / 2 ^ d))) × (length l ≤ 33)
      → (l ≡ bits d (shape_of d s m)) × (length l ≤ 33)
  small_code e a h p = (p.0 ∙ ap (bits d) (sym (shape_small d s m (omega arith) h)), p.1)

  -- the code of a magnitude from 16 on
  pub led_code : {least : ℕ} → least ≡ least_coded d → least ≤ m → 16 ≤ m → (l ≡ bits d (led_of d s (leading m) m)) × (length l ≤ 33)
      → (l ≡ bits d (shape_of d s m)) × (length l ≤ 33)
  led_code e a b p = (p.0 ∙ ap (bits d) (sym (shape_led d s m (omega arith) b)), p.1)

-- ---- bits placed in a buffer

-- putting bits, by whether they fit
place_by : (buffer : List ℕ) (at : ℕ) (l : List ℕ) {t : Bool} → fits_at buffer at l ≡ t
    → place_means buffer at l ≡ pick t (accept (at + length l) (bytes_with buffer at l)) (refuse 3 buffer)
place_by buffer at l e = ap (λ (b : Bool). pick b (accept (at + length l) (bytes_with buffer at l)) (refuse 3 buffer)) e

-- they fit
pub place_there : (buffer last : List ℕ) (at : ℕ) (l new zeros : List ℕ) (end count pad : ℕ) → end ≡ length (bits_that_count buffer) → count ≡ length l
    → at + count ≤ end → pad ≡ to_byte_end (at + count) → zeros ≡ replicate pad 0 → new ≡ l ++ zeros → length last ≡ length buffer → Bytes last
    → bits_of last ≡ put (bits_of buffer) at new → PlacePromise buffer at l (Ok (at + count)) last
place_there buffer last at l new zeros end count pad e n h p z q same ok wrote =
    let t : fits_at buffer at l ≡ true = le-leb (at + length l) (length (bits_that_count buffer)) (omega arith) in
    let code : new ≡ padded at l
    = q ∙ ap (λ (k : List ℕ). l ++ k) (z ∙ ap (λ (i : ℕ). replicate i 0) (p ∙ ap (λ (i : ℕ). to_byte_end (at + i)) n)) in
    let bytes : last ≡ bytes_with buffer at l
    = sym (bytes_back last ok) ∙ ap₂ (λ (i : ℕ) (k : List ℕ). bytes_from i k) same (wrote ∙ ap (put (bits_of buffer) at) code) in
    record {
      outcome =
          ap₂ (λ (i : ℕ) (k : List ℕ). accept (at + i) k) n bytes
          ∙ sym (place_by buffer at l t);
    }

-- ---- a number packed

-- ---- a field of a number
