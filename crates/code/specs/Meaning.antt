-- Packed codes, in document 01's words and order: a number has a shape, a shape has bits, bits are parsed to a shape, a shape has a value.
-- The limits follow from one number, the greatest place of a leading one (`top`), which is a parameter of what is read and of what is valid.
-- Assumes nothing.
use Rattle.std.specs.Prelude.{Bool, true, false, ◌&&◌, List, [], ◌∷◌, ◌++◌, ℕ, zero, suc, ◌+◌, ◌*◌, ◌-◌, ◌/◌, ◌%◌, ◌^◌, max, ℤ, pos, negsuc, neg_ℤ, nat_abs}
use Rattle.std.specs.Prelude.{length, take, drop, replicate, ltb, leb, eqb}
use Rattle.ground.specs.Choice.{pick}
use Rattle.ground.specs.Paper.{Paper, accepted, refused, refused_with, mapped}
use Rattle.ground.specs.Greatest.{least_from}
use Rattle.ground.specs.Outcome.{Outcome, accept, refuse}
use Rattle.ground.specs.Bits.{to_bits, bits_of}
use Rattle.ground.specs.Putting.{put}

-- "with drop 0 or 3"
abbrev pub drop_known : ℕ → Bool
drop_known d = pick (eqb d 0) true (eqb d 3)

-- the greatest place of a leading one, from which every limit of packed codes follows: that of the longest run, 12 ones, with the parity of an odd place
abbrev pub greatest_place : ℕ
greatest_place = 25

-- the largest magnitude whose leading one is not above a place
abbrev pub largest_to : ℕ → ℕ
largest_to top = 2 ^ suc top - 1

-- "|v| at most" 67,108,863: 2026-06, "Raise the packed limit to that"
abbrev pub largest : ℕ
largest = largest_to greatest_place

-- "j = (k-1)/2 rounded down": the ones in the code of a magnitude whose leading one is at place k
abbrev pub ones_of : ℕ → ℕ
ones_of k = (k - 1) / 2

-- "A reader that has seen" 13 "ones after the sign refuses": 2026-06, "11 now comes at the 13th one"; the longest run of ones that is taken
abbrev pub longest_run : ℕ → ℕ
longest_run top = ones_of top

-- the bits of the longest code: two for each one of the longest run, and five; 2026-06, "29 in all"
abbrev pub longest_code : ℕ → ℕ
longest_code top = 2 * longest_run top + 5

-- "m = 0 is `0`", and with drop 3 "m of 0 to 3 is `0`": the least magnitude that has a code of its own
abbrev pub least_coded : ℕ → ℕ
least_coded zero = 1
least_coded (suc d) = 4

-- the shape of a code: nought; small, under 16 (sign, field); led, from 16 on (sign, place of the leading one, field)
pub data Shape : Type 0 where
  nought : Shape
  small : ℕ → ℕ → Shape
  led : ℕ → ℕ → ℕ → Shape

-- "2^k ≤ m < 2^(k+1)": the place of the leading one, looked for over so many places
unfoldable pub leading_in : ℕ → ℕ → ℕ
leading_in zero m = zero
leading_in (suc places) m = pick (ltb m 2) zero (suc (leading_in places (m / 2)))

-- k, of a number of at most 32 bits
abbrev pub leading : ℕ → ℕ
leading m = leading_in 31 m

-- the bits below a leading one at place k that a code leaves out: one and the drop of 16 to 31, half of k and the drop from 32 on
abbrev pub left_out : ℕ → ℕ → ℕ
left_out d k = pick (eqb k 4) (1 + d) (k / 2 + d)

-- those that it has: "the three bits after the leading one", "the first j+1-drop bits after the leading one" (`width_four`, `width_is`)
abbrev pub width : ℕ → ℕ → ℕ
width d k = k - left_out d k

-- a magnitude whose leading one is at place k
abbrev pub led_of : ℕ → ℕ → ℕ → ℕ → Shape
led_of d s k m = led s k (m % 2 ^ k / 2 ^ left_out d k)

-- the shape of a sign and a magnitude, by document 01's three bullets
unfoldable pub shape_of : ℕ → ℕ → ℕ → Shape
shape_of d s m = pick (ltb m (least_coded d)) nought (pick (ltb m 16) (small s (m / 2 ^ d)) (led_of d s (leading m) m))

-- "`1 s`, j ones, `0`, then" what follows
abbrev pub coded : ℕ → ℕ → List ℕ → List ℕ
coded s ones after = 1 ∷ s ∷ (replicate ones 1 ++ (0 ∷ after))

-- "then 0 for odd k or 1 for even k", which 16 to 31 do without, and what follows
abbrev pub with_parity : ℕ → List ℕ → List ℕ
with_parity k after = pick (eqb k 4) after ((k - 1) % 2 ∷ after)

-- the bits of a shape, the third columns of tables 14 and 15 of 000
abbrev pub bits : ℕ → Shape → List ℕ
bits d nought = 0 ∷ []
bits d (small s x) = coded s 0 (to_bits (4 - d) x)
bits d (led s k x) = coded s (ones_of k) (with_parity k (to_bits (width d k) x))

-- "Decoding puts 0 for the first bit left out and 1 for the rest": a field, and so many bits left out after it
abbrev pub filled : ℕ → ℕ → ℕ
filled left x = x * 2 ^ left + (2 ^ (left - 1) - 1)

-- the decoded magnitude; "Drop 3, `1s00`: magnitude 5"
abbrev pub magnitude : ℕ → Shape → ℕ
magnitude d nought = 0
magnitude d (small s x) = pick (eqb d 3 && eqb x 0) 5 (filled d x)
magnitude d (led s k x) = 2 ^ k + filled (left_out d k) x

-- "A code's error is 0 for drop 0 and m under 16, 3 for drop 3's `0`, 4 for drop 3's 4 to 15, else 2^(d-1), d being the bits left out": the second columns
-- of tables 14 and 15 of 000
abbrev pub error : ℕ → Shape → ℕ
error d nought = pick (eqb d 0) 0 3
error d (small s x) = pick (eqb d 0) 0 4
error d (led s k x) = 2 ^ (left_out d k - 1)

-- the least magnitude that packs to a shape
abbrev pub lowest : ℕ → Shape → ℕ
lowest d nought = 0
lowest d (small s x) = max (least_coded d) (x * 2 ^ d)
lowest d (led s k x) = 2 ^ k + x * 2 ^ left_out d k

-- the greatest magnitude that packs to a shape
abbrev pub highest : ℕ → Shape → ℕ
highest d nought = least_coded d - 1
highest d (small s x) = x * 2 ^ d + (2 ^ d - 1)
highest d (led s k x) = 2 ^ k + (x * 2 ^ left_out d k + (2 ^ left_out d k - 1))

-- "s is 1 for negative"
abbrev pub sign_of : ℤ → ℕ
sign_of (pos n) = 0
sign_of (negsuc n) = 1

-- the number of a sign and a magnitude: negated back where the sign is 1
abbrev pub signed : ℕ → ℕ → ℤ
signed zero m = pos m
signed (suc s) m = neg_ℤ (pos m)

-- the sign that a shape holds; nought has none, and counts as plus
abbrev pub sign : Shape → ℕ
sign nought = 0
sign (small s x) = s
sign (led s k x) = s

-- the decoded number of a shape
abbrev pub value : ℕ → Shape → ℤ
value d shape = signed (sign shape) (magnitude d shape)

-- the shape of a number
abbrev pub shape_of_number : ℕ → ℤ → Shape
shape_of_number d v = shape_of d (sign_of v) (nat_abs v)

-- the code of a number
abbrev pub code_of : ℕ → ℤ → List ℕ
code_of d v = bits d (shape_of_number d v)

-- the number that a number's code decodes to
abbrev pub decoded : ℕ → ℤ → ℤ
decoded d v = value d (shape_of_number d v)

-- what reading bits finds: a shape and the bits after it, or why there is none
pub data Parsed : Type 0 where
  found : Shape → List ℕ → Parsed
  ran_out : Parsed
  redundant_zero : Parsed
  run_too_long : Parsed

-- the number that bits mean, the first counting most
abbrev pub from_bits : List ℕ → ℕ
from_bits [] = 0
from_bits (b ∷ l) = b * 2 ^ length l + from_bits l

-- a field of so many bits, and what is found by it
abbrev pub field : ℕ → (ℕ → List ℕ → Parsed) → List ℕ → Parsed
field w then l = pick (ltb (length l) w) ran_out (then (from_bits (take w l)) (drop w l))

-- a small field; "Drop 0's `1s00000` is refused by 10"
abbrev pub small_found : ℕ → ℕ → ℕ → List ℕ → Parsed
small_found d s x rest = pick (eqb d 0 && eqb x 0) redundant_zero (found (small s x) rest)

-- the field under a leading one; a place above the greatest is refused as a run that is too long: "or after 12 ones, a zero and a one"
abbrev pub led_then : ℕ → ℕ → ℕ → ℕ → List ℕ → Parsed
led_then top d s k l = pick (leb k top) (field (width d k) (λ x. found (led s k x)) l) run_too_long

-- the parity after j ones, which tells the place 2·j + 1 + parity, and what follows it
abbrev pub parity_then : ℕ → ℕ → ℕ → ℕ → List ℕ → Parsed
parity_then top d s ones [] = ran_out
parity_then top d s ones (p ∷ l) = led_then top d s (2 * ones + 1 + p) l

-- what follows the run of ones and its zero
abbrev pub after_run : ℕ → ℕ → ℕ → ℕ → List ℕ → Parsed
after_run top d s zero l = field (4 - d) (small_found d s) l
after_run top d s (suc zero) l = led_then top d s 4 l
after_run top d s (suc (suc ones)) l = parity_then top d s (suc (suc ones)) l

-- the run of ones and its zero, so many ones having been seen
unfoldable pub after_sign : ℕ → ℕ → ℕ → ℕ → List ℕ → Parsed
after_sign top d s ones [] = ran_out
after_sign top d s ones (zero ∷ l) = after_run top d s ones l
after_sign top d s ones (suc b ∷ l) = pick (ltb ones (longest_run top)) (after_sign top d s (suc ones) l) run_too_long

-- the shape that stands at the front of bits, as they arrive
unfoldable pub parse : ℕ → ℕ → List ℕ → Parsed
parse top d [] = ran_out
parse top d (zero ∷ l) = found nought l
parse top d (suc b ∷ []) = ran_out
parse top d (suc b ∷ (s ∷ l)) = after_sign top d s 0 l

-- whether what was found is an accepted code
abbrev pub is_code : Parsed → Bool
is_code (found shape rest) = true
is_code ran_out = false
is_code redundant_zero = false
is_code run_too_long = false

-- whether some list of so many bits, put after what was read, parses to a shape
unfoldable pub completed : ℕ → ℕ → List ℕ → ℕ → Bool
completed top d read zero = is_code (parse top d read)
completed top d read (suc n) = pick (completed top d (read ++ (0 ∷ [])) n) true (completed top d (read ++ (1 ∷ [])) n)

-- 2026-02, "the least number of further bits with which some accepted code could be completed from what was read"; no more than the longest code has
unfoldable pub missing : ℕ → ℕ → List ℕ → ℕ
missing top d read = least_from (completed top d read) (longest_code top) 0

-- "Bits from position 2^63 on count as past the end": the bits that count
unfoldable pub bits_that_count : List ℕ → List ℕ
bits_that_count bytes = take (2 ^ 63) (bits_of bytes)

-- what is read of a code: its sign, its decoded magnitude, its error, and "the next position"
pub record ShapeValues : Type 0 where
  pub sign : ℕ
  pub magnitude : ℕ
  pub error : ℕ
  pub next : ℕ

-- the same, of a shape
abbrev pub values_of : ℕ → Shape → ℕ → ShapeValues
values_of d shape next = record { sign = sign shape; magnitude = magnitude d shape; error = error d shape; next = next }

-- the answer to what was found in the bits from a position on: 9, 10, 11 as bits arrive; 2026-02, "Refusal 9 shall carry the least number of further bits"
abbrev pub answer_of : ℕ → ℕ → ℕ → List ℕ → Parsed → Paper ShapeValues
answer_of top d at read (found shape rest) = accepted (values_of d shape (at + length (bits d shape)))
answer_of top d at read ran_out = refused_with 9 (missing top d read)
answer_of top d at read redundant_zero = refused 10
answer_of top d at read run_too_long = refused 11

-- the answer to the bits from a position on
abbrev pub answer_to : ℕ → ℕ → ℕ → List ℕ → Paper ShapeValues
answer_to top d at read = answer_of top d at read (parse top d read)

-- past the end, or from 2^63 on; "at the end exactly, under 2^63," is not: there bits run out as they arrive
abbrev pub past_end : ℕ → ℕ → Bool
past_end end at = pick (ltb end at) true (leb (2 ^ 63) at)

-- "A bit position past the end is refused by 9 on reading"; 2026-02, "from any other position past the end, 0"
abbrev pub position_means : ℕ → List ℕ → ℕ → ℕ → Paper ShapeValues
position_means top bytes at d =
    pick (past_end (length (bits_that_count bytes)) at) (refused_with 9 0) (answer_to top d at (drop at (bits_that_count bytes)))

-- reading a shape: "drop 8 first, then 9, 10, 11 as bits arrive"
abbrev pub shape_means : List ℕ → ℕ → ℕ → Paper ShapeValues
shape_means bytes at d = pick (drop_known d) (position_means greatest_place bytes at d) (refused 8)

-- an accepted reading: the number, and "the next position"
pub record UnpackValues : Type 0 where
  pub value : ℤ
  pub next : ℕ

-- the number of what was read
abbrev pub number_read : ShapeValues → UnpackValues
number_read v = record { value = signed v.sign v.magnitude; next = v.next }

-- reading a number: that of the shape that was read
abbrev pub unpack_means : List ℕ → ℕ → ℕ → Paper UnpackValues
unpack_means bytes at d = mapped number_read (shape_means bytes at d)

-- a number and a drop inside the rule
abbrev pub in_rule : ℤ → ℕ → Bool
in_rule v d = drop_known d && leb (nat_abs v) largest

-- how many bits there are from a position to the end of its byte; none where a byte ends there
abbrev pub to_byte_end : ℕ → ℕ
to_byte_end at = (8 - at % 8) % 8

-- a code and zeros for "the rest of its last byte"
abbrev pub padded : ℕ → List ℕ → List ℕ
padded at code = code ++ replicate (to_byte_end (at + length code)) 0

-- "sets the rest of its last byte to 0 and changes no other bit"
abbrev pub put_at : List ℕ → ℕ → List ℕ → List ℕ
put_at old at code = put old at (padded at code)

-- so many bytes, from their bits
unfoldable pub bytes_from : ℕ → List ℕ → List ℕ
bytes_from zero l = []
bytes_from (suc n) l = from_bits (take 8 l) ∷ bytes_from n (drop 8 l)

-- bytes with a code put at a bit position
abbrev pub bytes_with : List ℕ → ℕ → List ℕ → List ℕ
bytes_with buffer at code = bytes_from (length buffer) (put_at (bits_of buffer) at code)

-- a code lies between a position and the end
abbrev pub fits_at : List ℕ → ℕ → List ℕ → Bool
fits_at buffer at code = leb (at + length code) (length (bits_that_count buffer))

-- "Writing puts a code at a bit position": the next position and the code at its place; 3 where it does not fit
abbrev pub place_means : List ℕ → ℕ → List ℕ → Outcome ℕ (List ℕ)
place_means buffer at code = pick (fits_at buffer at code) (accept (at + length code) (bytes_with buffer at code)) (refuse 3 buffer)

-- writing a number: "8 then 3", else its code is put
abbrev pub pack_means : List ℕ → ℕ → ℤ → ℕ → Outcome ℕ (List ℕ)
pack_means buffer at v d = pick (in_rule v d) (place_means buffer at (code_of d v)) (refuse 8 buffer)
