-- An item's word with every field another number, results in the four formats, and what is sent of them, by computing.
-- Assumes nothing.
use Rattle.std.specs.Prelude.{◌≡◌, refl, true, false, List, [], ◌∷◌, ◌++◌, ℕ, ◌+◌, ◌-◌, ◌^◌}
use Rattle.std.specs.Int.Count.{count_leading_zeros}
use Rattle.ground.specs.Bits.{to_bits}
use Rattle.ground.specs.Outcome.{accept, refuse}
use Rattle.ground.specs.Paper.{Paper, accepted, refused}
use Rattle.code.specs.Meaning.{shape_of, leading_in, bytes_from, bits_that_count}
use Rattle.logarithm.specs.Meaning.{twice_to_eighth}
use Rattle.item.specs.Meaning.{window_of, plain_of, adds_of, sends_of, comp_of, format_bits, item_bits, bytes_of_bits, send_means}

-- ---- the fields

-- ystride 1, ysize 2, xsize 3, res 4, enc 5, sum 6, c, no t, a, comp 10, address 7
abbrev word : ℕ
word = 0b0000000000000001_00000010_00000011_100_101_110_1_0_1_10_000000000000000111

-- its window
word_window : window_of word ≡ record { address = 7; xsize = 3; ysize = 2; ystride = 1; clear = true }
unfolding window_of
word_window = refl

-- its other fields
word_fields : (plain_of word ≡ false) × (adds_of word ≡ true) × (sends_of word ≡ false) × (comp_of word ≡ 2)
unfolding plain_of adds_of sends_of comp_of
word_fields = (refl, refl, refl, refl)

-- with every field full
word_full : window_of (2 ^ 64 - 1) ≡ record { address = 262143; xsize = 255; ysize = 255; ystride = 65535; clear = true }
unfolding window_of
word_full = refl

-- one of sum, res and enc that is 1 is enough to be refused
one_is_enough : (plain_of (2 ^ 23) ≡ false) × (plain_of (2 ^ 26) ≡ false) × (plain_of (2 ^ 29) ≡ false) × (plain_of (2 ^ 32 + 2 ^ 22) ≡ true)
unfolding plain_of
one_is_enough = (refl, refl, refl, refl)

-- ---- the four formats

-- a result in comp 00, 01, 10 and 11
abbrev in_formats : ℕ → List (Paper (List ℕ))
in_formats r = format_bits 0 r ∷ format_bits 1 r ∷ format_bits 2 r ∷ format_bits 3 r ∷ []

-- so many bits
abbrev sent : ℕ → ℕ → Paper (List ℕ)
sent width x = accepted (to_bits width x)

-- 12
abbrev too_large : Paper (List ℕ)
too_large = refused 12

-- nothing
nought : in_formats 0 ≡ sent 16 0b0000000000000000 ∷ sent 8 0b00000000 ∷ sent 24 0b000000000000000000000000 ∷ sent 1 0b0 ∷ []
unfolding format_bits count_leading_zeros twice_to_eighth shape_of leading_in
nought = refl

-- a hundred
hundred : in_formats 100 ≡ sent 16 0b0000000001100100 ∷ sent 8 0b00111101 ∷ sent 24 0b000000000000000001100100 ∷ sent 9 0b101101100 ∷ []
unfolding format_bits count_leading_zeros twice_to_eighth shape_of leading_in
hundred = refl

-- up to 8,191 each count has a 16-bit float of its own
exact : in_formats 8191 ≡ sent 16 0b0001111111111111 ∷ sent 8 0b01101111 ∷ sent 24 0b000000000001111111111111 ∷ sent 15 0b101111101111111 ∷ []
unfolding format_bits count_leading_zeros twice_to_eighth shape_of leading_in
exact = refl

-- a count between two 16-bit floats, which takes the lower one
between : in_formats 8193 ≡ sent 16 0b0010000000000000 ∷ sent 8 0b01110000 ∷ sent 24 0b000000000010000000000001 ∷ sent 17 0b10111111000000000 ∷ []
unfolding format_bits count_leading_zeros twice_to_eighth shape_of leading_in
between = refl

-- the last 24-bit integer
last_integer : in_formats 16777215
    ≡ sent 16 0b1100111111111111 ∷ sent 8 0b11000111 ∷ sent 24 0b111111111111111111111111 ∷ sent 27 0b101111111111100111111111111 ∷ []
unfolding format_bits count_leading_zeros twice_to_eighth shape_of leading_in
last_integer = refl

-- the first count past it: 12 in comp 10 alone
past_integer : in_formats 16777216 ≡ sent 16 0b1101000000000000 ∷ sent 8 0b11001000 ∷ too_large ∷ sent 27 0b101111111111101000000000000 ∷ []
unfolding format_bits count_leading_zeros twice_to_eighth shape_of leading_in
past_integer = refl

-- the last packed count
last_packed : in_formats 67108863 ≡ sent 16 0b1110111111111111 ∷ sent 8 0b11010111 ∷ too_large ∷ sent 29 0b10111111111111001111111111111 ∷ []
unfolding format_bits count_leading_zeros twice_to_eighth shape_of leading_in
last_packed = refl

-- the first count past it: 12 in comp 10 and 11
past_packed : in_formats 67108864 ≡ sent 16 0b1111000000000000 ∷ sent 8 0b11011000 ∷ too_large ∷ too_large ∷ []
unfolding format_bits count_leading_zeros twice_to_eighth shape_of leading_in
past_packed = refl

-- the first count past the 16-bit float: only the logarithm byte takes it
past_float : in_formats 134217728 ≡ too_large ∷ sent 8 0b11100000 ∷ too_large ∷ too_large ∷ []
unfolding format_bits count_leading_zeros twice_to_eighth shape_of leading_in
past_float = refl

-- the first count past the logarithm byte: 12 in all four
past_all : in_formats 2147483648 ≡ too_large ∷ too_large ∷ too_large ∷ too_large ∷ []
unfolding format_bits count_leading_zeros twice_to_eighth shape_of leading_in
past_all = refl

-- ---- items

-- an item with t and comp 11, and one with neither
sent_or_not : (item_bits (2 ^ 21 + 2 ^ 19 + 2 ^ 18) 100 ≡ sent 9 0b101101100) × (item_bits 0 (2 ^ 40) ≡ accepted [])
unfolding item_bits format_bits sends_of comp_of shape_of leading_in
sent_or_not = (refl, refl)

-- 100 as a packed code at bit 5 of zeros
sends_hundred : send_means (0b10101000 ∷ 0 ∷ 0 ∷ []) 5 (2 ^ 21 + 2 ^ 19 + 2 ^ 18) 100 ≡ accept 14 (0b10101101 ∷ 0b10110000 ∷ 0 ∷ [])
unfolding send_means format_bits sends_of comp_of shape_of leading_in bytes_from bits_that_count
sends_hundred = refl

-- 12 comes before 3
large_before_short : send_means [] 0 (2 ^ 21) (2 ^ 27) ≡ refuse 12 []
unfolding send_means format_bits sends_of comp_of bits_that_count count_leading_zeros
large_before_short = refl

-- five bits and nine are two bytes
two_bytes : bytes_of_bits (to_bits 5 0b10101 ++ to_bits 9 0b101101100) ≡ 0b10101101 ∷ 0b10110000 ∷ []
unfolding bytes_of_bits bytes_from
two_bytes = refl
