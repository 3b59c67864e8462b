-- The state in lent words: what they say, whatever they hold, and what a call writes into them.
-- Assumes nothing.
use Rattle.std.specs.Prelude.{Bool, not, List, [], ◌∷◌, ◌++◌, map, ℕ, suc, ◌+◌, ◌-◌, ◌%◌, min, eqb, drop, get_or, length, replicate, set, take}
use Rattle.ground.specs.Choice.{pick}
use Rattle.ground.specs.Putting.{put}
use Rattle.item.specs.Inputs.{Inputs}
use Rattle.pages.specs.declared.Window.{Window}

-- "a table of up to 64 items"
abbrev pub most_items : ℕ
most_items = 64

-- the bytes of the longest packet: 10 around a byte and 64 items of 29 bits
abbrev pub most_bytes : ℕ
most_bytes = 243

-- the memory's words (2N)
abbrev pub words_at : ℕ
words_at = 0

-- whether the second page is active
abbrev pub second_at : ℕ
second_at = 1

-- what is kept: 0 nothing, 2 a packet's ask, any other word a window's
abbrev pub kept_at : ℕ
kept_at = 2

-- its number
abbrev pub number_at : ℕ
number_at = 3

-- its window's address
abbrev pub address_at : ℕ
address_at = 4

-- how wide it is
abbrev pub xsize_at : ℕ
xsize_at = 5

-- how high it is
abbrev pub ysize_at : ℕ
ysize_at = 6

-- from one of its rows to the next
abbrev pub ystride_at : ℕ
ystride_at = 7

-- whether it clears
abbrev pub clear_at : ℕ
clear_at = 8

-- its sum, or its total
abbrev pub sum_at : ℕ
sum_at = 9

-- a packet's low byte
abbrev pub low_at : ℕ
low_at = 10

-- its flags
abbrev pub flags_at : ℕ
flags_at = 11

-- its initial level
abbrev pub initial_at : ℕ
initial_at = 12

-- its second of the hour
abbrev pub second_of_hour_at : ℕ
second_of_hour_at = 13

-- how many items its table has
abbrev pub item_count_at : ℕ
item_count_at = 14

-- the first of them
abbrev pub items_at : ℕ
items_at = 15

-- how many bytes it has
abbrev pub byte_count_at : ℕ
byte_count_at = items_at + most_items

-- the first of them, one a word
abbrev pub bytes_at : ℕ
bytes_at = byte_count_at + 1

-- how many words a state takes
abbrev pub state_words : ℕ
state_words = bytes_at + most_bytes

-- the word of a kept window's ask
abbrev pub window_ask : ℕ
window_ask = 1

-- the word of a kept packet's ask
abbrev pub packet_ask : ℕ
packet_ask = 2

-- what an ask asks for: a window's sum, or a packet
pub data Asked : Type 0 where
  window : Window → Asked
  packet : Inputs → Asked

-- what is kept of the last accepted ask: its number, what it asked for, and its sum or total
pub data Kept : Type 0 where
  Nothing : Kept
  Last : ℕ → Asked → ℕ → Kept

-- a flag is any word but 0
abbrev pub flag_in : ℕ → Bool
flag_in word = not (eqb word 0)

-- whether the second page is active
abbrev pub page_in : List ℕ → Bool
page_in l = flag_in (get_or l second_at 0)

-- the window of the kept ask, its numbers as they stand
abbrev pub window_in : List ℕ → Window
window_in l =
    record {
      address = get_or l address_at 0;
      xsize = get_or l xsize_at 0;
      ysize = get_or l ysize_at 0;
      ystride = get_or l ystride_at 0;
      clear = flag_in (get_or l clear_at 0);
    }

-- how many items are kept: more than 64 said are 64
abbrev pub item_count_in : List ℕ → ℕ
item_count_in l = min (get_or l item_count_at 0) most_items

-- the inputs of the kept packet's ask, its numbers as they stand
abbrev pub inputs_in : List ℕ → Inputs
inputs_in l =
    record {
      low = get_or l low_at 0;
      items = take (item_count_in l) (drop items_at l);
      flags = get_or l flags_at 0;
      initial = get_or l initial_at 0;
      second = get_or l second_of_hour_at 0;
    }

-- what the kept ask asked for
abbrev pub asked_in : List ℕ → Asked
asked_in l = pick (eqb (get_or l kept_at 0) packet_ask) (packet (inputs_in l)) (window (window_in l))

-- the kept ask, where one is kept
abbrev pub last_in : List ℕ → Kept
last_in l = Last (get_or l number_at 0) (asked_in l) (get_or l sum_at 0)

-- what is kept
abbrev pub kept_in : List ℕ → Kept
kept_in l = pick (flag_in (get_or l kept_at 0)) (last_in l) Nothing

-- how many bytes are kept: more than 243 said are 243
abbrev pub byte_count_in : List ℕ → ℕ
byte_count_in l = min (get_or l byte_count_at 0) most_bytes

-- a kept byte is its word's low 8 bits
abbrev pub byte_of : ℕ → ℕ
byte_of word = word % 256

-- the bytes of the kept packet
abbrev pub bytes_in : List ℕ → List ℕ
bytes_in l = map byte_of (take (byte_count_in l) (drop bytes_at l))

-- a flag's word
abbrev pub flag_of : Bool → ℕ
flag_of b = pick b 1 0

-- the words with others written from a place on
abbrev pub writes : List ℕ → ℕ → List ℕ → List ℕ
writes l at [] = l
writes l at (v ∷ vs) = writes (set l at v) (suc at) vs

-- the state of an opened memory of 2N words: 2N, and 0 in every other word, so that the first page is active and nothing is kept
unfoldable pub fresh_in : List ℕ → ℕ → List ℕ
fresh_in l words = words ∷ (replicate (state_words - 1) 0 ++ drop state_words l)

-- active and idle exchanged
abbrev pub flip_in : List ℕ → List ℕ
flip_in l = set l second_at (flag_of (not (page_in l)))

-- "Its sum, window and number are kept"
abbrev pub keep_in : List ℕ → ℕ → Window → ℕ → List ℕ
keep_in l number w sum =
    writes l kept_at (window_ask ∷ number ∷ w.address ∷ w.xsize ∷ w.ysize ∷ w.ystride ∷ flag_of w.clear ∷ sum ∷ [])

-- the words of a packet's ask but for its items and bytes: that it is one, its number, its total, and the other inputs
abbrev pub keep_inputs : List ℕ → ℕ → Inputs → ℕ → List ℕ
keep_inputs l number i total =
    writes (writes l kept_at (packet_ask ∷ number ∷ [])) sum_at
    (total ∷ i.low ∷ i.flags ∷ i.initial ∷ i.second ∷ length i.items ∷ [])

-- "The state keeps its inputs (low byte, table, flags, initial level, second) and bytes"
unfoldable pub keep_packet_in : List ℕ → ℕ → Inputs → ℕ → List ℕ → List ℕ
keep_packet_in l number i total bytes =
    put (set (put (keep_inputs l number i total) items_at i.items) byte_count_at (length bytes)) bytes_at bytes
