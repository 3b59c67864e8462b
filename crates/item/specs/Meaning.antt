-- An item of a packet's table, in 2026-07's words and order: the fields of its word, and the bits that its result is sent in.
-- Assumes nothing.
use Rattle.std.specs.Prelude.{Bool, ◌&&◌, List, [], ℕ, ◌+◌, ◌/◌, ◌%◌, ◌^◌, eqb, leb, pos, length}
use Rattle.ground.specs.Bits.{to_bits}
use Rattle.ground.specs.Choice.{pick}
use Rattle.ground.specs.Outcome.{Outcome, accept, onward_to}
use Rattle.ground.specs.Paper.{Paper, accepted, refused, mapped}
use Rattle.code.specs.Meaning.{code_of, largest, padded, bytes_from, place_means}
use Rattle.format.specs.Meaning.{code_means, int24_means}
use Rattle.logarithm.specs.Meaning.{log8_means}
use Rattle.pages.specs.declared.Window.{Window}

-- ---- the fields of an item's word

-- so many bits of a word, above so many
abbrev pub field_of : ℕ → ℕ → ℕ → ℕ
field_of x low width = x / 2 ^ low % 2 ^ width

-- a field of one bit is set
abbrev pub flag_of : ℕ → ℕ → Bool
flag_of x low = eqb (field_of x low 1) 1

-- "from the top ystride 16, ysize 8, xsize 8", c after "res 3, enc 3, sum 3", and last "address 18": the window that an item sums
unfoldable pub window_of : ℕ → Window
window_of x =
    record {
      address = field_of x 0 18;
      xsize = field_of x 32 8;
      ysize = field_of x 40 8;
      ystride = field_of x 48 16;
      clear = flag_of x 22;
    }

-- "Only sum, res and enc of 0 are taken"
unfoldable pub plain_of : ℕ → Bool
plain_of x = eqb (field_of x 23 3) 0 && (eqb (field_of x 29 3) 0 && eqb (field_of x 26 3) 0)

-- "An item with a adds the previous item's result"
unfoldable pub adds_of : ℕ → Bool
adds_of x = flag_of x 20

-- "only items with t are sent"
unfoldable pub sends_of : ℕ → Bool
sends_of x = flag_of x 21

-- "comp 2": the format that an item is sent in
unfoldable pub comp_of : ℕ → ℕ
comp_of x = field_of x 18 2

-- ---- the bits of an item's result

-- "in comp 00, 10, 11 (drop 0) or 2026-01's 01": 00 the 16-bit float, 01 the logarithm byte, 10 the 24-bit integer, 11 the packed code with drop 0; 12
unfoldable pub format_bits : ℕ → ℕ → Paper (List ℕ)
format_bits comp r =
    pick (eqb comp 0) (mapped (to_bits 16) (code_means 12 (2 ^ 27) r))
    (pick (eqb comp 1) (mapped (to_bits 8) (log8_means r))
    (pick (eqb comp 2) (mapped (to_bits 24) (int24_means r))
    (pick (leb r largest) (accepted (code_of 0 (pos r))) (refused 12))))

-- "12 (sent items only)": the bits that an item is sent in, none where it is not sent
unfoldable pub item_bits : ℕ → ℕ → Paper (List ℕ)
item_bits x r = pick (sends_of x) (format_bits (comp_of x) r) (accepted [])

-- "bit after bit, zeros filling the last byte": the bytes of all bits that are sent
unfoldable pub bytes_of_bits : List ℕ → List ℕ
bytes_of_bits l = bytes_from ((length l + 7) / 8) (padded 0 l)

-- a result put at a bit position, in a format; 12, then 3
abbrev pub format_means : List ℕ → ℕ → ℕ → ℕ → Outcome ℕ (List ℕ)
format_means buffer at comp r = onward_to (place_means buffer at) buffer (format_bits comp r)

-- an item's result sent: its bits put at a bit position and the position after them, or the position as it was where it is not sent; 12, then 3
unfoldable pub send_means : List ℕ → ℕ → ℕ → ℕ → Outcome ℕ (List ℕ)
send_means buffer at x r = pick (sends_of x) (format_means buffer at (comp_of x) r) (accept at buffer)
