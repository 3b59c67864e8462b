-- What callers cite of the checksum.
-- Assumes nothing.
use Rattle.std.specs.Prelude.{List, [], ◌∷◌, ℕ, zero, suc, ◌*◌, ◌/◌, ◌%◌, ◌^◌, ◌<◌}
use Rattle.std.proofs.Common.{mod-lt, lit<, pow_pos}
use Rattle.std.specs.Int.Bits.{bit_xor}
use Rattle.std.proofs.lemmas.Nat.{xor_lt}
use Rattle.crc.specs.Meaning.{polynomial, shift, shifts, step, run, checksum_of}

-- a register stays within 16 bits
polynomial_lt : (b : ℕ) → polynomial b < 2 ^ 16
polynomial_lt zero = lit< tt
polynomial_lt (suc b) = lit< tt

-- after one bit
pub shift_lt : (a : ℕ) → shift a < 2 ^ 16
unfolding shift
shift_lt a = xor_lt 16 (a * 2 % 2 ^ 16) (polynomial (a / 2 ^ 15)) (mod-lt (a * 2) (pow_pos 16)) (polynomial_lt (a / 2 ^ 15))

-- after so many bits
pub shifts_lt : (k a : ℕ) → a < 2 ^ 16 → shifts k a < 2 ^ 16
shifts_lt zero a h = h
shifts_lt (suc k) a h = shifts_lt k (shift a) (shift_lt a)

-- after one byte
pub step_lt : (r b : ℕ) → step r b < 2 ^ 16
unfolding step
step_lt r b = shifts_lt 7 (shift (bit_xor r (b * 2 ^ 8))) (shift_lt (bit_xor r (b * 2 ^ 8)))

-- after every byte
run_lt : (r : ℕ) (bytes : List ℕ) → r < 2 ^ 16 → run r bytes < 2 ^ 16
run_lt r [] h = h
run_lt r (b ∷ bs) h = run_lt (step r b) bs (step_lt r b)

-- a checksum is a 16-bit word
pub checksum_lt : (bytes : List ℕ) → checksum_of bytes < 2 ^ 16
unfolding checksum_of
checksum_lt bytes = run_lt 0xffff bytes (lit< tt)
