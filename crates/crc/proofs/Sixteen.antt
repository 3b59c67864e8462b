-- Sixteen bits at once: what stays of the register where the polynomial's terms are added, and then what fell out.
-- Assumes nothing.
use mathlib.Core.Path.{◌≡◌, refl, sym, ap, ap₂, ◌∙◌, subst}
use Prim.Native.Nat.{ℕ, ◌+◌, ◌*◌, ◌/◌, ◌%◌, ◌^◌, ◌<◌}
use native.Mathlib.Nat.{mod-lt, div-eq_of_lt, add-zero}
use native.Mathlib.Omega.{arith}
use lib.Pow.{shr_lt, shl_lt, split, pow_pos}
use lib.Bits.{bit_xor, xor_lt, xor_mod, xor_block, xor_shifted, xor_zero_r, xor_zero_l, xor_comm}
use Rattle.crc.specs.Meaning.{shift, shifts, step}
use Rattle.crc.specs.Laws.{shift_lt, shifts_lt}
use Rattle.crc.specs.Folding.{sixteen, carry_of, spread_of}
use Rattle.crc.proofs.Xor.{xor_assoc, xor_middle}
use Rattle.crc.proofs.Linear.{moved_xor, shifts_xor, shifts_add, shifts_small, shifts_zero}
use Rattle.crc.proofs.Root.{root}

-- a register moved by k bits: what falls out goes through all sixteen, what stays only moves
moved : (j k x : ℕ) → j + k ≡ 16 → x < 2 ^ 16 → shifts k x ≡ bit_xor (shifts 16 (x / 2 ^ j)) (x % 2 ^ j * 2 ^ k)
moved j k x e h =
    let low : x % 2 ^ j < 2 ^ j = mod-lt x (pow_pos j) in
    let whole : x / 2 ^ j * 2 ^ j + x % 2 ^ j ≡ x = split x j in
    let up : x / 2 ^ j * 2 ^ j < 2 ^ 16 = omega arith in
    let down : x % 2 ^ j < 2 ^ 16 = omega arith in
    let room : x % 2 ^ j * 2 ^ k < 2 ^ 16 = subst (λ (n : ℕ). x % 2 ^ j * 2 ^ k < 2 ^ n) e (shl_lt j k low) in
    ap (shifts k) (sym whole ∙ sym (xor_shifted (x / 2 ^ j) j (x % 2 ^ j) low))
    ∙ shifts_xor k (x / 2 ^ j * 2 ^ j) (x % 2 ^ j) up down
    ∙ ap₂ bit_xor
    (ap (shifts k) (sym (shifts_small j (x / 2 ^ j) up)) ∙ shifts_add k j (x / 2 ^ j) ∙ ap (λ (n : ℕ). shifts n (x / 2 ^ j)) e)
    (shifts_small k (x % 2 ^ j) room)

-- sixteen bits: what stays, and sixteen bits of what fell out
turn : (x : ℕ) → x < 2 ^ 16 → sixteen x ≡ bit_xor (sixteen (carry_of x)) (spread_of x)
unfolding sixteen
turn x h =
    let a : x / 2 ^ 4 < 2 ^ 16 = omega arith in
    let b : x / 2 ^ 11 < 2 ^ 16 = omega arith in
    root.at x h
    ∙ ap (λ (y : ℕ). bit_xor y x)
    (ap₂ bit_xor (moved 4 12 x refl h) (moved 11 5 x refl h)
    ∙ xor_middle (shifts 16 (x / 2 ^ 4)) (x % 2 ^ 4 * 2 ^ 12) (shifts 16 (x / 2 ^ 11)) (x % 2 ^ 11 * 2 ^ 5)
    ∙ ap (λ (y : ℕ). bit_xor y (bit_xor (x % 2 ^ 4 * 2 ^ 12) (x % 2 ^ 11 * 2 ^ 5))) (sym (shifts_xor 16 (x / 2 ^ 4) (x / 2 ^ 11) a b)))
    ∙ xor_assoc (shifts 16 (carry_of x)) (bit_xor (x % 2 ^ 4 * 2 ^ 12) (x % 2 ^ 11 * 2 ^ 5)) x

-- what stays of two registers
field_xor : (j k a b : ℕ) → bit_xor a b % 2 ^ j * 2 ^ k ≡ bit_xor (a % 2 ^ j * 2 ^ k) (b % 2 ^ j * 2 ^ k)
field_xor j k a b = ap (λ (x : ℕ). x * 2 ^ k) (xor_mod a b j) ∙ moved_xor k (a % 2 ^ j) (b % 2 ^ j)

-- what stays of a sum is the sum of what stays
spread_xor : (a b : ℕ) → spread_of (bit_xor a b) ≡ bit_xor (spread_of a) (spread_of b)
spread_xor a b =
    ap (λ (x : ℕ). bit_xor x (bit_xor a b))
    (ap₂ bit_xor (field_xor 4 12 a b) (field_xor 11 5 a b)
    ∙ xor_middle (a % 2 ^ 4 * 2 ^ 12) (b % 2 ^ 4 * 2 ^ 12) (a % 2 ^ 11 * 2 ^ 5) (b % 2 ^ 11 * 2 ^ 5))
    ∙ xor_middle (bit_xor (a % 2 ^ 4 * 2 ^ 12) (a % 2 ^ 11 * 2 ^ 5)) (bit_xor (b % 2 ^ 4 * 2 ^ 12) (b % 2 ^ 11 * 2 ^ 5)) a b

-- nothing goes through a register of zeros
sixteen_zero : sixteen (bit_xor 0 0) ≡ 0
unfolding sixteen
sixteen_zero = shifts_zero 16

-- four bits less each time
carry_lt : (j x : ℕ) → x < 2 ^ (j + 4) → x < 2 ^ (j + 11) → carry_of x < 2 ^ j
carry_lt j x h k = xor_lt j (x / 2 ^ 4) (x / 2 ^ 11) (shr_lt j 4 h) (shr_lt j 11 k)

-- after four turns nothing falls out
pub sixteen_turns : (x : ℕ) {a b c : ℕ} → x < 2 ^ 16 → a ≡ carry_of x → b ≡ carry_of a → c ≡ carry_of b
    → spread_of (bit_xor (bit_xor (bit_xor x a) b) c) ≡ sixteen x
sixteen_turns x {a} {b} {c} hx ea eb ec =
    let ha : a < 2 ^ 12 = subst (λ (y : ℕ). y < 2 ^ 12) (sym ea) (carry_lt 12 x hx (omega arith)) in
    let hb : b < 2 ^ 8 = subst (λ (y : ℕ). y < 2 ^ 8) (sym eb) (carry_lt 8 a ha (omega arith)) in
    let hc : c < 2 ^ 4 = subst (λ (y : ℕ). y < 2 ^ 4) (sym ec) (carry_lt 4 b hb (omega arith)) in
    let none : sixteen c ≡ spread_of c =
    turn c (omega arith)
    ∙ ap (λ (y : ℕ). bit_xor y (spread_of c)) (ap sixteen (ap₂ bit_xor (div-eq_of_lt hc) (div-eq_of_lt (omega arith))) ∙ sixteen_zero)
    ∙ xor_zero_l (spread_of c) in
    let one : sixteen b ≡ spread_of (bit_xor b c) =
    turn b (omega arith) ∙ ap (λ (y : ℕ). bit_xor y (spread_of b)) (ap sixteen (sym ec) ∙ none)
    ∙ xor_comm (spread_of c) (spread_of b) ∙ sym (spread_xor b c) in
    let two : sixteen a ≡ spread_of (bit_xor a (bit_xor b c)) =
    turn a (omega arith) ∙ ap (λ (y : ℕ). bit_xor y (spread_of a)) (ap sixteen (sym eb) ∙ one)
    ∙ xor_comm (spread_of (bit_xor b c)) (spread_of a) ∙ sym (spread_xor a (bit_xor b c)) in
    ap spread_of (xor_assoc (bit_xor x a) b c ∙ xor_assoc x a (bit_xor b c))
    ∙ spread_xor x (bit_xor a (bit_xor b c))
    ∙ ap (λ (y : ℕ). bit_xor (spread_of x) y) (sym two)
    ∙ xor_comm (spread_of x) (sixteen a)
    ∙ ap (λ (y : ℕ). bit_xor (sixteen y) (spread_of x)) ea
    ∙ sym (turn x hx)

-- sixteen bits leave a register
pub sixteen_lt : (x : ℕ) → sixteen x < 2 ^ 16
unfolding sixteen
sixteen_lt x = shifts_lt 15 (shift x) (shift_lt x)

-- two bytes at once
pub two_steps : (r x y : ℕ) → r < 2 ^ 16 → x < 2 ^ 8 → y < 2 ^ 8 → step (step r x) y ≡ sixteen (bit_xor r (x * 2 ^ 8 + y))
unfolding sixteen step
two_steps r x y hr hx hy =
    let up : x * 2 ^ 8 < 2 ^ 16 = omega arith in
    let both : bit_xor r (x * 2 ^ 8) < 2 ^ 16 = xor_lt 16 r (x * 2 ^ 8) hr up in
    ap (λ (z : ℕ). shifts 8 (bit_xor (shifts 8 (bit_xor r (x * 2 ^ 8))) z)) (sym (shifts_small 8 y (omega arith)))
    ∙ ap (shifts 8) (sym (shifts_xor 8 (bit_xor r (x * 2 ^ 8)) y both (omega arith)))
    ∙ ap (shifts 16) (xor_assoc r (x * 2 ^ 8) y ∙ ap (λ (z : ℕ). bit_xor r z) (xor_shifted x 8 y hy))

-- a byte at once: sixteen bits for the upper half with the byte, and the lower half moved up
pub step_by_sixteen : (r b : ℕ) → r < 2 ^ 16 → b < 2 ^ 8 → step r b ≡ bit_xor (sixteen (bit_xor (r / 2 ^ 8) b)) (r % 2 ^ 8 * 2 ^ 8)
unfolding step sixteen
step_by_sixteen r b hr hb =
    let low : r % 2 ^ 8 < 2 ^ 8 = mod-lt r (pow_pos 8) in
    let up : bit_xor (r / 2 ^ 8) b < 2 ^ 8 = xor_lt 8 (r / 2 ^ 8) b (shr_lt 8 8 hr) hb in
    ap (shifts 8)
    (ap₂ bit_xor (sym (split r 8)) (sym (add-zero (b * 2 ^ 8)))
    ∙ xor_block 8 (r / 2 ^ 8) b (r % 2 ^ 8) 0 low (pow_pos 8)
    ∙ ap (λ (x : ℕ). bit_xor (r / 2 ^ 8) b * 2 ^ 8 + x) (xor_zero_r (r % 2 ^ 8))
    ∙ sym (xor_shifted (bit_xor (r / 2 ^ 8) b) 8 (r % 2 ^ 8) low))
    ∙ shifts_xor 8 (bit_xor (r / 2 ^ 8) b * 2 ^ 8) (r % 2 ^ 8) (omega arith) (omega arith)
    ∙ ap₂ bit_xor (ap (shifts 8) (sym (shifts_small 8 (bit_xor (r / 2 ^ 8) b) (omega arith)))) (shifts_small 8 (r % 2 ^ 8) (omega arith))
