-- A word folds into the four after it: the fold of sixteen bytes stands for all bytes before.
-- Assumes nothing.
use mathlib.Core.Path.{◌≡◌, refl, sym, ap, ap₂, ◌∙◌}
use Prim.Native.Nat.{ℕ, ◌+◌, ◌*◌, ◌/◌, ◌%◌, ◌^◌, ◌<◌}
use native.Mathlib.Nat.{mod-lt}
use native.Mathlib.Omega.{arith}
use lib.Dec.{lit<}
use lib.Pow.{shr_lt, pow_pos}
use lib.Bits.{bit_xor, xor_lt, xor_mod, xor_shr, xor_zero_r, xor_zero_l, xor_self}
use Rattle.crc.specs.Meaning.{shift, shifts, step}
use Rattle.crc.specs.Laws.{shifts_lt, step_lt}
use Rattle.crc.specs.Folding.{sixteen, after_word, after_four}
use Rattle.crc.proofs.Xor.{xor_assoc, xor_middle, xor_twice}
use Rattle.crc.proofs.Linear.{shifts_xor, shifts_add}
use Rattle.crc.proofs.Root.{eighth}
use Rattle.crc.proofs.Sixteen.{sixteen_lt, two_steps}

-- sixteen bits go through both registers
half_xor : (r s x y : ℕ) → r < 2 ^ 16 → s < 2 ^ 16 → x < 2 ^ 16 → y < 2 ^ 16
    → sixteen (bit_xor (bit_xor r s) (bit_xor x y)) ≡ bit_xor (sixteen (bit_xor r x)) (sixteen (bit_xor s y))
unfolding sixteen
half_xor r s x y hr hs hx hy =
    ap (shifts 16) (xor_middle r s x y) ∙ shifts_xor 16 (bit_xor r x) (bit_xor s y) (xor_lt 16 r x hr hx) (xor_lt 16 s y hs hy)

-- a word leaves a register
pub after_word_lt : (r w : ℕ) → after_word r w < 2 ^ 16
unfolding after_word
after_word_lt r w = sixteen_lt (bit_xor (sixteen (bit_xor r (w / 2 ^ 16))) (w % 2 ^ 16))

-- so do four
pub after_four_lt : (a b c d : ℕ) → after_four a b c d < 2 ^ 16
unfolding after_four
after_four_lt a b c d = after_word_lt (after_word (after_word (after_word 0 a) b) c) d

-- a word goes through both registers
after_word_xor : (r s v w : ℕ) → r < 2 ^ 16 → s < 2 ^ 16 → v < 2 ^ 32 → w < 2 ^ 32
    → after_word (bit_xor r s) (bit_xor v w) ≡ bit_xor (after_word r v) (after_word s w)
unfolding after_word
after_word_xor r s v w hr hs hv hw =
    let vu : v / 2 ^ 16 < 2 ^ 16 = shr_lt 16 16 hv in
    let wu : w / 2 ^ 16 < 2 ^ 16 = shr_lt 16 16 hw in
    ap₂ (λ (x y : ℕ). sixteen (bit_xor x y))
    (ap (λ (x : ℕ). sixteen (bit_xor (bit_xor r s) x)) (xor_shr v w 16) ∙ half_xor r s (v / 2 ^ 16) (w / 2 ^ 16) hr hs vu wu)
    (xor_mod v w 16)
    ∙ half_xor (sixteen (bit_xor r (v / 2 ^ 16))) (sixteen (bit_xor s (w / 2 ^ 16))) (v % 2 ^ 16) (w % 2 ^ 16)
    (sixteen_lt (bit_xor r (v / 2 ^ 16))) (sixteen_lt (bit_xor s (w / 2 ^ 16))) (mod-lt v (pow_pos 16)) (mod-lt w (pow_pos 16))

-- no register and no word
after_word_none : after_word 0 0 ≡ 0
unfolding after_word sixteen shift
after_word_none = refl

-- a word of zeros only moves the register on
after_word-zeros : (r : ℕ) → after_word r 0 ≡ shifts 32 r
unfolding after_word sixteen
after_word-zeros r =
    ap (λ (x : ℕ). shifts 16 (bit_xor (shifts 16 x) 0)) (xor_zero_r r) ∙ ap (shifts 16) (xor_zero_r (shifts 16 r)) ∙ shifts_add 16 16 r

-- a register and a word go through apart
after_word_apart : (r w : ℕ) → r < 2 ^ 16 → w < 2 ^ 32 → after_word r w ≡ bit_xor (shifts 32 r) (after_word 0 w)
after_word_apart r w hr hw =
    ap₂ after_word (sym (xor_zero_r r)) (sym (xor_zero_l w))
    ∙ after_word_xor r 0 0 w hr (pow_pos 16) (pow_pos 32) hw
    ∙ ap (λ (x : ℕ). bit_xor x (after_word 0 w)) (after_word-zeros r)

-- the register's start is two bytes of ones
start : after_word 0 0xffff0000 ≡ after_word 0xffff 0
unfolding after_word sixteen shift
start = refl

-- a byte of zeros only moves the register on
step_zero : (r : ℕ) → step r 0 ≡ shifts 8 r
unfolding step
step_zero r = ap (shifts 8) (xor_zero_r r)

-- a byte of zeros leaves a register of zeros
step_none : step 0 0 ≡ 0
unfolding step shift
step_none = refl

-- a word's four bytes, one after the other
bytes_after : (r x y z t : ℕ) → r < 2 ^ 16 → x < 2 ^ 8 → y < 2 ^ 8 → z < 2 ^ 8 → t < 2 ^ 8
    → (w : ℕ) → w / 2 ^ 16 ≡ x * 2 ^ 8 + y → w % 2 ^ 16 ≡ z * 2 ^ 8 + t → after_word r w ≡ step (step (step (step r x) y) z) t
unfolding after_word
bytes_after r x y z t hr hx hy hz ht w u l =
    ap₂ (λ (a b : ℕ). sixteen (bit_xor (sixteen (bit_xor r a)) b)) u l
    ∙ ap (λ (a : ℕ). sixteen (bit_xor a (z * 2 ^ 8 + t))) (sym (two_steps r x y hr hx hy))
    ∙ sym (two_steps (step (step r x) y) z t (step_lt (step r x) y) hz ht)

-- a word moved up by one byte over two words: a byte of zeros after it
moved_up : (a : ℕ) → a < 2 ^ 32 → after_word (after_word 0 (a / 2 ^ 24)) (a % 2 ^ 24 * 2 ^ 8) ≡ shifts 8 (after_word 0 a)
moved_up a h =
    let x = a / 2 ^ 24 in
    let y = a / 2 ^ 16 % 2 ^ 8 in
    let z = a / 2 ^ 8 % 2 ^ 8 in
    let t = a % 2 ^ 8 in
    let hx : x < 2 ^ 8 = shr_lt 8 24 h in
    let hy : y < 2 ^ 8 = mod-lt (a / 2 ^ 16) (pow_pos 8) in
    let hz : z < 2 ^ 8 = mod-lt (a / 2 ^ 8) (pow_pos 8) in
    let ht : t < 2 ^ 8 = mod-lt a (pow_pos 8) in
    let first : after_word 0 x ≡ step 0 x =
    bytes_after 0 0 0 0 x (pow_pos 16) (pow_pos 8) (pow_pos 8) (pow_pos 8) hx x (omega arith) (omega arith)
    ∙ ap (λ (r : ℕ). step (step (step r 0) 0) x) step_none
    ∙ ap (λ (r : ℕ). step (step r 0) x) step_none
    ∙ ap (λ (r : ℕ). step r x) step_none in
    ap (λ (r : ℕ). after_word r (a % 2 ^ 24 * 2 ^ 8)) first
    ∙ bytes_after (step 0 x) y z t 0 (step_lt 0 x) hy hz ht (pow_pos 8) (a % 2 ^ 24 * 2 ^ 8) (omega arith) (omega arith)
    ∙ step_zero (step (step (step (step 0 x) y) z) t)
    ∙ ap (shifts 8) (sym (bytes_after 0 x y z t (pow_pos 16) hx hy hz ht a (omega arith) (omega arith)))

-- five words that the polynomial's eighth power makes of one: they leave nothing
nothing : (a : ℕ) → a < 2 ^ 32 → after_word (after_four a a (a / 2 ^ 24) (a % 2 ^ 24 * 2 ^ 8)) a ≡ 0
unfolding after_four
nothing a h =
    let u = a / 2 ^ 24 in
    let v = a % 2 ^ 24 * 2 ^ 8 in
    let s = after_word 0 a in
    let hu : u < 2 ^ 32 = omega arith in
    let hv : v < 2 ^ 32 = omega arith in
    let hs : s < 2 ^ 16 = after_word_lt 0 a in
    let two : after_word s a ≡ bit_xor (shifts 32 s) s = after_word_apart s a hs h in
    let htwo : bit_xor (shifts 32 s) s < 2 ^ 16 = xor_lt 16 (shifts 32 s) s (shifts_lt 32 s hs) hs in
    let three : after_word (after_word s a) u ≡ bit_xor (shifts 32 (bit_xor (shifts 32 s) s)) (after_word 0 u) =
    ap (λ (r : ℕ). after_word r u) two ∙ after_word_apart (bit_xor (shifts 32 s) s) u htwo hu in
    let hthree : shifts 32 (bit_xor (shifts 32 s) s) < 2 ^ 16 = shifts_lt 32 (bit_xor (shifts 32 s) s) htwo in
    let four : after_word (after_word (after_word s a) u) v ≡ bit_xor (bit_xor (shifts 96 s) (shifts 64 s)) (shifts 8 s) =
    ap₂ after_word three (sym (xor_zero_l v))
    ∙ after_word_xor (shifts 32 (bit_xor (shifts 32 s) s)) (after_word 0 u) 0 v hthree (after_word_lt 0 u) (pow_pos 32) hv
    ∙ ap₂ bit_xor
    (after_word-zeros (shifts 32 (bit_xor (shifts 32 s) s)) ∙ shifts_add 32 32 (bit_xor (shifts 32 s) s)
    ∙ shifts_xor 64 (shifts 32 s) s (shifts_lt 32 s hs) hs
    ∙ ap (λ (x : ℕ). bit_xor x (shifts 64 s)) (shifts_add 64 32 s))
    (moved_up a h) in
    let h96 : shifts 96 s < 2 ^ 16 = shifts_lt 96 s hs in
    let h64 : shifts 64 s < 2 ^ 16 = shifts_lt 64 s hs in
    let h8 : shifts 8 s < 2 ^ 16 = shifts_lt 8 s hs in
    let h160 : bit_xor (shifts 96 s) (shifts 64 s) < 2 ^ 16 = xor_lt 16 (shifts 96 s) (shifts 64 s) h96 h64 in
    ap (λ (r : ℕ). after_word r a) four
    ∙ after_word_apart (bit_xor (bit_xor (shifts 96 s) (shifts 64 s)) (shifts 8 s)) a
    (xor_lt 16 (bit_xor (shifts 96 s) (shifts 64 s)) (shifts 8 s) h160 h8) h
    ∙ ap (λ (x : ℕ). bit_xor x s)
    (shifts_xor 32 (bit_xor (shifts 96 s) (shifts 64 s)) (shifts 8 s) h160 h8
    ∙ ap₂ bit_xor
    (shifts_xor 32 (shifts 96 s) (shifts 64 s) h96 h64 ∙ ap₂ bit_xor (shifts_add 32 96 s) (shifts_add 32 64 s))
    (shifts_add 32 8 s))
    ∙ xor_assoc (bit_xor (shifts 128 s) (shifts 96 s)) (shifts 40 s) s
    ∙ xor_assoc (shifts 128 s) (shifts 96 s) (bit_xor (shifts 40 s) s)
    ∙ ap (λ (x : ℕ). bit_xor x (bit_xor (shifts 96 s) (bit_xor (shifts 40 s) s))) (eighth.at s hs ∙ xor_assoc (shifts 96 s) (shifts 40 s) s)
    ∙ xor_self (bit_xor (shifts 96 s) (bit_xor (shifts 40 s) s))

-- four words go through both registers
after_four_xor : (a b c d e f g h : ℕ) → a < 2 ^ 32 → b < 2 ^ 32 → c < 2 ^ 32 → d < 2 ^ 32 → e < 2 ^ 32 → f < 2 ^ 32 → g < 2 ^ 32 → h < 2 ^ 32
    → after_four (bit_xor a e) (bit_xor b f) (bit_xor c g) (bit_xor d h) ≡ bit_xor (after_four a b c d) (after_four e f g h)
unfolding after_four
after_four_xor a b c d e f g h ha hb hc hd he hf hg hh =
    let one = after_word 0 a in
    let two = after_word one b in
    let three = after_word two c in
    let one' = after_word 0 e in
    let two' = after_word one' f in
    let three' = after_word two' g in
    ap (λ (x : ℕ). after_word (after_word (after_word x (bit_xor b f)) (bit_xor c g)) (bit_xor d h)) (after_word_xor 0 0 a e (pow_pos 16) (pow_pos 16) ha he)
    ∙ ap (λ (x : ℕ). after_word (after_word x (bit_xor c g)) (bit_xor d h)) (after_word_xor one one' b f (after_word_lt 0 a) (after_word_lt 0 e) hb hf)
    ∙ ap (λ (x : ℕ). after_word x (bit_xor d h)) (after_word_xor two two' c g (after_word_lt one b) (after_word_lt one' f) hc hg)
    ∙ after_word_xor three three' d h (after_word_lt two c) (after_word_lt two' g) hd hh

-- a first word of zeros
after_four-first : (b c d e : ℕ) → after_word (after_four 0 b c d) e ≡ after_four b c d e
unfolding after_four
after_four-first b c d e = ap (λ (x : ℕ). after_word (after_word (after_word (after_word x b) c) d) e) after_word_none

-- the fold one word further
pub folds : (a b c d e : ℕ) {u v : ℕ} → a < 2 ^ 32 → b < 2 ^ 32 → c < 2 ^ 32 → d < 2 ^ 32 → e < 2 ^ 32 → u ≡ a / 2 ^ 24 → v ≡ a % 2 ^ 24 * 2 ^ 8
    → after_four (bit_xor b a) (bit_xor c u) (bit_xor d v) (bit_xor e a) ≡ after_word (after_four a b c d) e
folds a b c d e {u} {v} ha hb hc hd he eu ev =
    let hu : u < 2 ^ 32 = omega arith in
    let hv : v < 2 ^ 32 = omega arith in
    let p = bit_xor b a in
    let q = bit_xor c u in
    let m = bit_xor d v in
    let n = bit_xor e a in
    let hp : p < 2 ^ 32 = xor_lt 32 b a hb ha in
    let hq : q < 2 ^ 32 = xor_lt 32 c u hc hu in
    let hm : m < 2 ^ 32 = xor_lt 32 d v hd hv in
    let hn : n < 2 ^ 32 = xor_lt 32 e a he ha in
    let gone : after_word (after_four a a u v) a ≡ 0 = ap₂ (λ (x y : ℕ). after_word (after_four a a x y) a) eu ev ∙ nothing a ha in
    sym (after_four-first p q m n)
    ∙ sym (xor_zero_r (after_word (after_four 0 p q m) n))
    ∙ ap (λ (x : ℕ). bit_xor (after_word (after_four 0 p q m) n) x) (sym gone)
    ∙ sym (after_word_xor (after_four 0 p q m) (after_four a a u v) n a (after_four_lt 0 p q m) (after_four_lt a a u v) hn ha)
    ∙ ap₂ after_word
    (sym (after_four_xor 0 p q m a a u v (pow_pos 32) hp hq hm ha ha hu hv)
    ∙ ap₂ (λ (x y : ℕ). after_four x y (bit_xor q u) (bit_xor m v)) (xor_zero_l a) (xor_twice b a)
    ∙ ap₂ (λ (x y : ℕ). after_four a b x y) (xor_twice c u) (xor_twice d v))
    (xor_twice e a)

-- the register's start, in the first two bytes
pub starts : (w : ℕ) → w < 2 ^ 32 → after_word 0 (bit_xor w 0xffff0000) ≡ after_word 0xffff w
starts w h =
    after_word_xor 0 0 w 0xffff0000 (pow_pos 16) (pow_pos 16) h (lit< tt)
    ∙ ap (λ (x : ℕ). bit_xor (after_word 0 w) x) start
    ∙ sym (after_word_xor 0 0xffff w 0 (pow_pos 16) (lit< tt) h (pow_pos 32))
    ∙ ap₂ after_word (xor_zero_l 0xffff) (xor_zero_r w)
