-- Bytes read two and four at once, and the fold of the first sixteen.
-- Assumes nothing.
use mathlib.Core.Path.{◌≡◌, sym, ap, ap₂, ◌∙◌}
use mathlib.Core.List.{List}
use Prim.Native.Nat.{ℕ, ◌+◌, ◌*◌, ◌/◌, ◌%◌, ◌^◌, ◌<◌, ◌≤◌}
use native.Mathlib.Nat.{add_assoc}
use native.Mathlib.Numerals.{add-one}
use native.Mathlib.Omega.{arith}
use lib.Dec.{lit<}
use lib.Pow.{high, low}
use lib.Bits.{bit_xor}
use lib.ListN.{length, drop, get_or, drop_of_length-le}
use lib.Seq.{drop-cons}
use Rattle.crc.specs.Meaning.{step, run}
use Rattle.crc.specs.Folding.{sixteen, after_word, after_four, Pair, Word}
use Rattle.crc.proofs.Sixteen.{sixteen_lt, two_steps}
use Rattle.crc.proofs.Folds.{after_word_lt}

-- the register takes the next byte
pub run_next : (r : ℕ) (l : List ℕ) (i : ℕ) → i < length l → run r (drop i l) ≡ run (step r (get_or l i 0)) (drop (i + 1) l)
run_next r l i h = rw (add-one, drop-cons l i 0)

-- no byte is left
pub run_done : (r : ℕ) (l : List ℕ) (i : ℕ) → length l ≤ i → r ≡ run r (drop i l)
run_done r l i h = rw (drop_of_length-le l h)

-- a last byte is left
pub run_last : {s : ℕ} (r : ℕ) (l : List ℕ) (i : ℕ) → i < length l → length l ≤ i + 1 → s ≡ step r (get_or l i 0) → s ≡ run r (drop i l)
run_last r l i h k e = e ∙ run_done (step r (get_or l i 0)) l (i + 1) k ∙ sym (run_next r l i h)

-- the register two bytes further
pub two_on : {l : List ℕ} {i w s r : ℕ} (k : ℕ) → Pair l i w → k < 2 ^ 16 → s ≡ sixteen (bit_xor k w) → run k (drop i l) ≡ r
    → run s (drop (i + 2) l) ≡ r
two_on {l} {i} k h small e inv = ap (λ (x : ℕ). run x (drop (i + 2) l)) e ∙ sym (h.goes k small) ∙ inv

-- the number of two bytes takes a register where they take it
pub pair_goes : {l : List ℕ} {i x y : ℕ} → i + 2 ≤ length l → x ≡ get_or l i 0 → y ≡ get_or l (i + 1) 0 → x < 256 → y < 256
    → Pair l i (x * 256 + y)
pair_goes {l} {i} {x} {y} h ex ey hx hy =
    let first : i < length l = omega arith in
    let second : i + 1 < length l = omega arith in
    record {
      small = omega arith;
      goes = λ s hs.
          run_next s l i first
          ∙ run_next (step s (get_or l i 0)) l (i + 1) second
          ∙ ap₂ (λ (r n : ℕ). run r (drop n l))
          (ap₂ (λ (a b : ℕ). step (step s a) b) (sym ex) (sym ey) ∙ two_steps s x y hs hx hy)
          (add_assoc i 1 1);
    }

-- the word of two numbers takes a register where their bytes take it
pub word_goes : {l : List ℕ} {i p q : ℕ} → Pair l i p → Pair l (i + 2) q → Word l i (p * 65536 + q)
unfolding after_word
word_goes {l} {i} {p} {q} hp hq =
    let up : p < 2 ^ 16 = hp.small in
    let down : q < 2 ^ 16 = hq.small in
    record {
      small = omega arith;
      goes = λ s hs.
          hp.goes s hs
          ∙ hq.goes (sixteen (bit_xor s p)) (sixteen_lt (bit_xor s p))
          ∙ ap₂ (λ (r n : ℕ). run r (drop n l))
          (ap₂ (λ (a b : ℕ). sixteen (bit_xor (sixteen (bit_xor s a)) b)) (sym (high p 16 down)) (sym (low p 16 down)))
          (add_assoc i 2 2);
    }

-- the fold of the first sixteen bytes
pub opens : {l : List ℕ} {a b c d : ℕ} (f : ℕ) → Word l 0 a → after_word 0 f ≡ after_word 0xffff a → Word l 4 b → Word l 8 c → Word l 12 d
    → run (after_four f b c d) (drop 16 l) ≡ run 0xffff l
unfolding after_four
opens {l} {a} {b} {c} {d} f ha e hb hc hd =
    ap (λ (r : ℕ). run (after_word (after_word (after_word r b) c) d) (drop 16 l)) e
    ∙ sym
    (ha.goes 0xffff (lit< tt)
    ∙ hb.goes (after_word 0xffff a) (after_word_lt 0xffff a)
    ∙ hc.goes (after_word (after_word 0xffff a) b) (after_word_lt (after_word 0xffff a) b)
    ∙ hd.goes (after_word (after_word (after_word 0xffff a) b) c) (after_word_lt (after_word (after_word 0xffff a) b) c))

-- the fold one word further
pub goes_on : {l : List ℕ} {i w s r : ℕ} (k : ℕ) → Word l i w → k < 2 ^ 16 → s ≡ after_word k w → run k (drop i l) ≡ r
    → run s (drop (i + 4) l) ≡ r
goes_on {l} {i} k h small e inv = ap (λ (x : ℕ). run x (drop (i + 4) l)) e ∙ sym (h.goes k small) ∙ inv

-- the register after the bytes that a fold stands for
pub closes : (a b c d : ℕ) {p q r s : ℕ} → p ≡ after_word 0 a → q ≡ after_word p b → r ≡ after_word q c → s ≡ after_word r d → s ≡ after_four a b c d
unfolding after_four
closes a b c d ep eq er es =
    es ∙ ap (λ (x : ℕ). after_word x d) (er ∙ ap (λ (x : ℕ). after_word x c) (eq ∙ ap (λ (x : ℕ). after_word x b) ep))

-- the register after a word, by its halves
pub goes_through : (r w : ℕ) {h l p q : ℕ} → h ≡ w / 2 ^ 16 → p ≡ sixteen (bit_xor r h) → l ≡ w % 2 ^ 16 → q ≡ sixteen (bit_xor p l)
    → q ≡ after_word r w
unfolding after_word
goes_through r w eh ep el eq =
    eq ∙ ap₂ (λ (x y : ℕ). sixteen (bit_xor x y)) (ep ∙ ap (λ (x : ℕ). sixteen (bit_xor r x)) eh) el
