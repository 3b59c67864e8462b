-- Bytes filled with bits from the front, the others 0: what a caller keeps who sends one item's bits after the other.
-- Assumes nothing.
use Rattle.std.specs.Prelude.{◌≡◌, refl, Bool, true, false, List, [], ◌∷◌, ◌++◌, ℕ, zero, suc, ◌+◌, ◌*◌, ◌-◌, ◌/◌, ◌^◌, ◌≤◌, length, take, drop, set, replicate}
use Rattle.std.specs.Prelude.{Result, Ok, Err}
use Rattle.std.proofs.Common.{sym, ap, ap₂, ◌∙◌, subst, append_assoc, append-nil, zero-lt-suc, arith, length-append, length-take, pow_mono, take_at, drop_at}
use Rattle.std.proofs.Common.{length-take-le, le-leb}
use Rattle.std.proofs.lemmas.List.{length-replicate, replicate-append-replicate}
use Rattle.std.proofs.Math.Seq.{take-append-add, drop-append-add}
use Rattle.ground.specs.Bits.{to_bits, bits_of}
use Rattle.ground.specs.Bytes.{Bytes, bytes_take}
use Rattle.ground.specs.Choice.{pick}
use Rattle.ground.specs.Outcome.{Outcome, outcome_of, accept, refuse}
use Rattle.ground.specs.Paper.{Paper, accepted, refusal, refused, accepted_same, refused_not}
use Rattle.ground.specs.Refusals.{one_result}
use Rattle.code.specs.BitLists.{all_bits, all_bits-append, all_bits-take, all_bits-drop, all_bits-to_bits, from_bits_lt, length-bits_of, to_bits-zeros}
use Rattle.code.specs.Meaning.{bits_that_count, bytes_from, bytes_with, padded, place_means, put_at, to_byte_end}
use Rattle.code.specs.Positions.{bytes_back, length-bits_that_count, length-bytes_from}
use Rattle.code.specs.Theorems.{put_bits}
use Rattle.item.specs.Answers.{not_sent, sent_paper}
use Rattle.item.specs.Bits.{most_bits, bits_few, bits_bits, bits_refused, send_puts, send_nothing, send_refuses}
use Rattle.item.specs.Meaning.{sends_of, item_bits, bytes_of_bits, send_means}
use Rattle.item.specs.Promise.{SendPromise}
use Rattle.item.specs.declared.NotSent.{NotSent}
use Rattle.item.specs.declared.NotSent.TheVariants.{TooLarge, TooShort}

-- so many zeros
abbrev pub zeros : ℕ → List ℕ
zeros n = replicate n 0

-- bytes whose first bits are these, and whose others are 0
pub record Filled (bytes l : List ℕ) : Type 0 where
  pub bits : bits_of bytes ≡ l ++ zeros (8 * length bytes - length l)

-- they are no more than the bytes have
pub filled_within : {bytes l : List ℕ} → Filled bytes l → length l ≤ 8 * length bytes
filled_within {bytes} {l} f =
    let rest : List ℕ = zeros (8 * length bytes - length l) in
    let long : 8 * length bytes ≡ length l + length rest = sym (length-bits_of bytes) ∙ ap length f.bits ∙ length-append l rest in
    omega (arith, long)

-- ---- zeros

-- so many are so long
length-zeros : (n : ℕ) → length (zeros n) ≡ n
length-zeros n = length-replicate n 0

-- zeros after zeros
more_zeros : (m n : ℕ) → zeros m ++ zeros n ≡ zeros (m + n)
more_zeros m n = replicate-append-replicate m n 0

-- zeros without some of them
drop-zeros : (m k : ℕ) → m ≤ k → drop m (zeros k) ≡ zeros (k - m)
drop-zeros m k h =
    let e : k ≡ m + (k - m) = omega arith in
    ap (drop m) (ap zeros e ∙ sym (more_zeros m (k - m))) ∙ drop_at (zeros m) (zeros (k - m)) m (length-zeros m)

-- some of them
take-zeros : (m k : ℕ) → m ≤ k → take m (zeros k) ≡ zeros m
take-zeros m k h =
    let e : k ≡ m + (k - m) = omega arith in
    ap (take m) (ap zeros e ∙ sym (more_zeros m (k - m))) ∙ take_at (zeros m) (zeros (k - m)) m (length-zeros m)

-- the bits of bytes that are 0
zero_bits : (n : ℕ) → bits_of (zeros n) ≡ zeros (8 * n)
zero_bits zero = refl
zero_bits (suc n) =
    let more : 8 + 8 * n ≡ 8 * suc n = omega arith in
    ap (λ (l : List ℕ). zeros 8 ++ l) (zero_bits n) ∙ more_zeros 8 (8 * n) ∙ ap zeros more

-- nothing but zeros
pub filled_none : (n : ℕ) → Filled (zeros n) []
filled_none n =
    let all : 8 * n ≡ 8 * length (zeros n) - 0 = omega (arith, length-zeros n) in
    record { bits = zero_bits n ∙ ap zeros all }

-- a first byte stored among zeros
pub filled_first : (bytes : List ℕ) (b : ℕ) → 1 ≤ length bytes → Filled bytes [] → Filled (set bytes 0 b) (to_bits 8 b)
filled_first [] b h f = absurd (omega arith)
filled_first (x ∷ bytes) b h f =
    let n : ℕ = suc (length bytes) in
    let most : 8 * n - 0 - 8 ≡ 8 * n - 8 = omega arith in
    let rest : bits_of bytes ≡ zeros (8 * n - 8)
    = sym (drop_at (to_bits 8 x) (bits_of bytes) 8 refl) ∙ ap (drop 8) f.bits ∙ drop-zeros 8 (8 * n - 0) (omega arith) ∙ ap zeros most in
    record { bits = ap (λ (l : List ℕ). to_bits 8 b ++ l) rest }

-- ---- bits put after those that are there

-- bits put right after those that are there, with room
pub filled_put : (bytes l code : List ℕ) → Filled bytes l → all_bits code → length l + length code ≤ length (bits_that_count bytes)
    → Filled (bytes_with bytes (length l) code) (l ++ code)
filled_put bytes l code f fine room =
    let at : ℕ = length l in
    let old : List ℕ = bits_of bytes in
    let all : ℕ = 8 * length bytes in
    let pad : ℕ = to_byte_end (at + length code) in
    let new : List ℕ = padded at code in
    let many : length new ≡ length code + pad = length-append code (zeros pad) ∙ ap (λ (n : ℕ). length code + n) (length-zeros pad) in
    let fits : length new ≤ all - at = omega (arith, many, length-bits_that_count bytes) in
    let long : length (bytes_with bytes at code) ≡ length bytes = length-bytes_from (length bytes) (put_at old at code) in
    let front : take at old ≡ l = ap (take at) f.bits ∙ take_at l (zeros (all - at)) at refl in
    let back : drop (at + length new) old ≡ zeros (all - at - length new)
    = ap (drop (at + length new)) f.bits ∙ drop-append-add l (zeros (all - at)) (length new) ∙ drop-zeros (length new) (all - at) fits in
    let left : pad + (all - at - length new) ≡ 8 * length (bytes_with bytes at code) - length (l ++ code)
    = omega (arith, many, long, length-append l code, fits) in
    record {
      bits =
          put_bits bytes at code room fine
          ∙ ap₂ (λ (x y : List ℕ). x ++ (new ++ y)) front back
          ∙ ap (λ (x : List ℕ). l ++ x) (append_assoc code (zeros pad) (zeros (all - at - length new)))
          ∙ sym (append_assoc l code (zeros pad ++ zeros (all - at - length new)))
          ∙ ap (λ (x : List ℕ). (l ++ code) ++ x) (more_zeros pad (all - at - length new) ∙ ap zeros left);
    }

-- ---- an item's bits sent

-- the answer and the bytes of a sending that is accepted
accepted_so : {bytes after : List ℕ} {at x r next : ℕ} {s : Result ℕ NotSent} {left : List ℕ} → SendPromise bytes at x r s after
    → send_means bytes at x r ≡ accept next left
    → (s ≡ Ok next) × (after ≡ left)
accepted_so p e = (
  one_result not_sent (ap (λ (o : Outcome ℕ (List ℕ)). o.answer) (p.outcome ∙ e)) refl,
  ap (λ (o : Outcome ℕ (List ℕ)). o.leaves) (p.outcome ∙ e),
)

-- what an item's bits, sent right after those that are there, answer and leave: the position after them, and bytes filled with them too
pub record SentAfter (bytes l code : List ℕ) (s : Result ℕ NotSent) (after : List ℕ) : Type 0 where
  pub next : s ≡ Ok (length l + length code)
  pub filled : Filled after (l ++ code)
  pub long : length after ≡ length bytes

-- so it is where the item is not refused and its bits fit
pub filled_more : {bytes l code after : List ℕ} {at x r : ℕ} {s : Result ℕ NotSent} → SendPromise bytes at x r s after → Filled bytes l → at ≡ length l
    → item_bits x r ≡ accepted code → length l + length code ≤ 8 * length bytes → length bytes ≤ 2 ^ 60 → SentAfter bytes l code s after
filled_more {bytes} {l} {code} {after} {at} {x} {r} {s} p f here e room small = go (sends_of x) refl
  where
    go : (t : Bool) → sends_of x ≡ t → SentAfter bytes l code s after
    go true t =
        let fits : length l + length code ≤ length (bits_that_count bytes) = omega (arith, length-bits_that_count bytes) in
        let o = accepted_so p
        (send_puts bytes at x r t e
        ∙ ap (λ (n : ℕ). place_means bytes n code) here
        ∙ ap (λ (b : Bool). pick b (accept (length l + length code) (bytes_with bytes (length l) code)) (refuse 3 bytes))
        (le-leb (length l + length code) (length (bits_that_count bytes)) fits)) in
        record {
          next = o.0;
          filled = subst (λ (k : List ℕ). Filled k (l ++ code)) (sym o.1) (filled_put bytes l code f (bits_bits x r e) fits);
          long = ap length o.1 ∙ length-bytes_from (length bytes) (put_at (bits_of bytes) (length l) code);
        }
    go false t =
        let none = send_nothing bytes at x r t in
        let o = accepted_so p none.0 in
        let empty : code ≡ [] = accepted_same (sym e ∙ none.1) in
        let same : at ≡ length l + length code = omega (arith, here, ap length empty) in
        let whole : l ≡ l ++ code = sym (append-nil l) ∙ ap (λ (k : List ℕ). l ++ k) (sym empty) in
        record {
          next = o.0 ∙ ap (λ (n : ℕ). Ok n) same;
          filled = subst (λ (k : List ℕ). Filled k (l ++ code)) (sym o.1) (subst (Filled bytes) whole f);
          long = ap length o.1;
        }

-- where the item is refused, it is by 12, and the bytes are as they were
pub filled_stays : {bytes after carried : List ℕ} {at x r n : ℕ} {s : Result ℕ NotSent} → SendPromise bytes at x r s after → item_bits x r ≡ refusal n carried
    → (s ≡ Err TooLarge) × (item_bits x r ≡ refused 12) × (after ≡ bytes)
filled_stays {bytes} {after} {carried} {at} {x} {r} {n} {s} p e = go (sends_of x) refl
  where
    go : (t : Bool) → sends_of x ≡ t → (s ≡ Err TooLarge) × (item_bits x r ≡ refused 12) × (after ≡ bytes)
    go true t =
        let twelve : item_bits x r ≡ refused 12 = bits_refused x r e in
        let o : outcome_of (sent_paper s) after ≡ refuse 12 bytes = p.outcome ∙ send_refuses bytes at x r t twelve in (
          one_result not_sent (ap (λ (u : Outcome ℕ (List ℕ)). u.answer) o) refl,
          twelve,
          ap (λ (u : Outcome ℕ (List ℕ)). u.leaves) o,
        )
    go false t = absurd (refused_not (sym e ∙ (send_nothing bytes at x r t).1))

-- an item that was answered by a next position: its bits, and what they leave
pub record SentBits (bytes l : List ℕ) (x r next : ℕ) (after : List ℕ) : Type 0 where
  pub code : List ℕ
  pub are : item_bits x r ≡ accepted code
  pub few : length code ≤ most_bits
  pub next_is : next ≡ length l + length code
  pub filled : Filled after (l ++ code)
  pub long : length after ≡ length bytes

-- what an answer tells, where the most bits of an item have room
abbrev pub Tells : List ℕ → List ℕ → ℕ → ℕ → List ℕ → Result ℕ NotSent → Type 0
Tells bytes l x r after (Ok next) = SentBits bytes l x r next after
Tells bytes l x r after (Err TooLarge) = (item_bits x r ≡ refused 12) × (after ≡ bytes)
Tells bytes l x r after (Err TooShort) = ⊥

-- so it tells
pub sent_tells : {bytes l after : List ℕ} {at x r : ℕ} {s : Result ℕ NotSent} → SendPromise bytes at x r s after → Filled bytes l → at ≡ length l
    → length l + most_bits ≤ 8 * length bytes → length bytes ≤ 2 ^ 60 → Tells bytes l x r after s
sent_tells {bytes} {l} {after} {at} {x} {r} {s} p f here room small = go (item_bits x r) refl
  where
    go : (q : Paper (List ℕ)) → item_bits x r ≡ q → Tells bytes l x r after s
    go (accepted code) e =
        let few : length code ≤ most_bits = bits_few x r e in
        let o = filled_more p f here e (omega arith) small in
        subst (Tells bytes l x r after) (sym o.next)
        (record { code = code; are = e; few = few; next_is = refl; filled = o.filled; long = o.long })
    go (refusal n carried) e =
        let o = filled_stays p e in
        subst (Tells bytes l x r after) (sym o.0) (o.1, o.2)

-- ---- the bytes of all bits

-- the bits of the first bytes
bits_of_first : (n : ℕ) (bytes : List ℕ) → n ≤ length bytes → bits_of (take n bytes) ≡ take (8 * n) (bits_of bytes)
bits_of_first zero bytes h = refl
bits_of_first (suc n) [] h = absurd (omega arith)
bits_of_first (suc n) (b ∷ bytes) h =
    let more : 8 + 8 * n ≡ 8 * suc n = omega arith in
    ap (λ (l : List ℕ). to_bits 8 b ++ l) (bits_of_first n bytes (omega arith))
    ∙ sym (take-append-add (to_bits 8 b) (bits_of bytes) (8 * n))
    ∙ ap (λ (k : ℕ). take k (to_bits 8 b ++ bits_of bytes)) more

-- "zeros filling the last byte": the front of the bytes is the bytes of the bits
pub filled_front : {bytes l : List ℕ} → Filled bytes l → Bytes bytes → take ((length l + 7) / 8) bytes ≡ bytes_of_bits l
unfolding bytes_of_bits
filled_front {bytes} {l} f ok =
    let n : ℕ = (length l + 7) / 8 in
    let all : ℕ = 8 * length bytes - length l in
    let within : length l ≤ 8 * length bytes = filled_within f in
    let enough : n ≤ length bytes = omega arith in
    let long : length (take n bytes) ≡ n = length-take-le n bytes enough in
    let part : 8 * n ≡ length l + (8 * n - length l) = omega arith in
    let pad : 8 * n - length l ≡ to_byte_end (0 + length l) = omega arith in
    sym (bytes_back (take n bytes) (bytes_take n bytes ok))
    ∙ ap₂ bytes_from long
    (bits_of_first n bytes enough
    ∙ ap₂ take part f.bits
    ∙ take-append-add l (zeros all) (8 * n - length l)
    ∙ ap (λ (k : List ℕ). l ++ k) (take-zeros (8 * n - length l) all (omega arith) ∙ ap zeros pad))

-- they are as many as hold the bits
pub length-bytes_of_bits : (l : List ℕ) → length (bytes_of_bits l) ≡ (length l + 7) / 8
unfolding bytes_of_bits
length-bytes_of_bits l = length-bytes_from ((length l + 7) / 8) (padded 0 l)

-- bytes from bits are bytes
bytes_from_lem : (n : ℕ) (l : List ℕ) → all_bits l → Bytes (bytes_from n l)
unfolding bytes_from
bytes_from_lem zero l fine i = zero-lt-suc 255
bytes_from_lem (suc n) l fine zero =
    let few : 2 ^ length (take 8 l) ≤ 2 ^ 8 = pow_mono {i = length (take 8 l)} {j = 8} (omega (arith, length-take 8 l)) in
    omega (arith, from_bits_lt (take 8 l) (all_bits-take 8 l fine))
bytes_from_lem (suc n) l fine (suc i) = bytes_from_lem n (drop 8 l) (all_bits-drop 8 l fine) i

-- and so are those of all bits
pub bytes_of_bits_lem : (l : List ℕ) → all_bits l → Bytes (bytes_of_bits l)
unfolding bytes_of_bits
bytes_of_bits_lem l fine =
    let pad : ℕ = to_byte_end (0 + length l) in
    bytes_from_lem ((length l + 7) / 8) (padded 0 l) (all_bits-append l (zeros pad) fine (subst all_bits (to_bits-zeros pad) (all_bits-to_bits pad 0)))
