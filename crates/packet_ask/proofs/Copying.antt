-- As many bytes are kept as are said, and a packet's ask is kept part after part.
-- Assumes nothing.
use mathlib.Core.Path.{◌≡◌, refl, ap, sym, subst, ◌∙◌}
use mathlib.Core.List.{List, ◌++◌}
use Prim.Native.Nat.{ℕ, suc, ◌+◌, ◌-◌, ◌≤◌, ◌<◌}
use native.Mathlib.Omega.{arith}
use Rattle.std.proofs.Common.{add-one, drop-cons, drop-drop, length-take-le, take-suc}
use Rattle.std.proofs.Math.Seq.{append_snoc}
use Rattle.std.proofs.lemmas.List.{set_at}
use Rattle.std.specs.Prelude.{map}
use lib.ListN.{drop, get_or, get_or-map, length, length-drop, length-map, length-take, set, take}
use borrow.Rule.Slice.PartMut.{put_mid}
use Rattle.ground.specs.Putting.{Copied, copied_more, put}
use Rattle.item.specs.Inputs.{Inputs}
use Rattle.state.specs.Words.{byte_count_at, byte_count_in, byte_of, bytes_at, bytes_in, items_at, keep_inputs, keep_packet_in, state_words}

-- one word more is copied
pub copied_step : {room₀ : List ℕ} {at : ℕ} {text room room' : List ℕ} {i : ℕ} → at + length text ≤ length room₀ → Copied room₀ at text room i
    → i < length text → room' ≡ set room (at + i) (get_or text i 0) → Copied room₀ at text room' (i + 1)
copied_step {room₀} {at} {text} {room} {room'} {i} n p h e =
    subst (λ (x : List ℕ). Copied room₀ at text x (i + 1)) (sym e) (copied_more (get_or text i 0) n p h refl)

-- the bytes that are kept
pub bytes_long : (l : List ℕ) → state_words ≤ length l → length (bytes_in l) ≡ byte_count_in l
bytes_long l h =
    length-map (take (byte_count_in l) (drop bytes_at l)) byte_of
    ∙ length-take (byte_count_in l) (drop bytes_at l)
    ∙ omega (arith, length-drop bytes_at l)

-- one byte more is handed out
pub handed : (words bytes room : List ℕ) (i : ℕ) → i < length words → length words ≡ length bytes → room ≡ take i (map byte_of words) ++ drop i bytes
    → set room i (byte_of (get_or words i 0)) ≡ take (i + 1) (map byte_of words) ++ drop (i + 1) bytes
handed words bytes room i h l e =
    let k : i < length (map byte_of words) = omega (arith, length-map words byte_of) in
    let same : length (map byte_of words) ≡ length bytes = length-map words byte_of ∙ l in
    ap (λ (b : ℕ). set room i b) (sym (get_or-map byte_of words i 0)) ∙ one_more (map byte_of words) bytes room i k same e
  where
    one_more : (text bytes room : List ℕ) (i : ℕ) → i < length text → length text ≡ length bytes → room ≡ take i text ++ drop i bytes
        → set room i (get_or text i 0) ≡ take (i + 1) text ++ drop (i + 1) bytes
    one_more text bytes room i h l e =
        ap (λ (r : List ℕ). set r i (get_or text i 0)) (e ∙ ap (λ (r : List ℕ). take i text ++ r) (drop-cons bytes i 0 (omega arith)))
        ∙ set_at (take i text) (get_or bytes i 0) (drop (suc i) bytes) (get_or text i 0) i (length-take-le i text (omega arith))
        ∙ sym (append_snoc (take i text) (get_or text i 0) (drop (suc i) bytes))
        ∙ ap (λ (r : List ℕ). r ++ drop (suc i) bytes) (sym (take-suc text i 0 h))
        ∙ ap (λ (n : ℕ). take n text ++ drop n bytes) (sym (add-one i))

-- a lent middle part is put where it was lent
placed : (l : List ℕ) (at : ℕ) {part bytes : List ℕ} → part ≡ bytes → put_mid at (at + length bytes - at) l part ≡ put l at bytes
placed l at {part} {bytes} e =
    let size : at + length bytes - at ≡ length bytes = omega arith in
    ap (put_mid at (at + length bytes - at) l) e
    ∙ ap (λ (x : List ℕ). take at l ++ (bytes ++ x)) (drop-drop (at + length bytes - at) at l ∙ ap (λ (k : ℕ). drop (at + k) l) size)

-- inputs, items, how many bytes and the bytes, kept one after the other
pub kept_whole : (l : List ℕ) (number : ℕ) (i : Inputs) (total : ℕ) (bytes : List ℕ) {first items words : List ℕ}
    → first ≡ keep_inputs l number i total → items ≡ i.items → words ≡ bytes
    → put_mid bytes_at (bytes_at + length bytes - bytes_at)
    (set (put_mid items_at (items_at + length i.items - items_at) first items) byte_count_at (length bytes)) words
    ≡ keep_packet_in l number i total bytes
unfolding keep_packet_in
kept_whole l number i total bytes {first} p q r =
    placed _ bytes_at r
    ∙ ap (λ (x : List ℕ). put (set x byte_count_at (length bytes)) bytes_at bytes)
    (placed first items_at q ∙ ap (λ (x : List ℕ). put x items_at i.items) p)
