-- Laws of a kept packet's words: what they say after an ask was kept, and that flips and plain asks leave its bytes.
-- Assumes nothing.
use Rattle.std.specs.Prelude.{◌≡◌, refl, List, [], ◌∷◌, map, ℕ, suc, ◌<◌, ◌≤◌, min, drop, get_or, length, set, take}
use Rattle.std.proofs.Common.{ap, ap₂, ◌∙◌, mod-eq_of_lt, arith, length-set}
use Rattle.std.proofs.Math.Seq.{drop-set-lt, get_or-set_same, take-set-le}
use Rattle.ground.specs.Bytes.{Bytes}
use Rattle.ground.specs.Putting.{put, length-put}
use Rattle.item.specs.Inputs.{Inputs}
use Rattle.pages.specs.declared.Window.{Window}
use Rattle.state.specs.Words.{packet, Last, byte_count_at, byte_of, bytes_at, bytes_in, flip_in, item_count_at, items_at, keep_in, keep_inputs}
use Rattle.state.specs.Words.{flag_in, flags_at, initial_at, keep_packet_in, kept_at, kept_in, low_at, most_bytes, most_items, number_at, packet_ask, page_in}
use Rattle.state.specs.Words.{second_at}
use Rattle.state.specs.Words.{second_of_hour_at, state_words, sum_at, words_at}
use Rattle.histogram.specs.States.{Framed, Says, ten}
use Rattle.packet_ask.specs.Parts.{part_same, place_same, put_before, put_past, put_there}

-- what holds of five words and any rest holds of five words or more
five : (P : List ℕ → Type 0) → ((a b c d e : ℕ) (l : List ℕ) → P (a ∷ b ∷ c ∷ d ∷ e ∷ l)) → (l : List ℕ) → 5 ≤ length l → P l
five P p [] n = absurd (omega arith)
five P p (a ∷ []) n = absurd (omega arith)
five P p (a ∷ b ∷ []) n = absurd (omega arith)
five P p (a ∷ b ∷ c ∷ []) n = absurd (omega arith)
five P p (a ∷ b ∷ c ∷ d ∷ []) n = absurd (omega arith)
five P p (a ∷ b ∷ c ∷ d ∷ e ∷ l) n = p a b c d e l

-- what the words of a packet's ask say but for its items and bytes; 2N, the page, how many they are and those past the state's are as they were
record InputsKept (l : List ℕ) (number : ℕ) (i : Inputs) (total : ℕ) (k : List ℕ) : Type 0 where
  size : get_or k words_at 0 ≡ get_or l words_at 0
  page : get_or k second_at 0 ≡ get_or l second_at 0
  kind : get_or k kept_at 0 ≡ packet_ask
  numbered : get_or k number_at 0 ≡ number
  sum : get_or k sum_at 0 ≡ total
  low : get_or k low_at 0 ≡ i.low
  flags : get_or k flags_at 0 ≡ i.flags
  initial : get_or k initial_at 0 ≡ i.initial
  second : get_or k second_of_hour_at 0 ≡ i.second
  count : get_or k item_count_at 0 ≡ length i.items
  long : length k ≡ length l
  rest : drop state_words k ≡ drop state_words l

-- the inputs written say so
inputs_kept : (l : List ℕ) (number : ℕ) (i : Inputs) (total : ℕ) → state_words ≤ length l → InputsKept l number i total (keep_inputs l number i total)
inputs_kept l number i total h =
    ten (λ x. state_words ≤ length x → InputsKept x number i total (keep_inputs x number i total))
    (λ a b c d e f g p q r x n. five
    (λ y. InputsKept (a ∷ b ∷ c ∷ d ∷ e ∷ f ∷ g ∷ p ∷ q ∷ r ∷ y) number i total (keep_inputs (a ∷ b ∷ c ∷ d ∷ e ∷ f ∷ g ∷ p ∷ q ∷ r ∷ y) number i total))
    (λ s t u v w y. record {
      size = refl;
      page = refl;
      kind = refl;
      numbered = refl;
      sum = refl;
      low = refl;
      flags = refl;
      initial = refl;
      second = refl;
      count = refl;
      long = refl;
      rest = refl;
    })
    x (omega arith))
    l h h

-- words that say so, with the items behind them, keep the packet's ask
kept_so : {l : List ℕ} {number : ℕ} {i : Inputs} {total : ℕ} {k : List ℕ} → InputsKept l number i total k → length i.items ≤ most_items
    → take (length i.items) (drop items_at k) ≡ i.items → kept_in k ≡ Last number (packet i) total
kept_so {i = i} s few e =
    let all : min (length i.items) most_items ≡ length i.items = omega arith in
    rw (s.kind, s.numbered, s.sum, s.low, s.flags, s.initial, s.second, s.count, all, e)

-- bytes are their words' low 8 bits
bytes_low : (l : List ℕ) → Bytes l → map byte_of l ≡ l
bytes_low [] b = refl
bytes_low (x ∷ xs) b = ap₂ (λ (y : ℕ) (ys : List ℕ). y ∷ ys) (mod-eq_of_lt (b 0)) (bytes_low xs (λ j. b (suc j)))

module _ (l : List ℕ) (number : ℕ) (i : Inputs) (total : ℕ) (bytes : List ℕ)
    (long : state_words ≤ length l) (few : length i.items ≤ most_items) (short : length bytes ≤ most_bytes) where
  -- the words with the inputs written
  abbrev first : List ℕ
  first = keep_inputs l number i total

  -- then with the items
  abbrev second : List ℕ
  second = put first items_at i.items

  -- then with how many bytes
  abbrev third : List ℕ
  third = set second byte_count_at (length bytes)

  -- then with the bytes
  abbrev last : List ℕ
  last = keep_packet_in l number i total bytes

  -- each as long as the words lent
  first_long : length first ≡ length l
  first_long = (inputs_kept l number i total long).long

  second_long : length second ≡ length l
  second_long = length-put first items_at i.items (omega (arith, first_long)) ∙ first_long

  third_long : length third ≡ length l
  third_long = length-set second byte_count_at (length bytes) ∙ second_long

  -- the words before the items are the inputs'
  front : take items_at last ≡ take items_at first
  unfolding keep_packet_in
  front =
      put_before third bytes_at bytes items_at (omega arith) (omega (arith, third_long))
      ∙ take-set-le items_at second byte_count_at (length bytes) (omega arith)
      ∙ put_before first items_at i.items items_at (omega arith) (omega (arith, first_long))

  -- the items
  items_kept : take (length i.items) (drop items_at last) ≡ i.items
  unfolding keep_packet_in
  items_kept =
      part_same last second items_at (length i.items) byte_count_at (omega arith)
      (put_before third bytes_at bytes byte_count_at (omega arith) (omega (arith, third_long))
      ∙ take-set-le byte_count_at second byte_count_at (length bytes) (omega arith))
      ∙ put_there first items_at i.items (omega (arith, first_long))

  -- how many bytes
  count_kept : get_or last byte_count_at 0 ≡ length bytes
  unfolding keep_packet_in
  count_kept =
      place_same last third bytes_at byte_count_at (omega arith) (put_before third bytes_at bytes bytes_at (omega arith) (omega (arith, third_long)))
      ∙ get_or-set_same second byte_count_at (length bytes) 0 (omega (arith, second_long))

  -- the bytes
  put_kept : take (length bytes) (drop bytes_at last) ≡ bytes
  unfolding keep_packet_in
  put_kept = put_there third bytes_at bytes (omega (arith, third_long))

  -- as many words as were lent, and those past the state's as they were
  last_long : length last ≡ length l
  unfolding keep_packet_in
  last_long = length-put third bytes_at bytes (omega (arith, third_long)) ∙ third_long

  last_rest : drop state_words last ≡ drop state_words l
  unfolding keep_packet_in
  last_rest =
      put_past third bytes_at bytes state_words (omega arith) (omega (arith, third_long))
      ∙ drop-set-lt state_words second byte_count_at (length bytes) (omega arith)
      ∙ put_past first items_at i.items state_words (omega arith) (omega (arith, first_long))
      ∙ (inputs_kept l number i total long).rest

  -- what the words before the items say
  last_kept : InputsKept l number i total last
  last_kept =
      let s = inputs_kept l number i total long in
      let there : (n : ℕ) → n < items_at → get_or last n 0 ≡ get_or first n 0 = λ n h. place_same last first items_at n h front in
      record {
        size = there words_at (omega arith) ∙ s.size;
        page = there second_at (omega arith) ∙ s.page;
        kind = there kept_at (omega arith) ∙ s.kind;
        numbered = there number_at (omega arith) ∙ s.numbered;
        sum = there sum_at (omega arith) ∙ s.sum;
        low = there low_at (omega arith) ∙ s.low;
        flags = there flags_at (omega arith) ∙ s.flags;
        initial = there initial_at (omega arith) ∙ s.initial;
        second = there second_of_hour_at (omega arith) ∙ s.second;
        count = there item_count_at (omega arith) ∙ s.count;
        long = last_long;
        rest = last_rest;
      }

  -- a packet's ask kept: the page stays, and the ask is kept with its inputs and its total
  pub packet_says : Says (keep_packet_in l number i total bytes) (page_in l) (Last number (packet i) total)
  packet_says = (ap flag_in last_kept.page, kept_so last_kept few items_kept)

  -- its bytes are kept with it
  pub packet_bytes : Bytes bytes → bytes_in (keep_packet_in l number i total bytes) ≡ bytes
  packet_bytes b =
      let all : min (length bytes) most_bytes ≡ length bytes = omega arith in
      ap (λ (n : ℕ). map byte_of (take (min n most_bytes) (drop bytes_at last))) count_kept
      ∙ ap (λ (n : ℕ). map byte_of (take n (drop bytes_at last))) all
      ∙ ap (map byte_of) put_kept
      ∙ bytes_low bytes b

  -- and neither how many words are lent, 2N nor a word past the state's changes
  pub packet_framed : Framed l (keep_packet_in l number i total bytes)
  packet_framed = record { long = last_long; size = last_kept.size; rest = last_rest }

-- a flip leaves the kept bytes
pub flip_bytes : (w : List ℕ) → state_words ≤ length w → bytes_in (flip_in w) ≡ bytes_in w
flip_bytes w = ten (λ l. bytes_in (flip_in l) ≡ bytes_in l) (λ a b c d e f g h i j l. refl) w

-- and so does a plain ask
pub keep_bytes : (w : List ℕ) (n : ℕ) (v : Window) (sum : ℕ) → state_words ≤ length w → bytes_in (keep_in w n v sum) ≡ bytes_in w
keep_bytes w n v sum = ten (λ l. bytes_in (keep_in l n v sum) ≡ bytes_in l) (λ a b c d e f g h i j l. refl) w
