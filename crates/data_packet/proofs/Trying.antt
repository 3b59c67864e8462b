-- Items tried one after the other: the trial in the code stands for the trial of the definitions.
-- Assumes nothing.
use mathlib.Core.Path.{◌≡◌, ap, ap₂, sym, subst, ◌∙◌}
use mathlib.Core.Bool.{Bool, ◌&&◌}
use mathlib.Core.List.{List, [], ◌∷◌, ◌++◌, append_assoc, append-nil}
use Prim.Native.Nat.{ℕ, ◌+◌, ◌*◌, ◌^◌, ◌≤◌, ◌<◌}
use native.Mathlib.Numerals.{add-one}
use native.Mathlib.Omega.{arith}
use Rattle.std.specs.Prelude.{Result}
use lib.ListN.{length, length-append, get_or, take}
use lib.Seq.{length-take-le, take-suc}
use Rattle.ground.specs.Bits.{bits_of}
use Rattle.ground.specs.Choice.{pick, pick_elim}
use Rattle.ground.specs.Paper.{Paper, paper_elim}
use Rattle.code.specs.BitLists.{length-bits_of}
use Rattle.item.specs.Answers.{sent_paper}
use Rattle.item.specs.Bits.{bits_few}
use Rattle.item.specs.Filling.{Filled, filled_more, filled_stays}
use Rattle.item.specs.Meaning.{adds_of, item_bits, window_of}
use Rattle.item.specs.Promise.{SendPromise}
use Rattle.item.specs.declared.NotSent.{NotSent}
use Rattle.pages.specs.Meaning.{Walk}
use Rattle.data_packet.specs.Meaning.{result_of}
use Rattle.data_packet.specs.Running.{Tried, begun, bits_or, item_pass, try_append, try_item, try_items, yes}
use Rattle.data_packet.specs.Steps.{Traced, TryPromise, at_after, most_data, most_sum}
use Rattle.data_packet.specs.declared.Found.{Found}

-- what sending answered of an item's bits, right after those that are there
record Told (b : Paper (List ℕ)) (l : List ℕ) (at : ℕ) (s : Result ℕ NotSent) (room room' : List ℕ) : Type 0 where
  fits : yes (sent_paper s) ≡ yes b
  next : at_after at (sent_paper s) ≡ length (l ++ bits_or b)
  filled : Filled room' (l ++ bits_or b)
  long : length room' ≡ length room

-- where there is room for the longest bits
told : {room l room' : List ℕ} {at x r : ℕ} {s : Result ℕ NotSent} → SendPromise room at x r s room' → Filled room l
    → at ≡ length l → length l + 29 ≤ 8 * length room
    → length room ≤ 2 ^ 60 → Told (item_bits x r) l at s room room'
told {room} {l} {room'} {at} {x} {r} {s} p f here few small =
    paper_elim (λ (b : Paper (List ℕ)). Told b l at s room room') (item_bits x r)
    (λ code e.
    let o = filled_more p f here e (omega (arith, bits_few x r e)) small in
    record {
      fits = ap (λ (a : Result ℕ NotSent). yes (sent_paper a)) o.next;
      next = ap (λ (a : Result ℕ NotSent). at_after at (sent_paper a)) o.next ∙ sym (length-append l code);
      filled = o.filled;
      long = o.long;
    })
    (λ n carried e.
    let o = filled_stays p e in
    record {
      fits = ap (λ (a : Result ℕ NotSent). yes (sent_paper a)) o.0;
      next = ap (λ (a : Result ℕ NotSent). at_after at (sent_paper a)) o.0 ∙ here ∙ ap length (sym (append-nil l));
      filled = subst (λ (k : List ℕ). Filled k (l ++ [])) (sym o.2) (subst (Filled room) (sym (append-nil l)) f);
      long = ap length o.2;
    })

-- the first byte has eight bits
pub first_long : (room : List ℕ) → length room ≡ most_data → length (take 8 (bits_of room)) ≡ 8
first_long room e = length-take-le 8 (bits_of room) (omega (arith, length-bits_of room))

-- one item more, where there is room for the longest bits
traced_step : (n : ℕ) (page : Bool) (t : Tried) (x : ℕ) {first m room m' room' : List ℕ} {f r : Found} → length m ≡ n → Traced t first f m room
    → TryPromise m page x f room r m' room' → length (first ++ t.run.bits) + 29 ≤ 8 * most_data → Traced (try_item n page t x) first r m' room'
traced_step n page t x {first} {m} {room} {m'} {room'} {f} {r} l tr p few =
    let w = item_pass n page t.run.memory x in
    let same : item_pass (length m) page m x ≡ w = ap₂ (λ (k : ℕ) (y : List ℕ). item_pass k page y x) l tr.marked in
    let sum : (item_pass (length m) page m x).sum ≡ w.sum = ap (λ (y : Walk). y.sum) same in
    let result : result_of x f.previous (item_pass (length m) page m x).sum ≡ result_of x t.run.result w.sum =
    ap₂ (λ (a b : ℕ). result_of x a b) tr.result sum in
    let o = told (subst (λ (q : ℕ). SendPromise room f.at x q p.answer room') result p.sent) tr.filled tr.at
    (omega (arith, tr.long)) (omega (arith, tr.long)) in
    let bits = item_bits x (result_of x t.run.result w.sum) in
    record {
      marked = p.left ∙ ap (λ (y : Walk). y.memory) same;
      result = ap (λ (y : Found). y.previous) p.found ∙ result;
      total = ap (λ (y : Found). y.total) p.found ∙ ap₂ (λ (a b : ℕ). a + pick (window_of x).clear b 0) tr.total sum;
      fits = ap (λ (y : Found). y.fits) p.found ∙ ap₂ ◌&&◌ tr.fits o.fits;
      at = ap (λ (y : Found). y.at) p.found ∙ o.next ∙ ap length (append_assoc first t.run.bits (bits_or bits));
      long = o.long ∙ tr.long;
      filled = subst (Filled room') (append_assoc first t.run.bits (bits_or bits)) o.filled;
    }

-- one item more of a table
pub traced_more : (n : ℕ) (page : Bool) (t : Tried) (table : List ℕ) (i : ℕ) {first m room m' room' : List ℕ} {f r : Found} → i < length table → length m ≡ n
    → Traced (try_items n page t (take i table)) first f m room → TryPromise m page (get_or table i 0) f room r m' room' → f.at + 29 ≤ 8 * most_data
    → Traced (try_items n page t (take (i + 1) table)) first r m' room'
traced_more n page t table i {first} {m} {room} {m'} {room'} {f} {r} h l tr p few =
    rw (add-one, take-suc table i 0 h, try_append)
    (traced_step n page (try_items n page t (take i table)) (get_or table i 0) l tr p (omega (arith, tr.at)))

-- an item's bits are at most 29
one_few : (x r : ℕ) → length (bits_or (item_bits x r)) ≤ 29
one_few x r = paper_elim (λ (b : Paper (List ℕ)). length (bits_or b) ≤ 29) (item_bits x r) (λ code e. bits_few x r e) (λ n carried e. omega arith)

-- and those of a table at most as often 29
tried_few : (n : ℕ) (page : Bool) (t : Tried) (xs : List ℕ) → length (try_items n page t xs).run.bits ≤ length t.run.bits + 29 * length xs
tried_few n page t [] = omega arith
tried_few n page t (x ∷ xs) =
    let w = item_pass n page t.run.memory x in
    let result = result_of x t.run.result w.sum in
    omega (arith, tried_few n page (try_item n page t x) xs, length-append t.run.bits (bits_or (item_bits x result)), one_few x result)

-- how far items have come
pub at_most : (n : ℕ) (page : Bool) (m xs : List ℕ) {first m' room : List ℕ} {f : Found} → length first ≡ 8
    → Traced (try_items n page (begun m) xs) first f m' room → f.at ≤ 8 + 29 * length xs
at_most n page m xs {first} {m'} {room} {f} e tr =
    omega (arith, tr.at, length-append first (try_items n page (begun m) xs).run.bits, tried_few n page (begun m) xs)

-- what the next item may find: sums of the items so far
pub sums_more : {m : List ℕ} {page : Bool} {x : ℕ} {f r : Found} {room m' room' : List ℕ} (i : ℕ) → TryPromise m page x f room r m' room'
    → f.previous ≤ i * most_sum → f.total ≤ i * most_sum → (r.previous ≤ (i + 1) * most_sum) × (r.total ≤ (i + 1) * most_sum)
sums_more {m} {page} {x} {f} {r} i p h k =
    let own = (item_pass (length m) page m x).sum in
    let small : own ≤ most_sum = p.small in
    let a : r.previous ≡ own + pick (adds_of x) f.previous 0 = ap (λ (y : Found). y.previous) p.found in
    let b : r.total ≡ f.total + pick (window_of x).clear own 0 = ap (λ (y : Found). y.total) p.found in
    let c : pick (adds_of x) f.previous 0 ≤ f.previous =
    pick_elim (λ (n : ℕ). n ≤ f.previous) (adds_of x) f.previous 0 (λ _. omega arith) (λ _. omega arith) in
    let d : pick (window_of x).clear own 0 ≤ own = pick_elim (λ (n : ℕ). n ≤ own) (window_of x).clear own 0 (λ _. omega arith) (λ _. omega arith) in
    (omega arith, omega arith)
