-- The outcomes of building, one law a return.
-- Assumes nothing.
use mathlib.Core.Path.{◌≡◌, sym, ap, ◌∙◌}
use mathlib.Core.Bool.{Bool, true, false}
use mathlib.Core.List.{List, ◌++◌}
use Prim.Native.Nat.{ℕ, ◌+◌, ◌*◌, ◌≤◌, ◌<◌}
use native.Mathlib.Omega.{arith}
use Rattle.std.specs.Prelude.{Result, Ok, Err}
use lib.Dec.{leb}
use lib.ListN.{length}
use borrow.Author.Tests.{le-leb, lt-leb, leb-true}
use Rattle.ground.specs.Bits.{to_bits}
use Rattle.ground.specs.Choice.{pick_elim}
use Rattle.ground.specs.Paper.{Paper, accepted, refused, accepted_same, refused_not}
use Rattle.ground.specs.Questions.{both_hold}
use Rattle.cadence.specs.Meaning.{highest_dividing}
use Rattle.cadence.specs.Sentence.{highest_is}
use Rattle.cadence.specs.declared.OutOfRange.{OutOfRange}
use Rattle.code.specs.BitLists.{to_bits_join}
use Rattle.item.specs.Inputs.{Inputs}
use Rattle.data_packet.specs.Meaning.{allowed_from, build_means, data_of, first_bits, in_range, inputs_means, most_items}
use Rattle.data_packet.specs.Promise.{BuildPromise}
use Rattle.data_packet.specs.Steps.{FirstPromise, RunPromise, assembling}
use Rattle.data_packet.specs.declared.NotBuilt.{NotBuilt}
use Rattle.data_packet.specs.declared.NotBuilt.TheVariants as N
use Rattle.data_packet.specs.declared.NotBuilt.TheVariants.{ForbiddenItem, TooManyItems}
use Rattle.data_packet.specs.declared.Packet.{Packet}

-- what is in range
pub in_range_means : (flags initial second : ℕ) → in_range flags initial second ≡ true → (flags ≤ 3) × (initial ≤ 7) × (second ≤ 3599)
in_range_means flags initial second e =
    let a = both_hold {a = leb flags 3} e in
    let b = both_hold {a = leb initial 7} a.1 in
    (leb-true _ _ a.0, leb-true _ _ b.0, leb-true _ _ b.1)

-- the first byte has the bits of its three numbers
first_is : (flags initial ending : ℕ) → initial ≤ 7 → ending ≤ 7
    → to_bits 8 (flags * 64 + initial * 8 + ending) ≡ to_bits 2 flags ++ (to_bits 3 initial ++ to_bits 3 ending)
first_is flags initial ending h k =
    let sum : flags * 64 + initial * 8 + ending ≡ flags * 64 + (initial * 8 + ending) = omega arith in
    ap (to_bits 8) sum
    ∙ to_bits_join 2 6 flags (initial * 8 + ending) (omega arith)
    ∙ ap (λ (l : List ℕ). to_bits 2 flags ++ l) (to_bits_join 3 3 initial ending (omega arith))

-- the first byte that is given: its three numbers are in range, and its bits are theirs
record FirstGiven (i : Inputs) (first : ℕ) : Type 0 where
  ranges : in_range i.flags i.initial i.second ≡ true
  bits : to_bits 8 first ≡ first_bits i

first_given : (i : Inputs) {first : ℕ} → FirstPromise i (Ok first) → FirstGiven i first
unfolding first_bits
first_given i {first} p =
    let ending : ℕ = highest_dividing (i.second + 1) in
    pick_elim (λ (a : Paper ℕ). accepted first ≡ a → FirstGiven i first) (in_range i.flags i.initial i.second)
    (accepted (i.flags * 64 + i.initial * 8 + ending)) (refused 19)
    (λ t e. record {
      ranges = t;
      bits =
          ap (to_bits 8) (accepted_same e)
          ∙ first_is i.flags i.initial ending (in_range_means i.flags i.initial i.second t).1 (highest_is (i.second + 1)).has.within;
    })
    (λ t e. absurd (refused_not (sym e))) p.answer

-- where it is refused, one of them is not
first_refused : (i : Inputs) {why : OutOfRange} → FirstPromise i (Err why) → in_range i.flags i.initial i.second ≡ false
first_refused i p =
    pick_elim (λ (a : Paper ℕ). refused 19 ≡ a → in_range i.flags i.initial i.second ≡ false) (in_range i.flags i.initial i.second)
    (accepted (i.flags * 64 + i.initial * 8 + highest_dividing (i.second + 1))) (refused 19)
    (λ t e. absurd (refused_not e)) (λ t e. t) p.answer

module _ (m : List ℕ) (page : Bool) (i : Inputs) (buffer : List ℕ) where
  -- refused: over 64 items
  pub by23 : most_items < length i.items → BuildPromise m page i buffer (Err TooManyItems) m buffer
  unfolding build_means inputs_means
  by23 h = record { outcome = rw (lt-leb _ _ h) }

  module _ (h : length i.items ≤ most_items) where
    -- refused: a forbidden item
    pub by22 : allowed_from false i.items ≡ false → BuildPromise m page i buffer (Err ForbiddenItem) m buffer
    unfolding build_means inputs_means
    by22 k = record { outcome = rw (le-leb _ _ h, k) }

    module _ (k : allowed_from false i.items ≡ true) where
      -- refused: flags, initial level or second out of range
      pub by19 : {why : OutOfRange} {r : Result Packet NotBuilt} → FirstPromise i (Err why) → r ≡ Err N.OutOfRange → BuildPromise m page i buffer r m buffer
      unfolding build_means inputs_means
      by19 p e = record { outcome = rw (e, le-leb _ _ h, k, first_refused i p) }

      -- what is asked is taken: the items run, and their packet
      pub goes_on : {first : ℕ} {bits : List ℕ} {r : Result Packet NotBuilt} {m' buffer' : List ℕ} → FirstPromise i (Ok first) → bits ≡ to_bits 8 first
          → RunPromise m page i bits buffer r m' buffer' → BuildPromise m page i buffer r m' buffer'
      unfolding build_means inputs_means data_of
      goes_on p e q =
          let given = first_given i p in
          record {
            outcome =
                rw (le-leb _ _ h, k, given.ranges)
                (q.outcome ∙ ap (λ (l : List ℕ). assembling m page i l buffer) (e ∙ given.bits));
          }
