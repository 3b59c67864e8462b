-- Pages: an accepted increment raises one counter of the active page; an ask visits the idle page alone, so no counter of the active page changes.
-- Assumes nothing.
use Rattle.std.specs.Prelude.{Bool, ◌≡◌, refl, List, ℕ, ◌+◌, ◌/◌, ◌<◌, length}
use Rattle.ground.specs.Outcome.{refuse}
use Rattle.ground.specs.Paper.{accepted, refused_not}
use Rattle.data_packet.specs.Runs.{Left, run_has, run_leaves}
use Rattle.item.specs.Inputs.{Inputs}
use Rattle.packet_ask.specs.Meaning.{packet_means}
use Rattle.pages.specs.Meaning.{cells_of, walk_at, word_of}
use Rattle.pages.specs.Walks.{cells_all_under, walk_leaves}
use Rattle.pages.specs.Words.{put_same, put_other}
use Rattle.pages.specs.declared.Window.{Window}
use Rattle.state.specs.Words.{page_in}
use Rattle.histogram.specs.Meaning.{CallOutcome, done, increment_means, lent}
use Rattle.window_ask.specs.Meaning.{ask_means}
use Rattle.ledger.specs.Outcomes.{call_elim}
use Rattle.ledger.specs.Runs.{Call, increment, flip, ask, ask_packet, call_means}

-- an accepted increment: its counter holds one more, and every other counter what it held
pub record Raised (m : List ℕ) (page : Bool) (address : ℕ) (after : List ℕ) : Type 0 where
  pub one_more : word_of after page address ≡ word_of m page address + 1
  pub others : (q : Bool) (b : ℕ) → b < length m / 2 → ((q ≡ page) × (b ≡ address) → ⊥) → word_of after q b ≡ word_of m q b

-- what each call does to the counters: an accepted increment raises one; no ask changes one of the active page
abbrev pub Counters : List ℕ → Bool → Call → CallOutcome → Type 0
Counters m page (increment address) o = o.answer ≡ accepted done → Raised m page address o.leaves.memory
Counters m page flip o = o.leaves.memory ≡ m
Counters m page (ask number v) o = (b : ℕ) → b < length m / 2 → word_of o.leaves.memory page b ≡ word_of m page b
Counters m page (ask_packet number i buffer) o = (b : ℕ) → b < length m / 2 → word_of o.leaves.memory page b ≡ word_of m page b

-- a refusal does nothing to them
refusal_leaves : (m w : List ℕ) (page : Bool) (c : Call) (n : ℕ) → Counters m page c (refuse n (lent m w))
refusal_leaves m w page (increment address) n = λ e. absurd (refused_not e)
refusal_leaves m w page flip n = refl
refusal_leaves m w page (ask number v) n = λ b k. refl
refusal_leaves m w page (ask_packet number i buffer) n = λ b k. refl

-- every call, on any memory and any state
pub call_counters : (m w : List ℕ) (c : Call) → Counters m (page_in w) c (call_means m w c)
call_counters m w =
    call_elim (Counters m (page_in w)) m w (λ c n z. refusal_leaves m w (page_in w) c n)
    (λ h a k e. record {
      one_more = put_same m (page_in w) a (word_of m (page_in w) a + 1) k;
      others = λ q b j d. put_other m (page_in w) q a b (word_of m (page_in w) a + 1) k j d;
    })
    (λ h. refl)
    (λ h number v k t b j. walk_leaves (page_in w) v.clear (walk_at m 0) (cells_of v) b (cells_all_under (length m / 2) v k) j)
    (λ h number sum v b j. refl)
    (λ h number i buffer r few e t b j. (run_has (Left m (page_in w) b) (run_leaves m (page_in w) i.items b j) e).word)
    (λ h number total i buffer b j. refl)

-- what an accepted increment leaves
pub increment_raises : (m w : List ℕ) (address : ℕ) → (increment_means m w address).answer ≡ accepted done
    → Raised m (page_in w) address (increment_means m w address).leaves.memory
increment_raises m w address = call_counters m w (increment address)

-- "It works on the idle page": an ask, whatever it answers, leaves every counter of the active page
pub ask_leaves_active : (m w : List ℕ) (number : ℕ) (v : Window) (b : ℕ) → b < length m / 2
    → word_of (ask_means m w number v).leaves.memory (page_in w) b ≡ word_of m (page_in w) b
ask_leaves_active m w number v = call_counters m w (ask number v)

-- and so does a packet ask
pub packet_leaves_active : (m w buffer : List ℕ) (number : ℕ) (i : Inputs) (b : ℕ) → b < length m / 2
    → word_of (packet_means m w buffer number i).leaves.memory (page_in w) b ≡ word_of m (page_in w) b
packet_leaves_active m w buffer number i = call_counters m w (ask_packet number i buffer)
