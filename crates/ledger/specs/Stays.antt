-- What calls leave as it was, accepted ones too, one by one and over a sequence.
-- Assumes nothing.
use Rattle.std.specs.Prelude.{false, not, ◌≡◌, refl, List, [], ◌∷◌, ℕ, ◌+◌, length}
use Rattle.std.proofs.Common.{◌∙◌, length-set}
use Rattle.ground.specs.Questions.{both_ways}
use Rattle.pages.specs.Layout.{place_of}
use Rattle.pages.specs.Meaning.{cells_of, walk_at, word_of}
use Rattle.pages.specs.Walks.{walk_length}
use Rattle.data_packet.specs.Runs.{Conserved, run_conserves, run_has}
use Rattle.data_packet.specs.Sizes.{run_sized}
use Rattle.packet_ask.specs.Keeping.{flip_bytes, packet_framed}
use Rattle.packet_ask.specs.Outcomes.{packet_for}
use Rattle.state.specs.Words.{bytes_in, kept_in, page_in}
use Rattle.histogram.specs.Meaning.{CallOutcome, admission}
use Rattle.ledger.specs.Outcomes.{call_elim}
use Rattle.ledger.specs.Runs.{Call, Ledger, NoNew, call_means, is_new, run, step}
use Rattle.histogram.specs.States.{Framed, admits_long, flip_framed, flip_says, framed_admits, framed_same, keep_framed}

-- what every call leaves as it was: the memory's length, 2N and the words past the state's, and what is kept, a packet's bytes too, unless it is a new ask
pub record Steady (m w : List ℕ) (o : CallOutcome) : Type 0 where
  pub long : length o.leaves.memory ≡ length m
  pub framed : Framed w o.leaves.state
  pub kept : is_new o.answer ≡ false → kept_in o.leaves.state ≡ kept_in w
  pub bytes : is_new o.answer ≡ false → bytes_in o.leaves.state ≡ bytes_in w

-- every call, on any memory and any state
pub call_steady : (m w : List ℕ) (c : Call) → Steady m w (call_means m w c)
call_steady m w =
    call_elim (λ c o. Steady m w o) m w
    (λ c n z. record { long = refl; framed = framed_same w; kept = λ e. refl; bytes = λ e. refl })
    (λ h a k. record {
      long = length-set m (place_of (length m) (page_in w) a) (word_of m (page_in w) a + 1);
      framed = framed_same w;
      kept = λ e. refl;
      bytes = λ e. refl;
    })
    (λ h. record {
      long = refl;
      framed = flip_framed w (admits_long m w h);
      kept = λ e. (flip_says w (admits_long m w h)).1;
      bytes = λ e. flip_bytes w (admits_long m w h);
    })
    (λ h number v k t. record {
      long = walk_length (not (page_in w)) v.clear (walk_at m 0) (cells_of v);
      framed = keep_framed w number v _ (admits_long m w h);
      kept = λ e. absurd (both_ways refl e);
      bytes = λ e. absurd (both_ways refl e);
    })
    (λ h number sum v. record { long = refl; framed = framed_same w; kept = λ e. refl; bytes = λ e. refl })
    (λ h number i buffer r few e t. record {
      long = (run_has (Conserved m) (run_conserves m (not (page_in w)) i.items) e).long;
      framed =
          packet_framed w number i r.total (packet_for i r) (admits_long m w h) few (run_sized m (not (page_in w)) i r few e).packet_few;
      kept = λ z. absurd (both_ways refl z);
      bytes = λ z. absurd (both_ways refl z);
    })
    (λ h number total i buffer. record { long = refl; framed = framed_same w; kept = λ e. refl; bytes = λ e. refl })

-- a call may go on after another where it might before
pub call_admits : (l : Ledger) (c : Call) → admission (step l c).memory (step l c).state ≡ admission l.memory l.state
call_admits l c =
    let st = call_steady l.memory l.state c in
    framed_admits l.memory (step l c).memory st.long st.framed

-- over a sequence with no new ask too, and what is kept stays
pub run_stays : (l : Ledger) (cs : List Call) → NoNew l cs
    → (admission (run l cs).memory (run l cs).state ≡ admission l.memory l.state) × (kept_in (run l cs).state ≡ kept_in l.state)
    × (bytes_in (run l cs).state ≡ bytes_in l.state)
run_stays l [] n = (refl, refl, refl)
run_stays l (c ∷ cs) n =
    let ih = run_stays (step l c) cs n.1 in
    let st = call_steady l.memory l.state c in
    (ih.0 ∙ call_admits l c, ih.1 ∙ st.kept n.0, ih.2 ∙ st.bytes n.0)
