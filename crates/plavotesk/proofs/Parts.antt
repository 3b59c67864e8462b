-- Laws that the proof of `plv_packet_payload` cites: where a part starts.
-- Assumes nothing.
use mathlib.Core.Path.{◌≡◌, refl, ap}
use mathlib.Core.Bool.{true, not}
use mathlib.Core.List.{List, []}
use Prim.Native.Nat.{ℕ, ◌+◌, ◌≤◌, ◌<◌}
use native.Mathlib.Omega.{arith}
use borrow.Author.Tests.{eq-eqb, ne_eqb, ltb-false}
use lib.ListN.{length, take, drop}
use Rattle.ground.specs.Choice.{pick_elim}
use Rattle.ground.specs.Questions.{answered_no, both_hold}
use Rattle.packet.specs.Meaning.{stands, too_long, handed, data_length, payload_means, payload_start}
use Rattle.packet.specs.Laws.{standing}
use Rattle.plavotesk.specs.Promise.{PacketPayloadPromise}

module _ (capture part : List ℕ) (at : ℕ) (e : part ≡ payload_means capture at) where
  -- an empty part
  pub part_empty : length part ≡ 0 → PacketPayloadPromise capture at (0, length part)
  part_empty z = rw (← e, eq-eqb (length part) 0 z)

  -- a part that holds data was handed back
  was_handed : (length part ≡ 0 → ⊥) → handed capture at ≡ true
  unfolding payload_means
  was_handed n =
      pick_elim (λ (l : List ℕ). part ≡ l → handed capture at ≡ true) (handed capture at) (take (data_length capture at) (drop (at + 8) capture)) []
      (λ h. λ _. h)
      (λ h. λ q. absurd (n (ap length q)))
      e

  -- it starts 8 bytes after the place
  pub part_data : (length part ≡ 0 → ⊥) → PacketPayloadPromise capture at (at + 8, length part)
  unfolding payload_start
  part_data n = rw (← e, ne_eqb (length part) 0 n, was_handed n)

  -- which lies in a capture that is not too long
  pub part_near : (length part ≡ 0 → ⊥) → at < 65536
  part_near n =
      let both = both_hold {a = not (too_long capture)} {b = stands capture at} (was_handed n) in
      let s = standing capture at both.1 in
      let short : length capture ≤ 65536 = ltb-false 65536 (length capture) (answered_no {r = too_long capture} refl both.0) in
      omega (arith, s.whole)
