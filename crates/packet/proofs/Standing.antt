-- The tests of a packet, one after the other: the first that fails settles that no packet stands.
-- Assumes nothing.
use mathlib.Core.Path.{◌≡◌, sym, ◌∙◌}
use mathlib.Core.Bool.{Bool, true, false}
use mathlib.Core.List.{List}
use Prim.Native.Nat.{ℕ, ◌+◌, ◌-◌, ◌<◌, ◌≤◌}
use native.Mathlib.Omega.{arith}
use borrow.Author.Tests.{lt-ltb, le-ltb, le-leb, lt-leb, leb-true}
use lib.ListN.{length}
use Rattle.ground.specs.Words.{word_at}
use Rattle.ground.specs.Meaning.{lies}
use Rattle.ground.specs.Promise.{LiesPromise, WordPromise}
use Rattle.ground.specs.Laws.{word_there}
use Rattle.crc.specs.Promise.{SealedPromise}
use Rattle.packet.specs.Meaning.{marked, stands}

module _ {l : List ℕ} {at : ℕ} {room : Bool} (p : LiesPromise l at 10 room) where
  -- no ten bytes from the place on
  pub too_near_the_end : room ≡ false → false ≡ stands l at
  unfolding stands
  too_near_the_end e = rw (sym p.answer ∙ e)

  module _ (roomy : room ≡ true) {mark : Bool} (q : mark ≡ marked l at) where
    -- ten bytes lie there
    ten : lies l at 10 ≡ true
    ten = sym p.answer ∙ roomy

    -- another mark
    pub not_marked : mark ≡ false → false ≡ stands l at
    unfolding stands
    not_marked e = rw (ten, sym q ∙ e)

    module _ (m : mark ≡ true) {w : ℕ} (word : WordPromise l (at + 4) w) where
      -- the length word lies in the capture where ten bytes do
      is : w ≡ word_at l (at + 4)
      is = word_there word (omega (arith, leb-true (at + 10) (length l) ten))

      -- a length word under 4
      pub too_small : w < 4 → false ≡ stands l at
      unfolding stands
      too_small h = rw (ten, sym q ∙ m, ← is, lt-leb 4 w h)

      -- a length word with a top bit set
      pub too_large : 4 ≤ w → 8192 ≤ w → false ≡ stands l at
      unfolding stands
      too_large g h = rw (ten, sym q ∙ m, ← is, le-leb 4 w g, le-ltb w 8192 h)

      -- what the checksum covers, by the length word and by n
      size : 4 ≤ w → w + 4 ≡ w - 4 + 8
      size g = omega arith

      -- where mark and length agree, the checksum settles it
      pub up_to_checksum : 4 ≤ w → w < 8192 → {r : Bool} → SealedPromise l at (w + 4) r → r ≡ stands l at
      unfolding stands
      up_to_checksum g h s = rw (ten, sym q ∙ m, ← is, le-leb 4 w g, lt-ltb w 8192 h, ← size g) s.answer
