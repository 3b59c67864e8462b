-- The exact meaning at zero and at both ends of the range.
-- Assumes nothing.
use Rattle.std.specs.Prelude.{◌≡◌, refl, Bool, true, false, ◌&&◌, List, [], ◌∷◌, ℕ, ℤ, pos, negsuc, nat_abs, length, leb}
use Rattle.std.proofs.Common.{ap}
use Rattle.ground.specs.Choice.{pick}
use Rattle.ground.specs.Outcome.{refuse}
use Rattle.code.specs.Meaning.{code_of, decoded, pack_means, place_means, drop_known, largest, shape_of, leading_in}

-- zero and the largest magnitude of each sign, with each drop: bits of the code, and the number that it decodes to
pub record EndsMean : Type 0 where
  pub zero0 : (code_of 0 (pos 0) ≡ 0 ∷ []) × (decoded 0 (pos 0) ≡ pos 0)
  pub zero3 : (code_of 3 (pos 0) ≡ 0 ∷ []) × (decoded 3 (pos 0) ≡ pos 0)
  pub largest0 : (length (code_of 0 (pos 67108863)) ≡ 29) × (decoded 0 (pos 67108863) ≡ pos 67106815)
  pub largest3 : (length (code_of 3 (pos 67108863)) ≡ 26) × (decoded 3 (pos 67108863) ≡ pos 67092479)
  pub least0 : (length (code_of 0 (negsuc 67108862)) ≡ 29) × (decoded 0 (negsuc 67108862) ≡ negsuc 67106814)
  pub least3 : (length (code_of 3 (negsuc 67108862)) ≡ 26) × (decoded 3 (negsuc 67108862) ≡ negsuc 67092478)

-- each of them holds by computing
pub ends_mean : EndsMean
unfolding shape_of leading_in
ends_mean =
    record {
      zero0 = (refl, refl);
      zero3 = (refl, refl);
      largest0 = (refl, refl);
      largest3 = (refl, refl);
      least0 = (refl, refl);
      least3 = (refl, refl);
    }

-- writing a number refuses by 8 and leaves the buffer
abbrev pub Refuses8 : ℤ → Type 0
Refuses8 v = (buffer : List ℕ) (at d : ℕ) → pack_means buffer at v d ≡ refuse 8 buffer

-- a test that fails fails with any other before it
fails : (a b : Bool) → b ≡ false → (a && b) ≡ false
fails true b e = e
fails false b e = refl

-- a magnitude over the largest is outside the rule, whatever the drop
pub refuses : (v : ℤ) → leb (nat_abs v) largest ≡ false → Refuses8 v
refuses v over buffer at d =
    ap (λ (b : Bool). pick b (place_means buffer at (code_of d v)) (refuse 8 buffer)) (fails (drop_known d) (leb (nat_abs v) largest) over)

-- just over the range
pub refuses_over : Refuses8 (pos 67108864)
refuses_over = refuses (pos 67108864) refl

-- just under the range
pub refuses_under : Refuses8 (negsuc 67108863)
refuses_under = refuses (negsuc 67108863) refl

-- the smallest i32
pub refuses_smallest : Refuses8 (negsuc 2147483647)
refuses_smallest = refuses (negsuc 2147483647) refl
