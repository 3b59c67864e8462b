-- What each public call promises: its answer on paper, and the memory that it leaves.
-- Assumes nothing.
use Rattle.std.specs.Prelude.{◌≡◌, List, ℕ, ◌-◌, ◌/◌, ◌%◌, ◌^◌, ◌<◌, ltb, ℤ, Result}
use Rattle.ground.specs.Choice.{pick}
use Rattle.ground.specs.Outcome.{outcome_of}
use Rattle.code.specs.Meaning.{pack_means, shape_means, unpack_means, sign_of}
use Rattle.code.specs.Answers.{packed_paper, shape_paper, unpacked_paper}
use Rattle.code.specs.declared.NotPacked.{NotPacked}
use Rattle.code.specs.declared.Refusal.{Refusal}
use Rattle.code.specs.declared.Shape.{Shape}
use Rattle.code.specs.declared.Unpacked.{Unpacked}

-- writing answers what document 01 means, and leaves the code at its place or, on a refusal, what was there
pub record PackPromise (buffer : List ℕ) (at : ℕ) (v : ℤ) (d : ℕ) (r : Result ℕ NotPacked) (after : List ℕ) : Type 0 where
  pub outcome : outcome_of (packed_paper r) after ≡ pack_means buffer at v d

-- reading a shape answers what document 01 means
pub record ShapePromise (bytes : List ℕ) (at d : ℕ) (r : Result Shape Refusal) : Type 0 where
  pub answer : shape_paper r ≡ shape_means bytes at d

-- reading answers what document 01 means
pub record UnpackPromise (bytes : List ℕ) (at d : ℕ) (r : Result Unpacked Refusal) : Type 0 where
  pub answer : unpacked_paper r ≡ unpack_means bytes at d

-- a sign bit: 1 for negative, and a bit
pub record SignPromise (v : ℤ) (r : ℕ) : Type 0 where
  pub answer : r ≡ sign_of v
  pub bit : r < 2

-- a power of two, 0 where 32 bits do not hold it
pub record PowerPromise (k r : ℕ) : Type 0 where
  pub answer : r ≡ pick (ltb k 32) (2 ^ k) 0

-- a bit of a byte, the most significant first, and a bit
pub record BitPromise (byte place r : ℕ) : Type 0 where
  pub answer : r ≡ byte / 2 ^ (7 - place) % 2
  pub bit : r < 2
