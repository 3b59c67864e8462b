-- Packed codes as they were read and written before request 2026-06: what `OnFile` holds today's against, and nothing else.
-- Assumes nothing.
use Rattle.std.specs.Prelude.{◌≡◌, refl, ◌&&◌, List, ℕ, leb, ℤ, nat_abs}
use Rattle.ground.specs.Choice.{pick}
use Rattle.ground.specs.Paper.{Paper, refused, mapped}
use Rattle.ground.specs.Outcome.{Outcome, refuse}
use Rattle.code.specs.Meaning.{ShapeValues, UnpackValues, largest_to, longest_run, drop_known, code_of, position_means, number_read, place_means}

-- the greatest place of a leading one, before
abbrev pub old_place : ℕ
old_place = 24

-- document 01, "|v| at most 33,554,431"
abbrev pub old_largest : ℕ
old_largest = largest_to old_place

-- it is that number; and "A reader that has seen 12 ones after the sign refuses by 11"
pub old_limits : (old_largest ≡ 33554431) × (longest_run old_place ≡ 11)
old_limits = (refl, refl)

-- reading a shape, before: "drop 8 first, then 9, 10, 11 as bits arrive"; what 9 carries since 2026-02 is told by the codes that were accepted before
abbrev pub old_shape_means : List ℕ → ℕ → ℕ → Paper ShapeValues
old_shape_means bytes at d = pick (drop_known d) (position_means old_place bytes at d) (refused 8)

-- reading a number, before
abbrev pub old_unpack_means : List ℕ → ℕ → ℕ → Paper UnpackValues
old_unpack_means bytes at d = mapped number_read (old_shape_means bytes at d)

-- writing a number, before: "8 then 3", else its code is put
abbrev pub old_pack_means : List ℕ → ℕ → ℤ → ℕ → Outcome ℕ (List ℕ)
old_pack_means buffer at v d = pick (drop_known d && leb (nat_abs v) old_largest) (place_means buffer at (code_of d v)) (refuse 8 buffer)
