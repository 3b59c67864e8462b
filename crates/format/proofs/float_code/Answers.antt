-- `format::float_code` meets its contract: halved until mantissa and leading one hold it, the count has the largest code.
-- Assumes nothing.
use mathlib.Core.Path.{◌≡◌, refl, ap, ◌∙◌}
use native.Mathlib.Nat.{div-le_self, mul-le-mul}
use native.Mathlib.Omega.{arith}
use Prim.Native.Nat.{ℕ, ◌-◌, ◌*◌, ◌%◌, ◌^◌, ◌≤◌, ◌<◌}
use lib.Pow.{pow_mono, shl_exact}
use Rattle.format.proofs.Steps.{took}
use Rattle.format.proofs.float_code.Goals.{After-saturating_sub-halvings}
use Rattle.format.proofs.float_code.Goals as goal

pub overflow_add-result : goal.overflow_add-result
overflow_add-result g c =
    let halvings = c.saturating_sub-halvings.result in
    let few : halvings < 2 ^ 6 = omega arith in
    let e : halvings * 2 ^ g.row.BITS % 2 ^ 64 ≡ halvings * 2 ^ g.row.BITS = shl_exact 6 g.row.BITS 64 few (omega arith) in
    let most : 2 ^ g.row.BITS ≤ 2 ^ 16 = pow_mono c.requires.0 in
    let product : halvings * 2 ^ g.row.BITS ≤ 63 * 2 ^ 16 = mul-le-mul {n₂ = 63} (omega arith) most in
    record { fits = omega (arith, e, div-le_self c.args.count (2 ^ halvings)) }

pub returns : goal.returns
returns g c =
    let halvings = c.saturating_sub-halvings.result in
    let few : halvings < 2 ^ 6 = omega arith in
    let e : halvings * 2 ^ g.row.BITS % 2 ^ 64 ≡ halvings * 2 ^ g.row.BITS = shl_exact 6 g.row.BITS 64 few (omega arith) in
    rw e
    (took g.row.BITS g.row.LIMIT (omega arith) (omega arith) c.if-count.false
    (c.saturating_sub-halvings.ensures ∙ ap (λ (n : ℕ). 63 - g.row.BITS - n) c.from.ensures) refl)
