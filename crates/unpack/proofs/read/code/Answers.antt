-- `unpack::read::code` meets its contract: no bit, nought, no sign, or what follows the sign.
-- Assumes nothing.
use native.Mathlib.Omega.{arith}
use mathlib.Core.Path.{◌∙◌}
use Prim.Native.Nat.{ℕ}
use mathlib.Core.List.{List}
use Rattle.unpack.specs.Steps.{sign_answer}
use Rattle.unpack.proofs.Parts.{answer_at, bit_behind, code_out, code_nought, sign_out, sign_there}
use Rattle.unpack.proofs.read.code.Goals as goal

pub returns-then-left-eq0 : goal.returns-then-left-eq0
returns-then-left-eq0 c = c.ran_out.ensures ∙ code_out _ _ _ _ c.args.here.end_is (omega arith)

pub returns-then-bit-eq0 : goal.returns-then-bit-eq0
returns-then-bit-eq0 c =
    code_nought _ _ _ _ c.bit.result c.args.here.end_is (omega arith) c.bit.ensures.0 _ c.if-bit-eq0.true c.where_dropped.ensures

pub returns-then-left-eq0-2 : goal.returns-then-left-eq0-2
returns-then-left-eq0-2 c =
    c.ran_out-then-left-eq0-2.ensures
    ∙ sign_out _ c.args.here.at _ _ c.bit.result c.args.here.end_is (omega arith) c.bit.ensures.0 _ c.wide.ensures c.if-bit-eq0.false (omega arith)

pub returns : goal.returns
returns c =
    sign_there _ c.args.here.at _ _ c.bit.result c.args.here.end_is (omega arith) c.bit.ensures.0 c.bit-2.result
    c.if-bit-eq0.false (omega arith) (bit_behind c.args.here c.behind-signed.result 1 c.behind-signed.ensures c.bit-2.ensures.0)
    (answer_at c.args.here c.behind.result (c.behind.ensures.0 ∙ c.behind-signed.ensures.0) (omega arith) (c.behind.ensures.2 ∙ c.behind-signed.ensures.2)
    (c.behind.ensures.3 ∙ c.behind-signed.ensures.3) (λ (d end : ℕ) (k : List ℕ). sign_answer d end c.bit-2.result 0 k) c.after_sign.ensures)
