-- `unpack::read::after_sign` meets its contract: at each turn the definition at the start is the definition here, with the ones seen so far.
-- Assumes nothing.
use mathlib.Core.Path.{◌∙◌}
use Prim.Native.Nat.{ℕ, ◌+◌}
use mathlib.Core.List.{List}
use native.Mathlib.Omega.{arith}
use Rattle.code.specs.Shapes.{drop_of}
use Rattle.unpack.specs.Steps.{run_answer}
use Rattle.unpack.proofs.Parts.{answer_by, answer_at, bit_behind, far_in, run_ends, run_goes_on, run_out}
use Rattle.unpack.proofs.read.after_sign.Goals as goal

pub behind_run-requires : goal.behind_run-requires
behind_run-requires c = (drop_of _ c.args.here.known, omega arith)

pub returns-then-left-eq0 : goal.returns-then-left-eq0
returns-then-left-eq0 c =
    let here = c.args.here in
    let l = c.loop-ones in
    answer_by (l.invariant.1 ∙ far_in _ _ _ l.ones _ (omega arith))
    (run_out _ (here.at + l.ones) _ _ _ _ _ here.end_is (omega arith) c.behind_run.ensures.0) c.ran_out.ensures

pub returns-then-bit-eq0 : goal.returns-then-bit-eq0
returns-then-bit-eq0 c =
    let here = c.args.here in
    let l = c.loop-ones in
    answer_by (l.invariant.1 ∙ far_in _ _ _ l.ones _ (omega arith))
    (run_ends _ (here.at + l.ones) _ c.bit.result here.end_is (omega arith)
    (bit_behind here c.behind-passed.result l.ones c.behind-passed.ensures c.bit.ensures.0) _ _ l.ones
    c.if-bit-eq0.true)
    (answer_at here c.behind.result (c.behind.ensures.0 ∙ c.behind-passed.ensures.0) (omega arith) (c.behind.ensures.2 ∙ c.behind-passed.ensures.2)
    (c.behind.ensures.3 ∙ c.behind-passed.ensures.3) (λ (d end : ℕ) (k : List ℕ). run_answer d end c.args.sign l.ones k) c.after_run.ensures)

pub loop-ones-preserved : goal.loop-ones-preserved
loop-ones-preserved c =
    let here = c.args.here in
    let l = c.loop-ones in (
      omega arith,
      l.invariant.1
          ∙ run_goes_on _ (here.at + l.ones) here.end c.bit.result here.end_is (omega arith)
          (bit_behind here c.behind-passed.result l.ones c.behind-passed.ensures c.bit.ensures.0) here.drop c.args.sign l.ones _ (omega arith)
          c.if-bit-eq0.false (omega arith),
    )
