-- `pack::pack` meets its contract: 8 first, then 3, else the code stands at its place.
-- Assumes nothing.
use mathlib.Core.Path.{sym, ◌∙◌}
use Rattle.code.specs.Meaning.{drop_known, largest}
use Rattle.code.specs.Shapes.{drop_of}
use borrow.Author.Tests.{leb-true}
use Rattle.ground.specs.Questions.{both_hold}
use native.Mathlib.Omega.{arith}
use Rattle.pack.proofs.pack.Goals as goal

pub code-code-requires : goal.code-code-requires
code-code-requires c =
    let t = both_hold {a = drop_known c.args.drop} (sym c.in_rule.ensures ∙ c.if-in_rule.true) in
    let small = leb-true c.magnitude-m.result largest t.1 in
    (drop_of _ t.0, c.sign.ensures.bit, omega arith)
