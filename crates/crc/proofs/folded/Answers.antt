-- `crc::folded` meets its contract: the polynomial's eighth power makes nothing of a register.
-- Assumes nothing.
use Rattle.crc.proofs.Folds.{folds}
use borrow.Author.Rules.{rules}
use Rattle.crc.proofs.folded.Goals as goal

pub returns : goal.returns
returns c =
    let a = c.args in
    let w = a.fold in
    let top = c.top in
    let below = c.below_top in
    folds w.first w.second w.third w.fourth a.word (search rules) (search rules) (search rules)
    (search rules) (search rules) top.ensures below.ensures
