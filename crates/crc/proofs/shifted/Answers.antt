-- `crc::shifted` meets its contract: after four turns nothing falls out.
-- Assumes nothing.
use mathlib.Core.Path.{◌∙◌}
use Rattle.crc.proofs.Sixteen.{sixteen_turns}
use borrow.Author.Rules.{rules}
use Rattle.crc.proofs.shifted.Goals as goal

pub returns : goal.returns
returns c =
    let first = c.carry-first in
    let second = c.carry-second in
    let third = c.carry-third in
    c.spread.ensures
    ∙ sixteen_turns c.args.register (search rules) first.ensures second.ensures third.ensures
