-- `crc::closed` meets its contract: its four words one after the other.
-- Assumes nothing.
use Rattle.crc.proofs.Reading.{closes}
use Rattle.crc.proofs.closed.Goals as goal

pub returns : goal.returns
returns c =
    let w = c.args.fold in
    let first = c.through-first in
    let second = c.through-second in
    let third = c.through-third in
    closes w.first w.second w.third w.fourth first.ensures second.ensures third.ensures c.through.ensures
