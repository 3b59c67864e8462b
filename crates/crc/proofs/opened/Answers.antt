-- `crc::opened` meets its contract: the first four words.
-- Assumes nothing.
use Rattle.crc.proofs.Reading.{opens}
use Rattle.crc.proofs.opened.Goals as goal

pub returns : goal.returns
returns c =
    let first = c.word in
    let started = c.started in
    let second = c.word-2 in
    let third = c.word-3 in
    opens started.result first.ensures started.ensures second.ensures third.ensures c.word-4.ensures
