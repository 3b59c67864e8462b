-- `crc::through` meets its contract: a word is its two halves.
-- Assumes nothing.
use Rattle.crc.proofs.Reading.{goes_through}
use Rattle.crc.proofs.through.Goals as goal

pub returns : goal.returns
returns c =
    let a = c.args in
    let high = c.high in
    let first = c.shifted-half in
    let low = c.low in
    goes_through a.register a.word high.ensures first.ensures low.ensures c.shifted.ensures
