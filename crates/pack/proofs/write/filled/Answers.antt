-- `pack::write::filled` meets its contract: the bits before the last ones stay, and those are the number's.
-- Assumes nothing.
use Rattle.pack.proofs.Writing.{filled_lt, filled_bits}
use Rattle.pack.proofs.write.filled.Goals as goal

pub returns : goal.returns
returns c =
    let a = c.args in
    let p = c.requires in
    let k = c.kept in (
      filled_bits a.byte a.room a.number k.result p.0 p.1 p.2 k.ensures.0,
      filled_lt a.byte a.room a.number k.result p.0 p.1 p.2 k.ensures.0,
    )
