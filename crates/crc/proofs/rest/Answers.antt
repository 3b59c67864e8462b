-- `crc::rest` meets its contract. The loop's invariant: the bytes that are left take the register to the whole answer.
-- Assumes nothing.
use borrow.Author.Rules.{rules}
use Rattle.crc.proofs.Chunks.{behind, pair_in, pair_on}
use Rattle.crc.proofs.rest.Goals as goal

pub loop-pair-preserved : goal.loop-pair-preserved
loop-pair-preserved c =
    let here = c.loop-pair in
    let pair = pair_in (λ j. (c.type_inv.bytes j).fits) c.as_chunks.ensures.front (search rules) c.from_be_bytes.ensures in
    (c.joined-kept.type_inv, pair_on here.pair-index here.kept pair here.invariant.0 c.joined-kept.ensures here.invariant.1)

pub returns : goal.returns
returns c =
    let here = c.loop-pair in
    behind 2 here.pair-index here.kept c.args.bytes.now (search rules) (search rules) c.as_chunks.ensures.back c.last.ensures here.invariant.1
