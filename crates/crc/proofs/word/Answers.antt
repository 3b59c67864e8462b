-- `crc::word` meets its contract: four bytes.
-- Assumes nothing.
use borrow.Author.Rules.{rules}
use Rattle.crc.proofs.Chunks.{word_four}
use Rattle.crc.proofs.word.Goals as goal

pub returns : goal.returns
returns c = word_four (λ j. (c.type_inv.bytes j).fits) (search rules) c.from_be_bytes.ensures
