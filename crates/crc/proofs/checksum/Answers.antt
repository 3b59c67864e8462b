-- `crc::checksum` meets its contract, for few bytes and for many.
-- Assumes nothing.
use Rattle.crc.specs.Meaning.{checksum_of}
use Rattle.crc.proofs.checksum.Goals as goal

pub returns-then-bytes-lt16 : goal.returns-then-bytes-lt16
unfolding checksum_of
returns-then-bytes-lt16 c = record { answer = c.rest.ensures }

pub returns : goal.returns
unfolding checksum_of
returns c = record { answer = c.long.ensures }
