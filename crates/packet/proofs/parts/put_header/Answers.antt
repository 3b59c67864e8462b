-- `packet::put_header` meets its contract: four words, one after the other.
-- Assumes nothing.
use borrow.Author.Rules.{rules}
use Rattle.ground.specs.Laws.{put_there}
use Rattle.packet.specs.Putting.{head_put}
use Rattle.packet.proofs.parts.put_header.Goals as goal

pub returns : goal.returns
returns c =
    let a = c.args in
    head_put a.buffer.now a.word a.apid (put_there c.put_word.ensures (search rules)) (put_there c.put_word-2.ensures (search rules))
    (put_there c.put_word-3.ensures (search rules)) (put_there c.put_word-4.ensures (search rules))
