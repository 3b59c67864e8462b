-- `message::read` meets its contract: the tests one after the other.
-- Assumes nothing.
use mathlib.Core.Path.{◌∙◌}
use borrow.Author.Rules.{rules}
use Rattle.message.proofs.Reading.{under_four, wrong_first, wrong_second, cut_short, wrong_checksum, a_message, data_of}
use Rattle.message.proofs.read.Goals as goal

pub returns-then-bytes-lt4 : goal.returns-then-bytes-lt4
returns-then-bytes-lt4 c = under_four (search rules)

pub returns-then-bytes-ne60 : goal.returns-then-bytes-ne60
returns-then-bytes-ne60 c = wrong_first (search rules) c.if-bytes-ne60.true

pub returns-then-bytes-ne61 : goal.returns-then-bytes-ne61
returns-then-bytes-ne61 c =
    wrong_second (search rules) c.if-bytes-ne60.false c.if-bytes-ne61.true

pub returns-then-bytes-size : goal.returns-then-bytes-size
returns-then-bytes-size c =
    cut_short (search rules) c.if-bytes-ne60.false c.if-bytes-ne61.false c.word_at-word.ensures c.data_size-size.ensures.0 (search rules)

pub returns-then-not-sealed : goal.returns-then-not-sealed
returns-then-not-sealed c =
    wrong_checksum (search rules) c.if-bytes-ne60.false c.if-bytes-ne61.false c.word_at-word.ensures c.data_size-size.ensures.0 (search rules)
    c.sealed.ensures c.if-not-sealed.true

pub returns : goal.returns
returns c =
    a_message (search rules) c.if-bytes-ne60.false c.if-bytes-ne61.false c.word_at-word.ensures c.data_size-size.ensures.0 (search rules)
    c.sealed.ensures c.if-not-sealed.false
    (c.number_in.ensures ∙ data_of c.args.bytes.now c.data_size-size.result)
