-- `item::formats::send_as` meets its contract: each comp has its format.
-- Assumes nothing.
use borrow.Author.Rules.{rules}
use Rattle.item.proofs.Sending.{format_put, format_large, format_rest, float_known, logarithm_known, integer_known}
use Rattle.item.proofs.formats.send_as.Goals as goal

pub returns-in_err-float16_code-in-0 : goal.returns-in_err-float16_code-in-0
returns-in_err-float16_code-in-0 c =
    let a = c.args in
    format_large a.buffer.now a.at a.comp a.res 0 c.in-0.is (float_known a.res c.in_err-float16_code-in-0.ensures) (search rules)

pub returns-in_ok-float16_code-in-0 : goal.returns-in_ok-float16_code-in-0
returns-in_ok-float16_code-in-0 c =
    let a = c.args in
    format_put a.buffer.now a.at a.comp a.res 0 c.in-0.is (float_known a.res c.in_ok-float16_code-in-0.ensures) (rw (c.from.ensures) at c.put.ensures)

pub returns-in_err-pack_count-in_default : goal.returns-in_err-pack_count-in_default
returns-in_err-pack_count-in_default c =
    let a = c.args in
    format_rest a.buffer.now a.at a.comp a.res (search rules) (search rules) (search rules) c.in_err-pack_count-in_default.ensures (search rules)

pub returns-in_ok-pack_count-in_default : goal.returns-in_ok-pack_count-in_default
returns-in_ok-pack_count-in_default c =
    let a = c.args in
    format_rest a.buffer.now a.at a.comp a.res (search rules) (search rules) (search rules) c.in_ok-pack_count-in_default.ensures (search rules)

pub returns-in_err-log8_code-in-1 : goal.returns-in_err-log8_code-in-1
returns-in_err-log8_code-in-1 c =
    let a = c.args in
    format_large a.buffer.now a.at a.comp a.res 1 c.in-1.is (logarithm_known a.res c.in_err-log8_code-in-1.ensures) (search rules)

pub returns-in_ok-log8_code-in-1 : goal.returns-in_ok-log8_code-in-1
returns-in_ok-log8_code-in-1 c =
    let a = c.args in
    format_put a.buffer.now a.at a.comp a.res 1 c.in-1.is (logarithm_known a.res c.in_ok-log8_code-in-1.ensures)
    (rw (c.from-in-1.ensures) at c.put-in-1.ensures)

pub returns-in_err-int24_code-in-2 : goal.returns-in_err-int24_code-in-2
returns-in_err-int24_code-in-2 c =
    let a = c.args in
    format_large a.buffer.now a.at a.comp a.res 2 c.in-2.is (integer_known a.res c.in_err-int24_code-in-2.ensures) (search rules)

pub returns-in_ok-int24_code-in-2 : goal.returns-in_ok-int24_code-in-2
returns-in_ok-int24_code-in-2 c =
    let a = c.args in
    format_put a.buffer.now a.at a.comp a.res 2 c.in-2.is (integer_known a.res c.in_ok-int24_code-in-2.ensures) c.put-in-2.ensures
