-- `pack::write::code` meets its contract: each test decides one of document 01's bullets.
-- Assumes nothing.
use native.Mathlib.Omega.{arith}
use Rattle.pack.proofs.Writing.{nought_code, small_code, led_code}
use Rattle.pack.proofs.write.code.Goals as goal

pub returns-then-m-least_coded : goal.returns-then-m-least_coded
returns-then-m-least_coded c =
    let a = c.args in
    nought_code a.drop a.sign a.m (omega (arith, c.least_coded.ensures, c.if-m-least_coded.true)) c.zeros.ensures

pub returns-then-m-lt16 : goal.returns-then-m-lt16
returns-then-m-lt16 c =
    let a = c.args in
    small_code a.drop a.sign a.m c.least_coded.ensures c.if-m-least_coded.false c.if-m-lt16.true c.small.ensures

pub returns : goal.returns
returns c =
    let a = c.args in
    led_code a.drop a.sign a.m c.least_coded.ensures c.if-m-least_coded.false c.if-m-lt16.false c.led.ensures
