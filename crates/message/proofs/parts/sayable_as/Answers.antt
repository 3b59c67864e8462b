-- `message::sayable_as` meets its contract: an address, a tag and a value within the rule.
-- Assumes nothing.
use mathlib.Core.Path.{refl}
use native.Mathlib.Omega.{arith}
use borrow.Author.Rules.{rules}
use Rattle.message.proofs.Tags.{far, near, no_tag, all_bits_lem}
use Rattle.message.proofs.parts.sayable_as.Goals as goal

pub returns-then-address-gt16383 : goal.returns-then-address-gt16383
returns-then-address-gt16383 c = let a = c.args in far a.address a.tag a.value (search rules)

pub returns-in-0 : goal.returns-in-0
returns-in-0 c = let a = c.args in near a.address a.tag a.value (search rules) c.in-0.is refl

pub returns-in-1 : goal.returns-in-1
returns-in-1 c = let a = c.args in near a.address a.tag a.value (search rules) c.in-1.is refl

pub returns-in-2 : goal.returns-in-2
returns-in-2 c = let a = c.args in near a.address a.tag a.value (search rules) c.in-2.is refl

pub returns-in-3 : goal.returns-in-3
returns-in-3 c = let a = c.args in all_bits_lem a.address a.tag a.value (search rules) c.in-3.is (search rules)

pub returns-in_default : goal.returns-in_default
returns-in_default c = let a = c.args in no_tag a.address a.tag a.value (search rules) (omega arith)
