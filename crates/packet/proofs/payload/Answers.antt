-- `packet::payload` meets its contract: the part lies in the caller's own memory.
-- Assumes nothing.
use Prim.Native.Nat.{ℕ, ◌+◌, ◌-◌}
use mathlib.Core.Bool.{true, false}
use mathlib.Core.Path.{◌≡◌, refl, sym, ap, ◌∙◌}
use native.Mathlib.Nat.{add-zero, add_comm}
use native.Mathlib.Omega.{arith}
use borrow.Author.Rules.{rules}
use lib.ListN.{take, drop}
use Rattle.packet.proofs.Finding.{handed_long, handed_by, handed_part}
use Rattle.packet.proofs.payload.Goals as goal

pub returns-then-capture-gt65536 : goal.returns-then-capture-gt65536
returns-then-capture-gt65536 c =
    let a = c.args in
    let long = handed_long a.capture.now a.place (search rules) in
    handed_part a.capture a.place false long refl refl (sym (add-zero a.capture.ref_ptr.1))

pub data_length-length-requires : goal.data_length-length-requires
data_length-length-requires c = sym c.stands_at.ensures ∙ c.if-stands_at.true

pub returns-then-stands_at : goal.returns-then-stands_at
returns-then-stands_at c =
    let a = c.args in
    let n = c.data_length-length in
    let size : a.place + 8 + n.result - (a.place + 8) ≡ n.result = omega arith in
    let handed = handed_by a.capture.now a.place (search rules) (sym c.stands_at.ensures ∙ c.if-stands_at.true) in
    handed_part a.capture a.place true handed (ap (λ (k : ℕ). take k (drop (a.place + 8) a.capture.now)) (size ∙ n.ensures.0)) refl
    (add_comm (a.place + 8) a.capture.ref_ptr.1)

pub returns-else-stands_at : goal.returns-else-stands_at
returns-else-stands_at c =
    let a = c.args in
    let handed = handed_by a.capture.now a.place (search rules) (sym c.stands_at.ensures ∙ c.if-stands_at.false) in
    handed_part a.capture a.place false handed refl refl (sym (add-zero a.capture.ref_ptr.1))
