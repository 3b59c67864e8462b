-- `lines::run` meets its contract. The loop's invariant: the run from where it stands is the whole run.
-- Assumes nothing.
use native.Mathlib.Omega.{arith}
use mathlib.Core.Path.{◌≡◌, subst}
use Prim.Native.Nat.{ℕ}
use lib.ListN.{length}
use Rattle.lines.specs.Promise.{RunPromise}
use Rattle.lines.proofs.Answering.{running_more, running_waits, running_over}
use Rattle.lines.proofs.run.Goals as goal

pub loop-used-preserved : goal.loop-used-preserved
loop-used-preserved c =
    running_more c.loop-used.invariant c.loop-used-test.true c.may_go.ensures c.if-not-may_go.false
    c.put_said-put.ensures c.next_line-current.ensures

pub returns-then-not-may_go : goal.returns-then-not-may_go
returns-then-not-may_go c =
    running_waits c.loop-used.invariant c.loop-used-test.true c.may_go.ensures c.if-not-may_go.true

pub returns : goal.returns
returns c =
    let l = c.loop-used in
    let all : l.used ≡ length c.args.input.now = omega arith in
    subst (λ (n : ℕ). RunPromise c.args.line c.args.input.now c.args.room.now (record { line = l.current; used = n; put = l.put }) l.room) all
    (running_over l.invariant c.loop-used-test.false)
