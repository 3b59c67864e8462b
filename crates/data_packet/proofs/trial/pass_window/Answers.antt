-- `trial::pass_window` meets its contract: a window inside the page is gone over.
-- Assumes nothing.
use mathlib.Core.Path.{◌≡◌, ap}
use Rattle.std.specs.Prelude.{is_ok}
use Rattle.data_packet.proofs.Items.{passed_inside}
use Rattle.data_packet.proofs.trial.pass_window.Goals as goal

pub unwrap-requires : goal.unwrap-requires
unwrap-requires c =
    let a = c.args in
    ap is_ok (passed_inside a.memory.now a.page a.pass a.window c.go_over.result _ c.requires c.go_over.ensures).is

pub returns : goal.returns
returns c =
    let a = c.args in
    let p = passed_inside a.memory.now a.page a.pass a.window c.go_over.result _ c.requires c.go_over.ensures in
    let e : p.sum ≡ c.unwrap.result = cc in
    rw (← e) (p.walked, p.small)
