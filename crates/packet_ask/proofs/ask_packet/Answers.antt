-- `packet_ask::ask_packet` meets its contract: refused by 13, or what the ask's turn says.
-- Assumes nothing.
use mathlib.Core.Path.{ap, sym, ◌∙◌}
use native.Mathlib.Omega.{arith}
use lib.Seq.{length-take-le}
use Rattle.std.specs.Prelude.{Ok}
use Rattle.std.proofs.lemmas.Result.{err_from_is_err_and}
use Rattle.histogram.specs.States.{admits_long}
use Rattle.packet_ask.proofs.Asking.{asks, keepable}
use Rattle.packet_ask.proofs.ask_packet.Goals as goal

pub returns-in_err-packet_turn : goal.returns-in_err-packet_turn
returns-in_err-packet_turn c =
    let said = err_from_is_err_and c.from_residual-in_err-packet_turn.result c.from_residual-in_err-packet_turn.ensures.1 in
    rw (said.1, said.2) (record { outcome = asks _ _ _ _ _ (sym c.in_ok-admit.ensures.answer) c.in_err-packet_turn.ensures })

pub returns-in-LastAsk : goal.returns-in-LastAsk
returns-in-LastAsk c =
    record {
      outcome = c.again.ensures.outcome _
          ∙ asks _ _ _ _ _ (sym c.in_ok-admit.ensures.answer) (ap Ok (sym c.in-LastAsk.is) ∙ c.in_ok-packet_turn.ensures);
    }

pub slice_bounds-bytes-end : goal.slice_bounds-bytes-end
slice_bounds-bytes-end c = (keepable _ _ _ _ _ _ _ c.in_ok-packet-in-NewAsk.ensures).1

pub slice_bounds-bytes-end-in-NewAsk : goal.slice_bounds-bytes-end-in-NewAsk
slice_bounds-bytes-end-in-NewAsk c = sym (length-take-le _ _ (keepable _ _ _ _ _ _ _ c.in_ok-packet-in-NewAsk.ensures).1)

pub keep_packet-requires : goal.keep_packet-requires
keep_packet-requires c =
    let can = keepable _ _ _ _ _ _ _ c.in_ok-packet-in-NewAsk.ensures in (
      admits_long _ _ (sym c.in_ok-admit.ensures.answer),
      can.0,
      omega (arith, can.2, length-take-le c.in_ok-packet-in-NewAsk.packet.written c.build.new.buffer can.1),
    )
