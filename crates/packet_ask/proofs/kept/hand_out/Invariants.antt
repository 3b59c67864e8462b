-- `hand_out` meets its contract. The loop's invariant: the bytes before `i` are handed out, and the rest of the buffer is as it was.
-- Assumes nothing.
use mathlib.Core.List.{◌++◌}
use mathlib.Core.Path.{◌≡◌}
use Rattle.std.specs.Prelude.{map}
use lib.ListN.{drop, take}
use Rattle.state.specs.Words.{byte_of}
use Rattle.packet_ask.proofs.kept.hand_out.Given as goal

abbrev pub invariant-loop-i : goal.invariant-loop-i
invariant-loop-i l = l.bytes ≡ take l.i (map byte_of l.words) ++ drop l.i l.initial.bytes
