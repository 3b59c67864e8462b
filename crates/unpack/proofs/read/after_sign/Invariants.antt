-- `unpack::read::after_sign` meets its contract: at each turn the definition at the start is the definition here, with the ones seen so far.
-- Assumes nothing.
use mathlib.Core.Path.{◌≡◌}
use Prim.Native.Nat.{◌+◌, ◌≤◌}
use lib.ListN.{drop as dropped}
use Rattle.code.specs.Meaning.{bits_that_count}
use Rattle.unpack.specs.Steps.{sign_answer}
use Rattle.unpack.proofs.Parts.{so_far}
use Rattle.unpack.proofs.read.after_sign.Given as goal

abbrev pub invariant-loop-ones : goal.invariant-loop-ones
invariant-loop-ones l =
    (l.here.at + l.ones ≤ l.here.end)
    × (sign_answer l.here.drop l.here.end l.sign 0 (dropped l.here.at (bits_that_count l.here.bytes.now))
    ≡ so_far l.here.drop l.here.end l.sign l.ones (dropped (l.here.at + l.ones) (bits_that_count l.here.bytes.now)))
