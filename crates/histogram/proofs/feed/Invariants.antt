-- `histogram::feed` meets its contract. The loop's invariant: so many are counted, and the rest is still to come.
-- Assumes nothing.
use mathlib.Core.Path.{◌≡◌}
use lib.ListN.{drop}
use Rattle.histogram.specs.Meaning.{feed_of}
use Rattle.histogram.proofs.feed.Given as goal

abbrev pub invariant-loop-done : goal.invariant-loop-done
invariant-loop-done l = feed_of 0 l.initial.memory l.second l.addresses ≡ feed_of l.done l.memory l.second (drop l.done l.addresses)
