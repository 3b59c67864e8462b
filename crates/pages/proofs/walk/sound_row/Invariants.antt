-- `pages::walk::sound_row` meets its contract. The loop's invariant: the flag says whether the cells passed are sound.
-- Assumes nothing.
use mathlib.Core.Path.{◌≡◌}
use Rattle.pages.specs.Meaning.{row_of, sound_of}
use Rattle.pages.proofs.walk.sound_row.Given as goal

abbrev pub invariant-loop-column : goal.invariant-loop-column
invariant-loop-column l = l.ok ≡ sound_of l.memory l.page (row_of l.start l.column)
