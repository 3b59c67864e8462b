-- `pages::walk::sound_rows` meets its contract. The loop's invariant: the flag says whether the rows passed are sound.
-- Assumes nothing.
use mathlib.Core.Path.{◌≡◌}
use Rattle.pages.specs.Meaning.{rows_in, sound_of}
use Rattle.pages.proofs.walk.sound_rows.Given as goal

abbrev pub invariant-loop-row : goal.invariant-loop-row
invariant-loop-row l = l.ok ≡ sound_of l.memory l.page (rows_in l.window l.row)
