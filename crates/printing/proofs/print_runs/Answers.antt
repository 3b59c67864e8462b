-- `printing::print_runs` meets its contract. The loop's invariant: what is left comes to the same as the whole piece, and so does its
-- count; each run gets on, so that the measure is the bytes that are left.
-- Assumes nothing.
use mathlib.Core.Path.{◌∙◌}
use Rattle.std.proofs.lemmas.List.{length-take-le}
use Rattle.printing.proofs.Pieces.{gets_on, comes_to, counts_to, all_taken}
use borrow.Author.Rules.{rules}
use Rattle.lines.specs.Moving.{run_put, run_used}
use Rattle.printing.proofs.print_runs.Goals as goal

pub slice_bounds-rest-count : goal.slice_bounds-rest-count
slice_bounds-rest-count c = run_used c.run-ran.ensures

pub slice_bounds-rest-start : goal.slice_bounds-rest-start
slice_bounds-rest-start c = let inside = run_used c.run-ran.ensures in search rules

pub loop-rest-smaller : goal.loop-rest-smaller
loop-rest-smaller c = gets_on c.loop-rest.rest.now c.run-ran.ensures (search rules) (search rules)

pub loop-rest-preserved : goal.loop-rest-preserved
loop-rest-preserved c =
    let l = c.loop-rest in
    let front = length-take-le c.run-ran.result.put c.run-ran.new.room (run_put c.run-ran.ensures) in (
      search rules,
      comes_to l.rest.now c.run-ran.ensures l.invariant.1,
      counts_to l.rest.now c.run-ran.ensures l.put _ c.saturating_add-put.ensures (c.handed-given.ensures ∙ front) l.invariant.2,
      search rules,
    )

pub returns : goal.returns
returns c =
    let l = c.loop-rest in
    all_taken c.args.piece.now l.rest.now l.put (search rules) l.invariant.1 l.invariant.2 l.invariant.3
