-- `crc::long` meets its contract. The loop's invariant: the fold and the bytes that are left take the register to the whole answer.
-- Assumes nothing.
use Prim.Native.Nat.{ℕ, ◌*◌, ◌/◌, ◌<◌, ◌≤◌}
use mathlib.Core.Path.{ap, subst, ◌∙◌}
use mathlib.Core.List.{List}
use borrow.Author.Rules.{rules}
use lib.ListN.{drop, length}
use Rattle.std.specs.Simd.{first_chunks}
use Rattle.crc.specs.Meaning.{run}
use Rattle.crc.specs.Folding.{register_of}
use Rattle.crc.proofs.Chunks.{after_sixteen, behind, still_bytes, word_in, word_on}
use Rattle.crc.proofs.Folds.{after_four_lt}
use Rattle.crc.proofs.long.Goals as goal

pub loop-word-preserved : goal.loop-word-preserved
loop-word-preserved c =
    let l = c.args.bytes.now in
    let here = c.loop-word in
    let words = c.as_chunks.ensures.front ∙ ap (λ (x : List ℕ). first_chunks 4 (length x / 4) x) (after_sixteen l) in
    let within = subst (λ (x : List ℕ). here.word-index < length x / 4) (after_sixteen l) (search rules) in
    let word = word_in (still_bytes l (λ j. (c.type_inv.bytes j).fits)) words within c.from_be_bytes.ensures in
    word_on here.word-index (register_of here.fold) word (after_four_lt _ _ _ _) c.folded-fold.ensures here.invariant

pub returns : goal.returns
returns c =
    let l = c.args.bytes.now in
    let here = c.loop-word in
    let few = subst (λ (x : List ℕ). length x / 4 ≤ here.word-index) (after_sixteen l) (search rules) in
    let within = subst (λ (x : List ℕ). here.word-index ≤ length x / 4) (after_sixteen l) (search rules) in
    behind 4 here.word-index (register_of here.fold) (drop 16 l) few within
    (c.as_chunks.ensures.back ∙ ap (λ (x : List ℕ). drop (length x / 4 * 4) x) (after_sixteen l))
    (c.rest.ensures ∙ ap (λ (r : ℕ). run r c.as_chunks.result.1.now) c.closed.ensures)
    here.invariant
