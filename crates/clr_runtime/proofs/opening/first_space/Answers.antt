-- The cards and bricks are those of the first heap, whatever the types are.
use Rattle.std.proofs.Common.{subst, sym}
use Rattle.clr_heap.specs.View.{frame, HeapView}
use Rattle.clr_generations.specs.Tables.{AreBricksOf, AreCardsOf, AreTablesOf}
use Rattle.clr_generations.proofs.OpeningTables.{tables-opening}
use Rattle.clr_runtime.proofs.opening.first_space.Goals as goal

pub returns-clause-tables : goal.returns-clause-tables
returns-clause-tables c =
    let options = c.args.options in
    let first = c.in_ok-heap.ensures in
    let covered = c.cover_segments.new in
    let told = c.in-Ok.ensures in
    λ rows. subst (λ (h : HeapView). AreTablesOf rows h covered.cards covered.bricks) (sym first)
    (tables-opening rows options.segment options.limit c.requires.segment_aligned covered.cards covered.bricks
    told.unnamed
    (subst (λ (h : HeapView). AreCardsOf (frame h) covered.cards) first told.cards)
    (subst (λ (h : HeapView). AreBricksOf (frame h) covered.bricks) first told.bricks))
