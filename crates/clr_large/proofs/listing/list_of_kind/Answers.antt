use Rattle.std.proofs.Common.{◌<◌, ◌+◌, List, ◌++◌, length, ap, sym, ◌∙◌, append_assoc, arith}
use Rattle.clr_types.specs.Ranges.{Piece}
use Rattle.clr_large.specs.Searches.{items_of_kind}
use Rattle.clr_large.proofs.KindLists.{kind_ahead, kind_next}
use Rattle.clr_large.proofs.listing.list_of_kind.Goals as goal

pub loop-k-preserved : goal.loop-k-preserved
loop-k-preserved c =
    let rows = c.args.types.now in
    let h = c.args.heap.now in
    let k = c.loop-k.k in
    let inside : k < length h.segments = omega (arith, c.segments-count.ensures.count, c.loop-k-test.true) in
    ap (λ (ps : List Piece). ps ++ kind_ahead c.args.kind rows h (k + 1))
    (c.list_if_of.ensures c.if-not-list_if_of.false)
    ∙ append_assoc c.loop-k.items.items (items_of_kind c.args.kind rows h k) (kind_ahead c.args.kind rows h (k + 1))
    ∙ ap (λ (ps : List Piece). c.loop-k.items.items ++ ps)
    (sym (kind_next c.args.kind rows h c.segments-count.ensures.heap c.requires.held k inside))
    ∙ c.loop-k.invariant
