use Rattle.std.proofs.Common.{◌≡◌, length, sym, ◌∙◌, None, arith}
use Rattle.clr_heap.specs.View.{item_with_place, listing}
use Rattle.clr_heap.proofs.Listing.{items_found, items_later}
use Rattle.clr_heap.proofs.heap.Heap.item_anywhere.Goals as goal

pub returns-in-Some : goal.returns-in-Some
returns-in-Some c =
    let h = c.args.self.now in
    let below = c.loop-k-test.true in
    sym (items_found c.args.types.now h c.loop-k.k (length h.segments) c.args.a c.in-Some.found (omega arith)
    (sym c.item_in.ensures ∙ c.in-Some.is)) ∙ c.loop-k.invariant

pub loop-k-preserved : goal.loop-k-preserved
loop-k-preserved c =
    let h = c.args.self.now in
    let below = c.loop-k-test.true in
    let none : item_with_place (listing c.args.types.now h c.loop-k.k) c.args.a ≡ None =
    sym c.item_in.ensures ∙ c.in_default.is in
    sym (items_later c.args.types.now h c.loop-k.k (length h.segments) c.args.a (omega arith) none) ∙ c.loop-k.invariant
