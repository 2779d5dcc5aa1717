use Rattle.std.proofs.Common.{◌⊎◌, ◌<◌, ◌≤◌, inl, inr, sym, ap, arith}
use Rattle.clr_types.specs.declared.segment.SegInfo.{SegInfo}
use Rattle.clr_heap.specs.View.{first_of, last_of}
use Rattle.clr_heap.proofs.Listing.{no_item_outside}
use Rattle.clr_heap.proofs.heap.Heap.item_in.Goals as goal

pub returns-then-a-segment : goal.returns-then-a-segment
returns-then-a-segment c =
    let h = c.args.self.now in
    let k = c.args.k in
    let a = c.args.a in
    let base = ap (λ (s : SegInfo). s.base) c.info-segment.ensures.value in
    let last = ap (λ (s : SegInfo). s.end) c.info-segment.ensures.value in
    let out : (a < first_of h k) ⊎ (last_of h k ≤ a) =
    elim c.then-a-segment.either [ inl low ↦ inl (omega arith) | inr high ↦ inr (omega arith) ] in
    sym (no_item_outside c.args.types.now h k a c.requires.walkable out)
