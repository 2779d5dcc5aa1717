-- A plug that gets its destination, and is written.
use Rattle.std.proofs.Common.{◌≡◌, ℕ, ◌+◌, ◌^◌, ◌<◌, ◌≤◌, List, length, ap, arith}
use Rattle.std.proofs.Common.{Bool, true, false, MatchBool}
use Rattle.clr_pinq.specs.declared.entry.PinEntry.{PinEntry}
use Rattle.clr_types.specs.Segments.{empty_segment, reserved_end}
use Rattle.clr_types.specs.declared.segment.SegInfo.{SegInfo}
use Rattle.clr_heap.specs.View.{HeapView, IsHeap, segment_at}
use Rattle.clr_heap.proofs.Framing.{all_at}
use Rattle.clr_model.specs.Compaction.{IsDestination, Plug}
use Rattle.clr_plan.specs.Stages.{all_plugs, CanGo, HasGone, Stage}
use Rattle.clr_plan.specs.declared.pointer.Pointer.{Pointer}

-- every segment ends far below 2 ^ 63
ends_small : (h : HeapView) (k : ℕ) → IsHeap h → k < length h.segments → reserved_end (segment_at h k) < 2 ^ 63
ends_small h k heap inside =
    let under : reserved_end (segment_at h k) ≤ h.top = all_at (λ (s : SegInfo). reserved_end s ≤ h.top) h.segments k
    empty_segment heap.below_top inside in
    let top = heap.top_small in
    omega (arith, under, top)

-- so does every destination
pub way-small : (w : Stage) (h : HeapView) (entries : List PinEntry) (at : Pointer) (home : ℕ) (plug : Plug) (to : ℕ)
    (after : Pointer) → CanGo w h entries at home plug → HasGone w h entries at home plug to after → plug.start < 2 ^ 63
    → to < 2 ^ 63
way-small w h entries at home plug to after can gone small = go w.plug.pinned gone.placed.2
  where
    go : (b : Bool) → MatchBool b ((to ≡ w.plug.start) × (after.place ≡ at.place))
        (IsDestination w.segments (all_plugs w) at.place w.plug.size to × (after.place ≡ to + plug.size)) → to < 2 ^ 63
    go true g = let e = g.0 in let same : w.plug.start ≡ plug.start = ap (λ (p : Plug). p.start) can.next in
        omega (arith, e, same, small)
    go false g =
        let e = g.1 in
        let high = gone.stands.high in
        let most = gone.among.order in
        let range = gone.among.in_range in
        let l = ends_small h after.segment gone.among.heap (omega (arith, most, range)) in
        omega (arith, e, high, l)
