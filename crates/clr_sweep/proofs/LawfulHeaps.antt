-- A heap stays lawful where its words, its boundaries or a segment's end change.
use Rattle.std.proofs.Common.{◌≡◌, ℕ, ◌%◌, ◌<◌, ◌≤◌, length, set, refl, ◌∙◌}
use Rattle.clr_types.specs.Segments.{ended_at, ephemeral, first_place, reserved_end}
use Rattle.clr_heap.specs.View.{first_of, frame, HeapView, IsHeap, IsKept, segment_at}
use Rattle.clr_heap.proofs.Changing.{kept_ended}

-- ---- what makes a heap lawful says nothing of where generations begin, nor of words

pub bounded_heap : (h : HeapView) (start1 start0 : ℕ) → IsHeap h
    → IsHeap (record h { start1 = start1; start0 = start0 })
bounded_heap h start1 start0 heap = record {
  memories = heap.memories;
  segments = heap.segments;
  highest = heap.highest;
  disjoint = heap.disjoint;
  below_top = heap.below_top;
  one_ephemeral = heap.one_ephemeral;
  ephemeral_last = heap.ephemeral_last;
  top_aligned = heap.top_aligned;
  top_small = heap.top_small;
  within_limit = heap.within_limit;
  limit_small = heap.limit_small;
  threads = heap.threads;
}

-- ---- the end of a segment moves

pub ended_heap : (h : HeapView) (k e : ℕ) → IsHeap h → k < length h.segments → first_of h k ≤ e
    → e ≤ reserved_end (segment_at h k) → e % 8 ≡ 0
    → IsHeap (record h { segments = set h.segments k (ended_at e (segment_at h k)) })
ended_heap h k e heap inside above below aligned =
    let kept : IsKept h (first_place (ephemeral (frame h))) (reserved_end (ephemeral (frame h))) =
    record { heap = heap; low = refl; high = refl } in
    (kept_ended h k e _ _ (ended_at e (segment_at h k)) kept inside refl above below aligned).heap
