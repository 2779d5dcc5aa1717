-- A draft stays one where a segment follows, and is a heap once its ephemeral segment is there.
use Rattle.std.proofs.Common.{◌≡◌, ℕ, ◌+◌, ◌^◌, ◌≤◌, List, [], ◌∷◌, ◌++◌, length, refl, ap, ap₂, sym, ◌∙◌, subst}
use Rattle.std.proofs.Common.{arith, Bool, true, false, Option, Some, None, find, if◌then◌else◌}
use Rattle.std.proofs.lemmas.List.{map-append}
use Rattle.std.specs.List.{AllByRecursion}
use Rattle.clr_mem.specs.Words.{Memory}
use Rattle.clr_types.specs.LawfulLayout.{IsLawfulSegment}
use Rattle.clr_types.specs.Segments.{ephemeral, first_place, reserved_end, same_kind, segment_or_empty, segments_of}
use Rattle.clr_types.specs.declared.segment.SegInfo.{SegInfo}
use Rattle.clr_types.specs.declared.segment.SegKind.TheVariants.{Ephemeral, Small}
use Rattle.clr_heap.specs.Drafts.{IsDraft, IsNextHead}
use Rattle.clr_heap.specs.Memories.{shape_of}
use Rattle.clr_heap.specs.View.{extent_of, frame, HeapView, IsHeap, IsKept}
use Rattle.clr_heap.specs.declared.heap.draft.SegmentHead.{SegmentHead}
use Rattle.clr_heap.proofs.Framing.{all_push, all_weaker, disjoint_push, ephemerals, reserved_push}

-- the heap after a segment, whatever its boundaries are
pub drafted_is : (h : HeapView) (s : SegmentHead) (memory : Memory) (start1 start0 : ℕ) → IsDraft h → IsNextHead h s
    → shape_of memory ≡ (s.info.base, s.info.reserved)
    → IsDraft (record h {
      memories = h.memories ++ memory ∷ [];
      segments = h.segments ++ s.info ∷ [];
      start1 = start1;
      start0 = start0;
      top = reserved_end s.info;
    })
drafted_is h s memory start1 start0 draft next shape =
    let t = s.info in
    let base = next.base in
    let reserved = next.reserved in
    let highest = next.highest in
    let above = next.above in
    let room = next.within_limit in
    let limit = draft.limit_small in
    let sum = reserved_push h.segments t in
    record {
      memories =
          map-append shape_of h.memories (memory ∷ [])
          ∙ ap₂ (λ (ps : List (ℕ × ℕ)) (p : ℕ × ℕ). ps ++ p ∷ []) draft.memories shape
          ∙ sym (map-append extent_of h.segments (t ∷ []));
      segments = all_push IsLawfulSegment h.segments t draft.segments (record {
        base = base;
        lowest = next.lowest;
        reserved = reserved;
        least = next.least;
        low = next.low;
        high = next.high;
        aligned = next.aligned;
      });
      highest = all_push (λ (s : SegInfo). s.base ≤ 2 ^ 61) h.segments t draft.highest highest;
      disjoint = disjoint_push h.segments t draft.disjoint
          (all_weaker (λ (s : SegInfo). reserved_end s ≤ h.top) (λ (s : SegInfo). reserved_end s ≤ t.base) h.segments
          (λ s l. omega arith) draft.below_top);
      below_top = all_push (λ (s : SegInfo). reserved_end s ≤ reserved_end t) h.segments t
          (all_weaker (λ (s : SegInfo). reserved_end s ≤ h.top) (λ (s : SegInfo). reserved_end s ≤ reserved_end t)
          h.segments (λ s l. omega arith) draft.below_top) (omega arith);
      top_aligned = omega arith;
      top_small = omega arith;
      within_limit = rw sum room;
      limit_small = limit;
      rests = draft.rests;
    }

-- the first ephemeral segment
pub first_ephemeral : (ss : List SegInfo) (s : SegInfo)
    → find (λ (s : SegInfo). same_kind Ephemeral s.kind) ss ≡ Some s → segment_or_empty (ephemerals ss) ≡ s
first_ephemeral [] s e = absurd cc
first_ephemeral (t ∷ ss) s e = go (same_kind Ephemeral t.kind) (first_ephemeral ss s) e
  where
    rest : Option SegInfo
    rest = find (λ (s : SegInfo). same_kind Ephemeral s.kind) ss

    go : (b : Bool) → (rest ≡ Some s → segment_or_empty (ephemerals ss) ≡ s) → (if b then Some t else rest) ≡ Some s
        → segment_or_empty (if b then t ∷ ephemerals ss else ephemerals ss) ≡ s
    go true more e = cc
    go false more e = more e

pub no_ephemeral : (ss : List SegInfo) → find (λ (s : SegInfo). same_kind Ephemeral s.kind) ss ≡ None
    → length (ephemerals ss) ≡ 0
no_ephemeral [] e = refl
no_ephemeral (t ∷ ss) e = go (same_kind Ephemeral t.kind) (no_ephemeral ss) e
  where
    rest : Option SegInfo
    rest = find (λ (s : SegInfo). same_kind Ephemeral s.kind) ss

    go : (b : Bool) → (rest ≡ None → length (ephemerals ss) ≡ 0) → (if b then Some t else rest) ≡ None
        → length (if b then t ∷ ephemerals ss else ephemerals ss) ≡ 0
    go true more e = absurd cc
    go false more e = more e

-- what all have, it has
found_has : (P : SegInfo → Type 0) (ss : List SegInfo) (s : SegInfo)
    → find (λ (s : SegInfo). same_kind Ephemeral s.kind) ss ≡ Some s → AllByRecursion P ss → P s
found_has P [] s e all = absurd cc
found_has P (t ∷ ss) s e all = go (same_kind Ephemeral t.kind) (λ found. found_has P ss s found all.1) e
  where
    rest : Option SegInfo
    rest = find (λ (s : SegInfo). same_kind Ephemeral s.kind) ss

    go : (b : Bool) → (rest ≡ Some s → P s) → (if b then Some t else rest) ≡ Some s → P s
    go true more e = let same : t ≡ s = cc in subst P same all.0
    go false more e = more e

-- a draft is a heap once its ephemeral segment is there
pub draft_heap : (h : HeapView) → IsDraft h → length (segments_of Ephemeral (frame h)) ≡ 1
    → AllByRecursion (λ (s : SegInfo). s.base ≤ (ephemeral (frame h)).base) (segments_of Small (frame h)) → IsHeap h
draft_heap h draft one last = record {
  memories = draft.memories;
  segments = draft.segments;
  highest = draft.highest;
  disjoint = draft.disjoint;
  below_top = draft.below_top;
  one_ephemeral = one;
  ephemeral_last = last;
  top_aligned = draft.top_aligned;
  top_small = draft.top_small;
  within_limit = draft.within_limit;
  limit_small = draft.limit_small;
  threads = ap length draft.rests;
}

pub draft_kept : (h : HeapView) (young : SegInfo) → IsDraft h → length (segments_of Ephemeral (frame h)) ≡ 1
    → AllByRecursion (λ (s : SegInfo). s.base ≤ (ephemeral (frame h)).base) (segments_of Small (frame h))
    → find (λ (s : SegInfo). same_kind Ephemeral s.kind) h.segments ≡ Some young
    → IsKept h (first_place young) (reserved_end young)
draft_kept h young draft one last found = record {
  heap = draft_heap h draft one last;
  low = ap first_place (sym (first_ephemeral h.segments young found));
  high = ap reserved_end (sym (first_ephemeral h.segments young found));
}

-- it stands low enough
pub young_small : (h : HeapView) (young : SegInfo) → IsDraft h
    → find (λ (s : SegInfo). same_kind Ephemeral s.kind) h.segments ≡ Some young
    → (young.base ≤ 2 ^ 61) × (reserved_end young ≤ 2 ^ 61 + 2 ^ 30)
young_small h young draft found =
    let top = draft.top_small in
    let high : reserved_end young ≤ h.top =
    found_has (λ (s : SegInfo). reserved_end s ≤ h.top) h.segments young found draft.below_top in
    (found_has (λ (s : SegInfo). s.base ≤ 2 ^ 61) h.segments young found draft.highest, omega arith)
