-- A heap whose segments come one after the other.
use Rattle.std.specs.Prelude.{◌≡◌, ℕ, ◌+◌, ◌%◌, ◌^◌, ◌≤◌, List, [], ◌∷◌, ◌++◌, Bool, if◌then◌else◌}
use Rattle.std.specs.List.{AllByRecursion, list_any}
use Rattle.clr_mem.specs.Words.{Memory}
use Rattle.clr_types.specs.LawfulLayout.{AreDisjoint, IsLawfulSegment}
use Rattle.clr_types.specs.Segments.{first_place, reserved_end, reserved_sum, same_kind}
use Rattle.clr_types.specs.declared.segment.SegInfo.{SegInfo}
use Rattle.clr_types.specs.declared.segment.SegKind.{SegKind}
use Rattle.clr_types.specs.declared.segment.SegKind.TheVariants.{Ephemeral}
use Rattle.clr_heap.specs.Memories.{shapes}
use Rattle.clr_heap.specs.View.{extents, frame, HeapView, no_rests}
use Rattle.clr_heap.specs.declared.heap.draft.SegmentHead.{SegmentHead}

-- no segments
abbrev pub empty_heap : ℕ → HeapView
empty_heap limit = record {
  memories = [];
  segments = [];
  rests = no_rests;
  start1 = 0;
  start0 = 0;
  top = 0;
  limit = limit;
}

-- What holds of the segments so far: all that holds of a heap's, but that one of them is ephemeral.
pub record IsDraft (h : HeapView) : Type 0 where
  pub memories : shapes h.memories ≡ extents h.segments
  pub segments : AllByRecursion IsLawfulSegment h.segments
  pub highest : AllByRecursion (λ (s : SegInfo). s.base ≤ 2 ^ 61) h.segments
  pub disjoint : AreDisjoint h.segments
  pub below_top : AllByRecursion (λ (s : SegInfo). reserved_end s ≤ h.top) h.segments
  pub top_aligned : h.top % 4096 ≡ 0
  pub top_small : h.top ≤ 2 ^ 61 + 2 ^ 30
  pub within_limit : reserved_sum (frame h) ≤ h.limit
  pub limit_small : h.limit ≤ 1073741824
  pub rests : h.rests ≡ no_rests

-- a segment that may follow: above all others, and within the limit with them
pub record IsNextHead (h : HeapView) (s : SegmentHead) : Type 0 where
  pub base : s.info.base % 4096 ≡ 0
  pub lowest : 0x10000000 ≤ s.info.base
  pub above : h.top ≤ s.info.base
  pub highest : s.info.base ≤ 2 ^ 61
  pub reserved : s.info.reserved % 4096 ≡ 0
  pub least : 262144 ≤ s.info.reserved
  pub within_limit : reserved_sum (frame h) + s.info.reserved ≤ h.limit
  pub low : first_place s.info ≤ s.info.end
  pub high : s.info.end ≤ reserved_end s.info
  pub aligned : s.info.end % 8 ≡ 0

-- a segment has this kind
abbrev pub has_kind : SegKind → List SegInfo → Bool
has_kind kind segments = list_any (λ (s : SegInfo). same_kind kind s.kind) segments

-- the boundaries count in the ephemeral segment alone
abbrev pub is_young : SegInfo → Bool
is_young s = same_kind s.kind Ephemeral

-- one segment more, with its words
abbrev pub drafted : HeapView → SegmentHead → Memory → HeapView
drafted h s memory = record h {
  memories = h.memories ++ memory ∷ [];
  segments = h.segments ++ s.info ∷ [];
  start1 = if is_young s.info then s.start1 else h.start1;
  start0 = if is_young s.info then s.start0 else h.start0;
  top = reserved_end s.info;
}
