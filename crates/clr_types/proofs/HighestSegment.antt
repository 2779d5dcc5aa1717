-- The ephemeral segment is the one of its kind, and the highest of the small heap.
use Rattle.std.proofs.Common.{◌≡◌, ◌≤◌, ◌⊎◌, inl, inr, List, [], ◌∷◌, refl, subst, arith, Bool, true, false}
use Rattle.std.proofs.Common.{if◌then◌else◌, filter}
use Rattle.clr_types.specs.Rising.{IsIn}
use Rattle.clr_types.specs.Segments.{Layout, reserved_end, same_kind, is_small_or_ephemeral, ephemeral}
use Rattle.clr_types.specs.LawfulLayout.{AreDisjoint, IsLawfulLayout}
use Rattle.clr_types.specs.declared.segment.SegInfo.{SegInfo}
use Rattle.clr_types.specs.declared.segment.SegKind.{SegKind}
use Rattle.clr_types.specs.declared.segment.SegKind.TheVariants.{Small, Ephemeral, Large, Pinned}
use Rattle.clr_types.proofs.RisingLists.{in_cons, all_at}
use Rattle.clr_types.proofs.SegmentFacts.{ephemerals-are, AreSeparate, separate, lawful_segment, ephemeral-in}
use Rattle.clr_types.proofs.ChangedLists.{all_members, into_filter, out_of_filter}

-- the segments that pass a test are disjoint as all are
pub filter-disjoint : (test : SegInfo → Bool) (ss : List SegInfo) → AreDisjoint ss → AreDisjoint (filter test ss)
filter-disjoint test [] d = tt
filter-disjoint test (s ∷ ss) d = go (test s) (filter-disjoint test ss d.1)
  where
    go : (b : Bool) → AreDisjoint (filter test ss) → AreDisjoint (if b then s ∷ filter test ss else filter test ss)
    go true more = (
      all_members (λ (r : SegInfo). reserved_end s ≤ r.base) (filter test ss)
          (λ r i. all_at (λ (r : SegInfo). reserved_end s ≤ r.base) (out_of_filter test r ss i).1 d.0),
      more,
    )
    go false more = more

kind-only : (k : SegKind) → is_small_or_ephemeral k ≡ true → (same_kind Ephemeral k ≡ true) ⊎ (same_kind Small k ≡ true)
kind-only Small e = inr refl
kind-only Ephemeral e = inl refl
kind-only Large e = absurd cc
kind-only Pinned e = absurd cc

module _ (layout : Layout) (h : IsLawfulLayout layout) where
  -- a segment of the ephemeral kind is the ephemeral one
  pub ephemeral-one : (s : SegInfo) → IsIn s layout.segments → same_kind Ephemeral s.kind ≡ true → s ≡ ephemeral layout
  ephemeral-one s i e = only (in_cons
      (subst (IsIn s) (ephemerals-are layout h)
      (into_filter (λ (s : SegInfo). same_kind Ephemeral s.kind) layout.segments e i)))
    where
      only : (s ≡ ephemeral layout) ⊎ IsIn s [] → s ≡ ephemeral layout
      only (inl same) = same
      only (inr j) = elim j [ ]

  -- the ephemeral segment is the highest of the small heap
  pub ephemeral-highest : (s : SegInfo) → IsIn s layout.segments → is_small_or_ephemeral s.kind ≡ true
      → (s ≡ ephemeral layout) ⊎ (reserved_end s ≤ (ephemeral layout).base)
  ephemeral-highest s i k = go (kind-only s.kind k)
    where
      apart : same_kind Small s.kind ≡ true → AreSeparate s (ephemeral layout)
          → (s ≡ ephemeral layout) ⊎ (reserved_end s ≤ (ephemeral layout).base)
      apart e (inl same) = inl same
      apart e (inr (inl l)) = inr l
      apart e (inr (inr l)) =
          let low : s.base ≤ (ephemeral layout).base =
          all_at (λ (s : SegInfo). s.base ≤ (ephemeral layout).base)
          (into_filter (λ (s : SegInfo). same_kind Small s.kind) layout.segments e i) h.ephemeral_last in
          let big : 262144 ≤ (ephemeral layout).reserved =
          (lawful_segment layout h (ephemeral layout) (ephemeral-in layout h)).least in
          absurd (omega arith)

      go : (same_kind Ephemeral s.kind ≡ true) ⊎ (same_kind Small s.kind ≡ true)
          → (s ≡ ephemeral layout) ⊎ (reserved_end s ≤ (ephemeral layout).base)
      go (inl e) = inl (ephemeral-one s i e)
      go (inr e) = apart e (separate layout h s (ephemeral layout) i (ephemeral-in layout h))
