-- The small heap of one segment that a full collection leaves, without a context.
use Rattle.std.proofs.Common.{◌≡◌, ℕ, ◌⊎◌, inl, inr, List, [], ◌++◌, map, length, refl, ap}
use Rattle.std.proofs.Common.{subst, ◌∙◌, arith, Bool, true, false, ◌&&◌, ◌==◌, not}
use Rattle.clr_types.specs.Ranges.{Piece}
use Rattle.clr_types.specs.Rising.{IsIn}
use Rattle.clr_types.specs.Segments.{Layout, ephemeral, is_small_or_ephemeral, rest_pieces, same_kind, segments_of}
use Rattle.clr_types.specs.Segments.{stands_in}
use Rattle.clr_types.specs.declared.segment.SegInfo.{SegInfo}
use Rattle.clr_types.specs.declared.segment.SegKind.{SegKind}
use Rattle.clr_types.specs.declared.segment.SegKind.TheVariants.{Small, Ephemeral, Large, Pinned}
use Rattle.clr_types.proofs.ChangedLists.{into_filter}
use Rattle.clr_types.proofs.ListMembers.{any-from, from-map, in_append}
use Rattle.clr_types.proofs.RisingLists.{in_cons}
use Rattle.clr_types.proofs.SegmentFacts.{ephemeral-in, ephemeral-kind, ephemerals-are}
use Rattle.clr_types.proofs.SortedLists.{out_of_sorted_by}
use Rattle.clr_model.specs.declared.How.{How}
use Rattle.clr_model.specs.declared.How.TheVariants.{Compact, Decide, Fit, Sweep}
use Rattle.clr_model.specs.declared.Collected.{Collected}
use Rattle.clr_model.specs.Machine.{Machine}
use Rattle.clr_model.specs.Lookups.{object_piece, pieces}
use Rattle.clr_model.specs.Reach.{StartOf}
use Rattle.clr_model.specs.Sweep.{Survivor}
use Rattle.clr_model.specs.Compaction.{Move}
use Rattle.clr_model.specs.Collection.{begun, compacts, decides_to_compact, is_in_small_heap, Collects, IsCollected}
use Rattle.clr_model.specs.Collection.{IsSmallLaid, IsSmallLaidBy, SlidesIf}
use Rattle.clr_model.specs.Lawful.{IsLawful}
use Rattle.clr_model.specs.Laws.{IsUsual}
use Rattle.clr_model.proofs.GivenUp.{no_rests}
use Rattle.clr_laws.proofs.NothingMoves.{IsObject}

-- ---- what the first one leaves

rests_small : (compacting : Bool) (layout : Layout) (kept : List Survivor) (moves : List Move) (small : Layout)
    → IsSmallLaid compacting layout 2 kept moves small → small.rests ≡ layout.rests
rests_small true layout kept moves small c = c.rests
rests_small false layout kept moves small (none, same) = ap (λ (l : Layout). l.rests) same

rests_small_by : (how : How) → IsUsual 2 how → (compacting : Bool) (layout : Layout) (kept : List Survivor)
    (moves : List Move) (small : Layout) → IsSmallLaidBy how compacting layout 2 kept moves small
    → small.rests ≡ layout.rests
rests_small_by Decide usual = rests_small
rests_small_by Compact usual = rests_small
rests_small_by Sweep usual = rests_small
rests_small_by Fit usual = absurd (omega (arith, usual))

rests_slide : (slides : Bool) (m new : Machine) → SlidesIf slides m new → new.layout.rests ≡ m.layout.rests
rests_slide true m new (moves, s) =
    ap (λ (w : Machine). w.layout.rests) s.state ∙ ap (λ (l : Layout). l.rests) s.slid.laid
rests_slide false m new same = ap (λ (w : Machine). w.layout.rests) same

module _ (m : Machine) (how : How) (usual : IsUsual 2 how) (answer : Collected) (new : Machine)
    (c : Collects m 2 how answer new) where
  abbrev d : IsCollected (begun m) 2 how false (StartOf (begun m) 2) answer c.collected
  d = c.collects

  -- no context is left
  pub bare : rest_pieces new.layout.rests ≡ []
  bare =
      ap rest_pieces (ap (λ (w : Machine). w.layout.rests) c.ends
      ∙ rests_slide (m.compacts_large && (2 == 2)) c.collected c.slid c.slides
      ∙ ap (λ (w : Machine). w.layout.rests) d.state ∙ ap (λ (l : Layout). l.rests) d.large_laid
      ∙ rests_small_by how usual (compacts how (decides_to_compact (begun m) 2 d.survive)) (begun m).layout d.survive
      d.moves d.small d.small_laid) ∙ no_rests (length m.layout.rests)

  -- and no slide is ahead
  pub no_slide : new.compacts_large ≡ false
  no_slide = ap (λ (w : Machine). w.compacts_large) c.ends ∙ go m.compacts_large
    where
      go : (b : Bool) → (b && not (2 == 2)) ≡ false
      go true = refl
      go false = refl

-- ---- one segment

module _ (m : Machine) (h : IsLawful m) (none : rest_pieces m.layout.rests ≡ []) where
  abbrev E : SegInfo
  E = ephemeral m.layout

  none_in : {X : Type 0} (x : X) (xs : List X) → xs ≡ [] → IsIn x xs → ⊥
  none_in x xs e i = elim (subst (IsIn x) e i) [ ]

  pub one_segment : segments_of Small m.layout ≡ [] → (s : SegInfo) → IsIn s m.layout.segments
      → is_small_or_ephemeral s.kind ≡ true → s ≡ E
  one_segment single s i kind = go s.kind refl kind
    where
      go : (k : SegKind) → s.kind ≡ k → is_small_or_ephemeral k ≡ true → s ≡ E
      go Small e kind =
          absurd (none_in s (segments_of Small m.layout) single
          (into_filter (λ (s : SegInfo). same_kind Small s.kind) m.layout.segments (ap (same_kind Small) e) i))
      go Ephemeral e kind =
          elim (in_cons (subst (IsIn s) (ephemerals-are m.layout h.laid.layout)
          (into_filter (λ (s : SegInfo). same_kind Ephemeral s.kind) m.layout.segments (ap (same_kind Ephemeral) e) i)))
          [ inl same ↦ same | inr j ↦ elim j [ ] ]
      go Large e kind = absurd cc
      go Pinned e kind = absurd cc

  small_kind : (k : SegKind) → same_kind Ephemeral k ≡ true → is_small_or_ephemeral k ≡ true
  small_kind Small e = refl
  small_kind Ephemeral e = refl
  small_kind Large e = absurd cc
  small_kind Pinned e = absurd cc

  pub inside : (place : ℕ) → stands_in E place ≡ true → is_in_small_heap m.layout place ≡ true
  inside place stands =
      any-from (λ (s : SegInfo). is_small_or_ephemeral s.kind && stands_in s place) m.layout.segments E
      (ephemeral-in m.layout h.laid.layout)
      (ap (λ b. b && stands_in E place) (small_kind E.kind (ephemeral-kind m.layout h.laid.layout)) ∙ stands)

  -- where no context is left, a piece is an object's or a free one
  pub object_or_free : (p : Piece) → IsIn p (pieces (begun m)) → IsObject m p ⊎ IsIn p m.layout.free
  object_or_free p i =
      elim (in_append (map (object_piece m.types) m.objects ++ (begun m).layout.free)
      (out_of_sorted_by (λ (p : Piece). p.place) p ((map (object_piece m.types) m.objects ++ (begun m).layout.free)
      ++ rest_pieces (begun m).layout.rests) i)) [
        | inl j ↦ elim (in_append (map (object_piece m.types) m.objects) j) [
          | inl k ↦ let (o, e, n) = from-map (object_piece m.types) p m.objects k in inl (o, n, e)
          | inr k ↦ elim (in_append m.layout.free (out_of_sorted_by (λ (p : Piece). p.place) p
              (m.layout.free ++ rest_pieces m.layout.rests) k)) [
                | inl n ↦ inr n
                | inr n ↦ absurd (none_in p (rest_pieces m.layout.rests) none n)
              ]
        ]
        | inr j ↦ absurd (none_in p (rest_pieces (begun m).layout.rests) (no_rests (length m.layout.rests)) j)
      ]
