-- A new empty segment above all that ever were: one of a kind whose objects are old from birth keeps a machine lawful.
use Rattle.std.proofs.Common.{◌≡◌, ℕ, ◌+◌, ◌%◌, ◌<◌, ◌≤◌, List, [], ◌∷◌, ◌++◌, length}
use Rattle.std.proofs.Common.{refl, sym, ap, subst, ◌∙◌, arith, true, false, Bool, if◌then◌else◌, nat_lt}
use Rattle.std.proofs.Common.{Option, IsSome, IfSome}
use Rattle.std.specs.List.{AllByRecursion}
use Rattle.std.proofs.lemmas.Bool.{false≢true, leb-true}
use Rattle.std.proofs.lemmas.List.{append-nil}
use Rattle.std.proofs.lemmas.List.Elements.{filter-append}
use Rattle.std.proofs.lemmas.List.Sums.{sum_by_push}
use Rattle.clr_types.specs.Ranges.{Piece}
use Rattle.clr_types.specs.declared.segment.SegInfo.{SegInfo}
use Rattle.clr_types.specs.declared.segment.SegKind.{SegKind}
use Rattle.clr_types.specs.declared.segment.SegKind.TheVariants.{Small, Ephemeral, Large, Pinned}
use Rattle.clr_types.specs.Segments.{Layout, first_place, reserved_end, same_kind, is_small_or_ephemeral, stands_in}
use Rattle.clr_types.specs.Segments.{opening_segment, segment_or_empty, segments_of, segment_of, ephemeral}
use Rattle.clr_types.specs.Segments.{reserved_sum, generation, rest_pieces}
use Rattle.clr_types.specs.LawfulLayout.{IsLawfulSegment, IsLawfulLayout, IsTiled, IsBoundedSegment}
use Rattle.clr_types.proofs.RisingLists.{all_at}
use Rattle.clr_types.proofs.TableRows.{AllByRecursion-push}
use Rattle.clr_types.proofs.ChangedLists.{all_members, all_imply}
use Rattle.clr_model.specs.Machine.{Machine}
use Rattle.clr_model.specs.Lookups.{pieces}
use Rattle.clr_model.specs.Allocation.{with_segment, segment_for, allows, with_layout}
use Rattle.clr_model.specs.Lawful.{IsLawful, IsLaid, Suits, SuitsItsSegment}
use Rattle.clr_model.proofs.LawfulPieces.{object-in-pieces}
use Rattle.clr_model.proofs.ContextChange.{relaid_lawful}
use Rattle.clr_model.proofs.SegmentAdded.{disjoint_added, home_added, opened_lawful, opened_tiled}

-- one is there still where there is one more
some_more : (ss ts : List SegInfo) → 0 < length ss → 0 < length (ss ++ ts)
some_more [] ts some = absurd (omega (arith, some))
some_more (s ∷ ss) ts some = omega arith

-- such a kind is neither of those of the small heap
pub old-not_ephemeral : (kind : SegKind) → is_small_or_ephemeral kind ≡ false → same_kind Ephemeral kind ≡ false
old-not_ephemeral Small old = absurd cc
old-not_ephemeral Ephemeral old = absurd cc
old-not_ephemeral Large old = refl
old-not_ephemeral Pinned old = refl

pub old-not_small : (kind : SegKind) → is_small_or_ephemeral kind ≡ false → same_kind Small kind ≡ false
old-not_small Small old = absurd cc
old-not_small Ephemeral old = absurd cc
old-not_small Large old = refl
old-not_small Pinned old = refl

module _ (kind : SegKind) (old : is_small_or_ephemeral kind ≡ false) (m : Machine) (h : IsLawful m) where
  layout_is : IsLawfulLayout m.layout
  layout_is = h.laid.layout

  module _ (size : ℕ) (least : 262144 ≤ size) (wide : size % 4096 ≡ 0) where
    abbrev new : SegInfo
    new = opening_segment m.layout.top kind size

    abbrev next : Layout
    next = with_segment m.layout kind size

    abbrev segments : List SegInfo
    segments = m.layout.segments

    -- the segments of another kind stay
    ephemerals-added : segments_of Ephemeral next ≡ segments_of Ephemeral m.layout
    ephemerals-added =
        filter-append (λ (s : SegInfo). same_kind Ephemeral s.kind) segments (new ∷ [])
        ∙ ap (λ (b : Bool). segments_of Ephemeral m.layout ++ (if b then new ∷ [] else [])) (old-not_ephemeral kind old)
        ∙ append-nil (segments_of Ephemeral m.layout)

    -- so do those of small objects
    smalls-added : segments_of Small next ≡ segments_of Small m.layout
    smalls-added =
        filter-append (λ (s : SegInfo). same_kind Small s.kind) segments (new ∷ [])
        ∙ ap (λ (b : Bool). segments_of Small m.layout ++ (if b then new ∷ [] else [])) (old-not_small kind old)
        ∙ append-nil (segments_of Small m.layout)

    -- and there is one large one at least, still
    larges-added : segments_of Large next
        ≡ segments_of Large m.layout ++ (if same_kind Large kind then new ∷ [] else [])
    larges-added = filter-append (λ (s : SegInfo). same_kind Large s.kind) segments (new ∷ [])

    -- the ephemeral segment is what it was
    ephemeral-added : ephemeral next ≡ ephemeral m.layout
    ephemeral-added = ap segment_or_empty ephemerals-added

    -- and each place has the generation that it had
    generation-added : (place : ℕ) → generation next place ≡ generation m.layout place
    generation-added place =
        ap (λ (u : SegInfo). if stands_in u place then
        (if nat_lt place m.layout.start1 then 2 else (if nat_lt place m.layout.start0 then 1 else 0)) else 2)
        ephemeral-added

    -- the layout is lawful
    added_layout : IsLawfulLayout next
    added_layout =
        let top = layout_is.top_aligned in
        let same = sym ephemeral-added in
        record {
          segments = AllByRecursion-push IsLawfulSegment segments new layout_is.segments
              (opened_lawful m h kind size least wide);
          bounded = AllByRecursion-push IsBoundedSegment segments new layout_is.bounded
              (λ small. absurd (false≢true (sym old ∙ small)));
          disjoint = disjoint_added segments new layout_is.disjoint layout_is.below_top;
          below_top =
              AllByRecursion-push (λ (s : SegInfo). reserved_end s ≤ m.layout.top + size) segments new
              (all_imply (λ (s : SegInfo). reserved_end s ≤ m.layout.top)
              (λ (s : SegInfo). reserved_end s ≤ m.layout.top + size) segments (λ s l. omega arith) layout_is.below_top)
              (omega arith);
          top_aligned = omega arith;
          one_ephemeral = ap length ephemerals-added ∙ layout_is.one_ephemeral;
          ephemeral_last =
              subst (λ (u : SegInfo). AllByRecursion (λ (s : SegInfo). s.base ≤ u.base) (segments_of Small next)) same
              (subst (AllByRecursion (λ (s : SegInfo). s.base ≤ (ephemeral m.layout).base)) (sym smalls-added)
              layout_is.ephemeral_last);
          some_large = subst (λ (ss : List SegInfo). 0 < length ss) (sym larges-added)
              (some_more (segments_of Large m.layout)
              (if same_kind Large kind then new ∷ [] else []) layout_is.some_large);
          start1_low = subst (λ (u : SegInfo). first_place u ≤ m.layout.start1) same layout_is.start1_low;
          start1_high = layout_is.start1_high;
          start0_high = subst (λ (u : SegInfo). m.layout.start0 ≤ u.end) same layout_is.start0_high;
          aligned = layout_is.aligned;
          free_rise = layout_is.free_rise;
          threads = layout_is.threads;
        }

    -- and filled by the pieces
    added_laid : IsLaid (with_layout m next)
    added_laid = record {
      layout = added_layout;
      housed =
          all_imply (λ (p : Piece). IsSome (segment_of m.layout p.place))
          (λ (p : Piece). IsSome (segment_of next p.place)) (pieces m)
          (λ p there. subst IsSome (sym (home_added segments new p.place there)) there) h.laid.housed;
      tiled = AllByRecursion-push (IsTiled (pieces m)) segments new h.laid.tiled (opened_tiled m h kind size);
      whole1 = h.laid.whole1;
      whole0 = h.laid.whole0;
    }

    -- each object suits the segment in which it stands
    suited-added : AllByRecursion (SuitsItsSegment (with_layout m next)) m.objects
    suited-added =
        all_members (SuitsItsSegment (with_layout m next)) m.objects
        (λ o i.
        let there = all_at (λ (p : Piece). IsSome (segment_of m.layout p.place)) (object-in-pieces m h.laid o i)
        h.laid.housed in
        subst (λ (r : Option SegInfo). IfSome r (λ s. Suits m o s.kind)) (sym (home_added segments new o.place there))
        (all_at (SuitsItsSegment m) i h.suited))

    -- Where the limit allows it, a machine with a new segment of the kind is lawful.
    pub added_lawful : allows m size ≡ true → IsLawful (with_layout m (with_segment m.layout kind size))
    added_lawful allowed =
        let more = sum_by_push (λ (s : SegInfo). s.reserved) segments new in
        let within = leb-true (reserved_sum m.layout + size) m.options.limit allowed in
        relaid_lawful m next h added_laid
        (all_imply (λ (p : Piece). generation m.layout p.place ≡ 0) (λ (p : Piece). generation next p.place ≡ 0)
        (rest_pieces m.layout.rests) (λ p e. generation-added p.place ∙ e) h.rests_young)
        suited-added (omega arith) h.rooms (λ o i. let same = generation-added o.place in omega arith)

  -- ---- the one for an object

  -- what is reserved for it is a lawful segment's
  segment_for-lawful : (size : ℕ) → (262144 ≤ segment_for m size) × (segment_for m size % 4096 ≡ 0)
  segment_for-lawful size =
      let least = h.options.segment_least in
      let wide = h.options.segment_aligned in
      (omega arith, omega arith)

  -- Where the limit allows it, a machine with a new segment for an object is lawful.
  pub acquired_lawful : (size : ℕ) → allows m (segment_for m size) ≡ true
      → IsLawful (with_layout m (with_segment m.layout kind (segment_for m size)))
  acquired_lawful size allowed =
      let (least, wide) = segment_for-lawful size in added_lawful (segment_for m size) least wide allowed
