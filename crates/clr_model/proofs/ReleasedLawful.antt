-- A lawful machine without contexts stays lawful when segments are released, where each free item lies in one that is
-- retained.
use Rattle.std.proofs.Common.{◌≡◌, ◌≤◌, ◌⊎◌, inl, inr, List, [], sym, subst, arith, Bool, true, filter, IsSome}
use Rattle.std.proofs.Common.{refl, ◌||◌, ◌==◌}
use Rattle.std.proofs.lemmas.Bool.{or_left}
use Rattle.std.specs.List.{list_any}
use Rattle.clr_types.specs.Rising.{IsIn}
use Rattle.clr_types.specs.Ranges.{Piece}
use Rattle.clr_types.specs.declared.segment.SegInfo.{SegInfo}
use Rattle.clr_types.specs.declared.segment.SegKind.TheVariants.{Ephemeral, Large}
use Rattle.clr_types.specs.Segments.{rest_pieces, reserved_sum, same_kind, segment_of, segments_of, stands_in}
use Rattle.clr_types.specs.LawfulLayout.{IsLawfulLayout, IsTiled}
use Rattle.clr_types.proofs.ChangedLists.{all_members, into_filter, out_of_filter}
use Rattle.clr_types.proofs.ListMembers.{any-from}
use Rattle.clr_types.proofs.RisingLists.{all_at}
use Rattle.clr_types.proofs.SegmentFacts.{segment_of-home}
use Rattle.clr_model.specs.Machine.{Machine, Object}
use Rattle.clr_model.specs.Lookups.{object_piece, pieces}
use Rattle.clr_model.specs.Lawful.{IsLaid, IsLawful}
use Rattle.clr_model.specs.Collection.{base_of_first, is_retained, released}
use Rattle.clr_model.proofs.CollectedLayout.{released_ephemeral, released_lawful}
use Rattle.clr_model.proofs.LawfulPieces.{HasHome, object-in-pieces, piece-home}
use Rattle.clr_model.proofs.Relaid.{piece-is}
use Rattle.clr_model.proofs.ReservedBytes.{sum-retained}
use Rattle.clr_model.proofs.Resegmented.{resegmented_lawful}

module _ (m : Machine) (h : IsLawful m) (bare : rest_pieces m.layout.rests ≡ [])
    (beside : (f : Piece) → IsIn f m.layout.free
    → (t : SegInfo) × IsIn t m.layout.segments × (stands_in t f.place ≡ true) × (o : Object) × IsIn o m.objects
    × (stands_in t o.place ≡ true))
    (flag : Bool)
  where
    abbrev left : List SegInfo
    left = filter (is_retained m.layout m.objects) m.layout.segments

    -- a segment in which an object stands is left
    stays : (t : SegInfo) → IsIn t m.layout.segments → (o : Object) → IsIn o m.objects → stands_in t o.place ≡ true
        → IsIn t left
    stays t i o j at =
        into_filter (is_retained m.layout m.objects) m.layout.segments
        (or_left (list_any (λ o. stands_in t o.place) m.objects)
        (same_kind Ephemeral t.kind || (t.base == base_of_first (segments_of Large m.layout)))
        (any-from (λ (o : Object). stands_in t o.place) m.objects o j at)) i

    object_home : (o : Object) → IsIn o m.objects
        → (t : SegInfo) × IsIn t m.layout.segments × IsIn t left × (stands_in t o.place ≡ true)
    object_home o i =
        let n : HasHome m.layout o.place =
        piece-home m h.laid (object_piece m.types o) (object-in-pieces m h.laid o i) in
        (n.home, n.among, stays n.home n.among o i n.stands, n.stands)

    lawful : IsLawfulLayout (released m.layout m.objects)
    lawful = released_lawful m.layout h.laid.layout m.objects

    housed : (x : Piece) → IsIn x (pieces m) → IsSome (segment_of (released m.layout m.objects) x.place)
    housed x i = by (piece-is m bare x i)
      where
        at : (t : SegInfo) → IsIn t left → stands_in t x.place ≡ true
            → IsSome (segment_of (released m.layout m.objects) x.place)
        at t j stands =
            subst (λ r. IsSome r) (sym (segment_of-home (released m.layout m.objects) lawful t x.place j stands)) refl

        by : ((o : Object) × IsIn o m.objects × (x ≡ object_piece m.types o)) ⊎ IsIn x m.layout.free
            → IsSome (segment_of (released m.layout m.objects) x.place)
        by (inl (o, j, e)) =
            let (t, known, among, stands) = object_home o j in
            at t among (subst (λ (y : Piece). stands_in t y.place ≡ true) (sym e) stands)
        by (inr j) = let (t, known, stands, o, k, at_o) = beside x j in at t (stays t known o k at_o) stands

    laid : IsLaid (record m { layout = released m.layout m.objects; compacts_large = flag })
    laid = record {
      layout = lawful;
      housed = all_members (λ (p : Piece). IsSome (segment_of (released m.layout m.objects) p.place)) (pieces m) housed;
      tiled =
          all_members (IsTiled (pieces m)) left
          (λ t i. all_at (IsTiled (pieces m)) (out_of_filter (is_retained m.layout m.objects) t m.layout.segments i).1
          h.laid.tiled);
      whole1 = h.laid.whole1;
      whole0 = h.laid.whole0;
    }

    fewer : reserved_sum (released m.layout m.objects) ≤ m.options.limit
    fewer =
        let l = h.limit in
        let down = sum-retained (λ (s : SegInfo). s.reserved) (is_retained m.layout m.objects) m.layout.segments in
        omega arith

    -- The machine stays lawful.
    pub released_is_lawful : IsLawful (record m {
      layout = released m.layout m.objects;
      compacts_large = flag;
    })
    released_is_lawful =
        resegmented_lawful m h left flag m.background h.marking laid
        (released_ephemeral m.layout h.laid.layout m.objects) object_home fewer
