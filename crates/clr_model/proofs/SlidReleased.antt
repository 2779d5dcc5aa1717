-- A slide of the large heap, and the release of segments after it, leave a lawful machine: each free item still shares
-- its segment with an object.
use Rattle.std.proofs.Common.{◌≡◌, ◌<◌, ◌≤◌, inl, inr, List, [], map, refl, sym, ap, subst, ◌∙◌, arith}
use Rattle.std.proofs.Common.{Bool, true, false}
use Rattle.clr_types.specs.Rising.{IsIn}
use Rattle.clr_types.specs.Ranges.{Piece, piece_end}
use Rattle.clr_types.specs.declared.segment.SegInfo.{SegInfo}
use Rattle.clr_types.specs.declared.segment.SegKind.TheVariants.{Large}
use Rattle.clr_types.specs.Segments.{Layout, first_place, rest_pieces, reserved_end, same_kind, stands_in}
use Rattle.clr_types.proofs.ChangedLists.{IsIn-map}
use Rattle.clr_types.proofs.ListMembers.{from-map}
use Rattle.clr_types.proofs.SegmentFacts.{AreSeparate, lawful_segment, one_home, separate}
use Rattle.clr_types.proofs.TilePieces.{IsTile}
use Rattle.clr_model.specs.Machine.{Machine, Object}
use Rattle.clr_model.specs.Lookups.{object_piece}
use Rattle.clr_model.specs.Compaction.{Move, moved_by}
use Rattle.clr_model.specs.Collection.{ended, released}
use Rattle.clr_model.specs.Slide.{all_survivors, IsLargeSlid, slid_layout, slid_object, SlidesLarge}
use Rattle.clr_model.specs.Lawful.{IsLaid, IsLawful}
use Rattle.clr_model.proofs.LawfulPieces.{HasHome, object-in-pieces, piece-home, piece-tile, free-in-pieces}
use Rattle.clr_model.proofs.ReleasedLawful.{released_is_lawful}
use Rattle.clr_model.proofs.SlidLaid.{change, other_free, other_still, same-stands}
use Rattle.clr_model.proofs.SlidLawful.{slide_stays_lawful}
use Rattle.clr_model.proofs.SlidPlaces.{before_pin_in}

-- an object stands in the segment of this free item
abbrev pub IsBeside : Machine → Piece → Type 0
IsBeside m f = (t : SegInfo) × IsIn t m.layout.segments × (stands_in t f.place ≡ true) × (o : Object) × IsIn o m.objects
    × (stands_in t o.place ≡ true)

-- an object right behind a piece stands in its segment
behind-in : (m : Machine) (h : IsLaid m) (f : Piece) (i : IsIn f m.layout.free) (o : Object) → IsIn o m.objects
    → o.place ≡ piece_end f → IsBeside m f
behind-in m h f i o j e =
    let a : HasHome m.layout f.place = piece-home m h f (free-in-pieces m h f i) in
    let b : HasHome m.layout o.place = piece-home m h (object_piece m.types o) (object-in-pieces m h o j) in
    let is : IsTile (first_place a.home) a.home.end f = piece-tile m h f (free-in-pieces m h f i) a in
    let end = is.high_end in
    let high : a.home.end ≤ reserved_end a.home = (lawful_segment m.layout h.layout a.home a.among).high in
    let low_f : first_place a.home ≤ f.place = a.low in
    let low_o : first_place b.home ≤ o.place = b.low in
    let high_o : o.place < reserved_end b.home = b.high in (
      a.home,
      a.among,
      a.stands,
      o,
      j,
      go a b low_f (omega arith) low_o high_o
          (separate m.layout h.layout a.home b.home a.among b.among),
    )
  where
    go : (a : HasHome m.layout f.place) (b : HasHome m.layout o.place) → first_place a.home ≤ f.place
        → piece_end f ≤ reserved_end a.home → first_place b.home ≤ o.place → o.place < reserved_end b.home
        → AreSeparate a.home b.home → stands_in a.home o.place ≡ true
    go a b low_f high_f low_o high_o (inl same) =
        subst (λ (s : SegInfo). stands_in s o.place ≡ true) (sym same) b.stands
    go a b low_f high_f low_o high_o (inr (inl l)) = let at = e in absurd (omega arith)
    go a b low_f high_f low_o high_o (inr (inr l)) = let at = e in absurd (omega arith)

module _ (m : Machine) (h : IsLawful m) (bare : rest_pieces m.layout.rests ≡ [])
    (beside : (f : Piece) → IsIn f m.layout.free → IsBeside m f) (moves : List Move)
    (c : SlidesLarge m moves (record m {
      objects = map (slid_object moves) m.objects;
      layout = slid_layout m.layout moves;
    })) (flag : Bool)
  where
    abbrev slid : Machine
    slid = record m { objects = map (slid_object moves) m.objects; layout = slid_layout m.layout moves }

    lawful : IsLawful slid
    lawful = slide_stays_lawful m moves slid h bare c

    -- each free item still shares its segment with an object
    slid_beside : (f : Piece) → IsIn f slid.layout.free → IsBeside slid f
    slid_beside f i = from-home (piece-home slid lawful.laid f (free-in-pieces slid lawful.laid f i))
      where
        known : IsLargeSlid m.layout (all_survivors m) moves c.layout
        known = c.slid

        other : (s : SegInfo) → IsIn s m.layout.segments → same_kind Large s.kind ≡ false → stands_in s f.place ≡ true
            → IsBeside m f → IsBeside slid f
        other s among kind stands (t, k, at, o, j, at_o) =
            let same : t ≡ s = one_home m.layout h.laid.layout t s f.place k among at stands in
            let in_s : stands_in s o.place ≡ true =
            subst (λ (u : SegInfo). stands_in u o.place ≡ true) same at_o in
            let still : moved_by moves o.place ≡ o.place =
            other_still m h.laid moves c.layout known s among kind o j (inl in_s) in (
              change m h.laid moves c.layout known s,
              IsIn-map (change m h.laid moves c.layout known) among,
              same-stands m h.laid moves c.layout known bare s f.place ∙ stands,
              slid_object moves o,
              IsIn-map (slid_object moves) j,
              same-stands m h.laid moves c.layout known bare s (moved_by moves o.place)
                  ∙ ap (λ x. stands_in s x) still ∙ in_s,
            )

        by : (s : SegInfo) → IsIn s m.layout.segments → stands_in s f.place ≡ true → (b : Bool)
            → same_kind Large s.kind ≡ b → IsBeside slid f
        by s among stands true kind =
            let (o, j, e, pinned) = before_pin_in m h.laid moves slid c s among kind f stands i in
            behind-in slid lawful.laid f i o j e
        by s among stands false kind =
            other s among kind stands
            (beside f (other_free m h.laid moves c.layout known s among kind f stands i))

        from-home : HasHome slid.layout f.place → IsBeside slid f
        from-home n =
            let (s, e, among) = from-map (change m h.laid moves c.layout known) n.home m.layout.segments n.among in
            by s among
            (sym (same-stands m h.laid moves c.layout known bare s f.place)
            ∙ subst (λ (u : SegInfo). stands_in u f.place ≡ true) e n.stands) (same_kind Large s.kind) refl

    slid_released : IsLawful (record slid {
      layout = released (slid_layout m.layout moves) (map (slid_object moves) m.objects);
      compacts_large = flag;
    })
    slid_released = released_is_lawful slid lawful bare slid_beside flag

-- The slide and the release together.
pub slid_and_released : (m : Machine) → IsLawful m → rest_pieces m.layout.rests ≡ []
    → ((f : Piece) → IsIn f m.layout.free → IsBeside m f) → (moves : List Move) (new : Machine)
    → SlidesLarge m moves new → (flag : Bool) → IsLawful (record (ended 2 new) { compacts_large = flag })
slid_and_released m h bare beside moves new c flag =
    subst (λ (w : Machine). IsLawful (record (ended 2 w) { compacts_large = flag })) (sym is)
    (slid_released m h bare beside moves (subst (SlidesLarge m moves) is c) flag)
  where
    is : new ≡ record m { objects = map (slid_object moves) m.objects; layout = slid_layout m.layout moves }
    is = c.state ∙ ap (λ (l : Layout). record m { objects = map (slid_object moves) m.objects; layout = l }) c.slid.laid
