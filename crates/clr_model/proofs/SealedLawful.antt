-- Sealing keeps a machine lawful: the ephemeral segment becomes a small one, and an empty one above all that ever were
-- takes its place.
use Rattle.std.proofs.Common.{◌≡◌, ℕ, ◌+◌, ◌≤◌, List, [], ◌∷◌, ◌++◌, map, length, filter, find, refl}
use Rattle.std.proofs.Common.{sym, ap, subst, ◌∙◌, arith, Bool, true, false, if◌then◌else◌}
use Rattle.std.proofs.Common.{Option, Some, None, IsSome, IfSome, inr}
use Rattle.std.specs.List.{AllByRecursion}
use Rattle.std.specs.Option.{option_map}
use Rattle.std.proofs.lemmas.Bool.{leb-true}
use Rattle.std.proofs.lemmas.List.Sums.{sum_by_push}
use Rattle.clr_types.specs.Ranges.{Piece, piece_end}
use Rattle.clr_types.specs.declared.segment.SegInfo.{SegInfo}
use Rattle.clr_types.specs.declared.segment.SegKind.{SegKind}
use Rattle.clr_types.specs.declared.segment.SegKind.TheVariants.{Small, Ephemeral, Large, Pinned}
use Rattle.clr_types.specs.Segments.{Layout, first_place, reserved_end, same_kind, is_small_or_ephemeral, stands_in}
use Rattle.clr_types.specs.Segments.{opening_segment, sealed_kind, sealed_segment, segment_or_empty, segments_of}
use Rattle.clr_types.specs.Segments.{segment_of, ephemeral, reserved_sum, generation, rest_pieces}
use Rattle.clr_types.specs.LawfulLayout.{AreDisjoint, IsLawfulSegment, DoesNotCross, IsLawfulLayout, IsTiled}
use Rattle.clr_types.specs.LawfulLayout.{IsBoundedSegment}
use Rattle.clr_types.proofs.RisingLists.{all_at}
use Rattle.clr_types.proofs.ChangedLists.{all_members, all_imply, all-map, out_of_filter}
use Rattle.clr_types.proofs.TableRows.{AllByRecursion-push}
use Rattle.clr_types.proofs.ListMembers.{sum-mapped}
use Rattle.clr_model.specs.Machine.{Object, ThreadStep, no_step, begun_store, begun_new, Machine}
use Rattle.clr_model.specs.Lookups.{pieces}
use Rattle.clr_model.specs.Allocation.{sealed, allows, with_layout}
use Rattle.clr_model.specs.Lawful.{IsLawful, IsLaid, Suits, SuitsItsSegment, HasItsRoom, AllFrom}
use Rattle.clr_model.proofs.LawfulPieces.{object-in-pieces}
use Rattle.clr_model.proofs.ContextChange.{relaid_lawful}
use Rattle.clr_model.proofs.SegmentAdded.{disjoint_added, home_added, pieces_below, opened_lawful, opened_tiled}
use Rattle.clr_model.proofs.SealedSums.{one_sealed, sealed_older}

-- ---- lists of segments

-- a segment that is sealed is as lawful
sealed-segment : (s : SegInfo) → IsLawfulSegment s → IsLawfulSegment (sealed_segment s)
sealed-segment s is = record {
  base = is.base;
  lowest = is.lowest;
  reserved = is.reserved;
  least = is.least;
  low = is.low;
  high = is.high;
  aligned = is.aligned;
}

-- and as bounded
sealed-bounded : (s : SegInfo) → IsBoundedSegment s → IsBoundedSegment (sealed_segment s)
sealed-bounded s most = λ small. most (unsealed s.kind small)
  where
    unsealed : (k : SegKind) → is_small_or_ephemeral (sealed_kind k) ≡ true → is_small_or_ephemeral k ≡ true
    unsealed Small small = refl
    unsealed Ephemeral small = refl
    unsealed Large small = small
    unsealed Pinned small = small

-- what the sealed ones and a new one all have
all_sealed : (P : SegInfo → Type 0) (ss : List SegInfo) (new : SegInfo) → AllByRecursion (λ s. P (sealed_segment s)) ss
    → P new → AllByRecursion P (map sealed_segment ss ++ new ∷ [])
all_sealed P ss new all here =
    AllByRecursion-push P (map sealed_segment ss) new (all-map sealed_segment P ss all) here

-- the sealed ones are apart
disjoint-sealed : (ss : List SegInfo) → AreDisjoint ss → AreDisjoint (map sealed_segment ss)
disjoint-sealed [] apart = tt
disjoint-sealed (s ∷ ss) apart =
    (all-map sealed_segment (λ (r : SegInfo). reserved_end s ≤ r.base) ss apart.0, disjoint-sealed ss apart.1)

-- a place stands in the same segment, sealed
find-sealed : (ss : List SegInfo) (place : ℕ)
    → find (λ (s : SegInfo). stands_in s place) (map sealed_segment ss)
    ≡ option_map sealed_segment (find (λ (s : SegInfo). stands_in s place) ss)
find-sealed [] place = refl
find-sealed (s ∷ ss) place = go (stands_in s place) (find-sealed ss place)
  where
    was : Option SegInfo
    was = find (λ (s : SegInfo). stands_in s place) ss

    now : Option SegInfo
    now = find (λ (s : SegInfo). stands_in s place) (map sealed_segment ss)

    go : (b : Bool) → now ≡ option_map sealed_segment was
        → (if b then Some (sealed_segment s) else now) ≡ option_map sealed_segment (if b then Some s else was)
    go true more = refl
    go false more = more

-- what has a segment still has one
some_home : (r : Option SegInfo) → IsSome r → IsSome (option_map sealed_segment r)
some_home None there = there
some_home (Some s) there = there

-- also where there is a new one
sealed_home : (ss : List SegInfo) (new : SegInfo) (place : ℕ) → IsSome (find (λ (s : SegInfo). stands_in s place) ss)
    → find (λ (s : SegInfo). stands_in s place) (map sealed_segment ss ++ new ∷ [])
    ≡ option_map sealed_segment (find (λ (s : SegInfo). stands_in s place) ss)
sealed_home ss new place there =
    home_added (map sealed_segment ss) new place
    (subst IsSome (sym (find-sealed ss place)) (some_home (find (λ (s : SegInfo). stands_in s place) ss) there))
    ∙ find-sealed ss place

-- large segments stay
sealed_larges : (ss : List SegInfo) (new : SegInfo)
    → length (filter (λ (s : SegInfo). same_kind Large s.kind) ss)
    ≤ length (filter (λ (s : SegInfo). same_kind Large s.kind) (map sealed_segment ss ++ new ∷ []))
sealed_larges [] new = omega arith
sealed_larges (s ∷ ss) new = go s.kind (sealed_larges ss new)
  where
    was : List SegInfo
    was = filter (λ (s : SegInfo). same_kind Large s.kind) ss

    now : List SegInfo
    now = filter (λ (s : SegInfo). same_kind Large s.kind) (map sealed_segment ss ++ new ∷ [])

    go : (k : SegKind) → length was ≤ length now
        → length (if same_kind Large k then s ∷ was else was)
        ≤ length (if same_kind Large (sealed_kind k) then sealed_segment s ∷ now else now)
    go Small l = l
    go Ephemeral l = l
    go Large l = omega arith
    go Pinned l = l

-- ---- the machine

module _ (m : Machine) (h : IsLawful m) where
  abbrev size : ℕ
  size = m.options.segment

  abbrev opened : SegInfo
  opened = opening_segment m.layout.top Ephemeral size

  abbrev next : Layout
  next = sealed m.layout size

  abbrev segments : List SegInfo
  segments = m.layout.segments

  -- the layout that there was
  layout_is : IsLawfulLayout m.layout
  layout_is = h.laid.layout

  -- the new segment is the ephemeral one
  opened_is : ephemeral next ≡ opened
  opened_is = ap segment_or_empty (one_sealed segments opened)

  -- the new segment is lawful
  opened_is_lawful : IsLawfulSegment opened
  opened_is_lawful =
      opened_lawful m h Ephemeral size h.options.segment_least h.options.segment_aligned

  -- and so is the layout with it
  sealed_layout : IsLawfulLayout next
  sealed_layout =
      let top = layout_is.top_aligned in
      let wide = h.options.segment_aligned in
      let some = layout_is.some_large in
      let larges = sealed_larges segments opened in
      let same = sym opened_is in
      record {
        segments = all_sealed IsLawfulSegment segments opened
            (all_imply IsLawfulSegment (λ s. IsLawfulSegment (sealed_segment s)) segments sealed-segment
            layout_is.segments) opened_is_lawful;
        bounded = all_sealed IsBoundedSegment segments opened
            (all_imply IsBoundedSegment (λ s. IsBoundedSegment (sealed_segment s)) segments sealed-bounded
            layout_is.bounded) (λ small. h.options.segment_greatest);
        disjoint = disjoint_added (map sealed_segment segments) opened (disjoint-sealed segments layout_is.disjoint)
            (all-map sealed_segment (λ (s : SegInfo). reserved_end s ≤ m.layout.top) segments layout_is.below_top);
        below_top =
            all_sealed (λ (s : SegInfo). reserved_end s ≤ m.layout.top + size) segments opened
            (all_imply (λ (s : SegInfo). reserved_end s ≤ m.layout.top)
            (λ (s : SegInfo). reserved_end s ≤ m.layout.top + size) segments (λ s l. omega arith) layout_is.below_top)
            (omega arith);
        top_aligned = omega arith;
        one_ephemeral = ap length (one_sealed segments opened);
        ephemeral_last =
            subst (λ (u : SegInfo). AllByRecursion (λ (s : SegInfo). s.base ≤ u.base) (segments_of Small next)) same
            (all_members (λ (s : SegInfo). s.base ≤ m.layout.top) (segments_of Small next)
            (λ s i. all_at (λ (s : SegInfo). s.base ≤ m.layout.top)
            (out_of_filter (λ (s : SegInfo). same_kind Small s.kind) s next.segments i).1 below));
        some_large = omega arith;
        start1_low = subst (λ (u : SegInfo). first_place u ≤ next.start1) same (omega arith);
        start1_high = omega arith;
        start0_high = subst (λ (u : SegInfo). next.start0 ≤ u.end) same (omega arith);
        aligned = (omega arith, omega arith);
        free_rise = layout_is.free_rise;
        threads = layout_is.threads;
      }
    where
      -- no segment begins above the new one
      below : AllByRecursion (λ (s : SegInfo). s.base ≤ m.layout.top) next.segments
      below =
          all_sealed (λ (s : SegInfo). s.base ≤ m.layout.top) segments opened
          (all_imply (λ (s : SegInfo). reserved_end s ≤ m.layout.top) (λ (s : SegInfo). s.base ≤ m.layout.top) segments
          (λ s l. omega arith) layout_is.below_top) (omega arith)

  -- no piece crosses the new boundaries
  whole : AllByRecursion (DoesNotCross (m.layout.top + 0x1000)) (pieces m)
  whole =
      all_imply (λ (p : Piece). piece_end p ≤ m.layout.top) (DoesNotCross (m.layout.top + 0x1000)) (pieces m)
      (λ p l. inr (omega arith)) (pieces_below m h)

  -- the pieces fill the segments as before, and the new one is empty
  sealed_laid : IsLaid (with_layout m next)
  sealed_laid = record {
    layout = sealed_layout;
    housed =
        all_imply (λ (p : Piece). IsSome (segment_of m.layout p.place))
        (λ (p : Piece). IsSome (segment_of next p.place)) (pieces m)
        (λ p there. subst IsSome (sym (sealed_home segments opened p.place there))
        (some_home (segment_of m.layout p.place) there)) h.laid.housed;
    tiled = all_sealed (IsTiled (pieces m)) segments opened h.laid.tiled (opened_tiled m h Ephemeral size);
    whole1 = whole;
    whole0 = whole;
  }

  -- ---- the rest

  -- what suits an ephemeral segment suits a small one
  suits_sealed : (o : Object) (k : SegKind) → Suits m o k → Suits (with_layout m next) o (sealed_kind k)
  suits_sealed o Small is = is
  suits_sealed o Ephemeral is = is
  suits_sealed o Large is = is
  suits_sealed o Pinned is = is

  -- so each object suits its segment
  suits_there : (o : Object) (r : Option SegInfo) → IfSome r (λ s. Suits m o s.kind)
      → IfSome (option_map sealed_segment r) (λ s. Suits (with_layout m next) o s.kind)
  suits_there o None is = tt
  suits_there o (Some s) is = suits_sealed o s.kind is

  -- all of them do
  suited_next : AllByRecursion (SuitsItsSegment (with_layout m next)) m.objects
  suited_next =
      all_members (SuitsItsSegment (with_layout m next)) m.objects
      (λ o i.
      let there = all_at (λ (p : Piece). IsSome (segment_of m.layout p.place)) (object-in-pieces m h.laid o i)
      h.laid.housed in
      subst (λ (r : Option SegInfo). IfSome r (λ s. Suits (with_layout m next) o s.kind))
      (sym (sealed_home segments opened o.place there))
      (suits_there o (segment_of m.layout o.place) (all_at (SuitsItsSegment m) i h.suited)))

  -- so many bytes more are reserved
  reserved_more : reserved_sum next ≡ reserved_sum m.layout + size
  reserved_more =
      sum_by_push (λ (s : SegInfo). s.reserved) (map sealed_segment segments) opened
      ∙ ap (λ n. n + size) (sum-mapped sealed_segment (λ (s : SegInfo). s.reserved) segments)

  -- threads keep the room for what they began
  rooms_still : (u : ℕ) (ss : List ThreadStep) → AllFrom (HasItsRoom m) u ss
      → AllFrom (HasItsRoom (with_layout m next)) u ss
  rooms_still u [] all = tt
  rooms_still u (no_step ∷ ss) all = (tt, rooms_still (u + 1) ss all.1)
  rooms_still u (begun_store object slot ∷ ss) all = (tt, rooms_still (u + 1) ss all.1)
  rooms_still u (begun_new type len local ∷ ss) all = (all.0, rooms_still (u + 1) ss all.1)

  -- Where no thread has a context and the limit allows the new segment, the sealed machine is lawful.
  pub sealed_lawful : rest_pieces m.layout.rests ≡ [] → allows m m.options.segment ≡ true
      → IsLawful (with_layout m (sealed m.layout m.options.segment))
  sealed_lawful bare allowed =
      let more = reserved_more in
      let within = leb-true (reserved_sum m.layout + size) m.options.limit allowed in
      relaid_lawful m next h sealed_laid
      (subst (AllByRecursion (λ (p : Piece). generation next p.place ≡ 0)) (sym bare) tt)
      suited_next (omega arith) (rooms_still 1 m.steps h.rooms) (sealed_older m size h.laid)
