-- After a collection the whole memory is as lawful: its pieces fill the segments that are left, and cross no boundary.
use Rattle.std.proofs.Common.{◌≡◌, ℕ, ◌<◌, ◌≤◌, ◌⊎◌, inl, inr, List, [], refl, sym, ap, subst, ◌∙◌, arith, Bool, true}
use Rattle.std.proofs.Common.{false, if◌then◌else◌, ◌==◌, Option, IfSome}
use Rattle.std.proofs.lemmas.Bool.{both_ways, eqb-true, eqb-false, cases_lt}
use Rattle.clr_types.specs.Rising.{IsIn}
use Rattle.clr_types.specs.Ranges.{Piece, piece_end}
use Rattle.clr_types.specs.declared.segment.SegInfo.{SegInfo}
use Rattle.clr_types.specs.declared.segment.SegKind.{SegKind}
use Rattle.clr_types.specs.declared.segment.SegKind.TheVariants.{Small, Ephemeral, Large, Pinned}
use Rattle.clr_types.specs.Segments.{Layout, first_place, reserved_end, same_kind, stands_in, pieces_in, generation}
use Rattle.clr_types.specs.Segments.{ephemeral, is_small_or_ephemeral, rest_pieces}
use Rattle.clr_types.specs.LawfulLayout.{IsLawfulLayout, DoesNotCross}
use Rattle.clr_types.proofs.RisingLists.{all_at}
use Rattle.clr_types.proofs.SortedLists.{IsDistinctBy}
use Rattle.clr_types.proofs.ChangedLists.{into_filter, out_of_filter}
use Rattle.clr_types.proofs.TilePieces.{IsTile, tile}
use Rattle.clr_types.proofs.SegmentFacts.{AreSeparate, separate, ephemeral-in, ephemeral-kind, one_home, stands-between}
use Rattle.clr_types.proofs.SegmentFacts.{between-stands, lawful_segment, segment_of-home}
use Rattle.clr_types.proofs.HighestSegment.{ephemeral-one}
use Rattle.clr_model.specs.Machine.{Machine, Object}
use Rattle.clr_model.specs.Lookups.{pieces, object_piece, object_size}
use Rattle.clr_model.specs.Lawful.{IsLaid, Suits, SuitsItsSegment}
use Rattle.clr_model.specs.Sweep.{survivors, part_start, taking_part, is_in_part, swept_others}
use Rattle.clr_model.specs.Compaction.{Move, moved_by}
use Rattle.clr_model.specs.Collection.{IsSmallLaid, objects_after, object_after, is_retained, released}
use Rattle.clr_model.proofs.CondemnedParts.{taking-is, ephemeral-takes}
use Rattle.clr_model.proofs.LawfulPieces.{object-in-pieces}
use Rattle.clr_model.proofs.SweptLawful.{start-cuts}
use Rattle.clr_model.proofs.CollectedBounds.{CrossesNeither}
use Rattle.clr_model.proofs.CollectedLayout.{large_lawful, small_lawful, whole_after, whole_lawful}
use Rattle.clr_model.proofs.Refill.{range_after}
use Rattle.clr_model.proofs.Relaid.{WasSegment, piece-is, free-in-pieces, segment_tiled, homes, relaid}
use Rattle.clr_model.proofs.CollectedPieces.{IsSmallPhase, small_phase, object-was}
use Rattle.clr_model.proofs.YoungMachine.{into-part, free_was}
use Rattle.clr_model.proofs.YoungTiles.{was, object_home, free_home}
use Rattle.clr_model.proofs.FullSegments.{small_free, full_was, full_object_home, full_free_home, swept_was}

-- Each segment is filled anew, each object and each free item stands in one, and the young free items are those of the
-- small heap.
pub record AreRefilled (m : Machine) (objects : List Object) (small new : Layout) : Type 0 where
  pub was : (t : SegInfo) → IsIn t new.segments → WasSegment m t objects new.free
  pub object_home : (o : Object) → IsIn o objects → (t : SegInfo) × IsIn t new.segments × (stands_in t o.place ≡ true)
  pub free_home : (f : Piece) → IsIn f new.free → (t : SegInfo) × IsIn t new.segments × (stands_in t f.place ≡ true)
  pub young : (f : Piece) → stands_in (ephemeral m.layout) f.place ≡ true → IsIn f new.free → IsIn f small.free
  pub start1 : new.start1 ≡ small.start1
  pub start0 : new.start0 ≡ small.start0
  pub rests : new.rests ≡ small.rests

module _ (m : Machine) (h : IsLaid m) (bare : rest_pieces m.layout.rests ≡ []) (g : ℕ) (least : g ≤ 2) (keeps alive : ℕ
    → Bool) (moves : List Move) (small : Layout) (p : IsSmallPhase m g keeps moves small)
    (old_kept : (o : Object) → IsIn o m.objects → g < generation m.layout o.place → keeps o.name ≡ true)
    (new : Layout) (r : AreRefilled m (objects_after m alive keeps moves) small new) (lawful : IsLawfulLayout new)
    (bare_after : rest_pieces new.rests ≡ [])
    (apart : IsDistinctBy (λ (o : Object). o.place) (objects_after m alive keeps moves))
  where
    abbrev eph : SegInfo
    eph = ephemeral m.layout

    abbrev objects : List Object
    objects = objects_after m alive keeps moves

    abbrev start : ℕ
    start = part_start m.layout g eph

    abbrev next : Machine
    next = record m { objects = objects; layout = new }

    known : IsIn eph m.layout.segments
    known = ephemeral-in m.layout h.layout

    -- what stood below the part crosses no new boundary
    old-crosses : (x : Piece) → IsIn x (pieces m) → stands_in eph x.place ≡ true → x.place < start
        → CrossesNeither small x
    old-crosses x i stands l =
        let whole : DoesNotCross start x =
        all_at (DoesNotCross start) (into_filter (λ (p : Piece). stands_in eph p.place) (pieces m) stands i)
        (start-cuts m h g least keeps eph known).whole in
        let low = p.bounds.low0 in
        let ended : piece_end x ≤ start = omega arith in (
          elim p.bounds.low1 [
            | inl (young, same)
                ↦ subst (λ b. DoesNotCross b x) (sym same) (all_at (DoesNotCross m.layout.start1) i h.whole1)
            | inr up
                ↦ inr (omega arith)
          ],
          inr (omega arith),
        )

    young-object : (q : Object) → IsIn q m.objects → keeps q.name ≡ true → stands_in eph (moved_by moves q.place) ≡ true
        → CrossesNeither small (range_after m moves q)
    young-object q i stays stands =
        elim ((p.refill eph (ephemeral-takes m.layout h.layout g least)).object_more q i stays stands) [
          | inl (still, l) ↦
              subst (λ n. CrossesNeither small (record { place = n; size = object_size m.types q })) (sym still)
              (old-crosses (object_piece m.types q) (object-in-pieces m h q i)
              (subst (λ n. stands_in eph n ≡ true) still stands) l)
          | inr (n, above, other) ↦ p.bounds.objects q i stays stands above
        ]

    young-free : (f : Piece) → IsIn f small.free → stands_in eph f.place ≡ true → CrossesNeither small f
    young-free f i stands =
        elim (free_was m h bare g least keeps alive moves small p old_kept eph known f i stands) [
          | inl (away, j) ↦ elim (cases_lt f.place start) [
            | inl l
                ↦ old-crosses f (free-in-pieces m f j) stands l
            | inr l
                ↦ absurd (both_ways (is_in_part is_small_or_ephemeral m.layout g f) away
                (into-part m h bare g least keeps alive moves small p old_kept f eph
                (ephemeral-takes m.layout h.layout g least) stands l))
          ]
          | inr (k, n) ↦ p.bounds.free f n
        ]

    young-piece : (x : Piece) → IsIn x (pieces next) → stands_in eph x.place ≡ true → CrossesNeither small x
    young-piece x i stands = by (piece-is next bare_after x i)
      where
        by : ((o : Object) × IsIn o objects × (x ≡ object_piece m.types o)) ⊎ IsIn x new.free → CrossesNeither small x
        by (inl (o, j, e)) =
            let (q, k, stays, is) = object-was m h bare keeps alive moves small.free o j in
            let at : x ≡ range_after m moves q = e ∙ ap (object_piece m.types) is in
            subst (CrossesNeither small) (sym at)
            (young-object q k stays (subst (λ (y : Piece). stands_in eph y.place ≡ true) at stands))
        by (inr j) = young-free x (r.young x stands j) stands

    tile-of : (t : SegInfo) → IsIn t new.segments → (x : Piece) → IsIn x (pieces next) → stands_in t x.place ≡ true
        → IsTile (first_place t) t.end x
    tile-of t among x i stands =
        tile (first_place t) t.end (pieces_in t (pieces next)) x
        (segment_tiled m h objects new lawful bare_after apart r.was r.object_home r.free_home t among)
        (into_filter (λ (p : Piece). stands_in t p.place) (pieces next) stands i)

    crosses : (x : Piece) → IsIn x (pieces next) → CrossesNeither new x
    crosses x i = let (t, among, stands) =
        homes m h objects new lawful bare_after apart r.was r.object_home r.free_home x i in
        by t among stands (separate new lawful t (ephemeral new) among (ephemeral-in new lawful))
      where
        -- the ephemeral segment is the one of before
        same-young : (t : SegInfo) (among : IsIn t new.segments) → t ≡ ephemeral new → stands_in t x.place ≡ true
            → stands_in eph x.place ≡ true
        same-young t among e stands =
            let w : WasSegment m t objects new.free = r.was t among in
            let kind : same_kind Ephemeral w.old.kind
            ≡ true = subst (λ k. same_kind Ephemeral k ≡ true) w.kind
            (subst (λ (u : SegInfo). same_kind Ephemeral u.kind ≡ true) (sym e) (ephemeral-kind new lawful)) in
            let old : w.old ≡ eph = ephemeral-one m.layout h.layout w.old w.among kind in
            let (low, high) = stands-between t x.place stands in
            let b = w.base in let s = w.reserved in
            subst (λ (u : SegInfo). stands_in u x.place ≡ true) old
            (between-stands w.old x.place (omega arith) (omega arith))

        by : (t : SegInfo) → IsIn t new.segments → stands_in t x.place ≡ true → AreSeparate t (ephemeral new)
            → CrossesNeither new x
        by t among stands (inl e) =
            let (one, zero) = young-piece x i (same-young t among e stands) in
            (subst (λ b. DoesNotCross b x) (sym r.start1) one, subst (λ b. DoesNotCross b x) (sym r.start0) zero)
        by t among stands (inr (inl l)) =
            let is : IsTile (first_place t) t.end x = tile-of t among x i stands in
            let end = is.high_end in
            let high : t.end ≤ reserved_end t = (lawful_segment new lawful t among).high in
            let a = lawful.start1_low in let b = lawful.start1_high in
            (inr (omega arith), inr (omega arith))
        by t among stands (inr (inr l)) =
            let (low, top) = stands-between t x.place stands in
            let high : (ephemeral new).end ≤ reserved_end (ephemeral new) =
            (lawful_segment new lawful (ephemeral new) (ephemeral-in new lawful)).high in
            let a = lawful.start1_high in let b = lawful.start0_high in
            (inl (omega arith), inl (omega arith))

    pub refilled_laid : IsLaid (record m { objects = objects_after m alive keeps moves; layout = new })
    refilled_laid = relaid m h objects new lawful bare_after apart r.was r.object_home r.free_home crosses

-- ---- a whole collection

module _ (m : Machine) (h : IsLaid m) (bare : rest_pieces m.layout.rests ≡ []) (g : ℕ) (least : g ≤ 2) (keeps alive : ℕ
    → Bool) (moves : List Move) (small : Layout) (compacting : Bool)
    (laid : IsSmallLaid compacting m.layout g (survivors m g keeps) moves small)
    (old_kept : (o : Object) → IsIn o m.objects → g < generation m.layout o.place → keeps o.name ≡ true)
    (apart : IsDistinctBy (λ (o : Object). o.place) (objects_after m alive keeps moves))
  where
    abbrev new_layout : Layout
    new_layout = whole_after g (survivors m g keeps) small (objects_after m alive keeps moves)

    rests_small : (b : Bool) → IsSmallLaid b m.layout g (survivors m g keeps) moves small → small.rests ≡ m.layout.rests
    rests_small true e = e.rests
    rests_small false e = ap (λ (l : Layout). l.rests) e.1

    bare_small : rest_pieces small.rests ≡ []
    bare_small = ap rest_pieces (rests_small compacting laid) ∙ bare

    abbrev objects_left : List Object
    objects_left = objects_after m alive keeps moves

    phase : IsSmallPhase m g keeps moves small
    phase = small_phase m h g least keeps moves small compacting laid

    refilled_young : g ≤ 1 → AreRefilled m (objects_after m alive keeps moves) small small
    refilled_young young =
        let lawful : IsLawfulLayout small = small_lawful m h g least keeps moves small compacting laid in
        record {
          was = was m h bare g young keeps alive moves small phase old_kept lawful bare_small apart;
          object_home = object_home m h bare g young keeps alive moves small phase old_kept lawful bare_small apart;
          free_home = free_home m h bare g young keeps alive moves small phase old_kept lawful bare_small apart;
          young = λ f stands i. i;
          start1 = refl;
          start0 = refl;
          rests = refl;
        }

    refilled_full : IsSmallLaid compacting m.layout 2 (survivors m 2 keeps) moves small
        → AreRefilled m (objects_after m alive keeps moves) small
        (released (swept_others small 2 (survivors m 2 keeps)) (objects_after m alive keeps moves))
    refilled_full full = record {
      was = full_was m h bare keeps alive moves small compacting full;
      object_home = full_object_home m h bare keeps alive moves small compacting full;
      free_home = full_free_home m h bare keeps alive moves small compacting full;
      young = small_free m h bare keeps alive moves small compacting full (ephemeral m.layout)
          (ephemeral-in m.layout h.layout)
          (taking-is m.layout h.layout g least (ephemeral m.layout) (ephemeral-takes m.layout h.layout g least)).0;
      start1 = refl;
      start0 = refl;
      rests = refl;
    }

    pub refilled : AreRefilled m (objects_after m alive keeps moves) small
        (whole_after g (survivors m g keeps) small (objects_after m alive keeps moves))
    refilled = go (g == 2) refl
      where
        go : (b : Bool) → (g == 2) ≡ b → AreRefilled m objects_left small
            (if b then released (swept_others small 2 (survivors m g keeps)) objects_left else small)
        go false e = refilled_young (omega (arith, eqb-false g 2 e))
        go true e =
            let two : g ≡ 2 = eqb-true g 2 e in
            subst (λ n. AreRefilled m objects_left small
            (released (swept_others small 2 (survivors m n keeps)) objects_left)) (sym two)
            (refilled_full (subst (λ n. IsSmallLaid compacting m.layout n (survivors m n keeps) moves small) two laid))

    whole : IsLawfulLayout new_layout
    whole = whole_lawful m h g least keeps moves small compacting laid objects_left

    -- A collection leaves the memory as lawful.
    pub collected_laid : IsLaid (record m {
      objects = objects_after m alive keeps moves;
      layout = whole_after g (survivors m g keeps) small (objects_after m alive keeps moves);
    })
    collected_laid = refilled_laid m h bare g least keeps alive moves small phase old_kept new_layout refilled whole
        (ap rest_pieces refilled.rests ∙ bare_small) apart

    -- no context is left
    pub collected_bare : rest_pieces
        (whole_after g (survivors m g keeps) small (objects_after m alive keeps moves)).rests ≡ []
    collected_bare = ap rest_pieces refilled.rests ∙ bare_small

    -- ---- objects suit their segments

    abbrev next_machine : Machine
    next_machine = record m { objects = objects_left; layout = new_layout }

    suits-small : (o : Object) (k l : SegKind) → is_small_or_ephemeral k ≡ true → is_small_or_ephemeral l ≡ true
        → Suits m o k → Suits m o l
    suits-small o Large l a b is = absurd cc
    suits-small o Pinned l a b is = absurd cc
    suits-small o k Large a b is = absurd cc
    suits-small o k Pinned a b is = absurd cc
    suits-small o Small Small a b is = is
    suits-small o Small Ephemeral a b is = is
    suits-small o Ephemeral Small a b is = is
    suits-small o Ephemeral Ephemeral a b is = is

    suits-after : (o : Object) (k : SegKind) → Suits m o k → Suits next_machine (object_after m alive moves o) k
    suits-after o Small is = is
    suits-after o Ephemeral is = is
    suits-after o Large is = is
    suits-after o Pinned is = is

    -- the kind of the segment in which an object stands afterwards suits it as before
    suits-there : (q : Object) → IsIn q m.objects → SuitsItsSegment m q → (s : SegInfo) → IsIn s m.layout.segments
        → stands_in s (moved_by moves q.place) ≡ true → Suits m q s.kind
    suits-there q i is s known stands =
        elim (phase.lands q i) [
          | inl still ↦ home s known (subst (λ n. stands_in s n ≡ true) still stands)
          | inr (age, came, goes) ↦ moved came goes
        ]
      where
        home : (t : SegInfo) → IsIn t m.layout.segments → stands_in t q.place ≡ true → Suits m q t.kind
        home t among at = subst (λ (r : Option SegInfo). IfSome r (λ u. Suits m q u.kind))
            (segment_of-home m.layout h.layout t q.place among at) is

        moved : (t : SegInfo) × IsIn t (taking_part is_small_or_ephemeral g m.layout) × (stands_in t q.place ≡ true)
            → (t : SegInfo) × IsIn t (taking_part is_small_or_ephemeral g m.layout)
            × (stands_in t (moved_by moves q.place) ≡ true) → Suits m q s.kind
        moved (t, k, at) (u, n, to) =
            let (small_t, part_t, known_t) = taking-is m.layout h.layout g least t k in
            let (small_u, part_u, known_u) = taking-is m.layout h.layout g least u n in
            let same : u ≡ s = one_home m.layout h.layout u s (moved_by moves q.place) known_u known to stands in
            suits-small q t.kind s.kind small_t
            (subst (λ (w : SegInfo). is_small_or_ephemeral w.kind ≡ true) same small_u) (home t known_t at)

    -- Each object that stays suits the segment in which it stands.
    pub collected_suited : ((o : Object) → IsIn o m.objects → SuitsItsSegment m o) → (o : Object)
        → IsIn o (objects_after m alive keeps moves)
        → SuitsItsSegment (record m {
          objects = objects_after m alive keeps moves;
          layout = whole_after g (survivors m g keeps) small (objects_after m alive keeps moves);
        }) o
    collected_suited suited o i =
        let (q, j, stays, e) = object-was m h bare keeps alive moves small.free o i in
        let (t, among, stands) = refilled.object_home o i in
        let w : WasSegment m t objects_left new_layout.free = refilled.was t among in
        let (low, high) = stands-between t o.place stands in
        let b = w.base in let r = w.reserved in
        let at : stands_in w.old (moved_by moves q.place)
        ≡ true = subst (λ (y : Object). stands_in w.old y.place ≡ true) e
        (between-stands w.old o.place (omega arith) (omega arith)) in
        let fit : Suits next_machine (object_after m alive moves q) w.old.kind =
        suits-after q w.old.kind (suits-there q j (suited q j) w.old w.among at) in
        subst (λ (r : Option SegInfo). IfSome r (λ u. Suits next_machine o u.kind))
        (sym (segment_of-home new_layout whole t o.place among stands))
        (subst (λ k. Suits next_machine o k) (sym w.kind)
        (subst (λ (y : Object). Suits next_machine y w.old.kind) (sym e) fit))

-- ---- a full collection before segments are released

module _ (m : Machine) (h : IsLaid m) (bare : rest_pieces m.layout.rests ≡ []) (keeps alive : ℕ
    → Bool) (moves : List Move) (small : Layout) (compacting : Bool)
    (laid : IsSmallLaid compacting m.layout 2 (survivors m 2 keeps) moves small)
    (old_kept : (o : Object) → IsIn o m.objects → 2 < generation m.layout o.place → keeps o.name ≡ true)
    (apart : IsDistinctBy (λ (o : Object). o.place) (objects_after m alive keeps moves))
  where
    full : 2 ≤ 2
    full = omega arith

    abbrev swept : Layout
    swept = swept_others small 2 (survivors m 2 keeps)

    abbrev stay : List Object
    stay = objects_after m alive keeps moves

    in_swept : (t : SegInfo) → IsIn t (released swept stay).segments → IsIn t swept.segments
    in_swept t i = (out_of_filter (is_retained swept stay) t swept.segments i).1

    unreleased : AreRefilled m (objects_after m alive keeps moves) small
        (swept_others small 2 (survivors m 2 keeps))
    unreleased = record {
      was = swept_was m h bare keeps alive moves small compacting laid;
      object_home = λ o i.
          let (t, j, stands) = full_object_home m h bare keeps alive moves small compacting laid o i in
          (t, in_swept t j, stands);
      free_home = λ f i.
          let (t, j, stands) = full_free_home m h bare keeps alive moves small compacting laid f i in
          (t, in_swept t j, stands);
      young = small_free m h bare keeps alive moves small compacting laid (ephemeral m.layout)
          (ephemeral-in m.layout h.layout)
          (taking-is m.layout h.layout 2 full (ephemeral m.layout) (ephemeral-takes m.layout h.layout 2 full)).0;
      start1 = refl;
      start0 = refl;
      rests = refl;
    }

    pub unreleased_laid : IsLaid (record m {
      objects = objects_after m alive keeps moves;
      layout = swept_others small 2 (survivors m 2 keeps);
    })
    unreleased_laid =
        refilled_laid m h bare 2 full keeps alive moves small
        (small_phase m h 2 full keeps moves small compacting laid) old_kept swept unreleased
        (large_lawful m h keeps moves small compacting laid)
        (bare_small m h bare 2 full keeps alive moves small compacting laid old_kept apart) apart
