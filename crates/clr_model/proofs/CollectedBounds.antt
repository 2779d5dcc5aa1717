-- The boundaries of the generations after a sweep or a compaction of the small heap: what fills the ephemeral segment
-- crosses none.
use Rattle.std.proofs.Common.{◌≡◌, ℕ, ◌+◌, ◌<◌, ◌≤◌, ◌⊎◌, inl, inr, List, [], ◌∷◌, ◌++◌, refl, sym, ap, subst, ◌∙◌}
use Rattle.std.proofs.Common.{arith, Bool, true, false, if◌then◌else◌, ◌==◌, min}
use Rattle.std.proofs.lemmas.Bool.{eqb-true}
use Rattle.clr_types.specs.Rising.{IsIn, first}
use Rattle.clr_types.specs.Ranges.{Piece, piece_end, IsLawfulSize, gaps, end_of_last, by_place}
use Rattle.clr_types.specs.declared.segment.SegInfo.{SegInfo}
use Rattle.clr_types.specs.Segments.{Layout, first_place, reserved_end, stands_in, pieces_in, ephemeral}
use Rattle.clr_types.specs.Segments.{is_small_or_ephemeral}
use Rattle.clr_types.specs.LawfulLayout.{DoesNotCross}
use Rattle.clr_types.proofs.RisingLists.{in_cons, all_at}
use Rattle.clr_types.proofs.SortedLists.{into_sorted_by}
use Rattle.clr_types.proofs.ChangedLists.{out_of_filter}
use Rattle.clr_types.proofs.ListMembers.{in_append, append_right}
use Rattle.clr_types.proofs.TilePieces.{IsTile, tile}
use Rattle.clr_types.proofs.SegmentFacts.{AreSeparate, separate, ephemeral-in, ephemeral-kind, one_home, stands-between}
use Rattle.clr_types.proofs.SegmentFacts.{between-stands, lawful_segment}
use Rattle.clr_model.specs.Machine.{Machine, Object}
use Rattle.clr_model.specs.Lookups.{pieces, object_piece, object_size}
use Rattle.clr_model.specs.Lawful.{IsLaid}
use Rattle.clr_model.specs.Sweep.{Survivor, survivors, survivor_pieces, Section, sections, old_sections, pieces_between}
use Rattle.clr_model.specs.Sweep.{part_start, taking_part, has_condemned_part, swept_end, swept_free, swept_small}
use Rattle.clr_model.specs.Compaction.{Move, moved_by, IsCompacted, compacted_end, compacted_free}
use Rattle.clr_model.proofs.CondemnedParts.{taking-is, ephemeral-takes, start-ephemeral, start-facts}
use Rattle.clr_model.proofs.LawfulPieces.{HasHome, piece-home, object-in-pieces}
use Rattle.clr_model.proofs.LawfulSurvivors.{aged}
use Rattle.clr_model.proofs.SweptTiles.{IsCut, section-gap}
use Rattle.clr_model.proofs.SweptLawful.{IsSwept, swept-is, sweep_tiles, sweep_end, sweep_below, kept_are, start-cuts}
use Rattle.clr_model.proofs.SweptLawful.{first-cuts, start1-cuts, start0-cuts, end-cuts}
use Rattle.clr_model.proofs.CondemnedPlugs.{AreCondemned}
use Rattle.clr_model.proofs.CompactedSmall.{part_raised, part_start0, start1-is, plugs_whole0}
use Rattle.clr_model.proofs.CompactedSmall.{plugs_whole1, free_whole0, free_whole1}
use Rattle.clr_model.proofs.MovedPlaces.{ready, moved-is, survivor-covered, is_small-survivor, IsBehind}
use Rattle.clr_model.proofs.MovedPlaces.{free_before_object}
use Rattle.clr_model.proofs.CompactedPieces.{IsFilledBy, filled_by}
use Rattle.clr_model.proofs.CollectedFree.{from_part}
use Rattle.clr_model.proofs.Refill.{range_after, object_stays, compacted_refill}

-- no piece crosses either boundary
abbrev pub CrossesNeither : Layout → Piece → Type 0
CrossesNeither layout x = DoesNotCross layout.start1 x × DoesNotCross layout.start0 x

-- Where the boundaries stand afterwards, what crosses none, and that each new free item has an object in its segment.
pub record HasBounds (m : Machine) (g : ℕ) (keeps : ℕ → Bool) (moves : List Move) (small : Layout) (fresh : SegInfo
    → List Piece) : Type 0 where
  pub low0 : part_start m.layout g (ephemeral m.layout) ≤ small.start0
  pub low1 : (((g == 0) ≡ true) × (small.start1 ≡ m.layout.start1))
      ⊎ (part_start m.layout g (ephemeral m.layout) ≤ small.start1)
  pub objects : (o : Object) → IsIn o m.objects → keeps o.name ≡ true
      → stands_in (ephemeral m.layout) (moved_by moves o.place) ≡ true
      → part_start m.layout g (ephemeral m.layout) ≤ moved_by moves o.place
      → CrossesNeither small (range_after m moves o)
  pub free : (f : Piece) → IsIn f (fresh (ephemeral m.layout)) → CrossesNeither small f
  pub beside : (s : SegInfo) → IsIn s (taking_part is_small_or_ephemeral g m.layout) → (f : Piece) → IsIn f (fresh s)
      → (o : Object) × IsIn o m.objects × (keeps o.name ≡ true) × (stands_in s (moved_by moves o.place) ≡ true)

module _ (m : Machine) (h : IsLaid m) (g : ℕ) (least : g ≤ 2) (keeps : ℕ → Bool) where
  abbrev kept : List Survivor
  kept = survivors m g keeps

  abbrev eph : SegInfo
  eph = ephemeral m.layout

  abbrev start : ℕ
  start = part_start m.layout g eph

  eph-known : IsIn eph m.layout.segments
  eph-known = ephemeral-in m.layout h.layout

  -- ---- where the part of the ephemeral segment starts

  start-under : start ≤ m.layout.start0
  start-under = subst (λ n. n ≤ m.layout.start0) (sym (start-ephemeral m.layout h.layout g least))
      (go (g == 0) (g == 1))
    where
      go : (a b : Bool) → (if a then m.layout.start0 else
          (if b then m.layout.start1 else first_place eph)) ≤ m.layout.start0
      go true b = omega arith
      go false true = h.layout.start1_high
      go false false = let l = h.layout.start1_low in let k = h.layout.start1_high in omega arith

  start-low : (g == 0) ≡ false → start ≤ m.layout.start1
  start-low old = subst (λ n. n ≤ m.layout.start1) (sym (start-ephemeral m.layout h.layout g least))
      (go (g == 0) (g == 1) old)
    where
      go : (a b : Bool) → a ≡ false → (if a then m.layout.start0 else
          (if b then m.layout.start1 else first_place eph)) ≤ m.layout.start1
      go true b e = absurd cc
      go false true e = omega arith
      go false false e = h.layout.start1_low

  start-first : (g == 2) ≡ true → start ≡ first_place eph
  start-first full = let two : g ≡ 2 = eqb-true g 2 full in
      start-ephemeral m.layout h.layout g least
      ∙ ap (λ n. if n == 0 then m.layout.start0 else (if n == 1 then m.layout.start1 else first_place eph)) two

  -- ---- a sweep

  -- a free item that a sweep makes is a tile of its part
  swept_tile : (s : SegInfo) → IsIn s m.layout.segments → (f : Piece) → IsIn f (swept_free m.layout g kept s)
      → IsTile (part_start m.layout g s) (swept_end m.layout g kept s) f
  swept_tile s known f i =
      let all = survivor_pieces s kept ++ swept_free m.layout g kept s in
      tile (part_start m.layout g s) (swept_end m.layout g kept s) (by_place all) f
      (sweep_tiles m h g least keeps s known)
      (into_sorted_by (λ (p : Piece). p.place) f all (append_right (survivor_pieces s kept) i))

  -- in the segment of such a free item an object stays
  pub swept_beside : (s : SegInfo) → IsIn s m.layout.segments → (f : Piece) → IsIn f (swept_free m.layout g kept s)
      → (o : Object) × IsIn o m.objects × (keeps o.name ≡ true) × (stands_in s o.place ≡ true)
  swept_beside s known f i = go (survivor_pieces s kept) refl
    where
      go : (qs : List Piece) → survivor_pieces s kept ≡ qs
          → (o : Object) × IsIn o m.objects × (keeps o.name ≡ true) × (stands_in s o.place ≡ true)
      go [] none =
          let from = part_start m.layout g s in
          let is : IsTile from (swept_end m.layout g kept s) f = swept_tile s known f i in
          let same : swept_end m.layout g kept s ≡ from = ap (end_of_last from) none in
          let size : IsLawfulSize f.size = is.size in let gap = is.low_gap in let high = is.high_end in
          absurd (omega arith)
      go (q ∷ qs) some =
          let w : IsSwept m h g least keeps s known q =
          swept-is m h g least keeps s known q (subst (IsIn q) (sym some) first) in (
            w.object,
            w.present,
            w.kept_on,
            subst (λ (x : Piece). stands_in s x.place ≡ true) w.is
                (out_of_filter (λ (p : Piece). stands_in s p.place) q (pieces m) w.among).0,
          )

  -- and the free item stands there too
  pub swept_stands : (s : SegInfo) → IsIn s m.layout.segments → (f : Piece) → IsIn f (swept_free m.layout g kept s)
      → stands_in s f.place ≡ true
  swept_stands s known f i =
      let from = part_start m.layout g s in
      let is : IsTile from (swept_end m.layout g kept s) f = swept_tile s known f i in
      let size : IsLawfulSize f.size = is.size in let gap = is.low_gap in let high = is.high_end in
      let (a, b) = sweep_end m h g least keeps s known in
      let c : first_place s ≤ from = (start-cuts m h g least keeps s known).low_end in
      let d : s.end ≤ reserved_end s = (lawful_segment m.layout h.layout s known).high in
      between-stands s f.place (omega arith) (omega arith)

  abbrev end : ℕ
  end = swept_end m.layout g kept eph

  abbrev swept : Layout
  swept = swept_small m.layout g kept

  -- what the old boundaries cut, the new ones do too, up to the new end
  below-end : (x : Piece) → DoesNotCross m.layout.start1 x → DoesNotCross m.layout.start0 x → piece_end x ≤ end
      → CrossesNeither swept x
  below-end x one zero l = (go (g == 0), inr l)
    where
      lower : (m.layout.start0 ≤ x.place) ⊎ (piece_end x ≤ m.layout.start0) → DoesNotCross (min m.layout.start0 end) x
      lower (inl k) = inl (omega arith)
      lower (inr k) = inr (omega arith)

      go : (b : Bool) → DoesNotCross (if b then m.layout.start1 else min m.layout.start0 end) x
      go true = one
      go false = lower zero

  -- a free item of one of its sections
  section-crosses : (t : Section) → IsIn t (sections m.layout g eph) → (f : Piece)
      → IsIn f (gaps t.low (min t.high end) (pieces_between t.low t.high (survivor_pieces eph kept)))
      → CrossesNeither swept f
  section-crosses t i f j = by (in_append (old_sections m.layout g eph) (subst (IsIn t) are i))
    where
      are : sections m.layout g eph ≡ old_sections m.layout g eph
          ++ (record { low = m.layout.start0; high = eph.end } ∷ [])
      are = ap (λ b. if b then old_sections m.layout g eph
          ++ (record { low = m.layout.start0; high = eph.end } ∷ []) else
          record { low = first_place eph; high = eph.end } ∷ []) (ephemeral-kind m.layout h.layout)

      gap-tile : (lo hi : ℕ) → IsCut (first_place eph) eph.end (pieces_in eph (pieces m)) lo
          → IsCut (first_place eph) eph.end (pieces_in eph (pieces m)) hi → start ≤ lo → lo ≤ hi → (f : Piece)
          → IsIn f (gaps lo (min hi end) (pieces_between lo hi (survivor_pieces eph kept)))
          → IsTile (min lo end) (min hi end) f
      gap-tile = section-gap (first_place eph) eph.end start (pieces_in eph (pieces m)) (survivor_pieces eph kept)
          (kept_are m h g least keeps eph eph-known) (start-cuts m h g least keeps eph eph-known)

      gap-in : (lo hi : ℕ) → t ≡ record { low = lo; high = hi }
          → IsIn f (gaps lo (min hi end) (pieces_between lo hi (survivor_pieces eph kept)))
      gap-in lo hi e = subst (λ (u : Section). IsIn f
          (gaps u.low (min u.high end) (pieces_between u.low u.high (survivor_pieces eph kept)))) e j

      ends : (start ≤ end) × (end ≤ eph.end)
      ends = sweep_end m h g least keeps eph eph-known

      oldest : t ≡ record { low = first_place eph; high = m.layout.start1 } → (g == 2) ≡ true → CrossesNeither swept f
      oldest e full =
          let from = start-first full in let l = h.layout.start1_low in let k = h.layout.start1_high in
          let is : IsTile (min (first_place eph) end) (min m.layout.start1 end) f =
          gap-tile (first_place eph) m.layout.start1
          (first-cuts m h g least keeps eph eph-known) (start1-cuts m h g least keeps eph eph-known refl)
          (omega arith) l f (gap-in (first_place eph) m.layout.start1 e)
          in
          let high = is.high_end in
          below-end f (inr (omega arith)) (inr (omega arith)) (omega arith)

      older : t ≡ record { low = m.layout.start1; high = m.layout.start0 } → (g == 0) ≡ false → CrossesNeither swept f
      older e old =
          let from = start-low old in let k = h.layout.start1_high in
          let is : IsTile (min m.layout.start1 end) (min m.layout.start0 end) f =
          gap-tile m.layout.start1 m.layout.start0
          (start1-cuts m h g least keeps eph eph-known refl) (start0-cuts m h g least keeps eph eph-known refl) from k f
          (gap-in m.layout.start1 m.layout.start0 e)
          in
          let size : IsLawfulSize f.size = is.size in let low = is.low_gap in let high = is.high_end in
          below-end f (inl (omega arith)) (inr (omega arith)) (omega arith)

      young : t ≡ record { low = m.layout.start0; high = eph.end } → CrossesNeither swept f
      young e =
          let from = start-under in let k = h.layout.start1_high in let l = h.layout.start0_high in let (a, b) = ends in
          let is : IsTile (min m.layout.start0 end) (min eph.end end) f =
          gap-tile m.layout.start0 eph.end
          (start0-cuts m h g least keeps eph eph-known refl) (end-cuts m h g least keeps eph eph-known) from l f
          (gap-in m.layout.start0 eph.end e)
          in
          let size : IsLawfulSize f.size = is.size in let low = is.low_gap in let high = is.high_end in
          below-end f (inl (omega arith)) (inl (omega arith)) (omega arith)

      one-of : (a b : Bool) → (g == 2) ≡ a → (g == 0) ≡ b
          → IsIn t ((if a then record { low = first_place eph; high = m.layout.start1 } ∷ [] else [])
          ++ (if b then [] else record { low = m.layout.start1; high = m.layout.start0 } ∷ []))
          → CrossesNeither swept f
      one-of false true p q k = elim k [ ]
      one-of false false p q k = elim (in_cons k) [ inl e ↦ older e q | inr n ↦ elim n [ ] ]
      one-of true true p q k = elim (in_cons k) [ inl e ↦ oldest e p | inr n ↦ elim n [ ] ]
      one-of true false p q k = elim (in_cons k) [
        | inl e ↦ oldest e p
        | inr n
            ↦ elim (in_cons n) [ inl e ↦ older e q | inr r ↦ elim r [ ] ]
      ]

      by : IsIn t (old_sections m.layout g eph) ⊎ IsIn t (record { low = m.layout.start0; high = eph.end } ∷ [])
          → CrossesNeither swept f
      by (inl k) = one-of (g == 2) (g == 0) refl refl k
      by (inr k) = last (in_cons k)
        where
          last : (t ≡ record { low = m.layout.start0; high = eph.end }) ⊎ IsIn t [] → CrossesNeither swept f
          last (inl e) = young e
          last (inr k) = elim k [ ]

  ephemeral-part : has_condemned_part g eph ≡ true
  ephemeral-part = (taking-is m.layout h.layout g least eph (ephemeral-takes m.layout h.layout g least)).1

  whole-object : (o : Object) → IsIn o m.objects
      → DoesNotCross m.layout.start1 (object_piece m.types o) × DoesNotCross m.layout.start0 (object_piece m.types o)
  whole-object o i = let j = object-in-pieces m h o i in
      (all_at (DoesNotCross m.layout.start1) j h.whole1, all_at (DoesNotCross m.layout.start0) j h.whole0)

  module _ (moves : List Move) (still : (o : Object) → moved_by moves o.place ≡ o.place) where
    swept-object : (o : Object) → IsIn o m.objects → keeps o.name ≡ true → stands_in eph o.place ≡ true
        → start ≤ o.place → CrossesNeither swept (object_piece m.types o)
    swept-object o i stays stands above =
        let (one, zero) = whole-object o i in
        below-end (object_piece m.types o) one zero
        (sweep_below m h g least keeps eph eph-known (object_piece m.types o)
        (object_stays m h g least keeps moves eph eph-known ephemeral-part (λ o i stays stands. still o)
        (λ o i stays stands. still o) o i stays stands above))

    -- A sweep moves the boundaries to where no piece crosses them.
    pub swept_bounds : HasBounds m g keeps moves (swept_small m.layout g kept) (swept_free m.layout g kept)
    swept_bounds = record {
      low0 = (sweep_end m h g least keeps eph eph-known).0;
      low1 = low1 (g == 0) refl;
      objects = λ o i stays stands above.
          let at = still o in
          subst (λ n. CrossesNeither swept (record { place = n; size = object_size m.types o })) (sym at)
          (swept-object o i stays (subst (λ n. stands_in eph n ≡ true) at stands) (omega arith));
      free = λ f i.
          let (t, k, n) = from_part (λ (section : Section). gaps section.low (min section.high end)
          (pieces_between section.low section.high (survivor_pieces eph kept))) (sections m.layout g eph) f i in
          section-crosses t k f n;
      beside = λ s i f j.
          let (o, present, stays, stands) = swept_beside s (taking-is m.layout h.layout g least s i).2 f j in
          (o, present, stays, subst (λ n. stands_in s n ≡ true) (sym (still o)) stands);
    }
      where
        low1 : (b : Bool) → (g == 0) ≡ b
            → ((b ≡ true) × ((if b then m.layout.start1 else min m.layout.start0 end) ≡ m.layout.start1))
            ⊎ (start ≤ (if b then m.layout.start1 else min m.layout.start0 end))
        low1 true e = inl (refl, refl)
        low1 false e = let (a, b) = sweep_end m h g least keeps eph eph-known in let c = start-under in
            inr (omega arith)

  -- ---- a compaction

  module _ (moves : List Move) (new : Layout) (c : IsCompacted m.layout g (survivors m g keeps) moves new) where
    -- what lies within a moved plug crosses no boundary
    within-move : (v : Move) → IsIn v moves → (x : Piece) → v.to ≤ x.place → piece_end x ≤ v.to + v.size
        → CrossesNeither new x
    within-move v i x low high = (
      one
          (plugs_whole1 m.layout g kept moves new c (ready m h g least keeps moves new c) v i),
      zero
          (plugs_whole0 m.layout g kept moves new c (ready m h g least keeps moves new c) v i),
    )
      where
        one : (new.start1 ≤ v.to) ⊎ (v.to + v.size ≤ new.start1) → DoesNotCross new.start1 x
        one (inl l) = inl (omega arith)
        one (inr l) = inr (omega arith)

        zero : (new.start0 ≤ v.to) ⊎ (v.to + v.size ≤ new.start0) → DoesNotCross new.start0 x
        zero (inl l) = inl (omega arith)
        zero (inr l) = inr (omega arith)

    compacted-object : (o : Object) → IsIn o m.objects → keeps o.name ≡ true
        → stands_in eph (moved_by moves o.place) ≡ true → start ≤ moved_by moves o.place
        → CrossesNeither new (range_after m moves o)
    compacted-object o i stays stands above =
        elim (moved-is moves o.place) [
          | inl (v, j, cover, e) ↦
              let by : IsFilledBy m h g least keeps moves new c v = filled_by m h g least keeps moves new c v j in
              let is : IsTile v.to (v.to + v.size) (range_after m moves o) =
              tile v.to (v.to + v.size) by.pieces (range_after m moves o) by.tiled (by.all o i cover) in
              let low = is.low_gap in
              within-move v j (range_after m moves o) (omega arith) is.high_end
          | inr (none, still) ↦ absurd (unmoved none still)
        ]
      where
        unmoved : ((v : Move) → IsIn v moves → (v.start ≤ o.place) × (o.place < v.start + v.size) → ⊥)
            → moved_by moves o.place ≡ o.place → ⊥
        unmoved none still =
            let at : stands_in eph o.place ≡ true = subst (λ n. stands_in eph n ≡ true) still stands in
            let (low, high) = stands-between eph o.place at in
            let (kind, part, known) = taking-is m.layout h.layout g least eph
            (ephemeral-takes m.layout h.layout g least) in
            let n : HasHome m.layout o.place = piece-home m h (object_piece m.types o) (object-in-pieces m h o i) in
            let same : n.home ≡ eph = one_home m.layout h.layout n.home eph o.place n.among eph-known n.stands at in
            let young = aged m h g least keeps eph eph-known part o.place (omega arith) low high in
            survivor-covered m h g least keeps moves new c o
            (is_small-survivor m h g least keeps moves new c o i stays young eph eph-known kind
            (n.base ∙ ap (λ (u : SegInfo). u.base) same)) none

    -- the object right behind a free item stands in its segment
    same-segment : (s : SegInfo) → IsIn s m.layout.segments → (o : Object) → IsIn o m.objects → first_place s < o.place
        → o.place ≤ reserved_end s → stands_in s o.place ≡ true
    same-segment s known o i low high =
        let n : HasHome m.layout o.place = piece-home m h (object_piece m.types o) (object-in-pieces m h o i) in
        by n (separate m.layout h.layout n.home s n.among known)
      where
        by : (n : HasHome m.layout o.place) → AreSeparate n.home s → stands_in s o.place ≡ true
        by n (inl e) = subst (λ (u : SegInfo). stands_in u o.place ≡ true) e n.stands
        by n (inr (inl l)) = let x : o.place < reserved_end n.home = n.high in absurd (omega arith)
        by n (inr (inr l)) = let x : first_place n.home ≤ o.place = n.low in absurd (omega arith)

    -- A compaction moves the boundaries to where no piece crosses them.
    pub compacted_bounds : HasBounds m g keeps moves new (compacted_free m.layout g new.start0 c.plugs moves)
    compacted_bounds = record {
      low0 = part_start0 m.layout g kept moves new c is;
      low1 = elim (start1-is m.layout g kept moves new c is) [
        | inl e ↦ inl e
        | inr (old, e)
            ↦ let l = part_raised m.layout g kept moves new c is in inr (omega arith)
      ];
      objects = compacted-object;
      free = λ f i. (
        free_whole1 m.layout g kept moves new c is eph among f i,
        free_whole0 m.layout g kept moves new c
            is eph among f i,
      );
      beside = λ s i f j. beside s i f j
          (free_before_object m h g least keeps moves new c s (subst (IsIn s) (sym c.segments_are) i) f j);
    }
      where
        is : AreCondemned m.layout g c.segments c.plugs
        is = ready m h g least keeps moves new c

        among : IsIn eph c.segments
        among = subst (IsIn eph) (sym c.segments_are) (ephemeral-takes m.layout h.layout g least)

        beside : (s : SegInfo) → IsIn s (taking_part is_small_or_ephemeral g m.layout) → (f : Piece)
            → IsIn f (compacted_free m.layout g new.start0 c.plugs moves s)
            → (o : Object) × IsBehind m h g least keeps moves new c f o
            → (o : Object) × IsIn o m.objects × (keeps o.name ≡ true) × (stands_in s (moved_by moves o.place) ≡ true)
        beside s i f j (o, b) =
            let r = compacted_refill m h g least keeps moves new c s (subst (IsIn s) (sym c.segments_are) i) in
            let from = part_start m.layout g s in
            let t : IsTile from (compacted_end new.start0 c.plugs moves s) f =
            tile from (compacted_end new.start0 c.plugs moves s) r.more f r.tiled (r.fresh_more f j) in
            let size : IsLawfulSize f.size = t.size in let gap = t.low_gap in let high = t.high_end in
            let top = r.high in
            let low : first_place s ≤ from = (start-facts m.layout h.layout g least s i).low in
            let at = b.place in (
              o,
              b.present,
              b.kept_on,
              subst (λ n. stands_in s n ≡ true) (sym b.stays)
                  (same-segment s (taking-is m.layout h.layout g least s i).2 o b.present (omega arith) (omega arith)),
            )
