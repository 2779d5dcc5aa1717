-- A layout whose condemned parts are tiled anew is lawful.
use Rattle.std.proofs.Common.{◌≡◌, ℕ, ◌+◌, ◌%◌, ◌<◌, ◌≤◌, ◌⊎◌, inl, inr, List, [], ◌∷◌, ◌++◌, map, length, refl, sym}
use Rattle.std.proofs.Common.{ap, subst, ◌∙◌, arith, Bool, true, false, if◌then◌else◌, filter, ◌&&◌, not, nat_le}
use Rattle.std.proofs.Common.{nat_lt, suc, true≢false}
use Rattle.std.proofs.lemmas.Bool.{and_parts, and_from, le-leb, lt-ltb}
use Rattle.std.specs.List.{AllByRecursion, flat_map}
use Rattle.clr_types.specs.Rising.{IsIn, first, later, IsRisingBy}
use Rattle.clr_types.specs.Ranges.{Piece, piece_end, IsLawfulSize, Tiles, by_place}
use Rattle.clr_types.proofs.RisingLists.{all_at}
use Rattle.clr_types.proofs.Tilings.{tiles-rise}
use Rattle.clr_types.proofs.SortedLists.{IsDistinctBy, sorted_by-rises, into_sorted_by}
use Rattle.clr_model.specs.Sweep.{has_condemned_part, part_start, taking_part, is_in_part, free_after, segments_after}
use Rattle.clr_types.specs.declared.segment.SegKind.{SegKind}
use Rattle.clr_types.specs.declared.segment.SegKind.TheVariants.{Ephemeral, Small, Large}
use Rattle.clr_types.specs.declared.segment.SegInfo.{SegInfo}
use Rattle.clr_types.specs.Segments.{Layout, first_place, reserved_end, stands_in, segments_of, segment_or_empty}
use Rattle.clr_types.specs.Segments.{ephemeral, same_kind, generation}
use Rattle.clr_types.specs.LawfulLayout.{IsLawfulLayout, IsLawfulSegment, AreBounded, AreDisjoint, IsBoundedSegment}
use Rattle.clr_types.proofs.ListMembers.{from-map, distinct_append, in_append, append_right, distinct_of_sorted}
use Rattle.clr_types.proofs.ListMembers.{distinct_filter, filter-map, filter-on, any-from, distinct_right}
use Rattle.clr_types.proofs.PieceGaps.{IsGapped}
use Rattle.clr_types.proofs.ChangedLists.{all_members, rising-distinct, into_filter, out_of_filter}
use Rattle.clr_types.proofs.SegmentFacts.{lawful_segment}
use Rattle.clr_types.proofs.TilePieces.{IsTile, tile, tiles-whole, tiles-aligned}
use Rattle.clr_types.proofs.HighestSegment.{filter-disjoint}

module _ (layout : Layout) (h : IsLawfulLayout layout) (kinds : SegKind → Bool) (g : ℕ) (end_after : SegInfo → ℕ)
    (held fresh : SegInfo → List Piece)
    (tiles : (s : SegInfo) → IsIn s (taking_part kinds g layout)
    → Tiles (part_start layout g s) (end_after s) (by_place (held s ++ fresh s)))
    (high : (s : SegInfo) → IsIn s (taking_part kinds g layout) → end_after s ≤ reserved_end s)
    (low : (s : SegInfo) → IsIn s (taking_part kinds g layout)
    → (first_place s ≤ part_start layout g s) × (part_start layout g s % 8 ≡ 0))
  where
    abbrev parts : List SegInfo
    parts = taking_part kinds g layout

    abbrev takes : SegInfo → Bool
    takes s = kinds s.kind && has_condemned_part g s

    abbrev changed_segment : SegInfo → SegInfo
    changed_segment s = if takes s then record s { end = end_after s } else s

    part-in : (s : SegInfo) → IsIn s parts → IsIn s layout.segments
    part-in s i = (out_of_filter (λ (s : SegInfo). kinds s.kind && has_condemned_part g s) s layout.segments i).1

    -- what the change of ends keeps
    pub record KeepsSegment (s t : SegInfo) : Type 0 where
      pub base : t.base ≡ s.base
      pub reserved : t.reserved ≡ s.reserved
      pub kind : t.kind ≡ s.kind

    keeps : (s : SegInfo) → KeepsSegment s (changed_segment s)
    keeps s = go (takes s)
      where
        go : (b : Bool) → KeepsSegment s (if b then record s { end = end_after s } else s)
        go true = record { base = refl; reserved = refl; kind = refl }
        go false = record { base = refl; reserved = refl; kind = refl }

    changed-lawful : (s : SegInfo) → IsIn s layout.segments → IsLawfulSegment (changed_segment s)
    changed-lawful s i = go (takes s) refl
      where
        is : IsLawfulSegment s
        is = lawful_segment layout h s i

        go : (b : Bool) → takes s ≡ b → IsLawfulSegment (if b then record s { end = end_after s } else s)
        go false e = is
        go true e =
            let j : IsIn s parts =
            into_filter (λ (s : SegInfo). kinds s.kind && has_condemned_part g s) layout.segments e i in
            let (a, b) = low s j in
            let t : Tiles (part_start layout g s) (end_after s) (by_place (held s ++ fresh s)) = tiles s j in
            let w : IsGapped (part_start layout g s) (end_after s) =
            tiles-whole (part_start layout g s) (end_after s) (by_place (held s ++ fresh s)) t in
            let al : end_after s % 8 ≡ part_start layout g s % 8 =
            tiles-aligned (part_start layout g s) (end_after s) (by_place (held s ++ fresh s)) t in
            record {
              base = is.base;
              lowest = is.lowest;
              reserved = is.reserved;
              least = is.least;
              low = omega arith;
              high = high s j;
              aligned = omega arith;
            }

    changed-bounded : (s : SegInfo) → IsIn s layout.segments → IsBoundedSegment (changed_segment s)
    changed-bounded s i = go (takes s)
      where
        go : (b : Bool) → IsBoundedSegment (if b then record s { end = end_after s } else s)
        go true = all_at IsBoundedSegment i h.bounded
        go false = all_at IsBoundedSegment i h.bounded

    changed-disjoint : (ss : List SegInfo) → AreDisjoint ss → AreDisjoint (map changed_segment ss)
    changed-disjoint [] d = tt
    changed-disjoint (s ∷ ss) d = (
      all_members (λ (r : SegInfo). reserved_end (changed_segment s) ≤ r.base) (map changed_segment ss)
          (λ r i. below r i),
      changed-disjoint ss d.1,
    )
      where
        below : (r : SegInfo) → IsIn r (map changed_segment ss) → reserved_end (changed_segment s) ≤ r.base
        below r i =
            let (t, e, j) = from-map changed_segment r ss i in
            let a : reserved_end s ≤ t.base = all_at (λ (r : SegInfo). reserved_end s ≤ r.base) j d.0 in
            let k : KeepsSegment s (changed_segment s) = keeps s in
            let n : KeepsSegment t (changed_segment t) = keeps t in
            let kb : (changed_segment s).base ≡ s.base = k.base in
            let kr : (changed_segment s).reserved ≡ s.reserved = k.reserved in
            let nb : (changed_segment t).base ≡ t.base = n.base in
            let f : r.base ≡ (changed_segment t).base = ap (λ (u : SegInfo). u.base) e in
            omega arith

    -- the segments of a kind are those of before, changed
    of_kind : (kind : SegKind) (new : Layout) → new.segments ≡ segments_after kinds g end_after layout.segments
        → segments_of kind new ≡ map changed_segment (segments_of kind layout)
    of_kind kind new e =
        ap (filter (λ (s : SegInfo). same_kind kind s.kind)) e
        ∙ filter-map changed_segment (λ (s : SegInfo). same_kind kind s.kind) layout.segments
        ∙ ap (map changed_segment) (filter-on (λ (s : SegInfo). same_kind kind (changed_segment s).kind)
        (λ (s : SegInfo). same_kind kind s.kind) layout.segments (λ s i. ap (same_kind kind) (keeps s).kind))

    same_length : (ss : List SegInfo) → length (map changed_segment ss) ≡ length ss
    same_length [] = refl
    same_length (s ∷ ss) = ap suc (same_length ss)

    head_changed : (ss : List SegInfo) → length ss ≡ 1
        → segment_or_empty (map changed_segment ss) ≡ changed_segment (segment_or_empty ss)
    head_changed [] e = absurd (omega arith)
    head_changed (s ∷ ss) e = refl

    -- ---- free items

    fresh-tile : (s : SegInfo) → IsIn s parts → (p : Piece) → IsIn p (fresh s)
        → IsTile (part_start layout g s) (end_after s) p
    fresh-tile s i p j =
        tile (part_start layout g s) (end_after s) (by_place (held s ++ fresh s)) p (tiles s i)
        (into_sorted_by (λ (p : Piece). p.place) p (held s ++ fresh s) (append_right (held s) j))

    fresh-distinct : (s : SegInfo) → IsIn s parts → IsDistinctBy (λ (p : Piece). p.place) (fresh s)
    fresh-distinct s i =
        distinct_right (λ (p : Piece). p.place) (held s) (fresh s)
        (distinct_of_sorted (λ (p : Piece). p.place) (held s ++ fresh s)
        (rising-distinct (λ (p : Piece). p.place) (by_place (held s ++ fresh s))
        (tiles-rise (part_start layout g s) (end_after s) (by_place (held s ++ fresh s)) (tiles s i))))

    pub in-flat : (ss : List SegInfo) (p : Piece) → IsIn p (flat_map fresh ss)
        → (s : SegInfo) × IsIn s ss × IsIn p (fresh s)
    in-flat [] p i = elim i [ ]
    in-flat (s ∷ ss) p i = go (in_append (fresh s) i) (in-flat ss p)
      where
        go : IsIn p (fresh s) ⊎ IsIn p (flat_map fresh ss)
            → (IsIn p (flat_map fresh ss) → (t : SegInfo) × IsIn t ss × IsIn p (fresh t))
            → (t : SegInfo) × IsIn t (s ∷ ss) × IsIn p (fresh t)
        go (inl j) more = (s, first, j)
        go (inr j) more = let (t, k, n) = more j in (t, later k, n)

    -- a new item stands in its part
    pub record StandsIn (s : SegInfo) (place : ℕ) : Type 0 where
      pub low_place : first_place s ≤ place
      pub from : part_start layout g s ≤ place
      pub high_place : place < reserved_end s

    pub fresh-stands : (s : SegInfo) → IsIn s parts → (p : Piece) → IsIn p (fresh s) → StandsIn s p.place
    fresh-stands s i p j =
        let t : IsTile (part_start layout g s) (end_after s) p = fresh-tile s i p j in
        let (a, b) = low s i in
        let c : end_after s ≤ reserved_end s = high s i in
        let z : IsLawfulSize p.size = t.size in
        let e : piece_end p ≤ end_after s = t.high_end in
        let f : IsGapped (part_start layout g s) p.place = t.low_gap in
        record { low_place = omega arith; from = omega arith; high_place = omega arith }

    flat-distinct : (ss : List SegInfo) → AreDisjoint ss → ((s : SegInfo) → IsIn s ss → IsIn s parts)
        → IsDistinctBy (λ (p : Piece). p.place) (flat_map fresh ss)
    flat-distinct [] d sub = tt
    flat-distinct (s ∷ ss) d sub =
        distinct_append (λ (p : Piece). p.place) (fresh s) (flat_map fresh ss) (fresh-distinct s (sub s first))
        (flat-distinct ss d.1 (λ t i. sub t (later i)))
        (λ p q i j e.
        let (t, k, n) = in-flat ss q j in
        let a : StandsIn s p.place = fresh-stands s (sub s first) p i in
        let b : StandsIn t q.place = fresh-stands t (sub t (later k)) q n in
        let l : reserved_end s ≤ t.base = all_at (λ (r : SegInfo). reserved_end s ≤ r.base) k d.0 in
        omega arith)

    in_part : (p : Piece) (s : SegInfo) → IsIn s parts → StandsIn s p.place → is_in_part kinds layout g p ≡ true
    in_part p s i t =
        let (e, j) = out_of_filter (λ (s : SegInfo). kinds s.kind && has_condemned_part g s) s layout.segments i in
        let (a, b) = and_parts (kinds s.kind) (has_condemned_part g s) e in
        any-from (λ (s : SegInfo). kinds
        s.kind && (has_condemned_part g s && (stands_in s p.place && nat_le (part_start layout g s) p.place)))
        layout.segments s j
        (and_from (kinds s.kind) (has_condemned_part g
        s && (stands_in s p.place && nat_le (part_start layout g s) p.place)) a
        (and_from (has_condemned_part g s) (stands_in s p.place && nat_le (part_start layout g s) p.place) b
        (and_from (stands_in s p.place) (nat_le (part_start layout g s) p.place)
        (and_from (nat_le (first_place s) p.place) (nat_lt p.place (reserved_end s))
        (le-leb (first_place s) p.place t.low_place) (lt-ltb p.place (reserved_end s) t.high_place))
        (le-leb (part_start layout g s) p.place t.from))))

    pub free_rises : IsRisingBy (λ (p : Piece). p.place) (free_after kinds layout g (flat_map fresh parts))
    free_rises =
        sorted_by-rises (λ (p : Piece). p.place)
        (filter (λ p. not (is_in_part kinds layout g p)) layout.free ++ flat_map fresh parts)
        (distinct_append (λ (p : Piece). p.place) (filter (λ p. not (is_in_part kinds layout g p)) layout.free)
        (flat_map fresh parts)
        (distinct_filter (λ (p : Piece). p.place) (λ p. not (is_in_part kinds layout g p)) layout.free
        (rising-distinct (λ (p : Piece). p.place) layout.free h.free_rise))
        (flat-distinct parts (filter-disjoint (λ (s : SegInfo). kinds s.kind && has_condemned_part g s)
        layout.segments h.disjoint) (λ s i. i))
        (λ p q i j e.
        let (t, k, n) = in-flat parts q j in
        let (f, o) = out_of_filter (λ p. not (is_in_part kinds layout g p)) p layout.free i in
        let s : StandsIn t q.place = fresh-stands t k q n in
        apart (is_in_part kinds layout g p) (in_part p t k (subst (StandsIn t) (sym e) s)) f))
      where
        apart : (b : Bool) → b ≡ true → not b ≡ true → ⊥
        apart true e f = true≢false (sym f)
        apart false e f = true≢false (sym e)

    -- the ephemeral segment afterwards
    pub ephemeral_after : (new : Layout) → new.segments ≡ segments_after kinds g end_after layout.segments
        → ephemeral new ≡ changed_segment (ephemeral layout)
    ephemeral_after new segments =
        ap segment_or_empty (of_kind Ephemeral new segments)
        ∙ head_changed (segments_of Ephemeral layout) h.one_ephemeral

    -- a place's generation afterwards, by the new boundaries
    pub generation_after : (new : Layout) → new.segments ≡ segments_after kinds g end_after layout.segments
        → (place : ℕ)
        → generation new place ≡ (if stands_in (ephemeral layout) place
        then (if nat_lt place new.start1 then 2 else (if nat_lt place new.start0 then 1 else 0)) else 2)
    generation_after new segments place =
        ap (λ b. if b then (if nat_lt place new.start1 then 2 else (if nat_lt place new.start0 then 1 else 0)) else 2)
        (ap (λ (s : SegInfo). stands_in s place) (ephemeral_after new segments)
        ∙ (let b = (keeps (ephemeral layout)).base in let r = (keeps (ephemeral layout)).reserved in
        λ i. nat_le (b i + 0x1000) place && nat_lt place (b i + r i)))

    -- with its boundaries in order, the new layout is lawful
    pub layout_after : (new : Layout) → new.segments ≡ segments_after kinds g end_after layout.segments
        → new.free ≡ free_after kinds layout g (flat_map fresh parts) → new.rests ≡ layout.rests → new.top ≡ layout.top
        → first_place (ephemeral layout) ≤ new.start1 → new.start1 ≤ new.start0
        → new.start0 ≤ (changed_segment (ephemeral layout)).end → (new.start1 % 8 ≡ 0) × (new.start0 % 8 ≡ 0)
        → IsLawfulLayout new
    layout_after new segments free rests top l1 l2 l3 al = record {
      segments =
          subst (AllByRecursion IsLawfulSegment) (sym segments)
          (all_members IsLawfulSegment (map changed_segment layout.segments)
          (λ t i. let (s, e, j) = from-map changed_segment t layout.segments i in
          subst IsLawfulSegment (sym e) (changed-lawful s j)));
      bounded =
          subst AreBounded (sym segments)
          (all_members IsBoundedSegment (map changed_segment layout.segments)
          (λ t i. let (s, e, j) = from-map changed_segment t layout.segments i in
          subst IsBoundedSegment (sym e) (changed-bounded s j)));
      disjoint = subst AreDisjoint (sym segments) (changed-disjoint layout.segments h.disjoint);
      below_top =
          subst (AllByRecursion (λ (s : SegInfo). reserved_end s ≤ new.top)) (sym segments)
          (all_members (λ (s : SegInfo). reserved_end s ≤ new.top) (map changed_segment layout.segments) under);
      top_aligned = subst (λ n. n % 4096 ≡ 0) (sym top) h.top_aligned;
      one_ephemeral =
          ap length (of_kind Ephemeral new segments) ∙ same_length (segments_of Ephemeral layout) ∙ h.one_ephemeral;
      ephemeral_last =
          subst (AllByRecursion (λ (s : SegInfo). s.base ≤ (ephemeral new).base)) (sym (of_kind Small new segments))
          (all_members (λ (s : SegInfo). s.base ≤ (ephemeral new).base)
          (map changed_segment (segments_of Small layout)) last);
      some_large =
          subst (λ n. 0 < n) (sym (ap length (of_kind Large new segments) ∙ same_length (segments_of Large layout)))
          h.some_large;
      start1_low = subst (λ n. n ≤ new.start1) (sym (ap (λ n. n + 0x1000) base)) l1;
      start1_high = l2;
      start0_high = subst (λ (s : SegInfo). new.start0 ≤ s.end) (sym eph) l3;
      aligned = al;
      free_rise = subst (IsRisingBy (λ (p : Piece). p.place)) (sym free) free_rises;
      threads = ap length rests ∙ h.threads;
    }
      where
        eph : ephemeral new ≡ changed_segment (ephemeral layout)
        eph =
            ap segment_or_empty (of_kind Ephemeral new segments)
            ∙ head_changed (segments_of Ephemeral layout) h.one_ephemeral

        base : (ephemeral new).base ≡ (ephemeral layout).base
        base = ap (λ (s : SegInfo). s.base) eph ∙ (keeps (ephemeral layout)).base

        under : (t : SegInfo) → IsIn t (map changed_segment layout.segments) → reserved_end t ≤ new.top
        under t i =
            let (s, e, j) = from-map changed_segment t layout.segments i in
            let k : KeepsSegment s (changed_segment s) = keeps s in
            let a : reserved_end s ≤ layout.top = all_at (λ (s : SegInfo). reserved_end s ≤ layout.top) j h.below_top in
            let f : reserved_end t ≡ reserved_end (changed_segment s) = ap reserved_end e in
            let kb : (changed_segment s).base ≡ s.base = k.base in
            let kr : (changed_segment s).reserved ≡ s.reserved = k.reserved in
            omega arith

        last : (t : SegInfo) → IsIn t (map changed_segment (segments_of Small layout)) → t.base ≤ (ephemeral new).base
        last t i =
            let (s, e, j) = from-map changed_segment t (segments_of Small layout) i in
            let k : KeepsSegment s (changed_segment s) = keeps s in
            let a : s.base ≤ (ephemeral layout).base =
            all_at (λ (s : SegInfo). s.base ≤ (ephemeral layout).base) j h.ephemeral_last in
            let f : t.base ≡ (changed_segment s).base = ap (λ (u : SegInfo). u.base) e in
            let kb : (changed_segment s).base ≡ s.base = k.base in
            let b = base in
            omega arith
