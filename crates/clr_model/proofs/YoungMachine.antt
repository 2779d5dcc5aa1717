-- A collection of a younger generation leaves the whole memory as lawful: its pieces fill the segments and cross no
-- boundary.
use Rattle.std.proofs.Common.{◌≡◌, ◌≢◌, ℕ, ◌<◌, ◌≤◌, ◌⊎◌, inl, inr, List, [], ◌++◌, refl, sym, ap, subst, ◌∙◌, arith}
use Rattle.std.proofs.Common.{Bool, true, false, filter, if◌then◌else◌, ◌&&◌, ◌==◌, not, nat_le, nat_lt}
use Rattle.std.proofs.lemmas.Bool.{cases_lt, cases_Bool, and_from, and_parts, le-leb, leb-true, lt-ltb, eq-eqb}
use Rattle.std.proofs.lemmas.Bool.{eqb-true, both_ways}
use Rattle.std.specs.List.{flat_map}
use Rattle.clr_types.specs.Rising.{IsIn}
use Rattle.clr_types.specs.Ranges.{Piece, IsLawfulSize}
use Rattle.clr_types.specs.declared.segment.SegInfo.{SegInfo}
use Rattle.clr_types.specs.declared.segment.SegKind.{SegKind}
use Rattle.clr_types.specs.Segments.{Layout, first_place, stands_in, pieces_in, generation, ephemeral}
use Rattle.clr_types.specs.Segments.{is_small_or_ephemeral, rest_pieces}
use Rattle.clr_types.proofs.SortedLists.{into_sorted_by}
use Rattle.clr_types.proofs.ChangedLists.{append_left, into_filter}
use Rattle.clr_types.proofs.ListMembers.{append_right, any-in, any-from}
use Rattle.clr_types.proofs.TilePieces.{IsTile, tile}
use Rattle.clr_types.proofs.SegmentFacts.{one_home, elsewhere, stands-between, between-stands, lawful_segment}
use Rattle.clr_types.proofs.SegmentFacts.{ephemeral-in}
use Rattle.clr_model.specs.Machine.{Machine, Object}
use Rattle.clr_model.specs.Lookups.{pieces}
use Rattle.clr_model.specs.Lawful.{IsLaid}
use Rattle.clr_model.specs.Sweep.{part_start, has_condemned_part, taking_part, is_in_part, free_after}
use Rattle.clr_model.specs.Compaction.{Move, moved_by}
use Rattle.clr_model.specs.Collection.{objects_after}
use Rattle.clr_model.proofs.CondemnedParts.{taking-is, takes-part, start-facts, start-ephemeral}
use Rattle.clr_model.proofs.SweptTiles.{IsCut}
use Rattle.clr_model.proofs.SweptLawful.{start-cuts}
use Rattle.clr_model.proofs.CollectedFree.{after-is, from_part, into_parts}
use Rattle.clr_model.proofs.Relaid.{IsRefilled}
use Rattle.clr_model.proofs.Refill.{IsRefill}
use Rattle.clr_model.proofs.CollectedPieces.{IsSmallPhase, part_refilled, untouched}

-- what stood outside of the parts, or is new, stands among the free items afterwards
pub after-in : (kinds : SegKind → Bool) (layout : Layout) (g : ℕ) (fresh : List Piece) (p : Piece)
    → ((is_in_part kinds layout g p ≡ false) × IsIn p layout.free) ⊎ IsIn p fresh
    → IsIn p (free_after kinds layout g fresh)
after-in kinds layout g fresh p (inl (away, i)) =
    into_sorted_by (λ (p : Piece). p.place) p (filter (λ p. not (is_in_part kinds layout g p)) layout.free ++ fresh)
    (append_left fresh (into_filter (λ p. not (is_in_part kinds layout g p)) layout.free (ap not away) i))
after-in kinds layout g fresh p (inr i) =
    into_sorted_by (λ (p : Piece). p.place) p (filter (λ p. not (is_in_part kinds layout g p)) layout.free ++ fresh)
    (append_right (filter (λ p. not (is_in_part kinds layout g p)) layout.free) i)

module _ (m : Machine) (h : IsLaid m) (bare : rest_pieces m.layout.rests ≡ []) (g : ℕ) (least : g ≤ 2) (keeps alive : ℕ
    → Bool) (moves : List Move) (small : Layout) (p : IsSmallPhase m g keeps moves small)
    (old_kept : (o : Object) → IsIn o m.objects → g < generation m.layout o.place → keeps o.name ≡ true)
  where
    abbrev eph : SegInfo
    eph = ephemeral m.layout

    abbrev parts : List SegInfo
    parts = taking_part is_small_or_ephemeral g m.layout

    pub part-is : (s : SegInfo) → IsIn s parts
        → (is_small_or_ephemeral s.kind ≡ true) × (has_condemned_part g s ≡ true) × IsIn s m.layout.segments
    part-is = taking-is m.layout h.layout g least

    -- an older object stays, and stays where it is
    old-still : (o : Object) → IsIn o m.objects → g < generation m.layout o.place
        → (keeps o.name ≡ true) × (moved_by moves o.place ≡ o.place)
    old-still o i old = (
      old_kept o i old,
      elim
          (p.lands o i) [ inl e ↦ e | inr (age, came, goes) ↦ absurd (omega arith) ],
    )

    -- below the start of a part stand older objects
    below-part : (s : SegInfo) → IsIn s parts → (place : ℕ) → stands_in s place ≡ true → place < part_start m.layout g s
        → g < generation m.layout place
    below-part s i place stands l = go (start-facts m.layout h.layout g least s i).kept
      where
        age : ℕ → ℕ → ℕ
        age start1 start0 = if nat_lt place start1 then 2 else (if nat_lt place start0 then 1 else 0)

        at : s ≡ eph → generation m.layout place
            ≡ (if nat_lt place m.layout.start1 then 2 else (if nat_lt place m.layout.start0 then 1 else 0))
        at e = ap (λ b. if b then (if nat_lt place m.layout.start1 then 2 else
            (if nat_lt place m.layout.start0 then 1 else 0)) else 2)
            (subst (λ (u : SegInfo). stands_in u place ≡ true) e stands)

        some : (b : Bool) → 1 ≤ (if b then 2 else 1)
        some true = omega arith
        some false = omega arith

        zero : place < m.layout.start0 → 1 ≤
            (if nat_lt place m.layout.start1 then 2 else (if nat_lt place m.layout.start0 then 1 else 0))
        zero u = subst (λ b. 1 ≤ (if nat_lt place m.layout.start1 then 2 else (if b then 1 else 0)))
            (sym (lt-ltb place m.layout.start0 u)) (some (nat_lt place m.layout.start1))

        one : place < m.layout.start1 → 2 ≤
            (if nat_lt place m.layout.start1 then 2 else (if nat_lt place m.layout.start0 then 1 else 0))
        one u = subst (λ b. 2 ≤ (if b then 2 else (if nat_lt place m.layout.start0 then 1 else 0)))
            (sym (lt-ltb place m.layout.start1 u)) (omega arith)

        by : s ≡ eph → (a b : Bool) → (g == 0) ≡ a → (g == 1) ≡ b → g ≤ 1
            → place < (if a then m.layout.start0 else (if b then m.layout.start1 else first_place eph))
            → g < generation m.layout place
        by e true b f k u l = let z : g ≡ 0 = eqb-true g 0 f in let is = at e in let up = zero l in omega arith
        by e false true f k u l = let z : g ≡ 1 = eqb-true g 1 k in let is = at e in let up = one l in omega arith
        by e false false f k u l = absurd (neither (cases_lt g 1))
          where
            neither : (g < 1) ⊎ (1 ≤ g) → ⊥
            neither (inl x) = both_ways (g == 0) f (eq-eqb g 0 (omega arith))
            neither (inr x) = both_ways (g == 1) k (eq-eqb g 1 (omega arith))

        go : (part_start m.layout g s ≡ first_place s) ⊎ ((s ≡ eph) × (g ≤ 1)) → g < generation m.layout place
        go (inl e) = let (low, high) = stands-between s place stands in absurd (omega arith)
        go (inr (e, u)) = by e (g == 0) (g == 1) refl refl u
            (subst (λ n. place < n) (ap (part_start m.layout g) e ∙ start-ephemeral m.layout h.layout g least) l)

    -- the segment of a piece that stands in a condemned part
    pub in-part : (f : Piece) → is_in_part is_small_or_ephemeral m.layout g f ≡ true → (s : SegInfo)
        → IsIn s m.layout.segments → stands_in s f.place ≡ true → IsIn s parts × (part_start m.layout g s ≤ f.place)
    in-part f e s known stands =
        let (t, i, a) = any-in (λ (s : SegInfo). is_small_or_ephemeral s.kind &&
        (has_condemned_part g s && (stands_in s f.place && nat_le (part_start m.layout g s) f.place)))
        m.layout.segments e in
        let (kind, b) = and_parts (is_small_or_ephemeral t.kind)
        (has_condemned_part g t && (stands_in t f.place && nat_le (part_start m.layout g t) f.place)) a in
        let (part, d) = and_parts (has_condemned_part g t)
        (stands_in t f.place && nat_le (part_start m.layout g t) f.place) b in
        let (stands_t, above) = and_parts (stands_in t f.place) (nat_le (part_start m.layout g t) f.place) d in
        let same : t ≡ s = one_home m.layout h.layout t s f.place i known stands_t stands in (
          subst (λ (u : SegInfo). IsIn u parts) same (takes-part m.layout h.layout g least t i kind part),
          subst
              (λ (u : SegInfo). part_start m.layout g u ≤ f.place) same
              (leb-true (part_start m.layout g t) f.place above),
        )

    pub into-part : (f : Piece) (s : SegInfo) → IsIn s parts → stands_in s f.place ≡ true
        → part_start m.layout g s ≤ f.place → is_in_part is_small_or_ephemeral m.layout g f ≡ true
    into-part f s i stands above =
        let (kind, part, known) = part-is s i in
        any-from (λ (s : SegInfo). is_small_or_ephemeral s.kind &&
        (has_condemned_part g s && (stands_in s f.place && nat_le (part_start m.layout g s) f.place)))
        m.layout.segments s known
        (and_from (is_small_or_ephemeral s.kind)
        (has_condemned_part g s && (stands_in s f.place && nat_le (part_start m.layout g s) f.place)) kind
        (and_from (has_condemned_part g s) (stands_in s f.place && nat_le (part_start m.layout g s) f.place) part
        (and_from (stands_in s f.place) (nat_le (part_start m.layout g s) f.place) stands
        (le-leb (part_start m.layout g s) f.place above))))

    -- a new free item stands in its segment
    pub fresh-stands : (s : SegInfo) → IsIn s parts → (f : Piece) → IsIn f (p.fresh s)
        → (stands_in s f.place ≡ true) × (part_start m.layout g s ≤ f.place)
    fresh-stands s i f j =
        let r : IsRefill m keeps moves s (part_start m.layout g s) (p.end s) (p.fresh s) = p.refill s i in
        let is : IsTile (part_start m.layout g s) (p.end s) f =
        tile (part_start m.layout g s) (p.end s) r.more f r.tiled (r.fresh_more f j) in
        let gap = is.low_gap in let end = is.high_end in let size : IsLawfulSize f.size = is.size in
        let high = r.high in
        let low : first_place s ≤ part_start m.layout g s = (start-facts m.layout h.layout g least s i).low in
        (between-stands s f.place (omega arith) (omega arith), omega arith)

    -- the free items of the small heap afterwards, segment by segment
    pub free_was : (s : SegInfo) → IsIn s m.layout.segments → (f : Piece) → IsIn f small.free
        → stands_in s f.place ≡ true → ((is_in_part is_small_or_ephemeral m.layout g f ≡ false) × IsIn f m.layout.free)
        ⊎ (IsIn s parts × IsIn f (p.fresh s))
    free_was s known f i stands =
        elim (after-is is_small_or_ephemeral m.layout g (flat_map p.fresh parts) f (subst (IsIn f) p.free i)) [
          | inl old ↦ inl old
          | inr j ↦ inr (fresh_of j)
        ]
      where
        fresh_of : IsIn f (flat_map p.fresh parts) → IsIn s parts × IsIn f (p.fresh s)
        fresh_of j =
            let (t, k, n) = from_part p.fresh parts f j in
            let same : t ≡ s = one_home m.layout h.layout t s f.place (part-is t k).2 known
            (fresh-stands t k f n).0 stands in
            (subst (λ (u : SegInfo). IsIn u parts) same k, subst (λ (u : SegInfo). IsIn f (p.fresh u)) same n)

    free_old : (f : Piece) → IsIn f m.layout.free → is_in_part is_small_or_ephemeral m.layout g f ≡ false
        → IsIn f small.free
    free_old f i away = subst (IsIn f) (sym p.free)
        (after-in is_small_or_ephemeral m.layout g (flat_map p.fresh parts) f (inl (away, i)))

    free_new : (s : SegInfo) → IsIn s parts → (f : Piece) → IsIn f (p.fresh s) → IsIn f small.free
    free_new s i f j = subst (IsIn f) (sym p.free)
        (after-in is_small_or_ephemeral m.layout g (flat_map p.fresh parts) f (inr (into_parts p.fresh s f parts i j)))

    away-from : (f : Piece) → (is_in_part is_small_or_ephemeral m.layout g f ≡ true → ⊥)
        → is_in_part is_small_or_ephemeral m.layout g f ≡ false
    away-from f none = elim (cases_Bool (is_in_part is_small_or_ephemeral m.layout g f)) [
      | inl e
          ↦ absurd (none e)
      | inr e ↦ e
    ]

    -- a segment that takes part is filled anew from the start of its part
    pub part_filled : (s : SegInfo) → IsIn s (taking_part is_small_or_ephemeral g m.layout)
        → IsRefilled m s (p.end s) (objects_after m alive keeps moves) small.free
    part_filled s i =
        part_refilled m h bare keeps alive moves small.free s (part_start m.layout g s) (p.end s) (p.fresh s)
        (p.refill s i) cuts.low_end cuts.high_end cuts.whole
        (λ o j stands l. old-still o j (below-part s i o.place stands l))
        (λ f j stands l. free_old f j (away-from f (λ e. let (k, above) = in-part f e s known stands in omega arith)))
        (λ f j. free_new s i f j)
        (λ f j stands. out f j stands)
      where
        known : IsIn s m.layout.segments
        known = (part-is s i).2

        cuts : IsCut (first_place s) s.end (pieces_in s (pieces m)) (part_start m.layout g s)
        cuts = start-cuts m h g least keeps s known

        out : (f : Piece) → IsIn f small.free → stands_in s f.place ≡ true
            → (IsIn f m.layout.free × (f.place < part_start m.layout g s)) ⊎ IsIn f (p.fresh s)
        out f j stands = go (free_was s known f j stands) (cases_lt f.place (part_start m.layout g s))
          where
            go : ((is_in_part is_small_or_ephemeral m.layout g f ≡ false) × IsIn f m.layout.free)
                ⊎ (IsIn s parts × IsIn f (p.fresh s))
                → (f.place < part_start m.layout g s) ⊎ (part_start m.layout g s ≤ f.place)
                → (IsIn f m.layout.free × (f.place < part_start m.layout g s)) ⊎ IsIn f (p.fresh s)
            go (inr (k, n)) l = inr n
            go (inl (away, k)) (inl l) = inl (k, l)
            go (inl (away, k)) (inr l) = absurd
                (both_ways (is_in_part is_small_or_ephemeral m.layout g f) away (into-part f s i stands l))

    -- another one stays as it is, in a collection of a younger generation
    pub other_stays : g ≤ 1 → (s : SegInfo) → IsIn s m.layout.segments
        → (IsIn s (taking_part is_small_or_ephemeral g m.layout) → ⊥) → s.base ≢ (ephemeral m.layout).base
        → IsRefilled m s s.end (objects_after m alive keeps moves) small.free
    other_stays young s known other apart =
        untouched m h bare keeps alive moves small.free s known (lawful_segment m.layout h.layout s known).high
        (lawful_segment m.layout h.layout s known).low
        (λ o i stands. old-still o i (old o.place stands))
        (λ o i stays stands. elim (p.lands o i) [
          | inl e ↦ e
          | inr (age, came, goes)
              ↦ absurd (landed (moved_by moves o.place) goes stands)
        ])
        (λ f i stands. free_old f i (away-from f (λ e. other (in-part f e s known stands).0)))
        (λ f i stands. elim (free_was s known f i stands) [ inl (away, k) ↦ k | inr (k, n) ↦ absurd (other k) ])
      where
        old : (place : ℕ) → stands_in s place ≡ true → g < generation m.layout place
        old place stands =
            let away : stands_in eph place ≡ false =
            elsewhere m.layout h.layout eph s place (ephemeral-in m.layout h.layout) known
            (λ e. apart (sym e)) stands in
            let two : generation m.layout place
            ≡ 2 = ap (λ b. if b then (if nat_lt place m.layout.start1 then 2 else
            (if nat_lt place m.layout.start0 then 1 else 0)) else 2) away in
            omega arith

        landed : (x : ℕ) → (t : SegInfo) × IsIn t parts × (stands_in t x ≡ true) → stands_in s x ≡ true → ⊥
        landed x (t, k, stands_t) stands =
            other (subst (λ (u : SegInfo). IsIn u parts)
            (one_home m.layout h.layout t s x (part-is t k).2 known stands_t stands) k)
