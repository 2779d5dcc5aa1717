-- The segments that take part in a collection, and where their condemned parts start.
use Rattle.std.proofs.Common.{◌≡◌, ℕ, ◌+◌, ◌%◌, ◌≤◌, ◌⊎◌, inl, inr, List, [], ◌∷◌, refl, sym, ap, subst, ◌∙◌, arith}
use Rattle.std.proofs.Common.{Bool, true, false, ◌&&◌, ◌||◌, ◌==◌, if◌then◌else◌}
use Rattle.std.proofs.lemmas.Bool.{and_parts, and_from, eqb-true, or_cases}
use Rattle.clr_types.specs.Rising.{IsIn, first, later}
use Rattle.clr_types.proofs.RisingLists.{all_at}
use Rattle.clr_model.specs.Sweep.{has_condemned_part, part_start, taking_part}
use Rattle.clr_model.specs.Compaction.{first_pointer}
use Rattle.clr_types.specs.declared.segment.SegKind.{SegKind}
use Rattle.clr_types.specs.declared.segment.SegKind.TheVariants.{Small, Ephemeral, Large, Pinned}
use Rattle.clr_types.specs.declared.segment.SegInfo.{SegInfo}
use Rattle.clr_types.specs.Segments.{Layout, first_place, reserved_end, same_kind, is_small_or_ephemeral, ephemeral}
use Rattle.clr_types.specs.Segments.{segment_or_empty}
use Rattle.clr_types.specs.LawfulLayout.{AreDisjoint, IsLawfulSegment, IsLawfulLayout}
use Rattle.clr_types.proofs.SegmentFacts.{lawful_segment, ephemeral-kind, ephemeral-in}
use Rattle.clr_types.proofs.ChangedLists.{into_filter, out_of_filter}
use Rattle.clr_types.proofs.HighestSegment.{filter-disjoint, ephemeral-one, ephemeral-highest}

module _ (layout : Layout) (h : IsLawfulLayout layout) where
  -- ---- the segments that take part

  module _ (g : ℕ) (least : g ≤ 2) where
    abbrev pub segments : List SegInfo
    segments = taking_part is_small_or_ephemeral g layout

    pub taking-is : (s : SegInfo) → IsIn s segments
        → (is_small_or_ephemeral s.kind ≡ true) × (has_condemned_part g s ≡ true) × IsIn s layout.segments
    taking-is s i =
        let (t, j) = out_of_filter (λ (s : SegInfo). is_small_or_ephemeral s.kind && has_condemned_part g s) s
        layout.segments i in
        let (k, p) = and_parts (is_small_or_ephemeral s.kind) (has_condemned_part g s) t in
        (k, p, j)

    pub takes-part : (s : SegInfo) → IsIn s layout.segments → is_small_or_ephemeral s.kind ≡ true
        → has_condemned_part g s ≡ true → IsIn s segments
    takes-part s i k p = into_filter
        (λ (s : SegInfo). is_small_or_ephemeral s.kind && has_condemned_part g s) layout.segments
        (and_from (is_small_or_ephemeral s.kind) (has_condemned_part g s) k p) i

    kind-small : (k : SegKind) → same_kind Ephemeral k ≡ true → is_small_or_ephemeral k ≡ true
    kind-small Small e = absurd cc
    kind-small Ephemeral e = refl
    kind-small Large e = absurd cc
    kind-small Pinned e = absurd cc

    pub ephemeral-takes : IsIn (ephemeral layout) segments
    ephemeral-takes = takes-part (ephemeral layout) (ephemeral-in layout h)
        (kind-small (ephemeral layout).kind (ephemeral-kind layout h))
        (ap (λ b. b || (g == 2)) (ephemeral-kind layout h))

    -- where the part of a segment starts
    start-other : (s : SegInfo) → same_kind Ephemeral s.kind ≡ false → part_start layout g s ≡ first_place s
    start-other s e = ap (λ b. if b then
        (if g == 0 then layout.start0 else (if g == 1 then layout.start1 else first_place s)) else first_place s) e

    pub start-ephemeral : part_start layout g (ephemeral layout)
        ≡ (if g == 0 then layout.start0 else (if g == 1 then layout.start1 else first_place (ephemeral layout)))
    start-ephemeral = ap (λ b. if b then
        (if g == 0 then layout.start0 else (if g == 1 then layout.start1 else first_place (ephemeral layout))) else
        first_place (ephemeral layout)) (ephemeral-kind layout h)

    pub record StartFacts (s : SegInfo) : Type 0 where
      pub low : first_place s ≤ part_start layout g s
      pub high : part_start layout g s ≤ reserved_end s
      pub aligned : part_start layout g s % 8 ≡ 0
      pub kept : (part_start layout g s ≡ first_place s) ⊎ ((s ≡ ephemeral layout) × (g ≤ 1))

    ephemeral-start : StartFacts (ephemeral layout)
    ephemeral-start = go (g == 0) (g == 1) refl refl start-ephemeral
      where
        is : IsLawfulSegment (ephemeral layout)
        is = lawful_segment layout h (ephemeral layout) (ephemeral-in layout h)

        go : (a b : Bool) → (g == 0) ≡ a → (g == 1) ≡ b
            → part_start layout g (ephemeral layout)
            ≡ (if a then layout.start0 else (if b then layout.start1 else first_place (ephemeral layout)))
            → StartFacts (ephemeral layout)
        go true b e f q =
            let z : g ≡ 0 = eqb-true g 0 e in
            let l = h.start1_low in let m = h.start1_high in let n = h.start0_high in let (x, y) = h.aligned in
            let o : (ephemeral layout).end ≤ reserved_end (ephemeral layout) = is.high in
            record { low = omega arith; high = omega arith; aligned = omega arith; kept = inr (refl, omega arith) }
        go false true e f q =
            let z : g ≡ 1 = eqb-true g 1 f in
            let l = h.start1_low in let m = h.start1_high in let n = h.start0_high in let (x, y) = h.aligned in
            let o : (ephemeral layout).end ≤ reserved_end (ephemeral layout) = is.high in
            record { low = omega arith; high = omega arith; aligned = omega arith; kept = inr (refl, omega arith) }
        go false false e f q =
            let big : 262144 ≤ (ephemeral layout).reserved = is.least in
            let b : (ephemeral layout).base % 4096 ≡ 0 = is.base in
            record { low = omega arith; high = omega arith; aligned = omega arith; kept = inl q }

    pub start-facts : (s : SegInfo) → IsIn s segments → StartFacts s
    start-facts s i = go (same_kind Ephemeral s.kind) refl
      where
        is : IsLawfulSegment s
        is = lawful_segment layout h s (taking-is s i).2

        go : (b : Bool) → same_kind Ephemeral s.kind ≡ b → StartFacts s
        go true e = subst StartFacts (sym (ephemeral-one layout h s (taking-is s i).2 e)) ephemeral-start
        go false e =
            let q : part_start layout g s ≡ first_place s = start-other s e in
            let big : 262144 ≤ s.reserved = is.least in
            let b : s.base % 4096 ≡ 0 = is.base in
            record { low = omega arith; high = omega arith; aligned = omega arith; kept = inl q }

    -- in a young collection the ephemeral segment alone takes part
    pub young-only : (s : SegInfo) → IsIn s segments → g ≤ 1 → s ≡ ephemeral layout
    young-only s i l = go (or_cases (same_kind Ephemeral s.kind) (g == 2) (taking-is s i).1)
      where
        go : (same_kind Ephemeral s.kind ≡ true) ⊎ ((g == 2) ≡ true) → s ≡ ephemeral layout
        go (inl e) = ephemeral-one layout h s (taking-is s i).2 e
        go (inr e) = let z : g ≡ 2 = eqb-true g 2 e in absurd (omega arith)

    head-in : (ss : List SegInfo) (s : SegInfo) → IsIn s ss → IsIn (segment_or_empty ss) ss
    head-in [] s i = elim i [ ]
    head-in (t ∷ ss) s i = first

    pub first-in : IsIn (segment_or_empty segments) segments
    first-in = head-in segments (ephemeral layout) ephemeral-takes

    head-lowest : (ss : List SegInfo) → AreDisjoint ss → (s : SegInfo) → IsIn s ss
        → (s ≡ segment_or_empty ss) ⊎ (reserved_end (segment_or_empty ss) ≤ s.base)
    head-lowest (t ∷ ss) d s first = inl refl
    head-lowest (t ∷ ss) d s (later i) = inr (all_at (λ (r : SegInfo). reserved_end t ≤ r.base) i d.0)
    head-lowest [] d s i = elim i [ ]

    -- the pointer begins at or below the start of each part
    pub pointer-lowest : (s : SegInfo) → IsIn s segments → first_pointer layout g segments ≤ part_start layout g s
    pointer-lowest s i = go (head-lowest segments
        (filter-disjoint (λ (s : SegInfo). is_small_or_ephemeral s.kind && has_condemned_part g s) layout.segments
        h.disjoint) s i)
      where
        go : (s ≡ segment_or_empty segments) ⊎ (reserved_end (segment_or_empty segments) ≤ s.base)
            → first_pointer layout g segments ≤ part_start layout g s
        go (inl e) = let q : part_start layout g s ≡ first_pointer layout g segments = ap (part_start layout g) e in
            omega arith
        go (inr l) =
            let a : part_start layout g (segment_or_empty segments) ≤ reserved_end (segment_or_empty segments) =
            (start-facts (segment_or_empty segments) first-in).high in
            let b : first_place s ≤ part_start layout g s = (start-facts s i).low in
            omega arith

    pub start-each : (s : SegInfo) → IsIn s segments
        → (part_start layout g s ≡ first_pointer layout g segments) ⊎ (part_start layout g s ≡ first_place s)
    start-each s i = go (start-facts s i).kept
      where
        go : (part_start layout g s ≡ first_place s) ⊎ ((s ≡ ephemeral layout) × (g ≤ 1))
            → (part_start layout g s ≡ first_pointer layout g segments) ⊎ (part_start layout g s ≡ first_place s)
        go (inl e) = inr e
        go (inr (e, l)) = inl (ap (part_start layout g) (e ∙ sym (young-only (segment_or_empty segments) first-in l)))

    pub highest : (t : SegInfo) → IsIn t segments → reserved_end t ≤ reserved_end (ephemeral layout)
    highest t i = go (ephemeral-highest layout h t (taking-is t i).2 (taking-is t i).0)
      where
        go : (t ≡ ephemeral layout) ⊎ (reserved_end t ≤ (ephemeral layout).base)
            → reserved_end t ≤ reserved_end (ephemeral layout)
        go (inl e) = let q : reserved_end t
            ≡ reserved_end (ephemeral layout) = ap (λ (u : SegInfo). u.base + u.reserved) e in omega arith
        go (inr l) = omega arith

    pub alone : (g == 0) ≡ true → (first_place (ephemeral layout) ≤ first_pointer layout g segments)
        × (layout.start1 ≤ first_pointer layout g segments)
    alone e =
        let z : g ≡ 0 = eqb-true g 0 e in
        let same : segment_or_empty segments
        ≡ ephemeral layout = young-only (segment_or_empty segments) first-in (omega arith) in
        let q : first_pointer layout g segments ≡ layout.start0 = ap (part_start layout g) same ∙ start-ephemeral
        ∙ ap (λ b. if b then layout.start0 else (if g == 1 then layout.start1 else first_place (ephemeral layout)))
        e in
        let l = h.start1_low in let m = h.start1_high in
        (omega arith, omega arith)

    -- in a young collection the pointer begins where the ephemeral segment's part does
    pub pointer-young : g ≤ 1 → first_pointer layout g segments ≡ part_start layout g (ephemeral layout)
    pointer-young l = ap (part_start layout g) (young-only (segment_or_empty segments) first-in l)
