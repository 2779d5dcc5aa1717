-- The survivors of a machine and the items of its memory that stay: in each segment the same ranges, and the same gaps.
use Rattle.std.proofs.Common.{◌≡◌, ℕ, zero, suc, ◌+◌, ◌-◌, ◌<◌, ◌≤◌, ◌⊎◌, inl, inr, List, [], ◌∷◌, ◌++◌, map, filter}
use Rattle.std.proofs.Common.{length, get_or, refl, sym, ap, subst, ◌∙◌, arith, Bool, true, false, not, if◌then◌else◌}
use Rattle.std.proofs.Common.{◌&&◌, ◌||◌, ◌==◌, nat_eq}
use Rattle.std.proofs.lemmas.Bool.{and_from, and_parts, both_ways, cases_order, eq-eqb, eqb-true, le-leb, or_cases}
use Rattle.std.specs.List.{flat_map}
use Rattle.clr_types.specs.Rising.{IsIn, first, later}
use Rattle.clr_types.specs.Types.{TypeRow}
use Rattle.clr_types.specs.Ranges.{end_of_last, Piece}
use Rattle.clr_types.specs.Segments.{empty_segment, ephemeral, first_place, generation, Layout, rest_pieces, same_kind}
use Rattle.clr_types.specs.Segments.{stands_in}
use Rattle.clr_types.specs.LawfulLayout.{DoesNotCross}
use Rattle.clr_types.specs.declared.item.Item.{Item}
use Rattle.clr_types.specs.declared.segment.SegInfo.{SegInfo}
use Rattle.clr_types.specs.declared.segment.SegKind.TheVariants.{Ephemeral}
use Rattle.clr_types.proofs.ChangedLists.{append_left, into_filter, IsIn-map, out_of_filter}
use Rattle.clr_types.proofs.ListMembers.{append_right, from-map}
use Rattle.clr_types.proofs.RisingLists.{all_at, in_cons}
use Rattle.clr_types.proofs.SegmentFacts.{AreSeparate, between-stands, ephemeral-in, ephemeral-kind, lawful_segment}
use Rattle.clr_types.proofs.SegmentFacts.{one_home, separate, stands-between}
use Rattle.clr_types.proofs.HighestSegment.{ephemeral-one}
use Rattle.clr_types.proofs.SortedLists.{into_sorted_by, rising_agree_by}
use Rattle.clr_heap.specs.Parts.{item_piece}
use Rattle.clr_heap.specs.View.{first_of, heap_items, HeapView, IsHeap, last_of, listing, listings, no_rests}
use Rattle.clr_heap.specs.View.{segment_at, word_of}
use Rattle.clr_heap.proofs.Framing.{lawful_at}
use Rattle.clr_heap.proofs.Staying.{segment_order}
use Rattle.clr_model.specs.Lawful.{IsLaid}
use Rattle.clr_model.specs.Lookups.{object_piece, pieces}
use Rattle.clr_model.specs.Machine.{Machine, Object}
use Rattle.clr_model.specs.Sweep.{is_condemned, part_start, sections, Survivor, survivor, survivor_piece}
use Rattle.clr_model.specs.Sweep.{survivor_pieces, survivors, swept_end, swept_free}
use Rattle.clr_model.proofs.LawfulPieces.{object-in-pieces, piece-home}
use Rattle.clr_model.proofs.LawfulSurvivors.{generation-least}
use Rattle.clr_model.proofs.SweptLawful.{kept_are, swept-is}
use Rattle.clr_model.proofs.SweptTiles.{chain}
use Rattle.clr_view.specs.Marks.{has_mark}
use Rattle.clr_view.specs.View.{free_among, IsHeld, is_free, is_object, layout_in, object_in, objects_in}
use Rattle.clr_view.proofs.Items.{IsItem}
use Rattle.clr_view.proofs.Listed.{listed-in, listed-sized}
use Rattle.clr_view.proofs.Listings.{heap-cut, listing-are}
use Rattle.clr_view.specs.Memory.{TestsMarks}
use Rattle.clr_sweep.specs.SweptItems.{is_cut, stays, swept_items, swept_last}
use Rattle.clr_sweep.proofs.SectionsSwept.{AreFilled, end_same, IsRun, kept_pieces, kept-rise, section_gaps, swept_gaps}
use Rattle.clr_sweep.proofs.ObjectsSwept.{listing-filled, stays-object}

-- a machine of these types whose objects and layout are those of the heap
abbrev pub seen : List TypeRow → HeapView → Machine → Machine
seen rows h m = record m { types = rows; objects = objects_in rows h; layout = layout_in rows h }

-- the element at an index is a member
pub at-in : {X : Type 0} (xs : List X) (k : ℕ) (d : X) → k < length xs → IsIn (get_or xs k d) xs
at-in [] k d l = absurd (omega arith)
at-in (x ∷ xs) zero d l = first
at-in (x ∷ xs) (suc k) d l = later (at-in xs k d (omega arith))

-- an item of a segment is one of the heap's
pub listed-from : (rows : List TypeRow) (h : HeapView) (k : ℕ) (i : Item) → k < length h.segments
    → IsIn i (listing rows h k) → IsIn i (heap_items rows h)
listed-from rows h k i l m =
    let rest = listings rows h (k + 1) (length h.segments - (k + 1)) in
    subst (λ (is : List Item). IsIn i is) (sym (heap-cut rows h k (length h.segments) l))
    (append_right (listings rows h 0 k) (append_left rest m))

-- every segment takes part from its first place on
pub part-start : (layout : Layout) (t : SegInfo) → part_start layout 2 t ≡ first_place t
part-start layout t = go (same_kind Ephemeral t.kind)
  where
    go : (b : Bool) → (if b then first_place t else first_place t) ≡ first_place t
    go true = refl
    go false = refl

module _ (rows : List TypeRow) (old : HeapView) (base : Machine) (heap : IsHeap old) (held : IsHeld rows old)
    (none : old.rests ≡ no_rests) (laid : IsLaid (seen rows old base)) where
  abbrev m : Machine
  m = seen rows old base

  abbrev keep : Item → Bool
  keep = stays (word_of old)

  -- the item stands in the segment that lists it
  pub stands-at : (k : ℕ) → k < length old.segments → (i : Item) → IsIn i (listing rows old k)
      → IsItem rows (first_of old k) (last_of old k) i
  stands-at k l i n = all_at (IsItem rows (first_of old k) (last_of old k)) n (listing-are rows old held.walkable k l)

  -- and no other segment lists it
  pub listed-where : (i : Item) → IsIn i (heap_items rows old) → (k : ℕ) → k < length old.segments
      → stands_in (segment_at old k) i.place ≡ true → IsIn i (listing rows old k)
  listed-where i l k inside stands =
      let (j, below, there) = listed-in rows old i 0 (length old.segments) l in
      let inside_j : j < length old.segments = omega arith in
      let is = stands-at j inside_j i there in
      let above = is.above in
      let under = is.below in
      let least = is.least in
      let high = (lawful_at old j heap inside_j).high in
      let (low_k, high_k) = stands-between (segment_at old k) i.place stands in
      elim (cases_order j k) [
        | inl same ↦ subst (λ n. IsIn i (listing rows old n)) same there
        | inr (inl lower) ↦ let o = segment_order old j k heap lower inside in absurd (omega arith)
        | inr (inr upper) ↦ let o = segment_order old k j heap upper inside_j in absurd (omega arith)
      ]

  -- its range is a piece of the machine
  pub object-range : (i : Item) → IsIn i (heap_items rows old) → object_piece rows (object_in rows (word_of old) i)
      ≡ item_piece i
  object-range i l = let size = listed-sized rows old i heap held l in λ k. record {
    place = i.place;
    size = sym size k;
  }

  pub item-in-pieces : (i : Item) → IsIn i (heap_items rows old) → IsIn (item_piece i) (pieces m)
  item-in-pieces i l = go (is_free i) refl
    where
      go : (b : Bool) → is_free i ≡ b → IsIn (item_piece i) (pieces m)
      go true free =
          into_sorted_by (λ (p : Piece). p.place) (item_piece i)
          ((map (object_piece rows) (objects_in rows old) ++ (layout_in rows old).free) ++ rest_pieces old.rests)
          (append_left (rest_pieces old.rests) (append_right (map (object_piece rows) (objects_in rows old))
          (IsIn-map item_piece (into_filter is_free (heap_items rows old) free l))))
      go false object =
          let is : is_object i ≡ true = ap not object in
          subst (λ p. IsIn p (pieces m)) (object-range i l) (object-in-pieces m laid (object_in rows (word_of old) i)
          (IsIn-map (object_in rows (word_of old)) (into_filter is_object (heap_items rows old) is l)))

  module _ (kept : ℕ → Bool) (tests : TestsMarks rows old 2 kept) (k : ℕ) (inside : k < length old.segments) where
    abbrev s : SegInfo
    s = segment_at old k

    abbrev stay : List Survivor
    stay = survivors m 2 kept

    abbrev qs : List Piece
    qs = survivor_pieces s stay

    two : 2 ≤ 2
    two = omega arith

    known : IsIn s old.segments
    known = at-in old.segments k empty_segment inside

    filled : AreFilled (first_of old k) (listing rows old k) (last_of old k)
    filled = listing-filled rows old held none k inside

    -- ---- the survivors of the segment are its items that stay

    out-of-survivors : (q : Piece) → IsIn q qs → IsIn q (kept_pieces keep (listing rows old k))
    out-of-survivors q n =
        let is = swept-is m laid 2 two kept s known q n in
        let (stands, piece) = out_of_filter (λ (p : Piece). stands_in s p.place) q (pieces m) is.among in
        let (i, same, there) = from-map (object_in rows (word_of old)) is.object
        (filter is_object (heap_items rows old)) is.present in
        let (object, listed) = out_of_filter is_object i (heap_items rows old) there in
        let range : q ≡ item_piece i = is.is ∙ ap (object_piece rows) same ∙ object-range i listed in
        let at : stands_in s i.place ≡ true = subst (λ (p : Piece). stands_in s p.place ≡ true) range stands in
        let mark : has_mark (word_of old i.place) ≡ true = ap (λ (o : Object). has_mark (word_of old o.place))
        (sym same) ∙ sym (tests is.object is.present is.age) ∙ is.kept_on in
        let on : keep i ≡ true = and_from (is_object i) (has_mark (word_of old i.place)) object mark in
        subst (λ p. IsIn p (kept_pieces keep (listing rows old k))) (sym range)
        (IsIn-map item_piece (into_filter keep (listing rows old k) on (listed-where i listed k inside at)))

    into-survivors : (q : Piece) → IsIn q (kept_pieces keep (listing rows old k)) → IsIn q qs
    into-survivors q n =
        let (i, range, there) = from-map item_piece q (filter keep (listing rows old k)) n in
        let (on, here) = out_of_filter keep i (listing rows old k) there in
        let listed = listed-from rows old k i inside here in
        let o = object_in rows (word_of old) i in
        let present : IsIn o m.objects =
        IsIn-map (object_in rows (word_of old)) (into_filter is_object (heap_items rows old)
        (stays-object (word_of old) i on) listed) in
        let passes : kept o.name ≡ true = tests o present (generation-least m.layout o.place)
        ∙ (and_parts (is_object i) (has_mark (word_of old i.place)) on).1 in
        let condemned : is_condemned m 2 o ≡ true =
        le-leb (generation m.layout o.place) 2 (generation-least m.layout o.place) in
        let survives : IsIn (survivor m o) stay =
        into_sorted_by (λ (s : Survivor). s.place) (survivor m o)
        (map (survivor m) (filter (λ o. is_condemned m 2 o && kept o.name) m.objects))
        (IsIn-map (survivor m) (into_filter (λ o. is_condemned m 2 o && kept o.name) m.objects
        (and_from (is_condemned m 2 o) (kept o.name) condemned passes) present)) in
        let is = stands-at k inside i here in
        let above = is.above in
        let under = is.below in
        let least = is.least in
        let high = (lawful_at old k heap inside).high in
        let stands : stands_in s i.place ≡ true = between-stands s i.place above (omega arith) in
        let home = piece-home m laid (object_piece rows o) (object-in-pieces m laid o present) in
        let same : home.home ≡ s = one_home m.layout laid.layout home.home s i.place home.among known home.stands
        stands in
        let segment : (survivor m o).segment ≡ s.base = home.base ∙ ap (λ (u : SegInfo). u.base) same in
        let among : IsIn (survivor_piece (survivor m o)) qs =
        IsIn-map survivor_piece (into_filter (λ (k : Survivor). k.segment == s.base) stay
        (eq-eqb (survivor m o).segment s.base segment) survives) in
        subst (λ p. IsIn p qs) (object-range i listed ∙ sym range) among

    -- THE SURVIVORS of the segment have the ranges of its items that stay
    pub survivors-are : qs ≡ kept_pieces keep (listing rows old k)
    survivors-are =
        rising_agree_by (λ (p : Piece). p.place) qs (kept_pieces keep (listing rows old k))
        (kept_are m laid 2 two kept s known).rise (kept-rise keep (first_of old k) (last_of old k)
        (listing rows old k) filled)
        (λ q. (out-of-survivors q, into-survivors q))

    -- ---- where the segment ends

    -- it ends with the last of them
    pub end-is : swept_last rows old k ≡ swept_end m.layout 2 stay s
    end-is = end_same keep (first_of old k) (listing rows old k)
        ∙ (λ i. end_of_last (sym (part-start m.layout s) i) (sym survivors-are i))

    -- ---- its sections

    abbrev highs : Bool → List ℕ
    highs young = if young then old.start1 ∷ old.start0 ∷ s.end ∷ [] else s.end ∷ []

    sections-are : sections m.layout 2 s ≡ chain (first_place s) (highs (same_kind Ephemeral s.kind))
    sections-are = go (same_kind Ephemeral s.kind)
      where
        go : (b : Bool) → (if b then (record { low = first_place s; high = old.start1 } ∷ [])
            ++ ((record { low = old.start1; high = old.start0 } ∷ []) ++ (record { low = old.start0; high = s.end }
            ∷ [])) else record { low = first_place s; high = s.end } ∷ []) ≡ chain (first_place s) (highs b)
        go true = refl
        go false = refl

    listed : (i : Item) → IsIn i (listing rows old k) → IsIn (item_piece i) (pieces m)
    listed i n = item-in-pieces i (listed-from rows old k i inside n)

    at-end : (i : Item) → IsIn i (listing rows old k) → (s.end ≤ i.place) ⊎ (i.place + i.size ≤ s.end)
    at-end i n = inr (stands-at k inside i n).below

    low-end : first_place s ≤ s.end
    low-end = (lawful_at old k heap inside).low

    cut-at : (q : ℕ) → is_cut old q ≡ true → (q ≡ old.start1) ⊎ (q ≡ old.start0)
    cut-at q on = elim (or_cases (nat_eq q old.start1) (nat_eq q old.start0) on) [
      | inl e ↦
          inl (eqb-true q old.start1 e)
      | inr e ↦ inr (eqb-true q old.start0 e)
    ]

    young-run : same_kind Ephemeral s.kind ≡ true → IsRun (is_cut old) (first_place s) (first_place s) (first_place s)
        s.end (highs true) (listing rows old k)
    young-run young =
        record {
          filled = filled;
          lower = omega arith;
          run = omega arith;
          ends = (bottom, (up, (top, refl)));
          whole = λ h i n l. whole h i l (in_cons n);
          cuts = λ q low high on. elim (cut-at q on) [
            | inl e ↦ subst (λ n. IsIn n (highs true)) (sym e) first
            | inr e ↦
                subst (λ n. IsIn n (highs true)) (sym e) (later first)
          ];
          cut_at = λ h n low high. cut_on h high (in_cons n);
          at_cut = λ n. refl;
        }
      where
        same : s ≡ ephemeral m.layout
        same = ephemeral-one m.layout laid.layout s known young

        bottom : first_place s ≤ old.start1
        bottom = subst (λ (u : SegInfo). first_place u ≤ old.start1) (sym same) laid.layout.start1_low

        up : old.start1 ≤ old.start0
        up = laid.layout.start1_high

        top : old.start0 ≤ s.end
        top = subst (λ (u : SegInfo). old.start0 ≤ u.end) (sym same) laid.layout.start0_high

        behind : (h : ℕ) (i : Item) → IsIn i (listing rows old k) → (h ≡ old.start0) ⊎ IsIn h (s.end ∷ [])
            → (h ≤ i.place) ⊎ (i.place + i.size ≤ h)
        behind h i l (inl e) = subst (λ n. (n ≤ i.place) ⊎ (i.place + i.size ≤ n)) (sym e)
            (all_at (DoesNotCross old.start0) (listed i l) laid.whole0)
        behind h i l (inr n) =
            elim (in_cons n) [
              | inl e ↦ subst (λ n. (n ≤ i.place) ⊎ (i.place + i.size ≤ n)) (sym e) (at-end i l)
              | inr n
                  ↦ elim n [ ]
            ]

        whole : (h : ℕ) (i : Item) → IsIn i (listing rows old k) → (h ≡ old.start1) ⊎ IsIn h (old.start0 ∷ s.end ∷ [])
            → (h ≤ i.place) ⊎ (i.place + i.size ≤ h)
        whole h i l (inl e) = subst (λ n. (n ≤ i.place) ⊎ (i.place + i.size ≤ n)) (sym e)
            (all_at (DoesNotCross old.start1) (listed i l) laid.whole1)
        whole h i l (inr n) = behind h i l (in_cons n)

        cut_at0 : (h : ℕ) → (b : Bool) → nat_eq h old.start0 ≡ true → (b || nat_eq h old.start0) ≡ true
        cut_at0 h true e = refl
        cut_at0 h false e = e

        cut_later : (h : ℕ) → h < s.end → (h ≡ old.start0) ⊎ IsIn h (s.end ∷ []) → is_cut old h ≡ true
        cut_later h l (inl e) = cut_at0 h (nat_eq h old.start1) (eq-eqb h old.start0 e)
        cut_later h l (inr n) = elim (in_cons n) [ inl e ↦ absurd (omega arith) | inr n ↦ elim n [ ] ]

        cut_on : (h : ℕ) → h < s.end → (h ≡ old.start1) ⊎ IsIn h (old.start0 ∷ s.end ∷ []) → is_cut old h ≡ true
        cut_on h l (inl e) = ap (λ b. b || nat_eq h old.start0) (eq-eqb h old.start1 e)
        cut_on h l (inr n) = cut_later h l (in_cons n)

    old-run : same_kind Ephemeral s.kind ≡ false → IsRun (is_cut old) (first_place s) (first_place s) (first_place s)
        s.end (highs false) (listing rows old k)
    old-run other =
        record {
          filled = filled;
          lower = omega arith;
          run = omega arith;
          ends = (low-end, refl);
          whole = λ h i n l. elim (in_cons n) [
            | inl e ↦ subst (λ n. (n ≤ i.place) ⊎ (i.place + i.size ≤ n)) (sym e)
                (at-end i l)
            | inr n ↦ elim n [ ]
          ];
          cuts = λ q low high on.
              absurd (uncut q low high (cut-at q on) (separate m.layout laid.layout s (ephemeral m.layout) known
              (ephemeral-in m.layout laid.layout)));
          cut_at = λ h n low high. elim (in_cons n) [ inl e ↦ absurd (omega arith) | inr n ↦ elim n [ ] ];
          at_cut = λ n. refl;
        }
      where
        uncut : (q : ℕ) → first_place s < q → q < s.end → (q ≡ old.start1) ⊎ (q ≡ old.start0)
            → AreSeparate s (ephemeral m.layout) → ⊥
        uncut q low high at (inl same) =
            both_ways (same_kind Ephemeral s.kind) other (subst (λ (u : SegInfo). same_kind Ephemeral u.kind ≡ true)
            (sym same) (ephemeral-kind m.layout laid.layout))
        uncut q low high at (inr (inl below)) =
            let a = laid.layout.start1_low in
            let b = laid.layout.start1_high in
            let c = (lawful_at old k heap inside).high in
            elim at [ inl e ↦ omega arith | inr e ↦ omega arith ]
        uncut q low high at (inr (inr above)) =
            let a = laid.layout.start1_high in
            let b = laid.layout.start0_high in
            let c = (lawful_segment m.layout laid.layout (ephemeral m.layout)
            (ephemeral-in m.layout laid.layout)).high in
            elim at [ inl e ↦ omega arith | inr e ↦ omega arith ]

    -- THE FREE ITEMS of the swept segment are those that the machine's sweep makes
    pub gaps-are : free_among (swept_items rows old k) ≡ swept_free m.layout 2 stay s
    gaps-are =
        swept_gaps keep (is_cut old) (λ i on. not_free (is_free i) (stays-object (word_of old) i on)) s.end
        (swept_last rows old k) (first_place s) (highs (same_kind Ephemeral s.kind)) (listing rows old k)
        (run (same_kind Ephemeral s.kind) refl) refl
        ∙ (λ i. flat_map (section_gaps (end-is i) (sym survivors-are i)) (sym sections-are i))
      where
        run : (b : Bool) → same_kind Ephemeral s.kind ≡ b → IsRun (is_cut old) (first_place s) (first_place s)
            (first_place s) s.end (highs b) (listing rows old k)
        run true e = young-run e
        run false e = old-run e

        not_free : (b : Bool) → not b ≡ true → b ≡ false
        not_free true e = absurd cc
        not_free false e = refl
