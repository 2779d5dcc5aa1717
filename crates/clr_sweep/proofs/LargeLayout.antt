-- The layout that a sweep of the large segments leaves is the one that the machine's sweep of that kind leaves.
use Rattle.std.proofs.Common.{◌≡◌, ◌≢◌, ◌⊎◌, inl, inr, ℕ, zero, suc, ◌+◌, ◌<◌, ◌≤◌, Bool, true, false, not, List, []}
use Rattle.std.proofs.Common.{◌∷◌, ◌++◌, filter, map, length, drop, if◌then◌else◌, ◌&&◌, ◌||◌, nat_eq}
use Rattle.std.proofs.Common.{nat_le, refl, ap, ap₂, sym, ◌∙◌, subst, arith}
use Rattle.std.proofs.lemmas.Bool.{and_from, and_parts, both_ways, cases_eq, eqb-true, le-leb}
use Rattle.std.proofs.lemmas.Bool.{or_cases}
use Rattle.std.proofs.lemmas.List.{append_assoc, drop_more, ext_get_or, get_or-map}
use Rattle.std.proofs.lemmas.List.Elements.{filter-append}
use Rattle.std.specs.List.{flat_map}
use Rattle.clr_types.specs.Ranges.{by_place, end_of_last, Piece}
use Rattle.clr_types.specs.Rising.{IsIn, IsRisingBy}
use Rattle.clr_types.specs.Segments.{empty_segment, ended_at, first_place, Layout, same_kind, stands_in}
use Rattle.clr_types.specs.Types.{TypeRow}
use Rattle.clr_types.specs.declared.item.Item.{Item}
use Rattle.clr_types.specs.declared.segment.SegInfo.{SegInfo}
use Rattle.clr_types.specs.declared.segment.SegKind.{SegKind}
use Rattle.clr_types.specs.declared.segment.SegKind.TheVariants.{Ephemeral, Large, Small, Pinned}
use Rattle.clr_types.proofs.ChangedLists.{out_of_filter, rising-distinct, rising-sorted, sorted_by-done}
use Rattle.clr_types.proofs.ListMembers.{any-from, any-in, filter-map, filter-on, filter-rises, map-map, map-on}
use Rattle.clr_types.proofs.RisingLists.{in_cons}
use Rattle.clr_types.proofs.Shuffles.{followed, IsShuffled, shuffled-right, shuffled-same, shuffled-sorts}
use Rattle.clr_types.proofs.Shuffles.{shuffled-turn}
use Rattle.clr_generations.proofs.AllBricks.{number-in}
use Rattle.clr_heap.specs.Parts.{item_piece}
use Rattle.clr_heap.specs.View.{first_of, heap_items, HeapView, IsHeap, last_of, listing, listings, no_rests}
use Rattle.clr_heap.specs.View.{segment_at, word_of}
use Rattle.clr_heap.proofs.Framing.{lawful_at}
use Rattle.clr_model.specs.Lookups.{object_piece}
use Rattle.clr_model.specs.Sweep.{has_condemned_part, is_in_part, old_sections, part_start, sections, Survivor}
use Rattle.clr_model.specs.Sweep.{survivor_pieces, swept_end, swept_free, swept_others, taking_part}
use Rattle.clr_model.proofs.CollectedLayout.{large-not_ephemeral}
use Rattle.clr_model.proofs.SweptTiles.{chain}
use Rattle.clr_view.specs.Marks.{has_mark}
use Rattle.clr_view.specs.Memory.{is_marked}
use Rattle.clr_view.specs.View.{free_among, free_in, is_free, is_object, IsHeld, layout_in, object_in}
use Rattle.clr_view.proofs.Listed.{listed-sized}
use Rattle.clr_view.proofs.Listings.{free-append, heap-rise}
use Rattle.clr_sweep.specs.SweptItems.{is_cut, stays, swept_items, swept_last}
use Rattle.clr_sweep.specs.SweptLarge.{is_large, is_large_place, TellsLarge}
use Rattle.clr_sweep.specs.SweptSegments.{AreSwept}
use Rattle.clr_sweep.proofs.Filters.{filter-all, filter-filter, filter-none}
use Rattle.clr_sweep.proofs.LargeSwept.{bounded_as, large-segments, large-walkable, listed_stands, lowered}
use Rattle.clr_sweep.proofs.LargeSwept.{one_segment, other-listing, place_large, listed_at}
use Rattle.clr_sweep.proofs.LayoutSwept.{free-rise, part-taken}
use Rattle.clr_sweep.proofs.ObjectsSwept.{listing-filled, stays-object}
use Rattle.clr_sweep.proofs.SectionsSwept.{AreFilled, end_same, IsRun, kept_pieces, section_gaps, swept_gaps}
use Rattle.clr_sweep.proofs.SurvivorsSwept.{listed-from, part-start}
use Rattle.clr_types.specs.Segments.{is_large_or_pinned}

-- ---- lists

-- one segment of these kinds more
flat-taken : (f : SegInfo → List Piece) (takes : SegInfo → Bool) (s : SegInfo) (ss : List SegInfo)
    → flat_map f (filter takes (s ∷ ss)) ≡ (if takes s then f s else []) ++ flat_map f (filter takes ss)
flat-taken f takes s ss = go (takes s)
  where
    go : (b : Bool) → flat_map f (if b then s ∷ filter takes ss else filter takes ss)
        ≡ (if b then f s else []) ++ flat_map f (filter takes ss)
    go true = refl
    go false = refl

module _ (rows : List TypeRow) (old mid : HeapView) (heap : IsHeap old) (held : IsHeld rows old)
    (none : old.rests ≡ no_rests) (heap_low : IsHeap (lowered old))
    (a : AreSwept rows (lowered old) mid (is_large (lowered old))) (new_heap : IsHeap (bounded_as old mid))
    (survive : List Survivor) (tells : TellsLarge rows old survive) where
  abbrev new : HeapView
  new = bounded_as old mid

  abbrev layout : Layout
  layout = layout_in rows old

  abbrev keep : Item → Bool
  keep = stays (word_of old)

  in-segment : (j : ℕ) → j < length old.segments → (i : Item) → IsIn i (listing rows old j)
      → stands_in (segment_at old j) i.place ≡ true
  in-segment = listed_stands rows old heap held

  -- ---- what survives in a segment

  module _ (j : ℕ) (inside : j < length old.segments) (large : is_large old j ≡ true) where
    abbrev s : SegInfo
    s = segment_at old j

    abbrev marked : Item → Bool
    marked i = is_object i && (stands_in s i.place && has_mark (word_of old i.place))

    none-else : (k : ℕ) → k < length old.segments → k ≢ j → filter marked (listing rows old k) ≡ []
    none-else k in_k ne = filter-none marked (listing rows old k) (λ i m. off i m (stands_in s i.place) refl)
      where
        off : (i : Item) → IsIn i (listing rows old k) → (b : Bool) → stands_in s i.place ≡ b → marked i ≡ false
        off i m true e = absurd (ne (one_segment old heap k j i.place in_k inside (in-segment k in_k i m) e))
        off i m false e = both (is_object i) (has_mark (word_of old i.place)) (stands_in s i.place) e
          where
            both : (x y b : Bool) → b ≡ false → (x && (b && y)) ≡ false
            both true y b e = ap (λ b. b && y) e
            both false y b e = refl

    here : filter marked (listing rows old j) ≡ filter keep (listing rows old j)
    here = filter-on marked keep (listing rows old j)
        (λ i m. ap (λ b. is_object i && (b && has_mark (word_of old i.place)))
        (in-segment j inside i m))

    outside : (i n : ℕ) → i + n ≤ length old.segments → (j < i) ⊎ (i + n ≤ j)
        → filter marked (listings rows old i n) ≡ []
    outside i zero l away = refl
    outside i (suc n) l away =
        filter-append marked (listing rows old i) (listings rows old (i + 1) n)
        ∙ ap₂ (λ (xs ys : List Item). xs ++ ys)
        (none-else i (omega arith) (λ e. elim away [ inl low ↦ omega arith | inr high ↦ omega arith ]))
        (outside (i + 1) n (omega arith) (elim away [ inl low ↦ inl (omega arith) | inr high ↦ inr (omega arith) ]))

    found : (i n : ℕ) → i + n ≤ length old.segments → i ≤ j → j < i + n
        → filter marked (listings rows old i n) ≡ filter keep (listing rows old j)
    found i zero l low high = absurd (omega arith)
    found i (suc n) l low high =
        filter-append marked (listing rows old i) (listings rows old (i + 1) n)
        ∙ go (cases_eq i j) (found (i + 1) n (omega arith))
      where
        empty : {X : Type 0} (xs : List X) → xs ++ [] ≡ xs
        empty [] = refl
        empty (x ∷ xs) = ap (λ ys. x ∷ ys) (empty xs)

        go : (i ≡ j) ⊎ (i ≢ j)
            → (i + 1 ≤ j → j < i + 1 + n → filter marked (listings rows old (i + 1) n)
            ≡ filter keep (listing rows old j))
            → filter marked (listing rows old i) ++ filter marked (listings rows old (i + 1) n)
            ≡ filter keep (listing rows old j)
        go (inl same) more =
            ap₂ (λ (xs ys : List Item). xs ++ ys)
            (ap (λ k. filter marked (listing rows old k)) same ∙ here)
            (outside (i + 1) n (omega arith) (inl (omega arith)))
            ∙ empty (filter keep (listing rows old j))
        go (inr ne) more =
            ap₂ (λ (xs ys : List Item). xs ++ ys) (none-else i (omega arith) ne) (more (omega arith) (omega arith))

    -- THE SURVIVORS of the segment have the ranges of its items that stay
    pub large-survivors : survivor_pieces (segment_at old j) survive ≡ kept_pieces (stays (word_of old))
        (listing rows old j)
    large-survivors =
        tells s (number-in old.segments j inside) large
        ∙ ap (map (object_piece rows)) (filter-map (object_in rows (word_of old))
        (λ o. stands_in s o.place && is_marked old o) (filter is_object (heap_items rows old)))
        ∙ map-map (object_in rows (word_of old)) (object_piece rows)
        (filter (λ i. stands_in s i.place && has_mark (word_of old i.place)) (filter is_object (heap_items rows old)))
        ∙ ap (map (λ i. object_piece rows (object_in rows (word_of old) i)))
        (filter-filter is_object (λ i. stands_in s i.place && has_mark (word_of old i.place)) (heap_items rows old)
        ∙ found 0 (length old.segments) (omega arith) (omega arith) (omega arith))
        ∙ map-on (λ i. object_piece rows (object_in rows (word_of old) i)) item_piece (filter keep (listing rows old j))
        (λ i m. range i (listed-from rows old j i inside (out_of_filter keep i (listing rows old j) m).1))
      where
        range : (i : Item) → IsIn i (heap_items rows old) → object_piece rows (object_in rows (word_of old) i)
            ≡ item_piece i
        range i l = let size = listed-sized rows old i heap held l in λ k. record { place = i.place; size = sym size k }

    -- the segment ends with the last of them
    pub large-end : swept_last rows old j ≡ swept_end (layout_in rows old) 2 survive (segment_at old j)
    large-end = end_same keep (first_of old j) (listing rows old j)
        ∙ (λ i. end_of_last (sym (part-start layout s) i) (sym large-survivors i))

    -- ---- its free items

    filled : AreFilled (first_of old j) (listing rows old j) (last_of old j)
    filled = listing-filled rows old held none j inside

    one-section : sections layout 2 s ≡ chain (first_place s) (s.end ∷ [])
    one-section = ap (λ b. if b then old_sections layout 2 s ++ (record { low = layout.start0; high = s.end } ∷ [])
        else record { low = first_place s; high = s.end } ∷ []) (large-not_ephemeral s.kind large)

    run : IsRun (is_cut (lowered old)) (first_place s) (first_place s) (first_place s) s.end (s.end ∷ [])
        (listing rows old j)
    run = record {
      filled = filled;
      lower = omega arith;
      run = omega arith;
      ends = ((lawful_at old j heap inside).low, refl);
      whole = λ h i n l. elim (in_cons n) [
        | inl e ↦ subst (λ n. (n ≤ i.place) ⊎ (i.place + i.size ≤ n)) (sym e)
            (inr (listed_at rows old heap held j inside i l).below)
        | inr n ↦ elim n [ ]
      ];
      cuts = λ q low high on. absurd (elim (or_cases (nat_eq q 0) (nat_eq q 0) on) [
        | inl e ↦ (let z = eqb-true q 0 e in omega arith)
        | inr e ↦ (let z = eqb-true q 0 e in omega arith)
      ]);
      cut_at = λ h n low high. elim (in_cons n) [ inl e ↦ absurd (omega arith) | inr n ↦ elim n [ ] ];
      at_cut = λ n. refl;
    }

    -- THE FREE ITEMS of the segment are those that the machine's sweep makes
    pub large-gaps : free_among (swept_items rows (lowered old) j) ≡ swept_free (layout_in rows old) 2 survive
        (segment_at old j)
    large-gaps =
        swept_gaps keep (is_cut (lowered old)) (λ i on. not_free (is_free i) (stays-object (word_of old) i on)) s.end
        (swept_last rows old j) (first_place s) (s.end ∷ []) (listing rows old j) run refl
        ∙ (λ i. flat_map (section_gaps (large-end i) (sym large-survivors i)) (sym one-section i))
      where
        not_free : (b : Bool) → not b ≡ true → b ≡ false
        not_free true e = absurd cc
        not_free false e = refl

  -- ---- the segments

  abbrev change : SegInfo → SegInfo
  change t = if is_large_or_pinned t.kind && has_condemned_part 2 t then record t { end = swept_end layout 2 survive t }
      else t

  large-taken : (t : SegInfo) → (is_large_or_pinned t.kind && has_condemned_part 2 t) ≡ is_large_or_pinned t.kind
  large-taken t = go t.kind
    where
      go : (k : SegKind) → (is_large_or_pinned k && (same_kind Ephemeral k || true)) ≡ is_large_or_pinned k
      go Small = refl
      go Ephemeral = refl
      go Large = refl
      go Pinned = refl

  changed : (j : ℕ) → j < length old.segments → segment_at mid j ≡ change (segment_at old j)
  changed j l =
      large-segments rows old mid heap held none heap_low a j l ∙ end (is_large old j) refl
      ∙ sym (ap (λ b. if b then ended_at (swept_end layout 2 survive (segment_at old j)) (segment_at old j)
      else segment_at old j) (large-taken (segment_at old j)))
    where
      end : (b : Bool) → is_large old j ≡ b
          → (if is_large old j then ended_at (swept_last rows old j) (segment_at old j) else segment_at old j)
          ≡ (if is_large old j then ended_at (swept_end layout 2 survive (segment_at old j)) (segment_at old j)
          else segment_at old j)
      end true on = ap (λ n. if is_large old j then ended_at n (segment_at old j) else segment_at old j)
          (large-end j l on)
      end false off =
          ap (λ b. if b then ended_at (swept_last rows old j) (segment_at old j) else segment_at old j) off
          ∙ sym (ap (λ b. if b then ended_at (swept_end layout 2 survive (segment_at old j)) (segment_at old j)
          else segment_at old j) off)

  same_count : (f : SegInfo → SegInfo) (ts : List SegInfo) → length (map f ts) ≡ length ts
  same_count f [] = refl
  same_count f (t ∷ ts) = ap suc (same_count f ts)

  segments-are : mid.segments ≡ map change old.segments
  segments-are =
      ext_get_or empty_segment mid.segments (map change old.segments) (a.count ∙ sym (same_count change old.segments))
      (λ j l. (let c = a.count in
      let inside : j < length old.segments = omega arith in
      changed j inside ∙ sym (get_or-map change old.segments j empty_segment empty_segment inside)))

  -- ---- the free items

  abbrev in_part : Piece → Bool
  in_part = is_in_part (is_large_or_pinned) layout 2

  abbrev fresh : SegInfo → List Piece
  fresh = swept_free layout 2 survive

  abbrev takes : SegInfo → Bool
  takes t = is_large_or_pinned t.kind && has_condemned_part 2 t

  -- an item stands in a part that is swept where its segment is large
  part-is : (j : ℕ) → j < length old.segments → (i : Item) → IsIn i (listing rows old j)
      → in_part (item_piece i) ≡ is_large old j
  part-is j l i m = go (is_large old j) refl
    where
      stands : stands_in (segment_at old j) i.place ≡ true
      stands = in-segment j l i m

      above : part_start layout 2 (segment_at old j) ≤ i.place
      above = let e = part-start layout (segment_at old j) in
          let up = (listed_at rows old heap held j l i m).above in omega (arith, e, up)

      away : is_large old j ≡ false → (b : Bool) → in_part (item_piece i) ≡ b → in_part (item_piece i) ≡ false
      away off false e = e
      away off true e =
          let (t, known, test) =
          any-in (λ (t : SegInfo). is_large_or_pinned t.kind
          && (has_condemned_part 2 t && (stands_in t i.place && nat_le (part_start layout 2 t) i.place))) old.segments
          e in
          let (kind, rest) = and_parts (is_large_or_pinned t.kind)
          (has_condemned_part 2 t && (stands_in t i.place && nat_le (part_start layout 2 t) i.place)) test in
          let (condemned, at) = and_parts (has_condemned_part 2 t)
          (stands_in t i.place && nat_le (part_start layout 2 t) i.place) rest in
          let (there, over) = and_parts (stands_in t i.place) (nat_le (part_start layout 2 t) i.place) at in
          let large : is_large_place old i.place ≡ true =
          any-from (λ (s : SegInfo). is_large_or_pinned s.kind && stands_in s i.place) old.segments t known
          (and_from (is_large_or_pinned t.kind) (stands_in t i.place) kind there) in
          absurd (both_ways (is_large old j) off (sym (place_large old heap j i.place l stands) ∙ large))

      go : (b : Bool) → is_large old j ≡ b → in_part (item_piece i) ≡ is_large old j
      go true on =
          any-from (λ (t : SegInfo). is_large_or_pinned t.kind
          && (has_condemned_part 2 t && (stands_in t i.place && nat_le (part_start layout 2 t) i.place))) old.segments
          (segment_at old j) (number-in old.segments j l)
          (and_from (is_large_or_pinned (segment_at old j).kind)
          (has_condemned_part 2 (segment_at old j) && (stands_in (segment_at old j) i.place
          && nat_le (part_start layout 2 (segment_at old j)) i.place)) on
          (and_from (has_condemned_part 2 (segment_at old j)) (stands_in (segment_at old j) i.place
          && nat_le (part_start layout 2 (segment_at old j)) i.place) (part-taken (segment_at old j).kind)
          (and_from (stands_in (segment_at old j) i.place) (nat_le (part_start layout 2 (segment_at old j)) i.place)
          stands (le-leb (part_start layout 2 (segment_at old j)) i.place above)))) ∙ sym on
      go false off = away off (in_part (item_piece i)) refl ∙ sym off

  -- the free items of a segment that aren't swept
  abbrev others : List Item → List Piece
  others items = filter (λ p. not (in_part p)) (free_among items)

  others-are : (items : List Item) → others items
      ≡ map item_piece (filter (λ i. not (in_part (item_piece i))) (filter is_free items))
  others-are items = filter-map item_piece (λ p. not (in_part p)) (filter is_free items)

  none-large : (j : ℕ) → j < length old.segments → is_large old j ≡ true → others (listing rows old j) ≡ []
  none-large j l on =
      others-are (listing rows old j)
      ∙ ap (map item_piece) (filter-none (λ i. not (in_part (item_piece i))) (filter is_free (listing rows old j))
      (λ i m. ap not (part-is j l i (out_of_filter is_free i (listing rows old j) m).1 ∙ on)))

  all-other : (j : ℕ) → j < length old.segments → is_large old j ≡ false → others (listing rows old j)
      ≡ free_among (listing rows old j)
  all-other j l off =
      others-are (listing rows old j)
      ∙ ap (map item_piece) (filter-all (λ i. not (in_part (item_piece i))) (filter is_free (listing rows old j))
      (λ i m. ap not (part-is j l i (out_of_filter is_free i (listing rows old j) m).1 ∙ off)))

  others-append : (xs ys : List Item) → others (xs ++ ys) ≡ others xs ++ others ys
  others-append xs ys = ap (filter (λ p. not (in_part p))) (free-append xs ys)
      ∙ filter-append (λ p. not (in_part p)) (free_among xs) (free_among ys)

  -- the free items of the new heap are those others and the new ones, in some order
  shuffled : (i n : ℕ) → i + n ≡ length old.segments → IsShuffled (free_among (listings rows new i n))
      (others (listings rows old i n) ++ flat_map fresh (filter takes (drop i old.segments)))
  shuffled i zero at = subst (λ (ts : List SegInfo). IsShuffled [] (flat_map fresh (filter takes ts)))
      (sym (past old.segments i (omega arith))) (shuffled-same [])
    where
      past : {X : Type 0} (xs : List X) (i : ℕ) → length xs ≤ i → drop i xs ≡ []
      past [] zero l = refl
      past [] (suc i) l = refl
      past (x ∷ xs) zero l = absurd (omega arith)
      past (x ∷ xs) (suc i) l = past xs i (omega arith)
  shuffled i (suc n) at =
      subst (λ (ps : List Piece). IsShuffled ps (others (listings rows old i (suc n))
      ++ flat_map fresh (filter takes (drop i old.segments))))
      (sym (free-append (listing rows new i) (listings rows new (i + 1) n)))
      (subst (λ (ps : List Piece). IsShuffled (free_among (listing rows new i) ++ free_among (listings rows new (i + 1)
      n)) ps)
      (sym (ap₂ (λ (xs ys : List Piece). xs ++ ys) (others-append (listing rows old i) (listings rows old (i + 1) n))
      (ap (λ ts. flat_map fresh (filter takes ts)) (drop_more old.segments i empty_segment inside)
      ∙ flat-taken fresh takes (segment_at old i) (drop (i + 1) old.segments))))
      (go (is_large old i) refl (shuffled (i + 1) n (omega arith))))
    where
      inside : i < length old.segments
      inside = omega arith

      rest : List Piece
      rest = others (listings rows old (i + 1) n)

      more : List Piece
      more = flat_map fresh (filter takes (drop (i + 1) old.segments))

      Goal : List Piece → List Piece → List Piece → Type 0
      Goal here kept made = IsShuffled (here ++ free_among (listings rows new (i + 1) n))
          ((kept ++ rest) ++ (made ++ more))

      go : (b : Bool) → is_large old i ≡ b → IsShuffled (free_among (listings rows new (i + 1) n)) (rest ++ more)
          → Goal (free_among (listing rows new i)) (others (listing rows old i))
          (if takes (segment_at old i) then fresh (segment_at old i) else [])
      go true on tail =
          let made : free_among (listing rows new i) ≡ fresh (segment_at old i) =
          ap free_among (a.done i inside on).items ∙ large-gaps i inside on in
          let taken : takes (segment_at old i) ≡ true = large-taken (segment_at old i) ∙ on in
          subst (λ (ps : List Piece). Goal ps (others (listing rows old i))
          (if takes (segment_at old i) then fresh (segment_at old i) else [])) (sym made)
          (subst (λ (ps : List Piece). Goal (fresh (segment_at old i)) ps
          (if takes (segment_at old i) then fresh (segment_at old i) else [])) (sym (none-large i inside on))
          (subst (λ (b : Bool). Goal (fresh (segment_at old i)) [] (if b then fresh (segment_at old i) else []))
          (sym taken)
          (followed (shuffled-right (fresh (segment_at old i)) tail)
          (shuffled-turn (fresh (segment_at old i)) rest more))))
      go false off tail =
          let same : free_among (listing rows new i) ≡ free_among (listing rows old i) =
          ap free_among (other-listing rows old mid heap held none heap_low a i inside off) in
          let left : takes (segment_at old i) ≡ false = large-taken (segment_at old i) ∙ off in
          subst (λ (ps : List Piece). Goal ps (others (listing rows old i))
          (if takes (segment_at old i) then fresh (segment_at old i) else [])) (sym same)
          (subst (λ (ps : List Piece). Goal (free_among (listing rows old i)) ps
          (if takes (segment_at old i) then fresh (segment_at old i) else [])) (sym (all-other i inside off))
          (subst (λ (b : Bool). Goal (free_among (listing rows old i)) (free_among (listing rows old i))
          (if b then fresh (segment_at old i) else [])) (sym left)
          (subst (λ (ps : List Piece). IsShuffled (free_among (listing rows old i)
          ++ free_among (listings rows new (i + 1) n)) ps)
          (sym (append_assoc (free_among (listing rows old i)) rest more))
          (shuffled-right (free_among (listing rows old i)) tail))))

  -- THE FREE ITEMS are those that the machine's sweep leaves
  free-are : free_in rows new ≡ by_place (others (heap_items rows old) ++ flat_map fresh
      (taking_part (is_large_or_pinned) 2 layout))
  free-are =
      sym (sorted_by-done (λ (p : Piece). p.place) (free_in rows new) (rising-sorted (λ (p : Piece). p.place)
      (free_in rows new) rises))
      ∙ shuffled-sorts (λ (p : Piece). p.place)
      (subst (λ n. IsShuffled (free_among (listings rows new 0 n)) (others (heap_items rows old)
      ++ flat_map fresh (taking_part (is_large_or_pinned) 2 layout))) (sym a.count)
      (shuffled 0 (length old.segments) (omega arith)))
      (rising-distinct (λ (p : Piece). p.place) (free_in rows new) rises)
    where
      rises : IsRisingBy (λ (p : Piece). p.place) (free_in rows new)
      rises = free-rise (filter is_free (heap_items rows new)) (filter-rises is_free (λ (i : Item). i.place)
          (heap_items rows new) (heap-rise rows new (large-walkable rows old mid heap held none heap_low a) new_heap))

  -- THE LAYOUT is the one that the machine's sweep leaves
  pub large-layout : layout_in rows (bounded_as old mid) ≡ swept_others (layout_in rows old) 2 survive
  large-layout =
      let rests : mid.rests ≡ old.rests = ap (λ (h : HeapView). h.rests) a.others in
      let top : mid.top ≡ old.top = ap (λ (h : HeapView). h.top) a.others in
      let segments = segments-are in
      let free = free-are in
      λ i. record {
        segments = segments i;
        start1 = old.start1;
        start0 = old.start0;
        free = free i;
        rests = rests i;
        top = top i;
      }
