-- The parts of the ephemeral segment: what isn't condemned, what is older, and generation 0.
use Rattle.std.proofs.Common.{◌≡◌, ℕ, ◌+◌, ◌%◌, ◌<◌, ◌≤◌, ◌⊎◌, inl, List, [], ◌∷◌, ◌++◌, map, filter, length, refl, sym}
use Rattle.std.proofs.Common.{ap, ap₂, subst, ◌∙◌, arith, Bool, true, false, not, ◌&&◌, ◌||◌, ◌==◌, nat_le, nat_lt}
use Rattle.std.proofs.Common.{if◌then◌else◌}
use Rattle.std.proofs.lemmas.Bool.{eqb-true, le-leb, lt-leb, lt-ltb, le-ltb}
use Rattle.std.proofs.lemmas.List.{map-append}
use Rattle.std.proofs.lemmas.List.Elements.{filter-append}
use Rattle.clr_types.specs.Rising.{IsIn, first, later}
use Rattle.clr_types.specs.Types.{TypeRow}
use Rattle.clr_types.specs.Ranges.{Piece}
use Rattle.clr_types.specs.LawfulLayout.{DoesNotCross}
use Rattle.clr_types.specs.Segments.{empty_segment, ephemeral, first_place, generation, is_small_or_ephemeral, Layout}
use Rattle.clr_types.specs.Segments.{rest_pieces, same_kind, stands_in}
use Rattle.clr_types.specs.declared.item.Item.{Item}
use Rattle.clr_types.specs.declared.segment.SegInfo.{SegInfo}
use Rattle.clr_types.specs.declared.segment.SegKind.TheVariants.{Ephemeral}
use Rattle.clr_types.proofs.ChangedLists.{append_left, into_filter, IsIn-map}
use Rattle.clr_types.proofs.ListMembers.{append_right, filter-on}
use Rattle.clr_types.proofs.RisingLists.{all_at}
use Rattle.clr_types.proofs.SortedLists.{into_sorted_by}
use Rattle.clr_types.proofs.SegmentFacts.{between-stands, ephemeral-kind}
use Rattle.clr_heap.specs.Parts.{item_piece, parts}
use Rattle.clr_heap.specs.View.{first_of, heap_items, HeapView, IsHeap, items_between, last_of, listing, no_rests}
use Rattle.clr_heap.specs.View.{segment_at, sight, word_of}
use Rattle.clr_heap.proofs.Framing.{lawful_at}
use Rattle.clr_model.specs.Lawful.{IsLaid}
use Rattle.clr_model.specs.Lookups.{object_piece, pieces}
use Rattle.clr_model.specs.Machine.{Machine}
use Rattle.clr_model.specs.Sweep.{part_start}
use Rattle.clr_model.proofs.LawfulPieces.{object-in-pieces}
use Rattle.clr_model.proofs.LawfulSurvivors.{aged}
use Rattle.clr_view.specs.View.{IsHeld, is_free, is_object, layout_in, object_in, objects_in}
use Rattle.clr_view.proofs.Items.{IsItem, items-are}
use Rattle.clr_view.proofs.Listed.{listed-sized}
use Rattle.clr_sweep.specs.SweptItems.{stays}
use Rattle.clr_sweep.proofs.SurvivorsSwept.{at-in, listed-from, seen}
use Rattle.clr_plan.specs.Scans.{CanScan, survivor_in, survivors_between}
use Rattle.clr_plan.proofs.SplitScans.{IsSplit, scan-segment, scan-split}

pub filter-none : {X : Type 0} (test : X → Bool) (xs : List X) → ((x : X) → IsIn x xs → test x ≡ false) → filter test xs
    ≡ []
filter-none test [] off = refl
filter-none test (x ∷ xs) off = ap (λ b. if b then x ∷ filter test xs else filter test xs) (off x first)
    ∙ filter-none test xs (λ y i. off y (later i))

pub and-true : (b : Bool) → (b && true) ≡ b
and-true true = refl
and-true false = refl

pub and-false : (b : Bool) → (b && false) ≡ false
and-false true = refl
and-false false = refl

module _ (rows : List TypeRow) (h : HeapView) (base : Machine) (heap : IsHeap h) (held : IsHeld rows h) (none : h.rests
    ≡ no_rests) (laid : IsLaid (seen rows h base)) (g : ℕ) (least : g ≤ 2) (e : ℕ) (inside : e < length h.segments)
    (young : segment_at h e ≡ ephemeral (layout_in rows h)) where
  abbrev m : Machine
  m = seen rows h base

  abbrev layout : Layout
  layout = layout_in rows h

  abbrev s : SegInfo
  s = segment_at h e

  known : IsIn s h.segments
  known = at-in h.segments e empty_segment inside

  pub kind-is : same_kind Ephemeral s.kind ≡ true
  kind-is = ap (λ (u : SegInfo). same_kind Ephemeral u.kind) young ∙ ephemeral-kind layout laid.layout

  -- ---- where its part starts

  abbrev start : ℕ
  start = part_start layout g s

  pub start-at : start ≡ (if g == 0 then h.start0 else (if g == 1 then h.start1 else first_of h e))
  start-at = ap (λ b. if b then (if g == 0 then h.start0 else (if g == 1 then h.start1 else first_of h e)) else first_of
      h e) kind-is

  low1 : first_of h e ≤ h.start1
  low1 = subst (λ (u : SegInfo). first_place u ≤ h.start1) (sym young) laid.layout.start1_low

  low0 : h.start1 ≤ h.start0
  low0 = laid.layout.start1_high

  top0 : h.start0 ≤ last_of h e
  top0 = subst (λ (u : SegInfo). h.start0 ≤ u.end) (sym young) laid.layout.start0_high

  pub record StartFacts : Type 0 where
    pub low : first_of h e ≤ start
    pub high : start ≤ h.start0
    pub aligned : start % 8 ≡ 0

  pub start-facts : StartFacts
  start-facts = go (g == 0) (g == 1) start-at
    where
      go : (a b : Bool) → start ≡ (if a then h.start0 else (if b then h.start1 else first_of h e)) → StartFacts
      go true b q = let l = low1 in let o = low0 in let (x, y) = laid.layout.aligned in
          record { low = omega arith; high = omega arith; aligned = omega arith }
      go false true q = let l = low1 in let o = low0 in let (x, y) = laid.layout.aligned in
          record { low = omega arith; high = omega arith; aligned = omega arith }
      go false false q = let l = low1 in let o = low0 in let z : s.base % 4096 ≡ 0 = (lawful_at h e heap inside).base in
          record { low = omega arith; high = omega arith; aligned = omega arith }

  -- ---- items cross no boundary

  item-in-pieces : (i : Item) → IsIn i (heap_items rows h) → IsIn (item_piece i) (pieces m)
  item-in-pieces i l = go (is_free i) refl
    where
      range : object_piece rows (object_in rows (word_of h) i) ≡ item_piece i
      range = let size = listed-sized rows h i heap held l in λ k. record { place = i.place; size = sym size k }

      go : (b : Bool) → is_free i ≡ b → IsIn (item_piece i) (pieces m)
      go true free =
          into_sorted_by (λ (p : Piece). p.place) (item_piece i)
          ((map (object_piece rows) (objects_in rows h) ++ (layout_in rows h).free) ++ rest_pieces h.rests)
          (append_left (rest_pieces h.rests) (append_right (map (object_piece rows) (objects_in rows h))
          (IsIn-map item_piece (into_filter is_free (heap_items rows h) free l))))
      go false object =
          let is : is_object i ≡ true = ap not object in
          subst (λ p. IsIn p (pieces m)) range (object-in-pieces m laid (object_in rows (word_of h) i)
          (IsIn-map (object_in rows (word_of h)) (into_filter is_object (heap_items rows h) is l)))

  listed : (i : Item) → IsIn i (listing rows h e) → IsIn (item_piece i) (pieces m)
  listed i n = item-in-pieces i (listed-from rows h e i inside n)

  pub all-scan : CanScan rows h e (first_of h e) (last_of h e)
  all-scan = scan-segment rows h e heap inside (held.walkable e inside) none

  item-between : (p c : ℕ) → CanScan rows h e p c → (i : Item) → IsIn i (items_between (sight rows h e) p c)
      → IsItem rows p c i
  item-between p c scan i n = all_at (IsItem rows p c) n (items-are (sight rows h e) (parts c (sight rows h e) p c) p c
      scan.walk.start scan.walk.spelled)

  pub at-start : IsSplit rows h e (first_of h e) start (last_of h e)
  at-start =
      let f = start-facts in
      let low = f.low in
      let high = f.high in
      let t = top0 in
      scan-split rows h e (first_of h e) start (last_of h e) all-scan f.aligned low (omega arith)
      (λ i n. go (g == 0) (g == 1) start-at i n)
    where
      go : (a b : Bool) → start ≡ (if a then h.start0 else (if b then h.start1 else first_of h e)) → (i : Item)
          → IsIn i (listing rows h e) → (start ≤ i.place) ⊎ (i.place + i.size ≤ start)
      go true b q i n = subst (λ x. (x ≤ i.place) ⊎ (i.place + i.size ≤ x)) (sym q)
          (all_at (DoesNotCross h.start0) (listed i n) laid.whole0)
      go false true q i n = subst (λ x. (x ≤ i.place) ⊎ (i.place + i.size ≤ x)) (sym q)
          (all_at (DoesNotCross h.start1) (listed i n) laid.whole1)
      go false false q i n = let a = (item-between (first_of h e) (last_of h e) all-scan i n).above in inl (omega arith)

  pub at-young : IsSplit rows h e start h.start0 (last_of h e)
  at-young =
      let f = start-facts in
      let (x, y) = laid.layout.aligned in
      scan-split rows h e start h.start0 (last_of h e) at-start.above y f.high top0
      (λ i n. all_at (DoesNotCross h.start0)
      (listed i (subst (IsIn i) (sym at-start.items)
      (append_right (items_between (sight rows h e) (first_of h e) start) n))) laid.whole0)

  -- ---- ages

  abbrev age : ℕ → ℕ
  age place = generation layout place

  age-is : (place : ℕ) → first_of h e ≤ place → place < last_of h e → age place
      ≡ (if nat_lt place h.start1 then 2 else (if nat_lt place h.start0 then 1 else 0))
  age-is place low high =
      let top = (lawful_at h e heap inside).high in
      let stands : stands_in (ephemeral layout) place ≡ true = subst (λ (u : SegInfo). stands_in u place ≡ true) young
      (between-stands s place low (omega arith)) in
      ap (λ b. if b then (if nat_lt place h.start1 then 2 else (if nat_lt place h.start0 then 1 else 0)) else 2) stands

  pub young-age : (place : ℕ) → h.start0 ≤ place → place < last_of h e → age place ≡ 0
  young-age place low high =
      let l = low1 in let o = low0 in
      age-is place (omega arith) high
      ∙ ap (λ b. if b then 2 else (if nat_lt place h.start0 then 1 else 0)) (le-ltb place h.start1 (omega arith))
      ∙ ap (λ b. if b then 1 else 0) (le-ltb place h.start0 low)

  pub old-age : (place : ℕ) → first_of h e ≤ place → place < h.start0 → 1 ≤ age place
  old-age place low high = let t = top0 in subst (λ n. 1 ≤ n) (sym (age-is place low (omega arith)))
      (go (nat_lt place h.start1) (nat_lt place h.start0) (lt-ltb place h.start0 high))
    where
      go : (a b : Bool) → b ≡ true → 1 ≤ (if a then 2 else (if b then 1 else 0))
      go true b e = omega arith
      go false true e = omega arith
      go false false e = absurd cc

  -- below the part nothing is condemned
  below-age : (place : ℕ) → first_of h e ≤ place → place < start → g < age place
  below-age place low high = go (g == 0) (g == 1) refl refl start-at
    where
      go : (a b : Bool) → (g == 0) ≡ a → (g == 1) ≡ b → start
          ≡ (if a then h.start0 else (if b then h.start1 else first_of h e)) → g < age place
      go true b e f q = let z : g ≡ 0 = eqb-true g 0 e in let o = old-age place low (omega arith) in omega arith
      go false true e f q =
          let z : g ≡ 1 = eqb-true g 1 f in
          let o = low0 in let t = top0 in
          let two : age place ≡ 2 = age-is place low (omega arith)
          ∙ ap (λ b. if b then 2 else (if nat_lt place h.start0 then 1 else 0))
          (lt-ltb place h.start1 (omega arith)) in
          omega arith
      go false false e f q = absurd (omega arith)

  above-age : (place : ℕ) → start ≤ place → place < last_of h e → age place ≤ g
  above-age place low high =
      let f = start-facts in
      let top = (lawful_at h e heap inside).high in
      let l = f.low in
      aged m laid g least (λ n. true) s known (ap (λ b. b || (g == 2)) kind-is) place low (omega arith) (omega arith)

  -- ---- what survives

  stays_here : Item → Bool
  stays_here i = stays (word_of h) i && (nat_le (age i.place) g && is_small_or_ephemeral s.kind)

  -- THE SURVIVORS of the segment are those of the two condemned parts
  pub young-survivors : is_small_or_ephemeral s.kind ≡ true
      → map (survivor_in h e) (filter (λ i. stays (word_of h) i && (nat_le (generation layout i.place) g
      && is_small_or_ephemeral s.kind)) (listing rows h e))
      ≡ survivors_between rows h e start h.start0 ++ survivors_between rows h e h.start0 (last_of h e)
  young-survivors small =
      ap (λ is. map (survivor_in h e) (filter test is)) at-start.items
      ∙ ap (map (survivor_in h e)) (filter-append test lows highs ∙ ap₂ (λ (xs ys : List Item). xs ++ ys)
      (filter-none test lows off) (filter-on test (stays (word_of h)) highs on))
      ∙ ap (λ is. map (survivor_in h e) (filter (stays (word_of h)) is)) at-young.items
      ∙ ap (map (survivor_in h e)) (filter-append (stays (word_of h)) (items_between (sight rows h e) start h.start0)
      (items_between (sight rows h e) h.start0 (last_of h e)))
      ∙ map-append (survivor_in h e) (filter (stays (word_of h)) (items_between (sight rows h e) start h.start0))
      (filter (stays (word_of h)) (items_between (sight rows h e) h.start0 (last_of h e)))
    where
      test : Item → Bool
      test i = stays (word_of h) i && (nat_le (generation layout i.place) g && is_small_or_ephemeral s.kind)

      lows : List Item
      lows = items_between (sight rows h e) (first_of h e) start

      highs : List Item
      highs = items_between (sight rows h e) start (last_of h e)

      off : (i : Item) → IsIn i lows → (stays (word_of h) i && (nat_le (generation layout i.place) g
          && is_small_or_ephemeral s.kind)) ≡ false
      off i n =
          let is : IsItem rows (first_of h e) start i = item-between (first_of h e) start at-start.below i n in
          let above = is.above in let under = is.below in let least = is.least in
          ap (λ b. stays (word_of h) i && (b && is_small_or_ephemeral s.kind))
          (lt-leb (age i.place) g (below-age i.place above (omega arith))) ∙ and-false (stays (word_of h) i)

      on : (i : Item) → IsIn i highs → (stays (word_of h) i && (nat_le (generation layout i.place) g
          && is_small_or_ephemeral s.kind)) ≡ stays (word_of h) i
      on i n =
          let is : IsItem rows start (last_of h e) i = item-between start (last_of h e) at-start.above i n in
          let above = is.above in let under = is.below in let least = is.least in
          ap₂ (λ (b c : Bool). stays (word_of h) i && (b && c))
          (le-leb (age i.place) g (above-age i.place above (omega arith))) small ∙ and-true (stays (word_of h) i)
