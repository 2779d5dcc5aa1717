-- Heaps where words of the ephemeral segment and the rest of one thread's context change: what holds of the heap and of
-- the other segments.
use Rattle.std.proofs.Common.{◌≡◌, ◌≢◌, ◌⊎◌, inl, inr, ℕ, zero, suc, ◌+◌, ◌-◌, ◌%◌, ◌<◌, ◌≤◌, true, false, List, []}
use Rattle.std.proofs.Common.{◌∷◌, length, get_or, set, refl, ap, sym, ◌∙◌, subst, arith, filter, map, Option, None}
use Rattle.std.proofs.Common.{Some, length-set, nat_le}
use Rattle.std.specs.Prelude.{slice_get}
use Rattle.std.proofs.lemmas.Bool.{and_from, and_parts, le-leb, ne_eqb, eq-eqb}
use Rattle.clr_mem.specs.Words.{Memory}
use Rattle.clr_types.specs.Rising.{IsIn, IsRisingBy}
use Rattle.clr_types.specs.Types.{TypeRow}
use Rattle.clr_types.specs.Ranges.{Piece}
use Rattle.clr_types.specs.Segments.{empty_segment, ephemeral, flat_option, reserved_end, same_kind, stands_in}
use Rattle.clr_types.specs.declared.item.Item.{Item}
use Rattle.clr_types.specs.declared.segment.SegInfo.{SegInfo}
use Rattle.clr_types.specs.declared.segment.SegKind.{SegKind}
use Rattle.clr_types.specs.declared.segment.SegKind.TheVariants.{Small, Ephemeral, Large, Pinned}
use Rattle.clr_types.proofs.ChangedLists.{all-map, out_of_filter}
use Rattle.clr_types.proofs.ListMembers.{filter-rises, from-map, in_append}
use Rattle.clr_types.proofs.RisingLists.{all_at, in_cons}
use Rattle.clr_types.proofs.SegmentFacts.{between-stands, stands-between}
use Rattle.clr_heap.specs.Memories.{shapes, word_in}
use Rattle.clr_heap.specs.Parts.{Among, item_part, item_piece, items_in, Part, rest_part}
use Rattle.clr_heap.specs.View.{AreWalkable, first_of, frame, heap_items, HeapView, IsHeap, listing, listings, parts_of}
use Rattle.clr_heap.specs.View.{PartsAre, rest_between, segment_at, word_of}
use Rattle.clr_heap.proofs.Framing.{lawful_at, reserved_cons, reserved_in}
use Rattle.clr_heap.proofs.Staying.{outside_other, parts_stay}
use Rattle.clr_heap.proofs.Storing.{length-shapes, memory_index-shapes}
use Rattle.clr_model.specs.Allocation.{is_young_item}
use Rattle.clr_view.specs.View.{free_in, IsHeld, is_free, layout_in}
use Rattle.clr_view.proofs.Listings.{heap-cut, heap-rise}
use Rattle.clr_view.proofs.Tails.{IsEphemeral}
use Rattle.clr_ctx.specs.Contexts.{young_items}
use Rattle.clr_view.proofs.Swapping.{items_higher, items_lower}
use Rattle.clr_items.proofs.Lists.{place}
use Rattle.clr_ctx.proofs.Swapping.{same_young}

-- what is left of a context, by its number in the list
pub rest_is : (rs : List (Option Piece)) (i : ℕ) → flat_option (slice_get rs i) ≡ get_or rs i None
rest_is [] i = refl
rest_is (None ∷ rs) zero = refl
rest_is (Some r ∷ rs) zero = refl
rest_is (r ∷ rs) (suc i) = rest_is rs i

pub between_some : (low n : ℕ) → 0 < n → rest_between low (low + n) ≡ Some (record { place = low; size = n })
between_some low n some =
    let miss = ne_eqb low (low + n) (λ same. omega arith) in
    let size : low + n - low ≡ n = omega arith in
    rw (miss, size) refl

pub between_none : (low : ℕ) → rest_between low low ≡ None
between_none low = let hit = eq-eqb low low refl in rw hit refl

-- one segment reserves no more than all
pub reserved_at : (ss : List SegInfo) (k : ℕ) → k < length ss → (get_or ss k empty_segment).reserved ≤ reserved_in ss
reserved_at [] k l = absurd (omega arith)
reserved_at (s ∷ ss) zero l = let n = reserved_cons s ss in omega arith
reserved_at (s ∷ ss) (suc k) l = let n = reserved_cons s ss in let ih = reserved_at ss k (omega arith) in omega arith

-- ---- the free items of a heap

rising_map : (is : List Item) → IsRisingBy (λ (i : Item). i.place) is → IsRisingBy place (map item_piece is)
rising_map [] rise = tt
rising_map (i ∷ is) rise = (all-map item_piece (λ (p : Piece). i.place < p.place) is rise.0, rising_map is rise.1)

-- they rise
pub free_rises : (rows : List TypeRow) (h : HeapView) → AreWalkable rows h → IsHeap h
    → IsRisingBy place (free_in rows h)
free_rises rows h walkable heap =
    rising_map (filter is_free (heap_items rows h))
    (filter-rises is_free (λ (i : Item). i.place) (heap_items rows h) (heap-rise rows h walkable heap))

pub young_rises : (rows : List TypeRow) (h : HeapView) → AreWalkable rows h → IsHeap h
    → IsRisingBy place (young_items (layout_in rows h))
young_rises rows h walkable heap =
    filter-rises (is_young_item (layout_in rows h)) place (free_in rows h) (free_rises rows h walkable heap)

-- an item of a list of parts is one of them
among_items : (ps : List Part) (i : Item) → IsIn i (items_in ps) → Among ps (item_part i)
among_items [] i j = elim j [ ]
among_items (item_part x ∷ ps) i j =
    elim (in_cons j) [ inl same ↦ inl (ap item_part same) | inr k ↦ inr (among_items ps i k) ]
among_items (rest_part low high ∷ ps) i j = inr (among_items ps i j)

-- a free item of generation 0 is a part of the ephemeral segment
pub record YoungItem (rows : List TypeRow) (h : HeapView) (k : ℕ) (p : Piece) : Type 0 where
  pub item : Item
  pub is : p ≡ item_piece item
  pub free : is_free item ≡ true
  pub among : Among (parts_of rows h k) (item_part item)
  pub passes : is_young_item (layout_in rows h) p ≡ true

module _ (rows : List TypeRow) (h : HeapView) (k : ℕ) (heap : IsHeap h) (held : IsHeld rows h)
    (segment : IsEphemeral h k) where
  pub item_here : (i : Item) → IsIn i (heap_items rows h) → stands_in (ephemeral (frame h)) i.place ≡ true → 0 < i.size
      → Among (parts_of rows h k) (item_part i)
  item_here i listed stands some =
      let at : stands_in (segment_at h k) i.place ≡ true =
      subst (λ (s : SegInfo). stands_in s i.place ≡ true) (sym segment.is) stands in
      let (low, high) = stands-between (segment_at h k) i.place at in
      let l = segment.in_range in
      elim (in_append (listings rows h 0 k) (subst (IsIn i) (heap-cut rows h k (length h.segments) l) listed)) [
        | inl lower ↦
            let end : i.place + i.size ≤ (segment_at h k).base =
            all_at (λ (j : Item). j.place + j.size ≤ (segment_at h k).base) lower
            (items_lower rows h k heap held.walkable l (segment_at h k).base (omega arith)) in
            absurd (omega arith)
        | inr rest ↦ elim (in_append (listing rows h k) rest) [
          | inl here ↦ among_items (parts_of rows h k) i here
          | inr higher ↦
              let start : reserved_end (segment_at h k) ≤ i.place =
              all_at (λ (j : Item). reserved_end (segment_at h k) ≤ j.place) higher
              (items_higher rows h k heap held.walkable l (reserved_end (segment_at h k)) (omega arith)) in
              absurd (omega arith)
        ]
      ]

  pub young_item : (p : Piece) → IsIn p (young_items (layout_in rows h)) → 0 < p.size → YoungItem rows h k p
  young_item p i some =
      let (passes, listed) = out_of_filter (is_young_item (layout_in rows h)) p (free_in rows h) i in
      let (x, is, j) = from-map item_piece p (filter is_free (heap_items rows h)) listed in
      let (free, there) = out_of_filter is_free x (heap_items rows h) j in
      let parts = and_parts (stands_in (ephemeral (frame h)) p.place) (nat_le h.start0 p.place) passes in
      let stands : stands_in (ephemeral (frame h)) x.place ≡ true =
      subst (λ (q : Piece). stands_in (ephemeral (frame h)) q.place ≡ true) is parts.0 in
      let size : p.size ≡ x.size = ap (λ (q : Piece). q.size) is in
      record { item = x; is = is; free = free; among = item_here x there stands (omega arith); passes = passes }

  -- a place of the segment from the start of generation 0 on is young
  pub young_place : (p : Piece) → first_of h k ≤ p.place → p.place < reserved_end (segment_at h k) → h.start0 ≤ p.place
      → is_young_item (layout_in rows h) p ≡ true
  young_place p low high young =
      let at = between-stands (segment_at h k) p.place low high in
      let stands : stands_in (ephemeral (frame h)) p.place ≡ true =
      subst (λ (s : SegInfo). stands_in s p.place ≡ true) segment.is at in
      and_from (stands_in (ephemeral (frame h)) p.place) (nat_le h.start0 p.place) stands
      (le-leb h.start0 p.place young)

-- ---- the heap with other words and another rest

pub other_kind : (kind : SegKind) → kind ≢ Ephemeral → same_kind kind Ephemeral ≡ false
other_kind Small ne = refl
other_kind Ephemeral ne = absurd (ne refl)
other_kind Large ne = refl
other_kind Pinned ne = refl

module _ (rows : List TypeRow) (h : HeapView) (k i : ℕ) (ms : List Memory) (o : Option Piece) (heap : IsHeap h)
    (l : k < length h.segments) (young : (segment_at h k).kind ≡ Ephemeral)
    (shape : shapes ms ≡ shapes h.memories) where
  abbrev pub rested : HeapView
  rested = record h { memories = ms; rests = set h.rests i o }

  pub heap_rested : IsHeap rested
  heap_rested = record {
    memories = shape ∙ heap.memories;
    segments = heap.segments;
    highest = heap.highest;
    disjoint = heap.disjoint;
    below_top = heap.below_top;
    one_ephemeral = heap.one_ephemeral;
    ephemeral_last = heap.ephemeral_last;
    top_aligned = heap.top_aligned;
    top_small = heap.top_small;
    within_limit = heap.within_limit;
    limit_small = heap.limit_small;
    threads = length-set h.rests i o ∙ heap.threads;
  }

  -- the other segments have their parts
  pub others_rested : (a c : ℕ) → first_of h k ≤ a → c ≤ reserved_end (segment_at h k)
      → ((b : ℕ) → b % 8 ≡ 0 → (b + 8 < a) ⊎ (c ≤ b + 8) → word_in ms b ≡ word_of h b) → AreWalkable rows h
      → (j : ℕ) → j < length h.segments → j ≢ k → PartsAre rows rested j (parts_of rows h j)
  others_rested a c from to words walkable j lj ne =
      let end = (lawful_at h j heap lj).high in
      let other : same_kind (segment_at h j).kind Ephemeral ≡ false =
      other_kind (segment_at h j).kind (λ e. ne (same_young h j k heap lj l e young)) in
      parts_stay rows h rested j j (walkable j lj) (record {
        first = refl;
        last = refl;
        words = λ b z low high.
            words b z (elim (outside_other h j k b heap lj l ne (omega arith) (omega arith)) [
              | inl under ↦ inl
                  (omega arith)
              | inr over ↦ inr (omega arith)
            ]);
        holes = λ q low high. rw other refl;
        held = λ b low high inside. rw (memory_index-shapes ms h.memories b shape, length-shapes ms h.memories shape)
            inside;
      })
