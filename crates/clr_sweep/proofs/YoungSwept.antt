-- What a sweep of the young part leaves of a heap: its segments, its items, their words, and its counts.
use Rattle.std.proofs.Common.{◌≡◌, ◌≢◌, ◌⊎◌, inl, inr, ℕ, zero, suc, ◌+◌, ◌-◌, ◌%◌, ◌<◌, ◌≤◌, Bool, true, false, not}
use Rattle.std.proofs.Common.{List, [], ◌++◌, filter, map, length, set, if◌then◌else◌, ◌==◌, ◌&&◌, ◌||◌, cond}
use Rattle.std.proofs.Common.{refl, ap, ap₂, sym, ◌∙◌, subst, arith, length-set, Option}
use Rattle.std.proofs.lemmas.Bool.{cases_eq, cases_lt, eqb-true, eq-eqb}
use Rattle.std.proofs.lemmas.List.{get_or-set_other, get_or-set_same}
use Rattle.std.proofs.lemmas.List.Elements.{filter-append}
use Rattle.clr_types.specs.Ranges.{Piece}
use Rattle.clr_types.specs.Rising.{IsIn}
use Rattle.clr_types.specs.Segments.{empty_segment, ended_at, ephemeral, first_place, generation, same_kind}
use Rattle.clr_types.specs.Types.{TypeRow}
use Rattle.clr_types.specs.declared.item.Item.{Item}
use Rattle.clr_types.specs.declared.segment.SegInfo.{SegInfo}
use Rattle.clr_types.specs.declared.segment.SegKind.TheVariants.{Ephemeral}
use Rattle.clr_types.proofs.ChangedLists.{into_filter, out_of_filter}
use Rattle.clr_types.proofs.ListMembers.{filter-map, filter-on, from-map, in_append, map-on}
use Rattle.clr_heap.specs.Parts.{hole_from, items_in, unmarked}
use Rattle.clr_heap.specs.View.{AreWalkable, first_of, frame, heap_items, HeapView, IsHeap, IsWalkable, last_of}
use Rattle.clr_heap.specs.View.{listing, listings, no_rests, parts_of, PartsAre, segment_at, word_of}
use Rattle.clr_heap.proofs.Framing.{lawful_at}
use Rattle.clr_heap.proofs.Staying.{outside_other, parts_stay, StaysAs}
use Rattle.clr_heap.proofs.Storing.{length-shapes, memory_index-shapes}
use Rattle.clr_model.specs.Lawful.{IsLaid}
use Rattle.clr_model.specs.Machine.{Machine, Object}
use Rattle.clr_model.specs.Sweep.{has_condemned_part}
use Rattle.clr_view.specs.Marks.{has_mark, Marked}
use Rattle.clr_view.specs.View.{AreFreeHeads, IsHeld, is_object, object_in, objects_in, tail_of}
use Rattle.clr_view.proofs.FreeHeads.{head_stays}
use Rattle.clr_view.proofs.Items.{IsItem}
use Rattle.clr_view.proofs.Listed.{listed-in}
use Rattle.clr_view.specs.Memory.{is_left, is_reached_by, word_without_mark}
use Rattle.clr_sweep.specs.Swept.{IsOutside, KeepsCells, word_left}
use Rattle.clr_sweep.specs.SweptItems.{aged, is_cut, items_below, items_from, part_last, stays, swept_part}
use Rattle.clr_sweep.specs.SweptItems.{young_start}
use Rattle.clr_sweep.specs.SweptSegments.{HasSweptSegment}
use Rattle.clr_sweep.proofs.Filters.{filter-filter}
use Rattle.clr_sweep.proofs.ObjectsSwept.{held_without, mark-elsewhere, object-kept, stays-object, swept-objects}
use Rattle.clr_sweep.proofs.SurvivorsSwept.{listed-from, seen, stands-at}
use Rattle.clr_sweep.proofs.YoungPart.{below-is, below-listed, below-old, from-swept, other-old, swept-on, young-items}
use Rattle.clr_sweep.proofs.YoungPart.{young-kind, young-low, young-start}

module _ (rows : List TypeRow) (old : HeapView) (base : Machine) (heap : IsHeap old) (held : IsHeld rows old)
    (none : old.rests ≡ no_rests) (laid : IsLaid (seen rows old base)) (g : ℕ) (young : g ≤ 1) (k : ℕ)
    (inside : k < length old.segments) (eph : segment_at old k ≡ ephemeral (frame old)) (now : HeapView)
    (w : HasSweptSegment rows old now k (young_start old g)) where
  abbrev new : HeapView
  new = aged now g

  abbrev from : ℕ
  from = young_start old g

  abbrev part : List Item
  part = items_from rows old k (young_start old g)

  abbrev below : List Item
  below = items_below rows old k (young_start old g)

  -- ---- segments

  abbrev ended : SegInfo
  ended = ended_at (part_last rows old k (young_start old g)) (segment_at old k)

  pub young-segments : now.segments ≡ set old.segments k (ended_at (part_last rows old k (young_start old g))
      (segment_at old k))
  young-segments = ap (λ (h : HeapView). h.segments) w.others

  pub young-count : length now.segments ≡ length old.segments
  young-count = ap length young-segments ∙ length-set old.segments k ended

  pub young-this : segment_at now k ≡ ended_at (part_last rows old k (young_start old g)) (segment_at old k)
  young-this = ap (λ (h : HeapView). segment_at h k) w.others ∙ get_or-set_same old.segments k ended empty_segment
      inside

  pub young-other : (j : ℕ) → j ≢ k → segment_at now j ≡ segment_at old j
  young-other j ne = ap (λ (h : HeapView). segment_at h j) w.others
      ∙ get_or-set_other old.segments k j ended empty_segment ne

  pub young-rests : now.rests ≡ no_rests
  young-rests = ap (λ (h : HeapView). h.rests) w.others ∙ none

  -- ---- words

  low : first_of old k ≤ young_start old g
  low = young-low rows old base heap held none laid g young k inside eph

  -- the words of the cells of another segment
  other-word : (j b : ℕ) → j < length old.segments → j ≢ k → b % 8 ≡ 0 → first_of old j ≤ b + 8 → b + 8 < last_of old j
      → word_of now b ≡ word_of old b
  other-word j b l ne z lo hi =
      let high = (lawful_at old j heap l).high in
      let top = (lawful_at old k heap inside).high in
      let start = low in
      w.outside b z (elim (outside_other old j k (b + 8) heap l inside ne (omega arith) (omega arith)) [
        | inl under ↦
            inl (omega arith)
        | inr over ↦ inr (omega arith)
      ])

  stays-as : (j : ℕ) → j < length old.segments → j ≢ k → StaysAs old j now j
  stays-as j l ne =
      let same = young-other j ne in
      record {
        first = ap first_place same;
        last = ap (λ (t : SegInfo). t.end) same;
        words = λ b z lo hi. other-word j b l ne z (omega arith) (omega arith);
        holes = λ q lo hi. ap₂ (λ (t : SegInfo) (rs : List (Option Piece)).
            hole_from (cond (same_kind t.kind Ephemeral) rs []) q) same (ap (λ (h : HeapView). h.rests) w.others);
        held = λ b lo hi in_one. rw (
          memory_index-shapes now.memories old.memories b w.memories,
          length-shapes
              now.memories old.memories w.memories,
        ) in_one;
      }

  parts-stay : (j : ℕ) → j < length old.segments → j ≢ k → PartsAre rows now j (parts_of rows old j)
  parts-stay j l ne = parts_stay rows old now j j (held.walkable j l) (stays-as j l ne)

  -- ---- items

  pub other-listing : (j : ℕ) → j < length old.segments → j ≢ k → listing rows (aged now g) j ≡ listing rows old j
  other-listing j l ne = ap items_in (parts-stay j l ne).parts

  pub young-walkable : AreWalkable rows (aged now g)
  young-walkable j l = elim (cases_eq j k) [
    | inl e ↦ subst (λ n. IsWalkable rows (aged now g) n) (sym e) w.walkable
    | inr ne ↦ (parts-stay j (let c = young-count in omega arith) ne).walkable
  ]

  pub young-held : IsHeld rows (aged now g)
  young-held = held_without rows new young-walkable young-rests (let end : tail_of (aged now g) ≡ tail_of now = refl in
      omega arith)

  -- an item stays where it is an object that the sweep doesn't go over, or finds marked
  abbrev keep : Item → Bool
  keep i = is_object i && (not (is_reached_by old g i.place) || has_mark (word_of old i.place))

  keep-old : (i : Item) → is_reached_by old g i.place ≡ false → is_object i ≡ keep i
  keep-old i off = sym (ap (λ b. is_object i && (not b || has_mark (word_of old i.place))) off ∙ both (is_object i))
    where
      both : (b : Bool) → (b && true) ≡ b
      both true = refl
      both false = refl

  keep-young : (i : Item) → is_reached_by old g i.place ≡ true → stays (word_of old) i ≡ keep i
  keep-young i on = sym (ap (λ b. is_object i && (not b || has_mark (word_of old i.place))) on)

  -- the objects left in one segment
  left-in : (j : ℕ) → j < length old.segments → filter is_object (listing rows new j) ≡ filter keep (listing rows old j)
  left-in j l = elim (cases_eq j k) [
    | inl e ↦ subst (λ n. filter is_object (listing rows new n) ≡ filter keep (listing rows old n)) (sym e) here
    | inr ne ↦ ap (filter is_object) (other-listing j l ne) ∙ filter-on is_object keep (listing rows old j)
        (λ i m. keep-old i (other-old rows old base heap held none laid g young k inside eph j l ne i m))
  ]
    where
      here : filter is_object (listing rows new k) ≡ filter keep (listing rows old k)
      here =
          ap (filter is_object) w.items ∙ filter-append is_object below (swept_part rows old k from)
          ∙ ap₂ (λ (xs ys : List Item). xs ++ ys)
          (filter-on is_object keep below
          (λ i m. keep-old i (below-old rows old base heap held none laid g young k inside eph i m)))
          (swept-objects (stays (word_of old)) (is_cut old) (stays-object (word_of old)) [] from from part refl
          ∙ filter-on (stays (word_of old)) keep part
          (λ i m. keep-young i (from-swept rows old base heap held none laid g young k inside eph i m)))
          ∙ sym (filter-append keep below part)
          ∙ sym (ap (filter keep) (young-items rows old base heap held none laid g young k inside eph))

  objects-left : (i n : ℕ) → i + n ≤ length old.segments → filter is_object (listings rows new i n)
      ≡ filter keep (listings rows old i n)
  objects-left i zero l = refl
  objects-left i (suc n) l =
      filter-append is_object (listing rows new i) (listings rows new (i + 1) n)
      ∙ ap₂ (λ (xs ys : List Item). xs ++ ys) (left-in i (omega arith)) (objects-left (i + 1) n (omega arith))
      ∙ sym (filter-append keep (listing rows old i) (listings rows old (i + 1) n))

  items-left : filter is_object (heap_items rows new) ≡ filter keep (heap_items rows old)
  items-left = ap (λ n. filter is_object (listings rows new 0 n)) young-count
      ∙ objects-left 0 (length old.segments) (omega arith)

  left-stays : (i : Item) → IsIn i (heap_items rows new) → is_object i ≡ true → (keep i ≡ true)
      × IsIn i (heap_items rows old)
  left-stays i l object =
      out_of_filter keep i (heap_items rows old)
      (subst (IsIn i) items-left (into_filter is_object (heap_items rows new) object l))

  -- ---- the words of what stays

  -- an item of the old heap stands in another segment, below the part or in it
  abbrev Whereabouts : Item → Type 0
  Whereabouts i = ((j : ℕ) × (j < length old.segments) × (j ≢ k) × IsIn i (listing rows old j))
      ⊎ (IsIn i below ⊎ IsIn i part)

  pub whereabouts : (i : Item) → IsIn i (heap_items rows old) → ((j : ℕ) × (j < length old.segments) × (j ≢ k)
      × IsIn i (listing rows old j)) ⊎ (IsIn i (items_below rows old k (young_start old g))
      ⊎ IsIn i (items_from rows old k (young_start old g)))
  whereabouts i l =
      let (j, under, there) = listed-in rows old i 0 (length old.segments) l in
      elim (cases_eq j k) [
        | inl e ↦
            inr (in_append below (subst (IsIn i) (ap (listing rows old) e
            ∙ young-items rows old base heap held none laid g young k inside eph) there))
        | inr ne ↦ inl (j, omega arith, ne, there)
      ]

  off-word : (i : Item) (b : ℕ) → is_reached_by old g i.place ≡ false → word_of old b ≡ word_left old g i b
  off-word i b off = sym (ap (λ t. if t then word_without_mark old i b else word_of old b) off)

  cell-left : (i : Item) (b : ℕ) → IsIn i (heap_items rows old) → keep i ≡ true → b % 8 ≡ 0 → i.place ≤ b + 8
      → b + 8 < i.place + i.size → word_of new b ≡ word_left old g i b
  cell-left i b l on z lo hi = elim (whereabouts i l) [
    | inl (j, under, ne, there) ↦
        let is = stands-at rows old base heap held none laid j under i there in
        let above = is.above in
        let high = is.below in
        other-word j b under ne z (omega arith) (omega arith)
        ∙ off-word i b (other-old rows old base heap held none laid g young k inside eph j under ne i there)
    | inr (inl there) ↦
        let is = below-is rows old base heap held none laid g young k inside eph i there in
        let high = is.below in
        w.outside b z (inl (omega arith))
        ∙ off-word i b (below-old rows old base heap held none laid g young k inside eph i there)
    | inr (inr there) ↦
        let swept = from-swept rows old base heap held none laid g young k inside eph i there in
        w.cells i there (keep-young i swept ∙ on) b z lo hi
        ∙ sym (ap (λ t. if t then word_without_mark old i b else word_of old b) swept)
  ]

  pub young-cells : KeepsCells rows old (aged now g) g
  young-cells i b l object z lo hi = let (on, there) = left-stays i l object in cell-left i b there on z lo hi

  standing : (i : Item) → IsIn i (heap_items rows old) → (low : ℕ) × (high : ℕ) × (4096 ≤ low) × IsItem rows low high i
  standing i l =
      let (j, under, there) = listed-in rows old i 0 (length old.segments) l in
      (first_of old j, last_of old j, omega arith, stands-at rows old base heap held none laid j (omega arith) i there)

  word-elsewhere : (i : Item) (b : ℕ) → b ≢ i.place → word_left old g i b ≡ word_of old b
  word-elsewhere i b ne = go (is_reached_by old g i.place)
    where
      go : (t : Bool) → (if t then word_without_mark old i b else word_of old b) ≡ word_of old b
      go true = mark-elsewhere old i b ne
      go false = refl

  same-object : (i : Item) → IsIn i (filter keep (heap_items rows old)) → object_in rows (word_of new) i
      ≡ object_in rows (word_of old) i
  same-object i m =
      let (on, l) = out_of_filter keep i (heap_items rows old) m in
      let (low, high, up, is) = standing i l in
      object-kept rows (word_of old) (word_of new) low high i (omega arith) is (λ b z a c ne. cell-left i b l on z a c
      ∙ word-elsewhere i b ne)

  -- OF THE YOUNG OBJECTS EXACTLY THE MARKED ONES STAY
  pub young-objects : objects_in rows (aged now g) ≡ filter (is_left old g) (objects_in rows old)
  young-objects =
      ap (map (object_in rows (word_of new))) items-left
      ∙ map-on (object_in rows (word_of new)) (object_in rows (word_of old)) (filter keep (heap_items rows old))
      same-object
      ∙ ap (map (object_in rows (word_of old)))
      (sym (filter-filter is_object (λ i. not (is_reached_by old g i.place) || has_mark (word_of old i.place))
      (heap_items rows old)))
      ∙ sym (filter-map (object_in rows (word_of old)) (is_left old g) (filter is_object (heap_items rows old)))

  -- no young object is marked
  pub young-unmarked : (x : ℕ) → Marked rows (aged now g) x → g < generation (frame old) x
  young-unmarked x marked =
      let (o, m, at) = marked.stands in
      let (i, is, there) = from-map (object_in rows (word_of new)) o (filter is_object (heap_items rows new)) m in
      let (object, l) = out_of_filter is_object i (heap_items rows new) there in
      let (on, before) = left-stays i l object in
      let (low, high, up, item) = standing i before in
      let least = item.least in
      let place : i.place ≡ x = sym (ap (λ (o : Object). o.place) is) ∙ at in
      let mark : has_mark (word_of new i.place) ≡ true = subst (λ n. has_mark (word_of new n) ≡ true) (sym place)
      marked.mark in
      let odd : word_of new i.place % 2 ≡ 1 = eqb-true (word_of new i.place % 2) 1 mark in
      let word : word_of new i.place ≡ word_left old g i i.place =
      cell-left i i.place before on item.aligned (omega arith) (omega arith) in
      elim (cases_lt g (generation (frame old) i.place)) [
        | inl old_one ↦ subst (λ n. g < generation (frame old) n) place old_one
        | inr young_one ↦
            let swept = swept-on rows old base heap held none laid g young k inside eph i.place young_one in
            let cleared : word_of new i.place ≡ unmarked (word_of old i.place) = word
            ∙ ap (λ t. if t then word_without_mark old i i.place else word_of old i.place) swept
            ∙ ap (λ t. if t then unmarked (word_of old i.place) else word_of old i.place)
            (eq-eqb i.place i.place refl) in
            absurd (omega arith)
      ]

  -- ---- free items

  -- a free item of the new heap stands as before in another segment or below the part, or the sweep made it
  abbrev FreeWhereabouts : Item → Type 0
  FreeWhereabouts i = ((j : ℕ) × (j < length old.segments) × (j ≢ k) × IsIn i (listing rows old j))
      ⊎ (IsIn i below ⊎ IsIn i (swept_part rows old k from))

  pub now-whereabouts : (i : Item) → IsIn i (heap_items rows (aged now g))
      → ((j : ℕ) × (j < length old.segments) × (j ≢ k) × IsIn i (listing rows old j))
      ⊎ (IsIn i (items_below rows old k (young_start old g)) ⊎ IsIn i (swept_part rows old k (young_start old g)))
  now-whereabouts i l =
      let (j, under, there) = listed-in rows new i 0 (length now.segments) l in
      elim (cases_eq j k) [
        | inl e ↦ inr (in_append below (subst (IsIn i) (ap (listing rows new) e ∙ w.items) there))
        | inr ne ↦ let c = young-count in let here : j < length old.segments = omega arith in
            inl (j, here, ne, subst (IsIn i) (other-listing j here ne) there)
      ]

  pub young-heads : (g ≡ 2) ⊎ AreFreeHeads rows old → AreFreeHeads rows (aged now g)
  young-heads (inl two) i l free = absurd (omega arith)
  young-heads (inr heads) i l free = elim (now-whereabouts i l) [
    | inl (j, under, ne, there) ↦
        let is = stands-at rows old base heap held none laid j under i there in
        let z = is.aligned in
        let above = is.above in
        let high = is.below in
        let least = is.least in
        head_stays (word_of old) (word_of new) i.place (other-word j (i.place - 8) under ne (omega arith) (omega arith)
        (omega arith)) (other-word j i.place under ne z (omega arith) (omega arith))
        (heads i (listed-from rows old j i under there) free)
    | inr (inl there) ↦
        let is = below-is rows old base heap held none laid g young k inside eph i there in
        let z = is.aligned in
        let above = is.above in
        let high = is.below in
        let least = is.least in
        head_stays (word_of old) (word_of new) i.place (w.outside (i.place - 8) (omega arith) (inl (omega arith)))
        (w.outside i.place z (inl (omega arith)))
        (heads i (listed-from rows old k i inside (below-listed rows old base heap held none laid g young k inside eph i
        there)) free)
    | inr (inr there) ↦ w.free_heads i there free
  ]

  -- ---- the rest

  pub young-limit : now.limit ≡ old.limit
  young-limit = ap (λ (h : HeapView). h.limit) w.others

  takes-part : has_condemned_part g (segment_at old k) ≡ true
  takes-part = ap (λ b. b || (g == 2)) (young-kind rows old base heap held none laid g young k inside eph)

  pub young-outside : (b : ℕ) → b % 8 ≡ 0 → IsOutside old g b → word_of (aged now g) b ≡ word_of old b
  young-outside b z away =
      w.outside b z (subst (λ n. (b + 8 < n) ⊎ (last_of old k ≤ b + 8)) (young-start rows old base heap held none laid g
      young k inside eph) (away k inside takes-part))
