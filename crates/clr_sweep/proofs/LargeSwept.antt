-- What a sweep of the large segments leaves of a heap: its objects, their words, and its marks.
use Rattle.std.proofs.Common.{◌≡◌, ◌≢◌, ◌⊎◌, inl, inr, ℕ, zero, suc, ◌+◌, ◌-◌, ◌%◌, ◌<◌, ◌≤◌, Bool, true, false, not}
use Rattle.std.proofs.Common.{List}
use Rattle.std.proofs.Common.{[], ◌∷◌, ◌++◌, filter, map, length, get_or, if◌then◌else◌, ◌&&◌, ◌||◌}
use Rattle.std.proofs.Common.{refl, ap, ap₂, sym, ◌∙◌, subst, arith}
use Rattle.std.proofs.lemmas.Bool.{and_from, and_parts, both_ways, cases_order, eq-eqb, eqb-true}
use Rattle.std.proofs.lemmas.List.Elements.{filter-append}
use Rattle.std.specs.List.{list_any}
use Rattle.clr_types.specs.Rising.{IsIn}
use Rattle.clr_types.specs.Segments.{empty_segment, ended_at, ephemeral, same_kind, segment_or_empty, stands_in}
use Rattle.clr_types.specs.Types.{TypeRow}
use Rattle.clr_types.specs.declared.item.Item.{Item}
use Rattle.clr_types.specs.declared.segment.SegInfo.{SegInfo}
use Rattle.clr_types.specs.declared.segment.SegKind.{SegKind}
use Rattle.clr_types.specs.declared.segment.SegKind.TheVariants.{Ephemeral, Large}
use Rattle.clr_types.proofs.ChangedLists.{into_filter, IsIn-map, out_of_filter}
use Rattle.clr_types.proofs.ListMembers.{any-from, any-in, filter-map, filter-on, from-map, map-on}
use Rattle.clr_types.proofs.RisingLists.{all_at}
use Rattle.clr_types.proofs.SegmentFacts.{between-stands, stands-between}
use Rattle.clr_generations.proofs.AllBricks.{number-in, number-of}
use Rattle.clr_heap.specs.View.{AreWalkable, first_of, frame, heap_items, HeapView, IsHeap, last_of, listing, listings}
use Rattle.clr_heap.specs.View.{no_rests, segment_at, word_of}
use Rattle.clr_heap.proofs.Framing.{lawful_at}
use Rattle.clr_heap.proofs.Staying.{segment_order}
use Rattle.clr_model.specs.Machine.{Object}
use Rattle.clr_model.proofs.CollectedLayout.{large-not_ephemeral}
use Rattle.clr_view.specs.Marks.{has_mark, Marked}
use Rattle.clr_view.specs.Memory.{is_marked, word_without_mark}
use Rattle.clr_heap.specs.Parts.{unmarked}
use Rattle.clr_heap.specs.View.{IsWalkable}
use Rattle.clr_view.specs.View.{AreFreeHeads, IsFreeHead, IsHeld, is_object, object_in, objects_in}
use Rattle.clr_view.proofs.FreeHeads.{head_stays}
use Rattle.clr_view.proofs.Items.{IsItem}
use Rattle.clr_view.proofs.Listed.{listed-in}
use Rattle.clr_view.proofs.Listings.{listing-are}
use Rattle.clr_sweep.specs.SweptItems.{is_cut, stays, swept_last}
use Rattle.clr_sweep.specs.SweptLarge.{is_large, is_large_place}
use Rattle.clr_sweep.specs.SweptSegments.{AreSwept}
use Rattle.clr_sweep.proofs.Filters.{filter-filter}
use Rattle.clr_sweep.proofs.MoreSwept.{next_walkable, same_items}
use Rattle.clr_sweep.proofs.ObjectsSwept.{held_without, mark-elsewhere, object-kept, stays-object, swept-objects}
use Rattle.clr_sweep.proofs.SurvivorsSwept.{listed-from}
use Rattle.clr_types.specs.Segments.{is_large_or_pinned}

-- the heap where no generation begins in any segment
abbrev pub lowered : HeapView → HeapView
lowered h = record h { start1 = 0; start0 = 0 }

-- the heap where generations begin where they do in another one
abbrev pub bounded_as : HeapView → HeapView → HeapView
bounded_as old h = record h { start1 = old.start1; start0 = old.start0 }

-- lists of segments that differ in others than the ephemeral one alone
pub ephemerals-alike : (xs ys : List SegInfo) → length xs ≡ length ys
    → ((j : ℕ) → j < length ys → (get_or xs j empty_segment ≡ get_or ys j empty_segment)
    ⊎ ((same_kind Ephemeral (get_or xs j empty_segment).kind ≡ false)
    × (same_kind Ephemeral (get_or ys j empty_segment).kind ≡ false)))
    → filter (λ (s : SegInfo). same_kind Ephemeral s.kind) xs
    ≡ filter (λ (s : SegInfo). same_kind Ephemeral s.kind) ys
ephemerals-alike [] [] count alike = refl
ephemerals-alike [] (y ∷ ys) count alike = absurd (omega arith)
ephemerals-alike (x ∷ xs) [] count alike = absurd (omega arith)
ephemerals-alike (x ∷ xs) (y ∷ ys) count alike =
    go (alike 0 (omega arith)) (ephemerals-alike xs ys (omega arith) (λ j l. alike (suc j) (omega arith)))
  where
    young : List SegInfo → List SegInfo
    young ss = filter (λ (s : SegInfo). same_kind Ephemeral s.kind) ss

    go : (x ≡ y) ⊎ ((same_kind Ephemeral x.kind ≡ false) × (same_kind Ephemeral y.kind ≡ false))
        → young xs ≡ young ys → young (x ∷ xs) ≡ young (y ∷ ys)
    go (inl same) more = λ i. if same_kind Ephemeral (same i).kind then same i ∷ more i else more i
    go (inr (off, other)) more =
        ap (λ (b : Bool). if b then x ∷ young xs else young xs) off ∙ more
        ∙ sym (ap (λ (b : Bool). if b then y ∷ young ys else young ys) other)

-- ---- where places stand

module _ (old : HeapView) (heap : IsHeap old) where
  -- no place stands in two segments
  pub one_segment : (j k p : ℕ) → j < length old.segments → k < length old.segments
      → stands_in (segment_at old j) p ≡ true → stands_in (segment_at old k) p ≡ true → j ≡ k
  one_segment j k p in_j in_k at_j at_k =
      let (low_j, high_j) = stands-between (segment_at old j) p at_j in
      let (low_k, high_k) = stands-between (segment_at old k) p at_k in
      elim (cases_order j k) [
        | inl same ↦ same
        | inr (inl less) ↦ let order = segment_order old j k heap less in_k in absurd (omega arith)
        | inr (inr more) ↦ let order = segment_order old k j heap more in_j in absurd (omega arith)
      ]

  -- a place of a segment stands in one of these kinds where that segment is of such a kind
  pub place_kind : (kinds : SegKind → Bool) (j p : ℕ) → j < length old.segments → stands_in (segment_at old j) p ≡ true
      → list_any (λ (s : SegInfo). kinds s.kind && stands_in s p) old.segments ≡ kinds (segment_at old j).kind
  place_kind kinds j p in_j stands = go (kinds (segment_at old j).kind) refl
    where
      any : Bool
      any = list_any (λ (s : SegInfo). kinds s.kind && stands_in s p) old.segments

      away : kinds (segment_at old j).kind ≡ false → (c : Bool) → any ≡ c → any ≡ false
      away e false f = f
      away e true f =
          let (t, i, passes) = any-in (λ (s : SegInfo). kinds s.kind && stands_in s p) old.segments f in
          let (kind, there) = and_parts (kinds t.kind) (stands_in t p) passes in
          let (k, in_k, at) = number-of old.segments t i in
          let at_k = subst (λ (s : SegInfo). stands_in s p ≡ true) (sym at) there in
          let kind_k = subst (λ (s : SegInfo). kinds s.kind ≡ true) (sym at) kind in
          let same = one_segment j k p in_j in_k stands at_k in
          absurd (both_ways (kinds (segment_at old j).kind) e
          (subst (λ (n : ℕ). kinds (segment_at old n).kind ≡ true) (sym same) kind_k))

      go : (b : Bool) → kinds (segment_at old j).kind ≡ b → any ≡ kinds (segment_at old j).kind
      go true e =
          any-from (λ (s : SegInfo). kinds s.kind && stands_in s p) old.segments (segment_at old j)
          (number-in old.segments j in_j)
          (and_from (kinds (segment_at old j).kind) (stands_in (segment_at old j) p) e stands) ∙ sym e
      go false e = away e any refl ∙ sym e

  pub place_large : (j p : ℕ) → j < length old.segments → stands_in (segment_at old j) p ≡ true
      → is_large_place old p ≡ is_large old j
  place_large = place_kind (is_large_or_pinned)

module _ (rows : List TypeRow) (old : HeapView) (heap : IsHeap old) (held : IsHeld rows old) where
  -- an item stands in the segment that lists it
  pub listed_at : (j : ℕ) → j < length old.segments → (i : Item) → IsIn i (listing rows old j)
      → IsItem rows (first_of old j) (last_of old j) i
  listed_at j l i m = all_at (IsItem rows (first_of old j) (last_of old j)) m (listing-are rows old held.walkable j l)

  pub listed_stands : (j : ℕ) → j < length old.segments → (i : Item) → IsIn i (listing rows old j)
      → stands_in (segment_at old j) i.place ≡ true
  listed_stands j l i m =
      let is = listed_at j l i m in
      let above = is.above in
      let under = is.below in
      let least = is.least in
      let high = (lawful_at old j heap l).high in
      between-stands (segment_at old j) i.place above (omega arith)

  pub listed_large : (j : ℕ) → j < length old.segments → (i : Item) → IsIn i (listing rows old j)
      → is_large_place old i.place ≡ is_large old j
  listed_large j l i m = place_large old heap j i.place l (listed_stands j l i m)

-- without contexts, a heap holds its objects wherever generations begin
pub held_low : (rows : List TypeRow) (h : HeapView) → IsHeld rows h → h.rests ≡ no_rests → IsHeld rows (lowered h)
held_low rows h held none = held_without rows (lowered h) (λ j l. held.walkable j l) none (omega arith)

module _ (rows : List TypeRow) (old mid : HeapView) (heap : IsHeap old) (held : IsHeld rows old)
    (none : old.rests ≡ no_rests) (heap_low : IsHeap (lowered old))
    (a : AreSwept rows (lowered old) mid (is_large (lowered old))) where
  abbrev new : HeapView
  new = bounded_as old mid

  -- ---- items

  pub other-listing : (j : ℕ) → j < length old.segments → is_large old j ≡ false
      → listing rows (bounded_as old mid) j ≡ listing rows old j
  other-listing j l off =
      same_items rows (lowered old) mid (is_large (lowered old)) j heap_low (held_low rows old held none) a l off

  pub large-walkable : AreWalkable rows (bounded_as old mid)
  large-walkable j l = let c = a.count in go (omega arith) (is_large old j) refl
    where
      go : j < length old.segments → (b : Bool) → is_large old j ≡ b → IsWalkable rows new j
      go in_j true on = (a.done j in_j on).walkable
      go in_j false off =
          next_walkable rows (lowered old) mid (is_large (lowered old)) j heap_low (held_low rows old held none) a in_j
          off

  -- an item stays where it is an object that the sweep doesn't go over, or finds marked
  abbrev keep : Item → Bool
  keep i = is_object i && (not (is_large_place old i.place) || has_mark (word_of old i.place))

  keep-other : (i : Item) → is_large_place old i.place ≡ false → is_object i ≡ keep i
  keep-other i off = sym (ap (λ b. is_object i && (not b || has_mark (word_of old i.place))) off ∙ both (is_object i))
    where
      both : (b : Bool) → (b && true) ≡ b
      both true = refl
      both false = refl

  keep-large : (i : Item) → is_large_place old i.place ≡ true → stays (word_of old) i ≡ keep i
  keep-large i on = sym (ap (λ b. is_object i && (not b || has_mark (word_of old i.place))) on)

  -- the objects left in one segment
  left-in : (j : ℕ) → j < length old.segments → filter is_object (listing rows new j)
      ≡ filter keep (listing rows old j)
  left-in j l = go (is_large old j) refl
    where
      go : (b : Bool) → is_large old j ≡ b → filter is_object (listing rows new j) ≡ filter keep (listing rows old j)
      go true on =
          ap (filter is_object) (a.done j l on).items
          ∙ swept-objects (stays (word_of old)) (is_cut (lowered old)) (stays-object (word_of old)) []
          (first_of old j) (first_of old j) (listing rows old j) refl
          ∙ filter-on (stays (word_of old)) keep (listing rows old j)
          (λ i m. keep-large i (listed_large rows old heap held j l i m ∙ on))
      go false off =
          ap (filter is_object) (other-listing j l off)
          ∙ filter-on is_object keep (listing rows old j)
          (λ i m. keep-other i (listed_large rows old heap held j l i m ∙ off))

  objects-left : (i n : ℕ) → i + n ≤ length old.segments → filter is_object (listings rows new i n)
      ≡ filter keep (listings rows old i n)
  objects-left i zero l = refl
  objects-left i (suc n) l =
      filter-append is_object (listing rows new i) (listings rows new (i + 1) n)
      ∙ ap₂ (λ (xs ys : List Item). xs ++ ys) (left-in i (omega arith)) (objects-left (i + 1) n (omega arith))
      ∙ sym (filter-append keep (listing rows old i) (listings rows old (i + 1) n))

  items-left : filter is_object (heap_items rows new) ≡ filter keep (heap_items rows old)
  items-left = ap (λ n. filter is_object (listings rows new 0 n)) a.count
      ∙ objects-left 0 (length old.segments) (omega arith)

  left-stays : (i : Item) → IsIn i (heap_items rows new) → is_object i ≡ true → (keep i ≡ true)
      × IsIn i (heap_items rows old)
  left-stays i l object =
      out_of_filter keep i (heap_items rows old)
      (subst (IsIn i) items-left (into_filter is_object (heap_items rows new) object l))

  -- ---- the words of what stays

  -- the word at b of an item's cell afterwards
  abbrev left_word : Item → ℕ → ℕ
  left_word i b = if is_large_place old i.place then word_without_mark old i b else word_of old b

  other-word : (j b : ℕ) → j < length old.segments → is_large old j ≡ false → b % 8 ≡ 0 → first_of old j ≤ b + 8
      → b + 8 < last_of old j → word_of new b ≡ word_of old b
  other-word j b l off z lo hi = (a.ahead j l off).words b z lo hi

  cell-left : (i : Item) (b : ℕ) → IsIn i (heap_items rows old) → keep i ≡ true → b % 8 ≡ 0 → i.place ≤ b + 8
      → b + 8 < i.place + i.size → word_of new b ≡ left_word i b
  cell-left i b l on z lo hi =
      let (j, under, there) = listed-in rows old i 0 (length old.segments) l in
      go j (omega arith) there (is_large old j) refl
    where
      go : (j : ℕ) → j < length old.segments → IsIn i (listing rows old j) → (c : Bool) → is_large old j ≡ c
          → word_of new b ≡ left_word i b
      go j in_j there true large =
          let at = listed_large rows old heap held j in_j i there ∙ large in
          (a.done j in_j large).cells i there (keep-large i at ∙ on) b z lo hi
          ∙ sym (ap (λ t. if t then word_without_mark old i b else word_of old b) at)
      go j in_j there false off =
          let at = listed_large rows old heap held j in_j i there ∙ off in
          let is = listed_at rows old heap held j in_j i there in
          let above = is.above in
          let high = is.below in
          other-word j b in_j off z (omega arith) (omega arith)
          ∙ sym (ap (λ t. if t then word_without_mark old i b else word_of old b) at)

  pub large-cells : (i : Item) (b : ℕ) → IsIn i (heap_items rows (bounded_as old mid)) → is_object i ≡ true
      → b % 8 ≡ 0 → i.place ≤ b + 8 → b + 8 < i.place + i.size
      → word_of (bounded_as old mid) b
      ≡ (if is_large_place old i.place then word_without_mark old i b else word_of old b)
  large-cells i b l object z lo hi = let (on, there) = left-stays i l object in cell-left i b there on z lo hi

  standing : (i : Item) → IsIn i (heap_items rows old) → (low : ℕ) × (high : ℕ) × (4096 ≤ low)
      × IsItem rows low high i
  standing i l =
      let (j, under, there) = listed-in rows old i 0 (length old.segments) l in
      (first_of old j, last_of old j, omega arith, listed_at rows old heap held j (omega arith) i there)

  word-elsewhere : (i : Item) (b : ℕ) → b ≢ i.place → left_word i b ≡ word_of old b
  word-elsewhere i b ne = go (is_large_place old i.place)
    where
      go : (t : Bool) → (if t then word_without_mark old i b else word_of old b) ≡ word_of old b
      go true = mark-elsewhere old i b ne
      go false = refl

  same-object : (i : Item) → IsIn i (filter keep (heap_items rows old)) → object_in rows (word_of new) i
      ≡ object_in rows (word_of old) i
  same-object i m =
      let (on, l) = out_of_filter keep i (heap_items rows old) m in
      let (low, high, up, is) = standing i l in
      object-kept rows (word_of old) (word_of new) low high i (omega arith) is (λ b z a c ne. cell-left i b l on z a c
      ∙ word-elsewhere i b ne)

  abbrev passes : Item → Bool
  passes i = not (is_large_place old i.place) || has_mark (word_of old i.place)

  -- OF THE LARGE OBJECTS EXACTLY THE MARKED ONES STAY
  pub large-objects : objects_in rows (bounded_as old mid)
      ≡ filter (λ o. not (is_large_place old o.place) || is_marked old o) (objects_in rows old)
  large-objects =
      ap (map (object_in rows (word_of new))) items-left
      ∙ map-on (object_in rows (word_of new)) (object_in rows (word_of old)) (filter keep (heap_items rows old))
      same-object
      ∙ ap (map (object_in rows (word_of old))) (sym (filter-filter is_object passes (heap_items rows old)))
      ∙ sym (filter-map (object_in rows (word_of old)) (λ o. not (is_large_place old o.place) || is_marked old o)
      (filter is_object (heap_items rows old)))

  -- the marks that are left stood before, outside of the large segments
  pub large-marks : (x : ℕ) → Marked rows (bounded_as old mid) x → Marked rows old x
      × (is_large_place old x ≡ false)
  large-marks x marked =
      let (o, m, at) = marked.stands in
      let (i, is, there) = from-map (object_in rows (word_of new)) o (filter is_object (heap_items rows new)) m in
      let (object, l) = out_of_filter is_object i (heap_items rows new) there in
      let (on, before) = left-stays i l object in
      let (low, high, up, item) = standing i before in
      let least = item.least in
      let place : i.place ≡ x = sym (ap (λ (o : Object). o.place) is) ∙ at in
      let mark : has_mark (word_of new i.place) ≡ true = subst (λ n. has_mark (word_of new n) ≡ true) (sym place)
      marked.mark in
      let word : word_of new i.place ≡ left_word i i.place =
      cell-left i i.place before on item.aligned (omega arith) (omega arith) in
      let told = told i before object (is_large_place old i.place) refl mark word in (
        record {
          stands = (
            object_in rows (word_of old) i,
            IsIn-map (object_in rows (word_of old)) (into_filter is_object (heap_items rows old) object before),
            place,
          );
          mark = subst (λ n. has_mark (word_of old n) ≡ true) place told.1;
        },
        subst (λ n. is_large_place old n ≡ false) place told.0,
      )
    where
      told : (i : Item) → IsIn i (heap_items rows old) → is_object i ≡ true → (b : Bool)
          → is_large_place old i.place ≡ b → has_mark (word_of new i.place) ≡ true
          → word_of new i.place ≡ left_word i i.place
          → (is_large_place old i.place ≡ false) × (has_mark (word_of old i.place) ≡ true)
      told i l object true e mark word =
          let cleared : word_of new i.place ≡ unmarked (word_of old i.place) = word
          ∙ ap (λ t. if t then word_without_mark old i i.place else word_of old i.place) e
          ∙ ap (λ t. if t then unmarked (word_of old i.place) else word_of old i.place)
          (eq-eqb i.place i.place refl) in
          let odd : word_of new i.place % 2 ≡ 1 = eqb-true (word_of new i.place % 2) 1 mark in
          absurd (omega arith)
      told i l object false e mark word = (
        e,
        subst (λ n. has_mark n ≡ true) (word ∙ ap (λ t. if t then word_without_mark old i i.place else word_of old
            i.place) e) mark,
      )

  -- ---- free items

  pub large-heads : AreFreeHeads rows old → AreFreeHeads rows (bounded_as old mid)
  large-heads heads i l free =
      let (j, under, there) = listed-in rows new i 0 (length mid.segments) l in
      let c = a.count in
      go j (omega arith) there (is_large old j) refl
    where
      go : (j : ℕ) → j < length old.segments → IsIn i (listing rows new j) → (b : Bool) → is_large old j ≡ b
          → IsFreeHead (word_of new) i.place
      go j in_j there true on = (a.done j in_j on).free_heads i there free
      go j in_j there false off =
          let before : IsIn i (listing rows old j) = subst (IsIn i) (other-listing j in_j off) there in
          let is = listed_at rows old heap held j in_j i before in
          let z = is.aligned in
          let above = is.above in
          let high = is.below in
          let least = is.least in
          head_stays (word_of old) (word_of new) i.place
          (other-word j (i.place - 8) in_j off (omega arith) (omega arith) (omega arith))
          (other-word j i.place in_j off z (omega arith) (omega arith))
          (heads i (listed-from rows old j i in_j before) free)

  -- ---- segments

  pub large-segments : (j : ℕ) → j < length old.segments → segment_at mid j
      ≡ (if is_large old j then ended_at (swept_last rows old j) (segment_at old j) else segment_at old j)
  large-segments j l = go (is_large old j) refl
    where
      go : (b : Bool) → is_large old j ≡ b → segment_at mid j
          ≡ (if is_large old j then ended_at (swept_last rows old j) (segment_at old j) else segment_at old j)
      go true on = (a.done j l on).segment
          ∙ sym (ap (λ t. if t then ended_at (swept_last rows old j) (segment_at old j) else segment_at old j) on)
      go false off = (a.ahead j l off).segment
          ∙ sym (ap (λ t. if t then ended_at (swept_last rows old j) (segment_at old j) else segment_at old j) off)

  -- the ephemeral segment is as it was
  pub large-ephemeral : ephemeral (frame (bounded_as old mid)) ≡ ephemeral (frame old)
  large-ephemeral =
      ap segment_or_empty
      (ephemerals-alike mid.segments old.segments a.count (λ j l. alike j l (is_large old j) refl))
    where
      alike : (j : ℕ) → j < length old.segments → (b : Bool) → is_large old j ≡ b
          → (segment_at mid j ≡ segment_at old j) ⊎ ((same_kind Ephemeral (segment_at mid j).kind ≡ false)
          × (same_kind Ephemeral (segment_at old j).kind ≡ false))
      alike j l true on =
          let off = large-not_ephemeral (segment_at old j).kind on in
          inr (ap (λ (s : SegInfo). same_kind Ephemeral s.kind) (a.done j l on).segment ∙ off, off)
      alike j l false off = inl (a.ahead j l off).segment

  -- ---- the whole

  pub large-limit : mid.limit ≡ old.limit
  large-limit = ap (λ (h : HeapView). h.limit) a.others

  pub large-rests : mid.rests ≡ old.rests
  large-rests = ap (λ (h : HeapView). h.rests) a.others

  pub large-held : IsHeld rows (bounded_as old mid)
  large-held =
      held_without rows new large-walkable (large-rests ∙ none)
      (let end = ap (λ (s : SegInfo). s.end) large-ephemeral in let young = held.young in omega arith)
