-- The survivors of a machine whose memory a heap is, in segments of chosen kinds, read off the heap's items.
use Rattle.std.proofs.Common.{◌≡◌, ℕ, ◌<◌, List, [], ◌∷◌, map, filter, length, refl, sym, ap, subst, ◌∙◌, arith}
use Rattle.std.proofs.Common.{Bool, true, false, ◌&&◌, ◌==◌, nat_le}
use Rattle.std.proofs.lemmas.Bool.{and_from, and_parts, eq-eqb, eqb-true, leb-true}
use Rattle.std.specs.List.{AllByRecursion, list_any}
use Rattle.clr_types.specs.Rising.{IsIn, IsRisingBy, sorted_by}
use Rattle.clr_types.specs.Types.{TypeRow}
use Rattle.clr_types.specs.Segments.{empty_segment, generation, Layout, stands_in}
use Rattle.clr_types.specs.declared.item.Item.{Item}
use Rattle.clr_types.specs.declared.segment.SegInfo.{SegInfo}
use Rattle.clr_types.specs.declared.segment.SegKind.{SegKind}
use Rattle.clr_types.proofs.ChangedLists.{into_filter, IsIn-map, out_of_filter, rising-sorted, sorted_by-done}
use Rattle.clr_types.proofs.ListMembers.{any-from, any-in, filter-map, filter-on, filter-rises, map-map, map-on}
use Rattle.clr_types.proofs.RisingLists.{all_at}
use Rattle.clr_types.proofs.SegmentFacts.{between-stands, one_base, one_home}
use Rattle.clr_heap.specs.View.{first_of, heap_items, HeapView, IsHeap, last_of, listing, segment_at, word_of}
use Rattle.clr_heap.proofs.Framing.{lawful_at}
use Rattle.clr_model.specs.Lawful.{IsLaid}
use Rattle.clr_model.specs.Lookups.{object_piece}
use Rattle.clr_model.specs.Machine.{Machine, Object}
use Rattle.clr_model.specs.Sweep.{is_condemned, Survivor, survivor, survivors}
use Rattle.clr_model.specs.Compaction.{survivors_in}
use Rattle.clr_model.proofs.LawfulPieces.{HasHome, object-in-pieces, piece-home}
use Rattle.clr_view.specs.Marks.{has_mark}
use Rattle.clr_view.specs.View.{IsHeld, is_object, layout_in, object_in, objects_in}
use Rattle.clr_view.proofs.Items.{IsItem}
use Rattle.clr_view.proofs.Listed.{listed-sized}
use Rattle.clr_view.proofs.Listings.{heap-rise, listing-are}
use Rattle.clr_view.specs.Memory.{TestsMarks}
use Rattle.clr_sweep.specs.SweptItems.{stays}
use Rattle.clr_sweep.proofs.SurvivorsSwept.{at-in, listed-from, seen}
use Rattle.clr_plan.specs.Scans.{survivor_in}
use Rattle.clr_plan.specs.Pinned.{TellsPins}
use Rattle.clr_plan.proofs.Pins.{agree}
use Rattle.clr_plan.proofs.RaisingTo.{filter-twice}

map-rises : {X Y : Type 0} (f : X → Y) (key : X → ℕ) (other : Y → ℕ) → ((x : X) → other (f x) ≡ key x) → (xs : List X)
    → IsRisingBy key xs → IsRisingBy other (map f xs)
map-rises f key other same [] r = tt
map-rises f key other same (x ∷ xs) r = (go xs r.0, map-rises f key other same xs r.1)
  where
    go : (ys : List _) → AllByRecursion (λ y. key x < key y) ys → AllByRecursion (λ y. other (f x) < other y) (map f ys)
    go [] a = tt
    go (y ∷ ys) a = (rw (same x, same y) a.0, go ys a.1)

module _ (rows : List TypeRow) (h : HeapView) (base : Machine) (heap : IsHeap h) (held : IsHeld rows h)
    (laid : IsLaid (seen rows h base)) (g : ℕ) (keep : ℕ → Bool) (tests : TestsMarks rows h g keep)
    (pins : TellsPins rows h base) (chosen : SegKind → Bool) where
  abbrev m : Machine
  m = seen rows h base

  abbrev layout : Layout
  layout = layout_in rows h

  abbrev obj : Item → Object
  obj i = object_in rows (word_of h) i

  abbrev pub of_item : Item → Survivor
  of_item i = survivor m (obj i)

  -- a survivor of the chosen segments
  abbrev pub is_chosen : Survivor → Bool
  is_chosen k = list_any (λ s. chosen s.kind && (s.base == k.segment)) layout.segments

  -- an item that is one
  abbrev pub survives : Item → Bool
  survives i = (is_object i && (is_condemned m g (obj i) && keep i.place)) && is_chosen (of_item i)

  -- ---- as a list of items

  pub survivors-are : survivors_in chosen layout (survivors m g keep)
      ≡ map of_item (filter survives (heap_items rows h))
  survivors-are =
      ap (λ ks. filter is_chosen (sorted_by (λ (k : Survivor). k.place) ks)) listed
      ∙ ap (filter is_chosen) (sorted_by-done (λ (k : Survivor). k.place) (map of_item (filter stay items))
      (rising-sorted (λ (k : Survivor). k.place) (map of_item (filter stay items)) rises))
      ∙ filter-map of_item is_chosen (filter stay items)
      ∙ ap (map of_item) (filter-twice stay (λ i. is_chosen (of_item i)) survives items (λ i. refl))
    where
      items : List Item
      items = heap_items rows h

      stay : Item → Bool
      stay i = is_object i && (is_condemned m g (obj i) && keep i.place)

      listed : map (survivor m) (filter (λ (o : Object). is_condemned m g o && keep o.name) (objects_in rows h))
          ≡ map of_item (filter stay items)
      listed =
          ap (map (survivor m)) (filter-map obj (λ (o : Object). is_condemned m g o && keep o.name)
          (filter is_object items))
          ∙ map-map obj (survivor m) (filter (λ i. is_condemned m g (obj i) && keep i.place) (filter is_object items))
          ∙ ap (map of_item) (filter-twice is_object (λ i. is_condemned m g (obj i) && keep i.place) stay items
          (λ i. refl))

      rises : IsRisingBy (λ (k : Survivor). k.place) (map of_item (filter stay items))
      rises = map-rises of_item (λ (i : Item). i.place) (λ (k : Survivor). k.place) (λ i. refl) (filter stay items)
          (filter-rises stay (λ (i : Item). i.place) items (heap-rise rows h held.walkable heap))

  -- ---- one segment

  module _ (k : ℕ) (inside : k < length h.segments) where
    abbrev s : SegInfo
    s = segment_at h k

    known : IsIn s h.segments
    known = at-in h.segments k empty_segment inside

    -- a survivor of a chosen segment is one
    chosen-is : (v : Survivor) → v.segment ≡ s.base → is_chosen v ≡ chosen s.kind
    chosen-is v of = agree (is_chosen v) (chosen s.kind) forth back
      where
        forth : is_chosen v ≡ true → chosen s.kind ≡ true
        forth t =
            let (u, i, e) = any-in (λ (u : SegInfo). chosen u.kind && (u.base == v.segment)) h.segments t
            in
            let (kind, same) = and_parts (chosen u.kind) (u.base == v.segment) e in
            let one : u ≡ s = one_base layout laid.layout u s i known (eqb-true u.base v.segment same ∙ of) in
            subst (λ (w : SegInfo). chosen w.kind ≡ true) one kind

        back : chosen s.kind ≡ true → is_chosen v ≡ true
        back t = any-from (λ (u : SegInfo). chosen u.kind && (u.base == v.segment)) h.segments s known
            (and_from (chosen s.kind) (s.base == v.segment) t (eq-eqb s.base v.segment (sym of)))

    module _ (i : Item) (here : IsIn i (listing rows h k)) (object : is_object i ≡ true) where
      item-listed : IsIn i (heap_items rows h)
      item-listed = listed-from rows h k i inside here

      present : IsIn (obj i) m.objects
      present = IsIn-map (object_in rows (word_of h)) (into_filter is_object (heap_items rows h) object item-listed)

      segment-is : (of_item i).segment ≡ s.base
      segment-is =
          let is : IsItem rows (first_of h k) (last_of h k) i = all_at (IsItem rows (first_of h k) (last_of h k)) here
          (listing-are rows h held.walkable k inside) in
          let above = is.above in
          let under = is.below in
          let least = is.least in
          let high = (lawful_at h k heap inside).high in
          let stands : stands_in s i.place ≡ true = between-stands s i.place above (omega arith) in
          let home : HasHome layout i.place = piece-home m laid (object_piece rows (obj i))
          (object-in-pieces m laid (obj i) present) in
          let same : home.home ≡ s = one_home layout laid.layout home.home s i.place home.among known home.stands stands
          in
          home.base ∙ ap (λ (u : SegInfo). u.base) same

      pub item-is : of_item i ≡ survivor_in h k i
      item-is =
          let size = listed-sized rows h i heap held item-listed in
          let seg = segment-is in
          let pin = pins (obj i) present in
          λ j. record {
            place = i.place;
            size = sym size j;
            segment = seg j;
            generation = generation layout i.place;
            pinned = pin j;
          }

      mark-is : nat_le (generation layout i.place) g ≡ true → keep i.place ≡ has_mark (word_of h i.place)
      mark-is aged = tests (obj i) present (leb-true (generation layout i.place) g aged)

    -- what survives of the segment's items
    abbrev stays_here : Item → Bool
    stays_here i = stays (word_of h) i && (nat_le (generation layout i.place) g && chosen s.kind)

    survives-is : (i : Item) → IsIn i (listing rows h k) → survives i ≡ stays_here i
    survives-is i here = go (is_object i) refl
      where
        swap : (c d f b : Bool) → (c ≡ true → d ≡ f) → ((true && (c && d)) && b) ≡ ((true && f) && (c && b))
        swap true true f b e = subst (λ x. b ≡ (x && b)) (e refl) refl
        swap true false f b e = subst (λ x. false ≡ (x && b)) (e refl) refl
        swap false d true b e = refl
        swap false d false b e = refl

        go : (b : Bool) → is_object i ≡ b → ((b && (is_condemned m g (obj i) && keep i.place))
            && is_chosen (of_item i)) ≡ ((b && has_mark (word_of h i.place)) && (nat_le (generation layout i.place) g
            && chosen s.kind))
        go false e = refl
        go true e =
            ap (λ b. (true && (is_condemned m g (obj i) && keep i.place)) && b)
            (chosen-is (of_item i) (segment-is i here e))
            ∙ swap (is_condemned m g (obj i)) (keep i.place) (has_mark (word_of h i.place))
            (chosen s.kind) (mark-is i here e)

    pub segment-survivors : map of_item (filter survives (listing rows h k)) ≡ map (survivor_in h k)
        (filter stays_here (listing rows h k))
    segment-survivors =
        ap (map of_item) (filter-on survives stays_here (listing rows h k) survives-is)
        ∙ map-on of_item (survivor_in h k) (filter stays_here (listing rows h k)) (λ i n. let (t, here) =
        out_of_filter stays_here i (listing rows h k) n in
        item-is i here (and_parts (is_object i) (has_mark (word_of h i.place))
        (and_parts (stays (word_of h) i) (nat_le (generation layout i.place) g && chosen s.kind)
        t).0).0)
