-- The objects of the heap after a compaction: exactly those that stay, each where it goes.
use Rattle.std.proofs.Common.{◌≡◌, ℕ, ◌⊎◌, inl, inr, Bool, true, false, ◌||◌, not, List, length, map, filter, refl}
use Rattle.std.proofs.Common.{sym, ap, subst, ◌∙◌, arith}
use Rattle.std.proofs.lemmas.Bool.{both_ways, cases_Bool, or_cases}
use Rattle.clr_types.specs.Rising.{IsIn, sorted_by}
use Rattle.clr_types.specs.Segments.{Layout}
use Rattle.clr_types.specs.Types.{TypeRow}
use Rattle.clr_types.specs.declared.item.Item.{Item}
use Rattle.clr_types.proofs.ChangedLists.{into_filter, IsIn-map, out_of_filter, rising-distinct}
use Rattle.clr_types.proofs.ListMembers.{distinct-by, distinct_filter, distinct_map, from-map}
use Rattle.clr_types.proofs.SortedLists.{IsDistinctBy, sorted_by-unique}
use Rattle.clr_compact.specs.Rewrites.{cleared, Rewrites}
use Rattle.clr_heap.specs.View.{heap_items, HeapView, IsHeap, no_rests, SameShape, word_of}
use Rattle.clr_model.specs.Compaction.{Move, moved_by}
use Rattle.clr_model.specs.Lawful.{IsLaid}
use Rattle.clr_model.specs.Machine.{Machine, Object}
use Rattle.clr_view.specs.Marks.{has_mark}
use Rattle.clr_view.specs.View.{IsHeld, object_in, objects_in}
use Rattle.clr_view.specs.Items.{is_object}
use Rattle.clr_view.proofs.Listings.{heap-rise}
use Rattle.clr_view.proofs.Rises.{objects-rise}
use Rattle.clr_sweep.proofs.SurvivorsSwept.{listed-from, seen}
use Rattle.clr_moves.specs.Objects.{is_in_parts, moved_object, is_spared}
use Rattle.clr_compact.specs.Compacted.{part_items}
use Rattle.clr_view.specs.Memory.{TestsMarks}
use Rattle.clr_compact.specs.Slides.{HasSlid}
use Rattle.clr_compact.proofs.CompactedHeap.{away_below, below_away, below_listed_now, below_object, came_from}
use Rattle.clr_compact.proofs.CompactedHeap.{CameFrom, clean_walkable, count_same, freed, Gone, gone_listed}
use Rattle.clr_compact.proofs.CompactedHeap.{gone_object, IsBelow, stayed, went}
use Rattle.clr_compact.proofs.Gone.{goes_with, land_apart, lands_at, LandsAt, unmoved, was_there}
use Rattle.clr_compact.proofs.MemoryItems.{IsItemOf, item_of, object_of}
use Rattle.clr_moves.specs.Moves.{age_of}
use Rattle.clr_moves.specs.declared.condemned.Condemned.{Condemned}
use Rattle.clr_moves.proofs.FilledParts.{FillsParts}
use Rattle.clr_moves.proofs.PartPlaces.{into_parts}

module _ (rows : List TypeRow) (old : HeapView) (base : Machine) (heap : IsHeap old) (held : IsHeld rows old)
    (none : old.rests ≡ no_rests) (laid : IsLaid (seen rows old base)) (g : Condemned) (keeps : ℕ → Bool)
    (moves : List Move) (after : Layout) (c : FillsParts rows old base g keeps moves after) (mid : HeapView)
    (slid : HasSlid old mid g moves) (tests : TestsMarks rows old (age_of g) keeps) (mid_heap : IsHeap mid)
    (clean : HeapView) (shape : SameShape mid clean)
    (words : Rewrites (cleared (part_items rows mid g (length mid.segments))) (word_of mid)
    (word_of clean))
    (clean_heap : IsHeap clean) where
  abbrev G : Item → Type 0
  G = Gone rows old base heap held none laid g keeps moves after c mid slid tests mid_heap clean shape words

  abbrev B : ℕ → Item → Type 0
  B = IsBelow rows old base heap held none laid g keeps moves after c mid slid tests mid_heap clean shape words

  abbrev key : Object → ℕ
  key o = o.name

  abbrev stay : List Object
  stay = filter (is_spared old g) (objects_in rows old)

  abbrev R : Object → Type 0
  R x = IsIn x (map (moved_object moves) stay)

  -- an object that stays: it goes with a plug, or is in no part
  pub how_stays : (i : Item) → IsIn i (heap_items rows old) → is_object i ≡ true
      → is_spared old g (object_in rows (word_of old) i) ≡ true → G i
      ⊎ (is_in_parts old g i.place ≡ false)
  how_stays i listed object on = elim (cases_Bool (is_in_parts old g i.place)) [
    | inr away ↦ inr away
    | inl inside ↦ elim (or_cases (has_mark (word_of old i.place)) (not (is_in_parts old g i.place)) on) [
      | inl mark ↦ inl (goes_with rows old base heap held none laid g keeps moves after c mid slid tests i listed
          object mark inside)
      | inr away ↦ absurd (both_ways (not (is_in_parts old g i.place)) (ap not inside) away)
    ]
  ]

  gone_stays : (i : Item) → G i → is_spared old g (object_in rows (word_of old) i) ≡ true
  gone_stays i h = let was =
      was_there rows old base heap held none laid g keeps moves after c mid slid tests i h in
      ap (λ b. b || not (is_in_parts old g i.place)) was.mark

  away_stays : (i : Item) → is_in_parts old g i.place ≡ false
      → is_spared old g (object_in rows (word_of old) i) ≡ true
  away_stays i away = go (has_mark (word_of old i.place)) ∙ refl
    where
      go : (b : Bool) → (b || not (is_in_parts old g i.place)) ≡ true
      go true = refl
      go false = ap not away

  still : (i : Item) → IsIn i (heap_items rows old) → is_object i ≡ true
      → is_in_parts old g i.place ≡ false
      → moved_by moves i.place ≡ i.place
  still = unmoved rows old base heap held none laid g keeps moves after c mid slid tests

  same_moved : (i : Item) → moved_by moves i.place ≡ i.place
      → moved_object moves (object_in rows (word_of old) i) ≡ object_in rows (word_of old) i
  same_moved i e = λ k. record (object_in rows (word_of old) i) { name = e k; place = e k }

  -- ---- what there is was there

  into : (x : Object) → IsIn x (objects_in rows clean) → R x
  into x n =
      let (j, is, there) = from-map (object_in rows (word_of clean)) x (filter is_object (heap_items rows clean)) n in
      let (object, listed) = out_of_filter is_object j (heap_items rows clean) there in
      go x j is object (came_from rows old base heap held none laid g keeps moves after c mid slid tests mid_heap
      clean shape words j listed)
    where
      into_right : (i : Item) → IsIn i (heap_items rows old) → is_object i ≡ true
          → is_spared old g (object_in rows (word_of old) i) ≡ true
          → R (moved_object moves (object_in rows (word_of old) i))
      into_right i listed object on =
          IsIn-map (moved_object moves)
          (into_filter (is_spared old g) (objects_in rows old) on
          (object_of rows old base heap held laid i listed object))

      go : (x : Object) (j : Item) → x ≡ object_in rows (word_of clean) j → is_object j ≡ true
          → CameFrom rows old base heap held none laid g keeps moves after c mid slid tests mid_heap clean shape
          words j → R x
      go x j is object (stayed t below) =
          let (l, here, low) = below in
          let listed = listed-from rows old t j l here in
          let away = below_away rows old base heap held none laid g keeps moves after c mid slid tests mid_heap
          clean shape words t j below in
          let e = still j listed object away in
          let same = is ∙ below_object rows old base heap held none laid g keeps moves after c mid slid tests
          mid_heap clean shape words t j below ∙ sym (same_moved j e) in
          subst R (sym same) (into_right j listed object (away_stays j away))
      go x j is object (went i h at) =
          let same = is ∙ ap (object_in rows (word_of clean)) at
          ∙ gone_object rows old base heap held none laid g keeps moves after c mid slid tests mid_heap clean
          shape words i h in
          subst R (sym same) (into_right i h.listed h.object (gone_stays i h))
      go x j is object (freed t inside on f fresh at) = absurd (both_ways (is_object j) (ap is_object at) object)

  -- ---- what stays is there

  out : (x : Object) → R x → IsIn x (objects_in rows clean)
  out x n =
      let (o, is, there) = from-map (moved_object moves) x stay n in
      let (on, present) = out_of_filter (is_spared old g) o (objects_in rows old) there in
      let of : IsItemOf rows old base heap held laid o = item_of rows old base heap held laid o present in
      let same = is ∙ ap (moved_object moves) of.is in
      subst (λ y. IsIn y (objects_in rows clean)) (sym same)
      (go of.item of.listed of.object
      (how_stays of.item of.listed of.object (subst (λ y. is_spared old g y ≡ true) of.is on)))
    where
      go : (i : Item) → IsIn i (heap_items rows old) → is_object i ≡ true → G i
          ⊎ (is_in_parts old g i.place ≡ false)
          → IsIn (moved_object moves (object_in rows (word_of old) i)) (objects_in rows clean)
      go i listed object (inl h) =
          subst (λ y. IsIn y (objects_in rows clean))
          (gone_object rows old base heap held none laid g keeps moves after c mid slid tests mid_heap clean
          shape words i h)
          (IsIn-map (object_in rows (word_of clean))
          (into_filter is_object (heap_items rows clean) h.object
          (gone_listed rows old base heap held none laid g keeps moves after c mid slid tests mid_heap clean
          shape words i h)))
      go i listed object (inr away) =
          let (t, below) = away_below rows old base heap held none laid g keeps moves after c mid slid tests
          mid_heap clean shape words i listed away in
          let k = count_same rows old base heap held none laid g keeps moves after c mid slid tests mid_heap clean
          shape words in
          let (l, here, low) = below in
          let e = still i listed object away in
          subst (λ y. IsIn y (objects_in rows clean))
          (below_object rows old base heap held none laid g keeps moves after c mid slid tests mid_heap clean
          shape words t i below ∙ sym (same_moved i e))
          (IsIn-map (object_in rows (word_of clean)) (into_filter is_object (heap_items rows clean) object
          (listed-from rows clean t i (omega arith)
          (below_listed_now rows old base heap held none laid g keeps moves after c mid slid tests mid_heap
          clean shape words t i below))))

  -- ---- each has a place of its own

  apart : (x y : Object) → IsIn x stay → IsIn y stay → moved_by moves x.place ≡ moved_by moves y.place → x.name ≡ y.name
  apart x y n k e =
      let (on_x, present_x) = out_of_filter (is_spared old g) x (objects_in rows old) n in
      let (on_y, present_y) = out_of_filter (is_spared old g) y (objects_in rows old) k in
      let of_x : IsItemOf rows old base heap held laid x = item_of rows old base heap held laid x present_x in
      let of_y : IsItemOf rows old base heap held laid y = item_of rows old base heap held laid y present_y in
      let place_x : x.place ≡ of_x.item.place = ap (λ (o : Object). o.place) of_x.is in
      let place_y : y.place ≡ of_y.item.place = ap (λ (o : Object). o.place) of_y.is in
      let same = items of_x.item of_y.item of_x.listed of_y.listed of_x.object of_y.object
      (how_stays of_x.item of_x.listed of_x.object (subst (λ o. is_spared old g o ≡ true) of_x.is on_x))
      (how_stays of_y.item of_y.listed of_y.object (subst (λ o. is_spared old g o ≡ true) of_y.is on_y))
      (ap (moved_by moves) (sym place_x) ∙ e ∙ ap (moved_by moves) place_y) in
      ap key of_x.is ∙ same ∙ sym (ap key of_y.is)
    where
      -- what went stands in a part
      lands_inside : (i : Item) → G i → is_in_parts old g (moved_by moves i.place) ≡ true
      lands_inside i h =
          let lands : LandsAt rows old base heap held none laid g keeps moves after c mid slid tests i =
          lands_at rows old base heap held none laid g keeps moves after c mid slid tests i h in
          into_parts old g lands.segment (moved_by moves i.place) lands.into lands.up

      items : (i j : Item) → IsIn i (heap_items rows old) → IsIn j (heap_items rows old) → is_object i ≡ true
          → is_object j ≡ true → G i ⊎ (is_in_parts old g i.place ≡ false) → G j
          ⊎ (is_in_parts old g j.place ≡ false)
          → moved_by moves i.place ≡ moved_by moves j.place → i.place ≡ j.place
      items i j li lj oi oj (inl h) (inl k) e =
          land_apart rows old base heap held none laid g keeps moves after c mid slid tests i j h k e
      items i j li lj oi oj (inr a) (inr b) e = sym (still i li oi a) ∙ e ∙ still j lj oj b
      items i j li lj oi oj (inl h) (inr b) e =
          absurd (both_ways (is_in_parts old g j.place) b
          (subst (λ n. is_in_parts old g n ≡ true) (e ∙ still j lj oj b) (lands_inside i h)))
      items i j li lj oi oj (inr a) (inl k) e =
          absurd (both_ways (is_in_parts old g i.place) a
          (subst (λ n. is_in_parts old g n ≡ true) (sym e ∙ still i li oi a) (lands_inside j k)))

  distinct : IsDistinctBy key (map (moved_object moves) stay)
  distinct =
      distinct_map (moved_object moves) key stay
      (distinct-by key (λ o. moved_by moves o.place) stay apart
      (distinct_filter key (is_spared old g) (objects_in rows old)
      (rising-distinct key (objects_in rows old)
      (objects-rise rows (word_of old) (heap_items rows old) (heap-rise rows old held.walkable heap)))))

  -- EXACTLY WHAT STAYS is there, where it goes
  pub objects_compacted : objects_in rows clean
      ≡ sorted_by (λ o. o.name)
      (map (moved_object moves) (filter (is_spared old g) (objects_in rows old)))
  objects_compacted =
      sorted_by-unique key (objects_in rows clean) (map (moved_object moves) stay) distinct
      (objects-rise rows (word_of clean) (heap_items rows clean)
      (heap-rise rows clean
      (clean_walkable rows old base heap held none laid g keeps moves after c mid slid tests mid_heap clean
      shape words) clean_heap))
      (λ x. (into x, out x))
