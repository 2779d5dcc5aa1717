-- The bricks after a sweep behind fronts.
use Rattle.std.proofs.Common.{◌≡◌, inl, inr, ℕ, ◌%◌, ◌<◌, ◌≤◌, Bool, true, List, filter, length}
use Rattle.std.proofs.Common.{ap, sym, ◌∙◌, subst, arith, ℤ}
use Rattle.std.proofs.lemmas.Bool.{cases_eq}
use Rattle.clr_types.specs.Rising.{IsIn}
use Rattle.clr_types.specs.Segments.{generation, Layout, stands_in}
use Rattle.clr_types.specs.Types.{TypeRow}
use Rattle.clr_types.specs.declared.item.Item.{Item}
use Rattle.clr_types.specs.declared.segment.SegInfo.{SegInfo}
use Rattle.clr_types.proofs.ChangedLists.{into_filter, out_of_filter}
use Rattle.clr_types.proofs.ListMembers.{from-map, in_append}
use Rattle.clr_types.proofs.SegmentFacts.{stands-between}
use Rattle.clr_generations.specs.Laws.{AreEntered, BrickLaw}
use Rattle.clr_generations.specs.Renewing.{AreLeft, left_in}
use Rattle.clr_generations.proofs.Collected.{all-old}
use Rattle.clr_generations.proofs.Homes.{old-away, old-before, old-may_lead}
use Rattle.clr_heap.specs.View.{frame, heap_items, HeapView, IsHeap, last_of, listing, no_rests, segment_at}
use Rattle.clr_heap.specs.View.{word_of}
use Rattle.clr_heap.proofs.Rewrite.{shaped_heap}
use Rattle.clr_heap.proofs.Staying.{outside_other}
use Rattle.clr_mark.proofs.Held.{keeps_held}
use Rattle.clr_mark.proofs.Remarking.{keeps_objects}
use Rattle.clr_mem.specs.Words.{Memory}
use Rattle.clr_model.specs.Machine.{Object}
use Rattle.clr_view.specs.Marks.{has_mark}
use Rattle.clr_view.specs.Memory.{is_marked}
use Rattle.clr_view.specs.View.{IsHeld, is_object, object_in, objects_in}
use Rattle.clr_view.proofs.Standing.{standing}
use Rattle.clr_view.proofs.Tails.{found-young}
use Rattle.clr_sweep.specs.Fronts.{front_at, HasFronts}
use Rattle.clr_sweep.specs.SweptItems.{HasSweptItems, items_below}
use Rattle.clr_sweep.specs.declared.behind.Front.{Front}
use Rattle.clr_sweep.proofs.FrontFacts.{behind_word, from_item, parted_items}
use Rattle.clr_sweep.proofs.ObjectsSwept.{swept_held, swept_objects}
use Rattle.clr_sweep.proofs.OtherSegments.{apart_places}
use Rattle.clr_sweep.proofs.SweptBehind.{end_above, with_memories}
use Rattle.clr_sweep.proofs.WholeBricks.{law_from}

-- an object that stands in a segment is one of its items
pub record IsAtHome (rows : List TypeRow) (h : HeapView) (k : ℕ) (o : Object) : Type 0 where
  pub item : Item
  pub is : o ≡ object_in rows (word_of h) item
  pub listed : IsIn item (listing rows h k)
  pub object : is_object item ≡ true
  pub aligned : item.place % 8 ≡ 0
  pub below : item.place < last_of h k

pub at_home : (rows : List TypeRow) (h : HeapView) (k : ℕ) (o : Object) → IsHeap h → IsHeld rows h
    → k < length h.segments → IsIn o (objects_in rows h) → stands_in (segment_at h k) o.place ≡ true
    → IsAtHome rows h k o
at_home rows h k o heap held inside l in_s =
    let (i, is, there) = from-map (object_in rows (word_of h)) o (filter is_object (heap_items rows h)) l in
    let (object, among) = out_of_filter is_object i (heap_items rows h) there in
    let found = standing rows h heap held i among in
    let place : o.place ≡ i.place = ap (λ (q : Object). q.place) is in
    let (low, high) = stands-between (segment_at h k) o.place in_s in
    let least = found.least in
    let up = found.above in
    let down = found.below in
    let all = found.reserved in
    elim (cases_eq found.segment k) [
      | inl at ↦ record {
        item = i;
        is = is;
        listed = subst (λ (n : ℕ). IsIn i (listing rows h n)) at found.listed;
        object = object;
        aligned = found.aligned;
        below = subst (λ (n : ℕ). i.place < last_of h n) at (omega (arith, down, least));
      }
      | inr ne ↦ elim (outside_other h found.segment k i.place heap found.in_range inside ne (omega (arith, up))
          (omega (arith, down, least, all))) [
            | inl under ↦ absurd (omega (arith, place, low, under))
            | inr over ↦ absurd (omega (arith, place, high, over))
          ]
    ]

module _ (rows : List TypeRow) (h : HeapView) (vm : List Memory) (fronts : List Front) (new : HeapView)
    (heap : IsHeap h) (held : IsHeld rows h) (none : h.rests ≡ no_rests)
    (fs : HasFronts rows h (with_memories h vm) fronts) (swept : HasSweptItems rows (with_memories h vm) new)
    (new_heap : IsHeap new) where
  abbrev v : HeapView
  v = with_memories h vm

  heap_v : IsHeap v
  heap_v = shaped_heap h v fs.marks.shape heap

  held_v : IsHeld rows v
  held_v = keeps_held rows h v heap held fs.marks

  same_objects : objects_in rows v ≡ objects_in rows h
  same_objects = keeps_objects rows h v heap held fs.marks

  -- an object below a front's end is one of the front
  below_marked : (k : ℕ) (o : Object) → k < length h.segments → IsIn o (objects_in rows h)
      → stands_in (segment_at h k) o.place ≡ true → o.place < (front_at fronts k).place → is_marked v o ≡ true
  below_marked k o inside l in_s below =
      let front = fs.each k inside in
      let from = (front_at fronts k).place in
      let home = at_home rows h k o heap held inside l in_s in
      let place : o.place ≡ home.item.place = ap (λ (q : Object). q.place) home.is in
      elim (in_append (items_below rows h k from)
      (subst (λ (is : List Item). IsIn home.item is) (parted_items rows h k from front.parted) home.listed)) [
        | inl there ↦
            ap (λ (p : ℕ). has_mark (word_of v p)) place ∙ front.marked home.item there home.object
        | inr above ↦
            let up = (from_item rows h k from front.parted home.item above).above in
            absurd (omega (arith, place, up, below))
      ]

  -- above it the same of them are marked
  above_marked : (k : ℕ) (o : Object) → k < length h.segments → IsIn o (objects_in rows h)
      → stands_in (segment_at h k) o.place ≡ true → (front_at fronts k).place ≤ o.place
      → is_marked v o ≡ has_mark (word_of h o.place)
  above_marked k o inside l in_s above =
      let home = at_home rows h k o heap held inside l in_s in
      let place : o.place ≡ home.item.place = ap (λ (q : Object). q.place) home.is in
      let z = home.aligned in
      let end = home.below in
      ap has_mark (behind_word rows h v fronts fs k o.place inside (omega (arith, place, z)) above
      (omega (arith, place, end)))

  -- what stands in a front is old afterwards
  front_old : (k p : ℕ) → k < length h.segments → stands_in (segment_at h k) p ≡ true
      → p < (front_at fronts k).place → 0 < generation (frame new) p
  front_old k p inside in_s below =
      let found = found-young new new_heap in
      let e = found.0 in
      let count = swept.count in
      let in_e : e < length h.segments = let l = found.1.in_range in omega (arith, l, count) in
      let is = sym found.1.is ∙ swept.segments e in_e in
      elim (cases_eq k e) [
        | inl same ↦
            let end = ap (λ (t : SegInfo). t.end) is in
            let start = swept.start0 in
            let front = fs.each e in_e in
            let up = end_above rows h vm e (front_at fronts e) heap held none in_e fs.marks front in
            let here : p < (front_at fronts e).place = subst (λ (n : ℕ). p < (front_at fronts n).place) same below in
            old-before (frame new) p (omega (arith, start, end, up, here))
        | inr ne ↦
            old-away (frame new) p (ap (λ (t : SegInfo). stands_in t p) is
            ∙ apart_places h k e p heap inside in_e ne in_s)
      ]

  -- the marked objects of each segment are left
  behind_left : (k : ℕ) → k < length h.segments
      → AreLeft rows h k (front_at fronts k).place (frame new) (is_marked v)
  behind_left k inside = record {
    below = λ o l in_s below. below_marked k o inside l in_s below;
    above = λ o l in_s above. above_marked k o inside l in_s above;
    old = λ p in_s below. front_old k p inside in_s below;
    may = λ o l in_s keep. old-may_lead (frame new) o.place
        (all-old rows new new_heap (swept_held rows v new swept heap_v held_v none) swept.start0 o
        (subst (IsIn o) (sym (swept_objects rows v new swept heap_v held_v))
        (into_filter (is_marked v) (objects_in rows v) keep (subst (IsIn o) (sym same_objects) l))));
  }

  -- THE LAW OF BRICKS holds where they were renewed before
  pub behind_law : (entry : ℕ → ℤ)
      → ((k : ℕ) (layout : Layout) (keep : Object → Bool) → k < length h.segments
      → AreLeft rows h k (front_at fronts k).place layout keep
      → AreEntered rows layout (left_in rows h keep) entry (segment_at h k))
      → BrickLaw rows (frame new) (objects_in rows new) entry
  behind_law entry renewed =
      law_from rows v new swept heap_v held_v none new_heap entry
      (λ k inside. subst (λ (os : List Object). AreEntered rows (frame new) (filter (is_marked v) os) entry
      (segment_at h k)) (sym same_objects) (renewed k (frame new) (is_marked v) inside (behind_left k inside)))
