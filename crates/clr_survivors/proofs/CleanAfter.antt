-- Headers and padding stay clean.
use Rattle.std.proofs.Common.{◌≡◌, ◌≢◌, inl, inr, ℕ, ◌+◌, ◌-◌, ◌/◌, ◌%◌, ◌<◌, ◌≤◌, ◌==◌, Bool, true, false}
use Rattle.std.proofs.Common.{not, ◌&&◌, List}
use Rattle.std.proofs.Common.{refl, ap, sym, ◌∙◌, subst, arith, filter, if◌then◌else◌, ap₂}
use Rattle.std.proofs.Common.{subst₂}
use Rattle.std.specs.FinMap.{FinMap}
use Rattle.std.specs.Option.{option_map}
use Rattle.std.specs.Ordering.{nat_cmp}
use Rattle.std.proofs.lemmas.Bool.{both_ways, cases_Bool, cases_order, cases_eq, eq-eqb, eqb-false, ne_eqb}
use Rattle.clr_types.specs.Bits.{pinned_bit}
use Rattle.clr_mem.specs.Words.{byte_of}
use Rattle.clr_types.specs.Maps.{map_values}
use Rattle.clr_types.specs.Rising.{IsIn}
use Rattle.clr_types.specs.Types.{form_at, size_of}
use Rattle.clr_types.specs.declared.handle.Handle.{Handle}
use Rattle.clr_types.specs.declared.item.Item.{Item}
use Rattle.clr_types.proofs.ChangedLists.{into_filter, IsIn-map, out_of_filter}
use Rattle.clr_types.proofs.ListMembers.{from-map}
use Rattle.clr_types.proofs.MapValues.{get-map_values}
use Rattle.clr_types.proofs.SortedLists.{out_of_sorted_by}
use Rattle.clr_handles.specs.Laws.{relocated}
use Rattle.clr_heap.specs.Memories.{word_address}
use Rattle.clr_heap.specs.Parts.{unmarked}
use Rattle.clr_heap.specs.View.{first_of, heap_items, HeapView, IsHeap, segment_at, word_of}
use Rattle.clr_heap.proofs.Staying.{segment_order}
use Rattle.clr_model.specs.Compaction.{moved_by}
use Rattle.clr_model.specs.Machine.{Machine, Object}
use Rattle.clr_model.proofs.MovedPlaces.{object_lower}
use Rattle.clr_view.specs.Clean.{AreClean, HasCleanWords, IsCleanHeader, slots_end}
use Rattle.clr_view.specs.Marks.{has_mark}
use Rattle.clr_view.specs.Memory.{is_left, is_marked}
use Rattle.clr_view.specs.SlotValues.{StandsAt}
use Rattle.clr_view.specs.View.{IsHeld, is_object, object_in, objects_in}
use Rattle.clr_view.proofs.Listed.{listed-above, listed-item, listed-sized}
use Rattle.clr_view.proofs.Padding.{padding-word}
use Rattle.clr_view.proofs.Standing.{standing}
use Rattle.clr_plan.specs.Pinned.{has_pin}
use Rattle.clr_sweep.specs.SweptLarge.{is_large_place}
use Rattle.clr_moves.specs.Moves.{part_of, takes}
use Rattle.clr_moves.specs.Objects.{is_in_parts, moved_object, relocated_object}
use Rattle.clr_moves.specs.Overlaid.{IsOutside}
use Rattle.clr_moves.proofs.PlacesInPlugs.{in_part-same, outside_stays}
use Rattle.clr_moves.proofs.CompactionFills.{fills-parts}
use Rattle.clr_moves.proofs.PartPlaces.{into_parts}
use Rattle.clr_compact.proofs.MemoryItems.{part_whole}
use Rattle.clr_moves.proofs.PlannedMoves.{seen-laid}
use Rattle.clr_survivors.specs.Condemned.{condemned_from}
use Rattle.clr_survivors.specs.Phases.{HasSettled}
use Rattle.clr_survivors.specs.Pins.{IsPinnedBelow, pinned_header}
use Rattle.clr_survivors.specs.Survivors.{left_objects}
use Rattle.clr_survivors.proofs.Course.{IsCourse, Stages}
use Rattle.clr_survivors.proofs.Ended.{by-kind, objects-ended}
use Rattle.clr_survivors.proofs.ItemsOf.{item-of}
use Rattle.clr_survivors.proofs.LeftGoes.{left-in-part, part-test}
use Rattle.clr_survivors.proofs.LeftObjects.{left-spared, pins-stand}
use Rattle.clr_survivors.proofs.MovedList.{in-moved, placed, placed-left}
use Rattle.clr_survivors.proofs.PartsAbove.{moves-above}
use Rattle.clr_survivors.proofs.PaddingWords.{no-reference, none-starts}
use Rattle.clr_survivors.proofs.CanMoveAll.{left-stands, left-view}
use Rattle.clr_survivors.proofs.PinsTold.{none-pinned}
use Rattle.clr_moves.specs.declared.condemned.Condemned.TheVariants.{Generations}

-- ---- headers

-- the bit set and cleared again leaves a header that had none
pub pin-back : (w : ℕ) → has_pin w ≡ false → pinned_header false (pinned_header true w) ≡ w
pin-back w off = ap (pinned_header false) up ∙ down
  where
    up : pinned_header true w ≡ w + pinned_bit
    up = ap (λ (b : Bool). if true && not b then w + pinned_bit else if not true && b then w - pinned_bit else w) off

    set : has_pin (w + pinned_bit) ≡ true
    set =
        let even = eqb-false (w / pinned_bit % 2) 1 off in
        eq-eqb ((w + pinned_bit) / pinned_bit % 2) 1 (omega (arith, even))

    down : pinned_header false (w + pinned_bit) ≡ w
    down =
        ap (λ (b : Bool). if false && not b then w + pinned_bit + pinned_bit
        else if not false && b then w + pinned_bit - pinned_bit else w + pinned_bit) set
        ∙ omega arith

pub pin-none : (w : ℕ) → has_pin w ≡ false → pinned_header false w ≡ w
pin-none w off =
    ap (λ (b : Bool). if false && not b then w + pinned_bit else if not false && b then w - pinned_bit else w) off

-- a pinned handle's target has gone with it
pub pinned-moved : (to : ℕ → ℕ) (table : FinMap nat_cmp Handle) (low place : ℕ) → 0 < to place → low ≤ to place
    → IsPinnedBelow table low 65536 place → IsPinnedBelow (map_values (relocated to) table) low 65536 (to place)
pinned-moved to table low place some above q = record {
  number = q.number;
  below = q.below;
  row = relocated to q.row;
  in_use = get-map_values (relocated to) table q.number ∙ ap (option_map (relocated to)) q.in_use;
  pinned = q.pinned;
  target = ap to q.target;
  some = some;
  high = above;
}

module _ (s : Stages) (m : Machine) (kept : ℕ → Bool) (c : IsCourse s m kept) (new : HeapView)
    (e : HasSettled s.rows s.moved.heap new s.roots_after.handles s.low s.g) (heap : IsHeap new)
    (held : IsHeld s.rows new) where
  -- an item of the new heap, and the one that it was
  record HasGone (i : Item) : Type 0 where
    object : Object
    present : IsIn object (objects_in s.rows s.old.heap)
    left : is_left s.old.heap s.g object ≡ true
    was : Item
    listed : IsIn was (heap_items s.rows s.old.heap)
    is : is_object was ≡ true
    from : object.place ≡ was.place
    place : i.place ≡ moved_by c.begun.plan.moves was.place
    type : i.type_id.0 ≡ was.type_id.0
    len : i.len ≡ was.len
    size : i.size ≡ was.size
    kind : (object.type ≡ was.type_id.0) × (object.len ≡ was.len)

  has-gone : (i : Item) → IsIn i (heap_items s.rows new) → is_object i ≡ true → HasGone i
  has-gone i listed object =
      let vs = c.begun.plan.moves in
      let to : Object → Object = λ o. moved_object vs (relocated_object vs o) in
      let q = object_in s.rows (word_of new) i in
      let there = IsIn-map (object_in s.rows (word_of new))
      (into_filter is_object (heap_items s.rows new) object listed) in
      let (o, same, chosen) = from-map to q (filter (is_left s.old.heap s.g) (objects_in s.rows s.old.heap))
      (out_of_sorted_by (λ (x : Object). x.name) q (left_objects s.rows s.old.heap s.g vs)
      (subst (λ (os : List Object). IsIn q os) (objects-ended s m kept c new e) there)) in
      let (left, present) = out_of_filter (is_left s.old.heap s.g) o (objects_in s.rows s.old.heap) chosen in
      let k = item-of s.rows s.old.heap o present in
      let type : i.type_id.0 ≡ k.item.type_id.0 =
      ap (λ (x : Object). x.type) same ∙ ap (λ (x : Object). x.type) k.is in
      let len : i.len ≡ k.item.len = ap (λ (x : Object). x.len) same ∙ ap (λ (x : Object). x.len) k.is in
      record {
        object = o;
        present = present;
        left = left;
        was = k.item;
        listed = k.listed;
        is = k.object;
        from = k.at;
        kind = (ap (λ (x : Object). x.type) k.is, ap (λ (x : Object). x.len) k.is);
        place = ap (λ (x : Object). x.place) same ∙ ap (moved_by vs) k.at;
        type = type;
        len = len;
        size = listed-sized s.rows new i heap held listed
            ∙ (λ j. size_of (form_at s.rows (type j)) (len j))
            ∙ sym (listed-sized s.rows s.old.heap k.item c.run.given.tidy.heap c.run.given.tidy.held k.listed);
      }

  -- ---- outside of the parts

  away-place : (x : ℕ) → is_in_parts c.begun.view (Generations s.g) x ≡ false → moved_by c.begun.plan.moves x ≡ x
  away-place x away =
      sym (outside_stays s.rows s.ready.heap s.ready.bricks
      (Generations s.g) c.begun.plan.moves c.ready_heap c.begun.plan.told x
      (λ t is. both_ways (is_in_parts c.begun.view (Generations s.g) x) away
      (part-test s.rows c.begun.view s.g c.begun.plan.moves m kept c.begun.plan.after c.run.given.generation
      c.begun.plan.compaction t x
      (in_part-same c.begun.view s.ready.heap (Generations s.g) t x c.begun.plan.overlaid.shape is))))

  -- nothing from the first condemned place on goes below it
  low-kept : (x : ℕ) → s.low ≤ x → s.low ≤ moved_by c.begun.plan.moves x
  low-kept x high =
      let view_low : condemned_from c.begun.view s.g ≡ s.low =
      ap (λ (h : HeapView). condemned_from h s.g) c.begun.pins.shape.others ∙ sym c.run.low_is in
      subst (λ (n : ℕ). n ≤ moved_by c.begun.plan.moves x) view_low
      (moves-above c.begun.view s.g c.begun.plan.moves c.begun.plan.overlaid.moves x
      (subst (λ (n : ℕ). n ≤ x) (sym view_low) high))

  outside-cell : (j : Item) → IsIn j (heap_items s.rows c.begun.view)
      → is_in_parts c.begun.view (Generations s.g) j.place ≡ false
      → (b : ℕ) → j.place ≤ b + 8 → b + 8 < j.place + j.size → IsOutside c.begun.view (Generations s.g) b
  outside-cell j listed away b low high t within on =
      let view = c.begun.view in
      let view_heap = c.begun.plan.overlaid.heap in
      let h = standing s.rows view view_heap c.begun.pins.held j listed in
      let up = h.above in
      let down = h.below in
      let top = h.reserved in
      let size = h.least in
      elim (cases_order h.segment t) [
        | inl same ↦
            let takes_part : takes (Generations s.g) (segment_at view h.segment) ≡ true =
            ap (λ (n : ℕ). takes (Generations s.g) (segment_at view n)) same ∙ on in
            let part = ap (λ (n : ℕ). part_of view (Generations s.g) n) same in
            let start = ap (λ (n : ℕ). first_of view n) same in
            elim (part_whole s.rows view m view_heap c.begun.pins.held
            (seen-laid s.rows view
            (Generations s.g) c.begun.plan.moves m kept c.begun.plan.after c.begun.plan.compaction) (Generations s.g)
            kept c.begun.plan.moves c.begun.plan.after
            (fills-parts s.rows view (Generations s.g) c.begun.plan.moves m kept c.begun.plan.after
            c.begun.plan.compaction c.run.given.generation) h.segment h.in_range takes_part j h.listed) [
              | inl from ↦
                  absurd (both_ways (is_in_parts view (Generations s.g) j.place) away
                  (into_parts view (Generations s.g) h.segment j.place
                  (record {
                    in_range = h.in_range;
                    takes = takes_part;
                    low = from;
                    high = omega (arith, down, top, size);
                  }) up))
              | inr below ↦ inr (inl (omega (arith, start, up, low), omega (arith, part, below, high)))
            ]
        | inr (inl lower) ↦
            let order = segment_order view h.segment t view_heap lower within in
            inl (omega (arith, order, top, down, high))
        | inr (inr upper) ↦
            let order = segment_order view t h.segment view_heap upper h.in_range in
            inr (inr (omega (arith, order, up, low)))
      ]

  module _ (i : Item) (listed : IsIn i (heap_items s.rows new)) (g : HasGone i) where
    abbrev j : Item
    j = g.was

    in-view-items : IsIn j (heap_items s.rows c.begun.view)
    in-view-items = subst (λ (is : List Item). IsIn j is) (sym c.begun.pins.items) g.listed

    in-mid-items : IsIn j (heap_items s.rows c.went.mid)
    in-mid-items = subst (λ (is : List Item). IsIn j is) (sym c.went.relocated.items) in-view-items

    up-old : 8 ≤ j.place
    up-old = listed-above s.rows s.old.heap j c.run.given.tidy.heap c.run.given.tidy.held g.listed

    aligned-old : j.place % 8 ≡ 0
    aligned-old = (listed-item s.rows s.old.heap j c.run.given.tidy.heap c.run.given.tidy.held g.listed).aligned

    up-new : 8 ≤ i.place
    up-new = listed-above s.rows new i heap held listed

    aligned-new : i.place % 8 ≡ 0
    aligned-new = (listed-item s.rows new i heap held listed).aligned

    marked-mid : is_in_parts c.begun.view (Generations s.g) j.place ≡ true
        → has_mark (word_of c.went.mid j.place) ≡ true
    marked-mid inside =
        let view = c.begun.view in
        let mark : is_marked view g.object ≡ true =
        left-in-part s.rows view s.g c.begun.plan.moves m kept c.begun.plan.after c.run.given.generation
        c.begun.plan.compaction g.object
        (left-view s.rows s.old s.ready s.roots s.g s.entries s.planned c.run.given m kept c.begun g.object g.present
        ∙ g.left)
        (ap (is_in_parts view (Generations s.g)) g.from ∙ inside) in
        ap has_mark ((c.went.relocated.heads j in-view-items).1 ∙ ap (word_of view) (sym g.from)) ∙ mark

    lower-place : moved_by c.begun.plan.moves j.place ≤ j.place
    lower-place =
        subst (λ (x : ℕ). moved_by c.begun.plan.moves x ≤ x) g.from
        (object_lower m c.begun.plan.compaction.laid s.g c.run.given.generation kept c.begun.plan.moves
        c.begun.plan.after c.begun.plan.compaction.compacted g.object)

    -- words of the cell, but for the mark, stand where it goes
    moved-word : (t : ℕ) → t % 8 ≡ 0 → t < j.size → t ≢ 8
        → word_of s.moved.heap (i.place - 8 + t) ≡ word_of c.went.mid (j.place - 8 + t)
    moved-word t z l ne = elim (cases_Bool (is_in_parts c.begun.view (Generations s.g) j.place)) [
      | inl inside ↦
          let vs = c.begun.plan.moves in
          let mid_inside : is_in_parts c.went.mid (Generations s.g) j.place ≡ true =
          ap (λ (h : HeapView). is_in_parts h (Generations s.g) j.place) c.went.relocated.others ∙ inside in
          let marked = marked-mid inside in
          let at = g.place in
          elim (cases_eq t 0) [
            | inl first_word ↦
                let hb : i.place - 8 + t ≡ moved_by vs j.place - 8 = omega (arith, at, first_word) in
                let back : j.place - 8 ≡ j.place - 8 + t = omega (arith, first_word) in
                ap (word_of s.moved.heap) hb
                ∙ c.went.compacted.headers j in-mid-items g.is marked mid_inside
                ∙ ap (word_of c.went.mid) back
            | inr later_word ↦
                let b = i.place - 8 + t in
                let up = up-new in
                let za = aligned-new in
                let low = up-old in
                let lower = lower-place in
                let from : b + (j.place - moved_by vs j.place) ≡ j.place - 8 + t = omega (arith, at, up, low, lower) in
                c.went.compacted.cells j b in-mid-items g.is marked mid_inside (omega (arith, up, za, z))
                (omega (arith, at, up)) (omega (arith, at, up, l))
                ∙ ap (λ (test : Bool). if test then unmarked (word_of c.went.mid
                (b + (j.place - moved_by vs j.place))) else word_of c.went.mid
                (b + (j.place - moved_by vs j.place)))
                (ne_eqb (b + (j.place - moved_by vs j.place)) j.place (λ same. ne (omega (arith, same, from, low))))
                ∙ ap (word_of c.went.mid) from
          ]
      | inr away ↦
          let at = g.place in
          let stays = away-place j.place away in
          let same : i.place - 8 + t ≡ j.place - 8 + t = omega (arith, at, stays) in
          let up = up-old in
          let za = aligned-old in
          ap (word_of s.moved.heap) same
          ∙ c.went.compacted.outside (j.place - 8 + t) (omega (arith, up, za, z))
          (subst (λ (h : HeapView). IsOutside h (Generations s.g) (j.place - 8 + t)) (sym c.went.relocated.others)
          (outside-cell j in-view-items away (j.place - 8 + t) (omega (arith, up)) (omega (arith, up, l))))
    ]

    -- ---- before the moves

    -- words inside of the cell are not pinned headers
    old-stands : (x : ℕ) → IsPinnedBelow s.roots.handles (condemned_from s.old.heap s.g) 65536 x
        → StandsAt s.rows s.old.heap x
    old-stands x q =
        subst (StandsAt s.rows s.old.heap) q.target
        (left-stands s.rows s.old.heap s.g q.row.target (subst (λ (n : ℕ). 0 < n) (sym q.target) q.some)
        (c.run.given.marked.named.targets q.number q.row q.in_use))

    view-word : (b : ℕ) → b % 8 ≡ 0 → j.place ≤ b → b + 8 < j.place + j.size
        → word_of c.begun.view b ≡ word_of s.old.heap b
    view-word b z low high = elim (c.begun.pins.words b z) [
      | inl hit ↦
          absurd (none-starts s.rows s.old.heap c.run.given.tidy.heap c.run.given.tidy.held j (b + 8) g.listed
          (omega (arith, low)) high (old-stands (b + 8) hit.0))
      | inr miss ↦ miss.1
    ]

    -- ---- after the moves

    moved-stands : (x : ℕ) → IsPinnedBelow s.roots_after.handles s.low 65536 x → StandsAt s.rows s.moved.heap x
    moved-stands x q =
        subst (StandsAt s.rows s.moved.heap) q.target
        (pins-stand s m kept c q.number q.row q.in_use q.pinned (subst (λ (n : ℕ). 0 < n) (sym q.target) q.some))

    -- the item where it has moved
    record IsThere : Type 0 where
      item : Item
      there : IsIn item (heap_items s.rows s.moved.heap)
      at : item.place ≡ i.place
      bytes : item.size ≡ i.size

    is-there : IsThere
    is-there =
        let o = g.object in
        let spared = left-spared s m kept c o g.present g.left in
        let q = placed s m kept c o in
        let k = item-of s.rows s.moved.heap q (in-moved s m kept c o g.present spared) in
        let is = placed-left s m kept c o g.present g.left in
        let was = item-was-of in
        let type : k.item.type_id.0 ≡ i.type_id.0 =
        sym (ap (λ (x : Object). x.type) k.is) ∙ ap (λ (x : Object). x.type) is ∙ was.0 ∙ sym g.type in
        let len : k.item.len ≡ i.len =
        sym (ap (λ (x : Object). x.len) k.is) ∙ ap (λ (x : Object). x.len) is ∙ was.1 ∙ sym g.len in
        record {
          item = k.item;
          there = k.listed;
          at = sym k.at ∙ ap (λ (x : Object). x.place) is ∙ ap (moved_by c.begun.plan.moves) g.from ∙ sym g.place;
          bytes = listed-sized s.rows s.moved.heap k.item c.went.heap c.went.compacted.held k.listed
              ∙ (λ d. size_of (form_at s.rows (type d)) (len d))
              ∙ sym (listed-sized s.rows new i heap held listed);
        }
      where
        item-was-of : (g.object.type ≡ j.type_id.0) × (g.object.len ≡ j.len)
        item-was-of = g.kind

    bare-word : (b : ℕ) → b % 8 ≡ 0 → i.place ≤ b → b + 8 < i.place + i.size → word_of e.bare b ≡ word_of s.moved.heap b
    bare-word b z low high = elim (e.pins.words b z) [
      | inl hit ↦
          let w = is-there in
          let at = w.at in
          let bytes = w.bytes in
          absurd (none-starts s.rows s.moved.heap c.went.heap c.went.compacted.held w.item (b + 8) w.there
          (omega (arith, at, low)) (omega (arith, at, bytes, high)) (moved-stands (b + 8) hit.0))
      | inr miss ↦ miss.1
    ]

    new-word : is_object i ≡ true → (b : ℕ) → b % 8 ≡ 0 → i.place ≤ b + 8 → b + 8 < i.place + i.size → b ≢ i.place
        → word_of new b ≡ word_of e.bare b
    new-word object b z low high ne = by-kind s m kept c new e (word_of new b ≡ word_of e.bare b)
        (λ young same. ap (λ (h : HeapView). word_of h b) same)
        (λ full swept. swept.cells i b listed object z low high ∙ go (is_large_place e.bare i.place))
      where
        go : (t : Bool) → (if t then (if b == i.place then unmarked (word_of e.bare b) else word_of e.bare b)
            else word_of e.bare b) ≡ word_of e.bare b
        go true =
            ap (λ (t : Bool). if t then unmarked (word_of e.bare b) else word_of e.bare b) (ne_eqb b i.place ne)
        go false = refl

    -- ---- the header

    old-header : IsCleanHeader s.rows j.type_id.0 (word_of s.old.heap (j.place - 8))
    old-header = (c.run.given.tidy.clean j g.listed g.is).header

    off-old : has_pin (word_of s.old.heap (j.place - 8)) ≡ false
    off-old = none-pinned s.rows j.type_id.0 (word_of s.old.heap (j.place - 8)) old-header

    moved-header : word_of s.moved.heap (i.place - 8) ≡ word_of c.begun.view (j.place - 8)
    moved-header =
        let size = (listed-item s.rows s.old.heap j c.run.given.tidy.heap c.run.given.tidy.held g.listed).least in
        ap (word_of s.moved.heap) (omega arith) ∙ moved-word 0 refl (omega (arith, size)) (λ same. omega (arith, same))
        ∙ ap (word_of c.went.mid) (omega arith) ∙ (c.went.relocated.heads j in-view-items).0

    new-header : is_object i ≡ true → word_of new (i.place - 8) ≡ word_of s.old.heap (j.place - 8)
    new-header object =
        let up = up-new in
        let low = up-old in
        let za = aligned-new in
        let zo = aligned-old in
        let size = (listed-item s.rows new i heap held listed).least in
        let back : i.place - 8 + 8 ≡ i.place = omega (arith, up) in
        let back_old : j.place - 8 + 8 ≡ j.place = omega (arith, low) in
        let place = g.place in
        new-word object (i.place - 8) (omega (arith, up, za)) (omega (arith, up)) (omega (arith, up, size))
        (λ same. omega (arith, up, same))
        ∙ elim (e.pins.words (i.place - 8) (omega (arith, up, za))) [
          | inl hit ↦
              hit.1 ∙ ap (pinned_header false) moved-header
              ∙ elim (c.begun.pins.words (j.place - 8) (omega (arith, low, zo))) [
                | inl was ↦ ap (pinned_header false) was.1 ∙ pin-back (word_of s.old.heap (j.place - 8)) off-old
                | inr was ↦ ap (pinned_header false) was.1 ∙ pin-none (word_of s.old.heap (j.place - 8)) off-old
              ]
          | inr miss ↦
              miss.1 ∙ moved-header
              ∙ elim (c.begun.pins.words (j.place - 8) (omega (arith, low, zo))) [
                | inl was ↦
                    let pinned = subst₂ (λ (low : ℕ). IsPinnedBelow s.roots.handles low 65536) (sym c.run.low_is)
                    back_old was.0 in
                    let gone = pinned-moved (moved_by c.begun.plan.moves) s.roots.handles s.low j.place
                    (omega (arith, place, up)) (low-kept j.place pinned.high) pinned in
                    absurd (miss.0 (subst (IsPinnedBelow s.roots_after.handles s.low 65536) (sym place ∙ sym back)
                    (subst (λ (t : FinMap nat_cmp Handle). IsPinnedBelow t s.low 65536
                    (moved_by c.begun.plan.moves j.place))
                    (sym c.went.gone.table_is) gone)))
                | inr was ↦ was.1
              ]
        ]

    -- ---- padding

    clean-item : is_object i ≡ true → HasCleanWords s.rows (word_of new) i
    clean-item object = record {
      header = subst₂ (λ (t w : ℕ). IsCleanHeader s.rows t w) (sym g.type) (sym (new-header object)) old-header;
      padding = λ a down over.
          let form = form_at s.rows i.type_id.0 in
          let sized = listed-sized s.rows new i heap held listed in
          let z = aligned-new in
          let zo = aligned-old in
          let at = padding-word form i.len i.place a z down (omega (arith, over, sized)) in
          let above = at.above in
          let below = at.below in
          let p = j.place + (a - i.place) in
          let b = word_address a in
          let d = word_address p in
          let size = g.size in
          let ends : slots_end form i.len ≡ slots_end (form_at s.rows j.type_id.0) j.len =
          λ k. slots_end (form_at s.rows (g.type k)) (g.len k) in
          let up = up-new in
          let low = up-old in
          let t = b + 8 - i.place in
          let to : b ≡ i.place - 8 + t = omega (arith, above, up) in
          let from : j.place - 8 + t ≡ d = omega (arith, above, low, z, zo, down) in
          let low_p : j.place + slots_end (form_at s.rows j.type_id.0) j.len ≤ p = omega (arith, down, ends) in
          let high_p : p < j.place + j.size - 8 = omega (arith, over, size, above) in
          let none = no-reference s.rows c.begun.view c.begun.plan.overlaid.heap c.begun.pins.held (Generations s.g) j p
          in-view-items low_p high_p in
          let word : word_of new b ≡ word_of s.old.heap d =
          new-word object b at.aligned (omega (arith, above)) (omega (arith, below, sized))
          (λ same. omega (arith, same, above))
          ∙ bare-word b at.aligned (omega (arith, above)) (omega (arith, below, sized))
          ∙ ap (word_of s.moved.heap) to
          ∙ moved-word t (omega (arith, above, z)) (omega (arith, below, above, sized, size))
          (λ same. omega (arith, same, above))
          ∙ ap (word_of c.went.mid) from
          ∙ c.went.relocated.words d (omega arith)
          ∙ ap (λ (test : Bool). if test then moved_by c.begun.plan.moves (word_of c.begun.view d)
          else word_of c.begun.view d) none
          ∙ view-word d (omega arith) (omega (arith, from, above, low))
          (omega (arith, from, below, above, sized, size, low))
          in
          let digit : a % 8 ≡ p % 8 = omega (arith, z, zo, down) in
          ap₂ byte_of word digit ∙ (c.run.given.tidy.clean j g.listed g.is).padding p low_p high_p;
    }

  pub clean-ended : AreClean s.rows new
  clean-ended i listed object = clean-item i listed (has-gone i listed object) object
