-- What is written behind the walk doesn't matter to it: a scan from p on reads nothing below the header of the item at
-- p.
use Rattle.std.proofs.Common.{◌≡◌, ℕ, ◌+◌, ◌-◌, ◌%◌, ◌<◌, ◌≤◌, List, map, filter, ap, ◌∙◌, arith, ◌&&◌, Option}
use Rattle.clr_types.specs.Rising.{IsIn}
use Rattle.clr_types.specs.Types.{TypeRow}
use Rattle.clr_types.specs.Ranges.{Piece}
use Rattle.clr_types.specs.Segments.{generation}
use Rattle.clr_types.specs.declared.item.Item.{Item}
use Rattle.clr_types.proofs.ChangedLists.{out_of_filter}
use Rattle.clr_types.proofs.ListMembers.{filter-on, map-on}
use Rattle.clr_types.proofs.RisingLists.{all_at}
use Rattle.clr_heap.specs.Parts.{hole_from, items_in, Part, parts, Spells}
use Rattle.clr_heap.specs.View.{frame, HeapView, holes_of, items_between, SameShape, segment_at, sight, word_of}
use Rattle.clr_heap.proofs.Rewrite.{holes_same}
use Rattle.clr_heap.proofs.Runs.{held_same, Spells-seen}
use Rattle.clr_heap.proofs.Storing.{memory_index-shapes}
use Rattle.clr_heap.proofs.Walking.{CanWalk-from, spelled_parts}
use Rattle.clr_view.specs.Marks.{has_mark}
use Rattle.clr_view.specs.View.{is_object}
use Rattle.clr_view.proofs.Items.{IsItem, items-are}
use Rattle.clr_model.specs.Compaction.{plugs_of}
use Rattle.clr_sweep.specs.SweptItems.{stays}
use Rattle.clr_plan.specs.Scans.{CanScan, has_pin, plugs_between, survivor_in, survivors_between}

module _ (rows : List TypeRow) (old now : HeapView) (k p e : ℕ) (shape : SameShape old now) (ahead : (b : ℕ) → b % 8 ≡ 0
    → p ≤ b + 8 → b + 8 < e → word_of now b ≡ word_of old b) (s : CanScan rows old k p e) where
  abbrev ps : List Part
  ps = parts e (sight rows old k) p e

  spelled : Spells (sight rows now k) p ps e
  spelled = Spells-seen (sight rows old k) (word_of now) (holes_of now k) ps p e s.walk.start
      (record {
        words = λ b z low high. ahead b z (omega arith) (omega arith);
        holes = λ q low high. ap (λ (hs : List (Option Piece)). hole_from hs q) (holes_same old now k shape);
      })
      s.walk.spelled

  -- the segment can be scanned as before
  pub scans-on : CanScan rows now k p e
  scans-on = record {
    walk = CanWalk-from (sight rows now k) now.memories ps p e s.walk.start spelled
        (held_same old now p e shape.memories s.walk.held);
    index = λ b low high. memory_index-shapes now.memories old.memories b shape.memories ∙ s.index b low high;
    none = λ q. ap (λ (hs : List (Option Piece)). hole_from hs q) (holes_same old now k shape) ∙ s.none q;
    up = s.up;
    high = s.high;
  }

  pub items-same : items_between (sight rows now k) p e ≡ items_between (sight rows old k) p e
  items-same = ap items_in (spelled_parts (sight rows now k) ps p e spelled)

  between : (i : Item) → IsIn i (items_between (sight rows old k) p e) → IsItem rows p e i
  between i n = all_at (IsItem rows p e) n (items-are (sight rows old k) ps p e s.walk.start s.walk.spelled)

  -- an item's own word is as it was
  pub item-word : (i : Item) → IsIn i (items_between (sight rows old k) p e) → word_of now i.place ≡ word_of old i.place
  item-word i n =
      let is = between i n in
      let above = is.above in
      let under = is.below in
      let least = is.least in
      ahead i.place is.aligned (omega arith) (omega arith)

  stays-same : (i : Item) → IsIn i (items_between (sight rows old k) p e) → stays (word_of now) i
      ≡ stays (word_of old) i
  stays-same i n = ap (λ w. is_object i && has_mark w) (item-word i n)

  survivor-same : (i : Item) → IsIn i (items_between (sight rows old k) p e) → survivor_in now k i ≡ survivor_in old k i
  survivor-same i n =
      let is = between i n in
      let above = is.above in
      let under = is.below in
      let least = is.least in
      let whole = is.aligned in
      let up = s.up in
      let header = ahead (i.place - 8) (omega arith) (omega arith) (omega arith) in
      let base = ap (λ (h : HeapView). (segment_at h k).base) shape.others in
      let age = ap (λ (h : HeapView). generation (frame h) i.place) shape.others in
      λ j. record { place = i.place; size = i.size; segment = base j; generation = age j; pinned = has_pin (header j) }

  survivors-same : survivors_between rows now k p e ≡ survivors_between rows old k p e
  survivors-same =
      ap (λ is. map (survivor_in now k) (filter (stays (word_of now)) is)) items-same
      ∙ ap (map (survivor_in now k)) (filter-on (stays (word_of now)) (stays (word_of old))
      (items_between (sight rows old k) p e) stays-same)
      ∙ map-on (survivor_in now k) (survivor_in old k)
      (filter (stays (word_of old)) (items_between (sight rows old k) p e))
      (λ i n. survivor-same i (out_of_filter (stays (word_of old)) i (items_between (sight rows old k) p e) n).1)

  -- THE PLUGS AHEAD are the same
  pub plugs-same : plugs_between rows now k p e ≡ plugs_between rows old k p e
  plugs-same = ap plugs_of survivors-same
