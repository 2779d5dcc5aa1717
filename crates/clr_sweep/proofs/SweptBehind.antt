-- The part of a segment behind its front is swept: that is the sweep of the segment in a heap in which the objects of
-- the front are marked, too.
use Rattle.std.proofs.Common.{◌≡◌, ◌≢◌, inl, inr, ℕ, ◌+◌, ◌%◌, ◌<◌, ◌≤◌, Bool, true, List, [], ◌++◌, length}
use Rattle.std.proofs.Common.{refl, ap, ap₂, sym, ◌∙◌, subst, arith, cond, eqb, false, ◌-◌, if◌then◌else◌, Option}
use Rattle.std.proofs.lemmas.Bool.{and_parts, cases_eq, eq-eqb, eqb-false, ne_eqb}
use Rattle.std.proofs.lemmas.List.{get_or-set_same}
use Rattle.clr_mem.specs.Words.{Memory}
use Rattle.clr_types.specs.Ranges.{Piece}
use Rattle.clr_types.specs.Rising.{IsIn}
use Rattle.clr_types.specs.Segments.{empty_segment, ended_at, first_place, same_kind}
use Rattle.clr_types.specs.Types.{TypeRow}
use Rattle.clr_types.specs.declared.item.Item.{Item}
use Rattle.clr_types.specs.declared.segment.SegInfo.{SegInfo}
use Rattle.clr_types.specs.declared.segment.SegKind.TheVariants.{Ephemeral}
use Rattle.clr_types.proofs.ListMembers.{in_append}
use Rattle.clr_heap.specs.Memories.{shapes}
use Rattle.clr_heap.specs.Parts.{items_in, Part, parts, Spells, unmarked}
use Rattle.clr_heap.specs.View.{CanWalk, first_of, heap_items, HeapView, holes_of, IsHeap, last_of, listing, no_rests}
use Rattle.clr_heap.specs.View.{segment_at}
use Rattle.clr_heap.specs.View.{sight, word_of}
use Rattle.clr_heap.proofs.Runs.{held_same}
use Rattle.clr_heap.proofs.Spelling.{Spells-same}
use Rattle.clr_heap.proofs.Walking.{CanWalk-from, spelled_parts}
use Rattle.clr_mark.specs.Marks.{IsRemarked}
use Rattle.clr_mark.proofs.Remarking.{cell_mt, cell_word, keeps_listing}
use Rattle.clr_view.specs.Marks.{has_mark}
use Rattle.clr_view.specs.View.{HaveFreeHeads, IsHeld, is_object}
use Rattle.clr_view.proofs.FreeHeads.{head_stays, heads_joined}
use Rattle.clr_view.proofs.Standing.{InCell, listed_from}
use Rattle.clr_sweep.specs.Fronts.{IsFront}
use Rattle.clr_sweep.specs.SweptItems.{is_cut, items_below, items_from, last_end, part_last, stays, swept_from}
use Rattle.clr_sweep.specs.SweptItems.{swept_items, swept_last, swept_part}
use Rattle.clr_sweep.specs.SweptSegments.{HasCell, HasSweptSegment, IsAhead, IsParted, IsSwept}
use Rattle.clr_sweep.specs.declared.behind.Front.{Front}
use Rattle.clr_sweep.proofs.Agreeing.{last_agrees, last_end_ge, swept_agrees}
use Rattle.clr_sweep.proofs.FrontFacts.{below_filled, below_item, below_listing, from_item, from_listing, front_settled}
use Rattle.clr_sweep.proofs.FrontFacts.{part_high, part_low, parted_items}
use Rattle.clr_sweep.proofs.FrontItems.{last_on, left_on}

-- the heap with these words
abbrev pub with_memories : HeapView → List Memory → HeapView
with_memories h ms = record h { memories = ms }

-- ---- a segment whose words stay

module _ (rows : List TypeRow) (h now : HeapView) (k : ℕ) (shape : shapes now.memories ≡ shapes h.memories)
    (others : now ≡ record h { memories = now.memories; segments = now.segments }) (ahead : IsAhead h now k) where
  same_holes : holes_of now k ≡ holes_of h k
  same_holes = ap₂ (λ (t : SegInfo) (rs : List (Option Piece)). cond (same_kind t.kind Ephemeral) rs []) ahead.segment
      (ap (λ (g : HeapView). g.rests) others)

  pub same_start : first_of now k ≡ first_of h k
  same_start = ap first_place ahead.segment

  pub same_end : last_of now k ≡ last_of h k
  same_end = ap (λ (t : SegInfo). t.end) ahead.segment

  -- a walk in it
  module _ (p e : ℕ) (w : CanWalk (sight rows h k) h.memories p e) (low : first_of h k ≤ p) (high : e ≤ last_of h k)
    where
      abbrev ps : List Part
      ps = parts e (sight rows h k) p e

      spelled_now : Spells (sight rows now k) p ps e
      spelled_now =
          subst (λ (hs : List (Option Piece)). Spells (record { rows = rows; word = word_of now; holes = hs }) p ps e)
          (sym same_holes)
          (Spells-same (sight rows h k) (word_of now) ps p e w.start
          (λ b z lo hi. ahead.words b z (omega arith) (omega arith)) w.spelled)

      walk_now : CanWalk (sight rows now k) now.memories p e
      walk_now = CanWalk-from (sight rows now k) now.memories ps p e w.start spelled_now
          (held_same h now p e shape w.held)

      parts_now : parts e (sight rows now k) p e ≡ parts e (sight rows h k) p e
      parts_now = spelled_parts (sight rows now k) ps p e spelled_now

  module _ (from : ℕ) (w : IsParted rows h k from) where
    begins : first_of h k ≤ from
    begins = part_low rows h k from w

    ends : from ≤ last_of h k
    ends = part_high rows h k from w

    pub parted_now : IsParted rows now k from
    parted_now = record {
      below = subst (λ (p : ℕ). CanWalk (sight rows now k) now.memories p from) (sym same_start)
          (walk_now (first_of h k) from w.below (omega arith) ends);
      above = subst (λ (e : ℕ). CanWalk (sight rows now k) now.memories from e) (sym same_end)
          (walk_now from (last_of h k) w.above begins (omega arith));
    }

    pub below_now : items_below rows now k from ≡ items_below rows h k from
    below_now = ap (λ (p : ℕ). items_in (parts from (sight rows now k) p from)) same_start
        ∙ ap items_in (parts_now (first_of h k) from w.below (omega arith) ends)

    pub from_now : items_from rows now k from ≡ items_from rows h k from
    from_now = ap (λ (e : ℕ). items_in (parts e (sight rows now k) from e)) same_end
        ∙ ap items_in (parts_now from (last_of h k) w.above begins (omega arith))

-- ---- what a sweep of a heap leaves in which the objects of a front are marked, too

module _ (rows : List TypeRow) (h : HeapView) (vm : List Memory) (k : ℕ) (f : Front) (heap : IsHeap h)
    (held : IsHeld rows h) (none : h.rests ≡ no_rests) (inside : k < length h.segments)
    (marks : IsRemarked rows h (with_memories h vm)) (front : IsFront rows h (with_memories h vm) k f) where
  abbrev stay : Item → Bool
  stay = stays (word_of (with_memories h vm))

  pub items_marked : listing rows (with_memories h vm) k ≡ items_below rows h k f.place ++ items_from rows h k f.place
  items_marked = keeps_listing rows h (with_memories h vm) heap held marks k inside
      ∙ parted_items rows h k f.place front.parted

  -- the front, and what a sweep leaves of the items behind it
  pub swept_marked : swept_items rows (with_memories h vm) k ≡ items_below rows h k f.place
      ++ swept_from (stays (word_of (with_memories h vm))) (is_cut h) [] f.place f.place (items_from rows h k f.place)
  swept_marked =
      ap (λ (is : List Item). swept_from stay (is_cut h) [] (first_of h k) (first_of h k) is) items_marked
      ∙ left_on stay (is_cut h) (items_from rows h k f.place) f.place (first_of h k) (items_below rows h k f.place)
      (below_filled rows h k f.place front.parted none) (front_settled rows h (with_memories h vm) k f front)
      front.settled

  -- which doesn't end below the front
  pub end_marked : swept_last rows (with_memories h vm) k
      ≡ last_end (stays (word_of (with_memories h vm))) f.place (items_from rows h k f.place)
  end_marked =
      ap (λ (is : List Item). last_end stay (first_of h k) is) items_marked
      ∙ last_on stay (items_from rows h k f.place) f.place (first_of h k) (first_of h k) false
      (items_below rows h k f.place) (below_filled rows h k f.place front.parted none)
      (front_settled rows h (with_memories h vm) k f front) front.settled (λ _. refl)

  pub end_above : f.place ≤ swept_last rows (with_memories h vm) k
  end_above = subst (λ (n : ℕ). f.place ≤ n) (sym end_marked)
      (last_end_ge stay f.place f.place (items_from rows h k f.place) (omega arith)
      (λ i l. (from_item rows h k f.place front.parted i l).above))

-- ---- the sweep of one

-- a word without a mark is as it is without it
unmarked_is : (w : ℕ) → has_mark w ≡ false → unmarked w ≡ w
unmarked_is w off = let none = eqb-false (w % 2) 1 off in omega (arith, none)

module _ (rows : List TypeRow) (h : HeapView) (vm : List Memory) (now new : HeapView) (k : ℕ) (f : Front)
    (heap : IsHeap h) (held : IsHeld rows h) (none : h.rests ≡ no_rests) (inside : k < length h.segments)
    (marks : IsRemarked rows h (with_memories h vm))
    (behind : (b : ℕ) → b % 8 ≡ 0 → f.place ≤ b → b < last_of h k → word_of (with_memories h vm) b ≡ word_of h b)
    (front : IsFront rows h (with_memories h vm) k f)
    (shape : shapes now.memories ≡ shapes h.memories)
    (others : now ≡ record h { memories = now.memories; segments = now.segments }) (ahead : IsAhead h now k)
    (in_range : k < length now.segments) (w : HasSweptSegment rows now new k f.place) where
  abbrev v : HeapView
  v = with_memories h vm

  abbrev below : List Item
  below = items_below rows h k f.place

  abbrev above : List Item
  above = items_from rows h k f.place

  low : first_of h k ≤ f.place
  low = part_low rows h k f.place front.parted

  high : f.place ≤ last_of h k
  high = part_high rows h k f.place front.parted

  -- ---- the same of the items behind stay

  -- such an item's word is the same in each of the heaps
  pub above_word : (i : Item) → IsIn i above → word_of now i.place ≡ word_of v i.place
  above_word i l =
      let is = from_item rows h k f.place front.parted i l in
      let z = is.aligned in
      let up = is.above in
      let down = is.below in
      let least = is.least in
      let b = low in
      ahead.words i.place z (omega arith) (omega arith) ∙ sym (behind i.place z up (omega arith))

  above_stays : (i : Item) → IsIn i above → stays (word_of now) i ≡ stays (word_of v) i
  above_stays i l = ap (λ (n : ℕ). stays (λ _. n) i) (above_word i l)

  abbrev left : List Item
  left = swept_from (stays (word_of v)) (is_cut h) [] f.place f.place above

  part_is : swept_part rows now k f.place ≡ left
  part_is =
      ap (λ (g : HeapView). swept_from (stays (word_of now)) (is_cut g) [] f.place f.place
      (items_from rows now k f.place)) others
      ∙ ap (λ (is : List Item). swept_from (stays (word_of now)) (is_cut h) [] f.place f.place is)
      (from_now rows h now k shape others ahead f.place front.parted)
      ∙ swept_agrees (stays (word_of now)) (stays (word_of v)) (is_cut h) [] f.place f.place above above_stays

  last_is : part_last rows now k f.place ≡ last_end (stays (word_of v)) f.place above
  last_is =
      ap (λ (is : List Item). last_end (stays (word_of now)) f.place is)
      (from_now rows h now k shape others ahead f.place front.parted)
      ∙ last_agrees (stays (word_of now)) (stays (word_of v)) f.place above above_stays

  -- ---- the words of what stays

  listed : (i : Item) → IsIn i (listing rows h k) → IsIn i (heap_items rows h)
  listed i l = listed_from rows h k i inside l

  -- only marks differ
  cell_same : (i : Item) (b : ℕ) → IsIn i (listing rows h k) → InCell i b → b ≢ i.place → word_of v b ≡ word_of h b
  cell_same i b l c ne = cell_word rows h v heap held marks i b (listed i l) c ne

  -- an object of the front hasn't a mark in h
  front_word : (i : Item) → IsIn i below → is_object i ≡ true → unmarked (word_of v i.place) ≡ word_of h i.place
  front_word i l object =
      cell_mt rows h v heap held marks i (listed i (below_listing rows h k f.place front.parted i l))
      ∙ unmarked_is (word_of h i.place) (front.unmarked i l object)

  front_cell : (i : Item) → IsIn i below → is_object i ≡ true → HasCell v new i
  front_cell i l object b z lo hi =
      let is = below_item rows h k f.place front.parted i l in
      let up = is.above in
      let down = is.below in
      let top = high in
      let same : word_of new b ≡ word_of h b =
      w.outside b z (inl (omega arith)) ∙ ahead.words b z (omega arith) (omega arith) in
      same ∙ elim (cases_eq b i.place) [
        | inl e ↦
            ap (word_of h) e ∙ sym (front_word i l object) ∙ sym (ap (λ (n : ℕ). unmarked (word_of v n)) e)
            ∙ sym (ap (λ (t : Bool). if t then unmarked (word_of v b) else word_of v b) (eq-eqb b i.place e))
        | inr ne ↦
            sym (cell_same i b (below_listing rows h k f.place front.parted i l)
            (record { aligned = z; low = lo; high = hi }) ne)
            ∙ sym (ap (λ (t : Bool). if t then unmarked (word_of v b) else word_of v b) (ne_eqb b i.place ne))
      ]

  above_cell : (i : Item) → IsIn i above → stays (word_of v) i ≡ true → HasCell v new i
  above_cell i l on b z lo hi =
      let is = from_item rows h k f.place front.parted i l in
      let up = is.above in
      let down = is.below in
      let bottom = low in
      let same : word_of now b ≡ word_of v b = elim (cases_eq b i.place) [
        | inl e ↦ ap (word_of now) e ∙ above_word i l ∙ sym (ap (word_of v) e)
        | inr ne ↦ ahead.words b z (omega arith) (omega arith)
            ∙ sym (cell_same i b (from_listing rows h k f.place front.parted i l)
            (record { aligned = z; low = lo; high = hi }) ne)
      ] in
      w.cells i (subst (λ (is : List Item). IsIn i is)
      (sym (from_now rows h now k shape others ahead f.place front.parted)) l) (above_stays i l ∙ on) b z lo hi
      ∙ ap (λ (n : ℕ). cond (eqb b i.place) (unmarked n) n) same

  -- ---- the heads of free items

  front_heads : HaveFreeHeads (word_of new) below
  front_heads i l free =
      let is = below_item rows h k f.place front.parted i l in
      let z = is.aligned in
      let up = is.above in
      let down = is.below in
      let least = is.least in
      let top = high in
      let same : (b : ℕ) → b % 8 ≡ 0 → i.place ≤ b + 8 → b ≤ i.place → word_of new b ≡ word_of h b =
      λ b zb lo hi. w.outside b zb (inl (omega arith)) ∙ ahead.words b zb (omega arith) (omega arith) in
      head_stays (word_of h) (word_of new) i.place (same (i.place - 8) (omega arith) (omega arith) (omega arith))
      (same i.place z (omega arith) (omega arith)) (front.free_heads i l free)

  new_items : listing rows new k ≡ below ++ swept_part rows now k f.place
  new_items = w.items ∙ ap (λ (is : List Item). is ++ swept_part rows now k f.place)
      (below_now rows h now k shape others ahead f.place front.parted)

  -- THE SEGMENT IS SWEPT
  pub swept_behind : IsSwept rows (with_memories h vm) new k
  swept_behind = record {
    segment =
        ap (λ (g : HeapView). segment_at g k) w.others
        ∙ get_or-set_same now.segments k (ended_at (part_last rows now k f.place) (segment_at now k)) empty_segment
        in_range
        ∙ ap₂ ended_at (last_is ∙ sym (end_marked rows h vm k f heap held none inside marks front)) ahead.segment;
    walkable = w.walkable;
    items = new_items ∙ ap (λ (is : List Item). below ++ is) part_is
        ∙ sym (swept_marked rows h vm k f heap held none inside marks front);
    cells = λ i l on. elim (in_append below (subst (λ (is : List Item). IsIn i is)
        (items_marked rows h vm k f heap held none inside marks front) l)) [
          | inl there ↦ front_cell i there (and_parts (is_object i) (has_mark (word_of v i.place)) on).0
          | inr there ↦ above_cell i there on
        ];
    free_heads = subst (HaveFreeHeads (word_of new)) (sym new_items)
        (heads_joined (word_of new) below (swept_part rows now k f.place) front_heads w.free_heads);
  }
