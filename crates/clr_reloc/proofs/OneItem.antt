-- One item is relocated, if it is left.
use Rattle.std.proofs.Common.{◌≡◌, ℕ, ◌+◌, ◌/◌, ◌%◌, ◌<◌, ◌≤◌, ◌^◌, Bool, true, false, not, ◌&&◌, ◌||◌}
use Rattle.std.proofs.Common.{List, [], refl}
use Rattle.std.proofs.Common.{◌*◌, ◌-◌, ap, ap₂, sym, ◌∙◌, subst, arith, length, if◌then◌else◌}
use Rattle.std.proofs.lemmas.Bool.{and_parts, both_ways}
use Rattle.clr_types.specs.Rising.{IsIn}
use Rattle.clr_types.specs.Segments.{generation, Layout}
use Rattle.clr_types.specs.Types.{form_at, is_array, mt_of, size_of, TypeRow}
use Rattle.clr_types.specs.declared.item.Item.{Item}
use Rattle.clr_cards.specs.Cards.{is_card_set}
use Rattle.clr_covers.specs.Covers.{CoverView, is_covered}
use Rattle.clr_heap.specs.Memories.{HasWord, memory_index}
use Rattle.clr_heap.specs.Parts.{item_at, length_at, NamesItem, type_number}
use Rattle.clr_heap.specs.View.{frame, HeapView, IsHeap, word_of}
use Rattle.clr_heap.proofs.Storing.{HasWord-shapes, memory_index-shapes}
use Rattle.clr_model.specs.Compaction.{Move, moved_by}
use Rattle.clr_view.specs.Marks.{has_mark}
use Rattle.clr_view.specs.View.{IsHeld, is_object}
use Rattle.clr_view.proofs.Listed.{listed-low, listed-spelled}
use Rattle.clr_view.proofs.Standing.{cell_has, cell_index, len_in, mt_in, standing}
use Rattle.clr_pinq.specs.Queue.{logical, QueueView}
use Rattle.clr_pinq.specs.declared.entry.PinEntry.{PinEntry}
use Rattle.clr_moves.specs.declared.condemned.Condemned.{Condemned}
use Rattle.clr_moves.specs.declared.stretch.Stretch.{Stretch}
use Rattle.clr_reloc.specs.Relocated.{rebounded}
use Rattle.clr_reloc.specs.Relocating.{AreCarded, HasGone, is_gone_over, is_gone_over_in, is_left_at, IsAhead}
use Rattle.clr_reloc.specs.References.{references_of}
use Rattle.clr_reloc.specs.Relocating.{IsItemAhead, IsLeftItem, IsLeftReference}
use Rattle.clr_reloc.specs.Relocations.{AreRelocated, CanSkip, IsObjectAhead, IsPlaced, IsRelocatingBy}
use Rattle.clr_reloc.specs.declared.relocation.Relocation.{Relocation}
use Rattle.clr_reloc.proofs.Cells.{left_inside, one_item}
use Rattle.clr_reloc.proofs.LeftHomes.{gone_over_told}
use Rattle.clr_reloc.proofs.LeftPlaces.{over_same}
use Rattle.clr_reloc.proofs.OneObject.{keeps_refl}
use Rattle.clr_reloc.proofs.OneSegment.{cell_segment}

-- an item is read from two words
pub item_same : (rows : List TypeRow) (v w : ℕ → ℕ) (p : ℕ) → w p ≡ v p → w (p + 8) ≡ v (p + 8)
    → item_at rows w p ≡ item_at rows v p
unfolding item_at length_at
item_same rows v w p a b = λ k. record {
  place = p;
  size = size_of (form_at rows (type_number (a k))) (if is_array (form_at rows (type_number (a k))) then b k else 0);
  type_id = record { 0 = type_number (a k) };
  len = if is_array (form_at rows (type_number (a k))) then b k else 0;
}

pub names_same : (rows : List TypeRow) (v w : ℕ → ℕ) (p : ℕ) → w p ≡ v p → w (p + 8) ≡ v (p + 8)
    → NamesItem rows v p → NamesItem rows w p
names_same rows v w p a b n =
    let i = item_same rows v w p a b in
    record {
      known = subst (λ x. type_number x ≤ length rows) (sym a) n.known;
      mt = subst (λ x. x / 2 * 2 ≡ mt_of (type_number x)) (sym a) n.mt;
      least = subst (λ (x : Item). 24 ≤ x.size) (sym i) n.least;
      most = subst (λ (x : Item). x.size ≤ 1073741824) (sym i) n.most;
      whole = subst (λ (x : Item). x.size % 8 ≡ 0) (sym i) n.whole;
      free = λ e. subst (λ x. x % 8 ≡ 0) (sym b) (n.free (ap type_number (sym a) ∙ e));
    }

module _ (work : Relocation) (view now h : HeapView) (pins : QueueView) (vs : List Move) (last : Stretch)
    (r : IsRelocatingBy work view now h pins.entries vs last) (i : Item) (place to : ℕ) (cards : List (CoverView ℕ))
    (q : IsItemAhead work.types.now view now work.g vs i place to cards) where
  abbrev rows : List TypeRow
  rows = work.types.now

  abbrev g : Condemned
  g = work.g

  abbrev entries : List PinEntry
  entries = pins.entries

  heap : IsHeap view
  heap = r.0.begun.plan.overlaid.heap

  held : IsHeld rows view
  held = r.0.begun.plan.held

  -- the words of the item's cell
  cell_word : (b : ℕ) → b % 8 ≡ 0 → place ≤ b + 8 → b + 8 < place + i.size
      → logical entries (word_of h) b ≡ word_of view b
  cell_word b z low high = r.0.words b z (q.ahead.kept b z low high) ∙ q.ahead.untouched b z low high

  aligned : place % 8 ≡ 0
  aligned = subst (λ n. n % 8 ≡ 0) q.at (standing rows view heap held i q.listed).aligned

  least : 24 ≤ i.size
  least = (standing rows view heap held i q.listed).least

  pub mt_same : logical pins.entries (word_of h) place ≡ word_of view place
  mt_same = let z = aligned in let l = least in cell_word place z (omega arith) (omega arith)

  len_same : logical entries (word_of h) (place + 8) ≡ word_of view (place + 8)
  len_same = let z = aligned in let l = least in cell_word (place + 8) (omega arith) (omega arith) (omega arith)

  pub mt_has : HasWord h.memories place
  mt_has = HasWord-shapes view.memories h.memories place r.0.shape.memories
      (subst (HasWord view.memories) q.at (cell_has rows view heap held i i.place q.listed
      (mt_in rows view heap held i q.listed)))

  pub len_has : HasWord h.memories (place + 8)
  len_has = HasWord-shapes view.memories h.memories (place + 8) r.0.shape.memories
      (subst (λ n. HasWord view.memories (n + 8)) q.at (cell_has rows view heap held i (i.place + 8) q.listed
      (len_in rows view heap held i q.listed)))

  -- the length stands in the segment of the place
  pub len_segment : (k : ℕ) → k ≡ memory_index h.memories place → k ≡ memory_index h.memories (place + 8)
  len_segment k is =
      subst (λ n. k ≡ memory_index h.memories (n + 8)) q.at (cell_segment rows view heap held i q.listed h h r.0.shape
      r.0.shape k (subst (λ n. k ≡ memory_index h.memories n) (sym q.at) is) (i.place + 8)
      (len_in rows view heap held i q.listed))

  low_place : place + i.size ≤ 2 ^ 62
  low_place = let l = listed-low rows view i heap held q.listed in let e = q.at in omega (arith, l, e)

  pub fits_len : place + 8 < 2 ^ 64
  fits_len = let l = low_place in let s = least in omega (arith, l, s)

  pub item_is : item_at rows (logical entries (word_of h)) place ≡ i
  item_is =
      item_same rows (word_of view) (logical entries (word_of h)) place mt_same len_same
      ∙ ap (item_at rows (word_of view)) (sym q.at) ∙ sym (listed-spelled rows view i heap held q.listed).0

  pub item_named : NamesItem work.types.now (logical pins.entries (word_of h)) place
  item_named =
      names_same rows (word_of view) (logical entries (word_of h)) place mt_same len_same
      (subst (NamesItem rows (word_of view)) q.at (listed-spelled rows view i heap held q.listed).1)

  -- ---- what the test says

  -- the segment of the item
  in_segment : (k : ℕ) → k ≡ memory_index h.memories place → k ≡ (standing rows view heap held i q.listed).segment
  in_segment k is =
      is ∙ memory_index-shapes h.memories view.memories place r.0.shape.memories
      ∙ ap (memory_index view.memories) (sym q.at)
      ∙ cell_index rows view heap held i i.place q.listed (mt_in rows view heap held i q.listed)

  pub segment_inside : (k : ℕ) → k ≡ memory_index h.memories place → k < length h.segments
  segment_inside k is =
      let same = in_segment k is in
      let inside = (standing rows view heap held i q.listed).in_range in
      let count = ap (λ (x : HeapView). length x.segments) r.0.shape.others in
      omega (arith, same, inside, count)

  over_told : (k : ℕ) → k ≡ memory_index h.memories place → is_gone_over_in h g k i.place ≡ is_gone_over view g i.place
  over_told k is =
      let s = standing rows view heap held i q.listed in
      let below = s.below in
      let size = s.least in
      let reserved = s.reserved in
      over_same view h r.0.shape g k i.place
      ∙ subst (λ n. is_gone_over_in view g n i.place ≡ is_gone_over view g i.place) (sym (in_segment k is))
      (gone_over_told rows view g heap held s.segment i.place s.in_range s.above (omega (arith, below, size, reserved)))

  left_told : (k : ℕ) → k ≡ memory_index h.memories place → (found : Item) (mt : ℕ) → found ≡ i
      → mt ≡ word_of view place
      → (is_object found && (not (is_gone_over_in h g k found.place) || has_mark mt))
      ≡ (is_object i && is_left_at view g i.place)
  left_told k is found mt same word =
      ap (λ (x : Item). is_object x && (not (is_gone_over_in h g k x.place) || has_mark mt)) same
      ∙ ap (λ b. is_object i && (not b || has_mark mt)) (over_told k is)
      ∙ ap (λ w. is_object i && (not (is_gone_over view g i.place) || has_mark w))
      (word ∙ ap (word_of view) (sym q.at))

  left_item : (is_object i && is_left_at view g i.place) ≡ true → IsLeftItem rows view g i
  left_item on =
      let p = and_parts (is_object i) (is_left_at view g i.place) on in
      record { listed = q.listed; object = p.0; left = p.1 }

  -- no other item that is left begins among its bytes
  left_same : (j : Item) → IsLeftItem rows view g j → place ≤ j.place → j.place < place + i.size → j ≡ i
  left_same j left low high =
      let s = (standing rows view heap held j left.listed).least in
      let up = (standing rows view heap held j left.listed).above in
      let e = q.at in
      one_item rows view heap held j i (j.place - 8) left.listed q.listed (omega arith) (omega arith) (omega arith)
      (omega arith)

  -- no reference of another stands in its cells
  reference_same : (b : ℕ) (ref : IsLeftReference rows view g b) → place ≤ b + 8 → b + 8 < place + i.size
      → ref.item ≡ i
  reference_same b ref low high =
      let c = left_inside rows view heap held g b ref in
      let up = c.above in
      let e = q.at in
      one_item rows view heap held ref.item i b ref.left.listed q.listed (omega arith) c.below (omega arith)
      (omega arith)

  -- an item without references has nothing to relocate
  module _ (none : references_of work.types.now i ≡ []) where
    no_reference : (j : Item) (offset : ℕ) → j ≡ i → IsIn offset (references_of rows j) → ⊥
    no_reference j offset same member =
        elim (subst (IsIn offset) (ap (references_of rows) same ∙ none) member) [ ]

    -- and stays as it is
    pub bare_stays : AreRelocated work view now vs h h pins pins cards last place (place + i.size)
    bare_stays = record {
      next = now;
      relocating = r;
      gone = record {
        done = λ b ref low high.
            absurd (no_reference ref.item ref.offset (reference_same b ref low high) ref.reference);
        others = λ b z out. refl;
      };
      telling = keeps_refl rows view g vs entries h;
      carded = λ j offset left low high member. absurd (no_reference j offset (left_same j left low high) member);
    }

  -- an item that isn't left has nothing to relocate
  module _ (off : (is_object i && is_left_at view g i.place) ≡ false) where
    none_left : (j : Item) → IsLeftItem rows view g j → place ≤ j.place → j.place < place + i.size → ⊥
    none_left j left low high =
        both_ways (is_object i && is_left_at view g i.place) off
        (subst (λ (x : Item). (is_object x && is_left_at view g x.place) ≡ true) (left_same j left low high)
        (ap₂ (λ s t. s && t) left.object left.left))

    not_gone : HasGone rows view now now g vs place (place + i.size)
    not_gone = record {
      done = λ b ref low high.
          let p = ap (λ (x : Item). x.place) (reference_same b ref low high) in
          let e = q.at in
          let l = least in
          absurd (none_left ref.item ref.left (omega arith) (omega arith));
      others = λ b z out. refl;
    }

    not_carded : (layout : Layout) (is_set : ℕ → Bool)
        → AreCarded rows view g vs layout is_set place (place + i.size)
    not_carded layout is_set j offset left low high member = absurd (none_left j left low high)

    -- and stays as it is
    pub item_stays : AreRelocated work view now vs h h pins pins cards last place (place + i.size)
    item_stays = record {
      next = now;
      relocating = r;
      gone = not_gone;
      telling = keeps_refl rows view g vs entries h;
      carded = not_carded (rebounded (frame view) work.planned) (is_card_set cards);
    }

  -- what the code tells of the item that it reads
  module _ (k : ℕ) (is : k ≡ memory_index h.memories place) (found : Item)
      (read : found ≡ item_at work.types.now (logical pins.entries (word_of h)) place) (mt : ℕ)
      (word : mt ≡ logical pins.entries (word_of h) place) (tested : Bool)
      (told : tested ≡ (is_object found && (not (is_gone_over_in h work.g k found.place) || has_mark mt))) where
    pub found_is : found ≡ i
    found_is = read ∙ item_is

    test_is : tested ≡ (is_object i && is_left_at view g i.place)
    test_is = told ∙ left_told k is found mt found_is (word ∙ mt_same)

    pub found_stays : tested ≡ false → AreRelocated work view now vs h h pins pins cards last place (place + i.size)
    found_stays off = item_stays (sym test_is ∙ off)

    -- it goes where the item goes
    module _ (near age : ℕ) where
      pub found_ahead : tested ≡ true → (carded : Bool)
          → (carded ≡ true → CanSkip work view vs cards place (place + i.size))
          → IsObjectAhead work view now vs cards
          (record { segment = k; near = near; found = found; to = to; age = age; carded = carded })
      found_ahead on carded skip = record {
        left = subst (IsLeftItem rows view g) (sym found_is) (left_item (sym test_is ∙ on));
        ahead = subst (λ (x : Item). IsAhead view now g vs x.place (x.place + x.size)) (sym found_is)
            (subst (λ p. IsAhead view now g vs p (p + i.size)) (sym q.at) q.ahead);
        goes = q.goes ∙ ap (moved_by vs) (sym q.at ∙ ap (λ (x : Item). x.place) (sym found_is));
        skip = λ told. subst (λ (x : Item). CanSkip work view vs cards x.place (x.place + x.size)) (sym found_is)
            (subst (λ p. CanSkip work view vs cards p (p + i.size)) (sym q.at) (skip told));
      }

      pub found_placed : age ≡ generation (rebounded (frame h) work.planned) to → (carded : Bool)
          → IsPlaced work h cards
          (record { segment = k; near = near; found = found; to = to; age = age; carded = carded })
      found_placed age_is carded = record {
        segment = is ∙ ap (memory_index h.memories) (sym q.at ∙ ap (λ (x : Item). x.place) (sym found_is));
        age = age_is;
        covered = subst (λ (y : Item). (x : ℕ) → to ≤ x → x < to + y.size → is_covered cards (x / 2048) ≡ true)
            (sym found_is) q.covered;
      }

    -- once its references are relocated, the item's are
    pub found_done : (new : HeapView) (saved : QueueView) (set : List (CoverView ℕ)) (nearer : Stretch)
        → AreRelocated work view now vs h new pins saved set nearer found.place (found.place + found.size)
        → AreRelocated work view now vs h new pins saved set nearer place (place + i.size)
    found_done new saved set nearer done =
        subst (λ p. AreRelocated work view now vs h new pins saved set nearer p (p + i.size)) q.at
        (subst (λ (x : Item). AreRelocated work view now vs h new pins saved set nearer x.place (x.place + x.size))
        found_is done)
