-- Cards and bricks of a segment that is given back are taken away with it, and all others obey their laws.
use Rattle.std.proofs.Common.{◌≡◌, ◌≢◌, inl, inr, ℕ, suc, ◌+◌, ◌*◌, ◌/◌, ◌<◌, ◌≤◌, Bool, true, nat_lt, List, [], ◌∷◌}
use Rattle.std.proofs.Common.{filter, length, map, get_or, if◌then◌else◌, refl, ap, sym, ◌∙◌, subst, arith}
use Rattle.std.specs.List.{remove}
use Rattle.std.specs.Prelude.{ℤ}
use Rattle.std.proofs.lemmas.Bool.{cases_eq}
use Rattle.std.proofs.lemmas.List.{length-map}
use Rattle.std.proofs.lemmas.Option.{slice_get_within}
use Rattle.clr_mem.specs.Words.{Memory}
use Rattle.clr_types.specs.Rising.{IsIn}
use Rattle.clr_types.specs.Segments.{empty_segment, ephemeral, generation, reserved_end, same_kind, segment_or_empty}
use Rattle.clr_types.specs.Segments.{stands_in}
use Rattle.clr_types.specs.Types.{bytes_form, class_form, Form, form_at, references_form, slot_kinds, slot_offset}
use Rattle.clr_types.specs.Types.{slots_from, slots_of, structs_form, TypeRow}
use Rattle.clr_types.specs.declared.item.Item.{Item}
use Rattle.clr_types.specs.declared.segment.SegInfo.{SegInfo}
use Rattle.clr_types.specs.declared.segment.SegKind.TheVariants.{Ephemeral}
use Rattle.clr_types.proofs.ChangedLists.{out_of_filter}
use Rattle.clr_bricks.specs.Bricks.{entry_at}
use Rattle.clr_cards.specs.Cards.{is_card_set}
use Rattle.clr_covers.specs.Covers.{begins, CoverView, is_covered, spans}
use Rattle.clr_heap.specs.View.{first_of, frame, heap_items, HeapView, IsHeap, last_of, segment_at, word_of}
use Rattle.clr_heap.proofs.Framing.{lawful_at}
use Rattle.clr_heap.proofs.Staying.{outside_other}
use Rattle.clr_model.specs.Lookups.{object_size}
use Rattle.clr_model.specs.Machine.{Object, ref}
use Rattle.clr_view.specs.View.{is_object, IsHeld, object_in, objects_in, slot_value}
use Rattle.clr_view.proofs.Listed.{listed-sized}
use Rattle.clr_view.proofs.ObjectItems.{in_map}
use Rattle.clr_view.proofs.Slots.{slot-inside, slot_word}
use Rattle.clr_view.proofs.Standing.{standing}
use Rattle.clr_generations.specs.Laws.{AreEntered, IsBrickOf, NamesYounger, ReachesInto}
use Rattle.clr_generations.specs.Tables.{AreTablesOf, units_of}
use Rattle.clr_collect.specs.Released.{HasLost}
use Rattle.clr_collect.proofs.BrickPaths.{entered_kept}
use Rattle.clr_collect.proofs.CoveredSegments.{bricks-reserved, card-inside, left-from, left-in}
use Rattle.clr_collect.proofs.CoveredSegments.{segment-in, segment_begins, segment_covered, spans_left}
use Rattle.clr_collect.proofs.SegmentsLost.{filter-removed, lost_objects, not-young}
use Rattle.clr_collect.proofs.TablesKept.{entered_alike, younger_aged, reaches_aged}

-- ---- where objects reach

counted : (form : Form) (i : ℕ) (kinds : List Bool) → length (slots_from form i kinds) ≡ length kinds
counted form i [] = refl
counted form i (kind ∷ kinds) = ap suc (counted form (i + 1) kinds)

word-near : (form : Form) (a : ℕ) → a < slot_word form a + 8
word-near (class_form pattern) a = omega arith
word-near references_form a = omega arith
word-near bytes_form a = omega arith
word-near (structs_form pattern) a = omega arith

-- where an object of the heap stands: the number of its segment, and its bounds there
pub record IsHomed (rows : List TypeRow) (h : HeapView) (o : Object) : Type 0 where
  pub home : ℕ
  pub in_range : home < length h.segments
  pub above : first_of h home ≤ o.place
  pub below : o.place + object_size rows o ≤ last_of h home
  pub high : last_of h home ≤ reserved_end (segment_at h home)
  pub least : 24 ≤ object_size rows o
  pub slots : (j : ℕ) → j < length o.slots → o.place + slot_offset (form_at rows o.type) j < last_of h home

module _ (rows : List TypeRow) (h : HeapView) (heap : IsHeap h) (held : IsHeld rows h) where
  item-homed : (i : Item) → IsIn i (heap_items rows h) → IsHomed rows h (object_in rows (word_of h) i)
  item-homed i listed =
      let s = standing rows h heap held i listed in
      let sized = listed-sized rows h i heap held listed in
      let below = s.below in
      let least = s.least in
      record {
        home = s.segment;
        in_range = s.in_range;
        above = s.above;
        below = omega arith;
        high = s.reserved;
        least = omega arith;
        slots = λ j l.
            let form = form_at rows i.type_id.0 in
            let count : length (map (slot_value form (word_of h) i.place) (slots_of form i.len))
            ≡ length (slot_kinds form i.len) =
            length-map (slots_of form i.len) (slot_value form (word_of h) i.place)
            ∙ counted form 0 (slot_kinds form i.len) in
            let inside = slot-inside form i.len i.place j s.aligned (omega arith) in
            let low = inside.below in
            let near = word-near form (i.place + slot_offset form j) in
            omega arith;
      }

  pub homed : (o : Object) → IsIn o (objects_in rows h) → IsHomed rows h o
  homed o i =
      let (x, passed, same) = in_map (object_in rows (word_of h)) o (filter is_object (heap_items rows h)) i in
      subst (IsHomed rows h) same (item-homed x (out_of_filter is_object x (heap_items rows h) passed).1)

-- ---- segment k is given back

module _ (rows : List TypeRow) (h : HeapView) (heap : IsHeap h) (held : IsHeld rows h) (k : ℕ)
    (l : k < length h.segments) (empty : last_of h k ≡ first_of h k) (other : (segment_at h k).kind ≢ Ephemeral)
    (ms : List Memory) (new : HeapView) (is : new ≡ record h { memories = ms; segments = remove h.segments k })
    (lost : HasLost rows h new) where
  segments-left : new.segments ≡ remove h.segments k
  segments-left = ap (λ (v : HeapView). v.segments) is

  same-objects : objects_in rows new ≡ objects_in rows h
  same-objects = lost_objects rows h new heap held lost

  -- the ephemeral segment is the same, and so are generations
  same-young : ephemeral (frame new) ≡ ephemeral (frame h)
  same-young =
      ap (λ (v : HeapView). ephemeral (frame v)) is
      ∙ ap segment_or_empty (filter-removed (λ (s : SegInfo). same_kind Ephemeral s.kind) h.segments k empty_segment l
      (not-young (segment_at h k).kind other))

  ages : (p : ℕ) → generation (frame new) p ≡ generation (frame h) p
  ages p =
      ap (λ (v : HeapView). generation (frame v) p) is
      ∙ ap (λ (s : SegInfo). if stands_in s p
      then (if nat_lt p h.start1 then 2 else (if nat_lt p h.start0 then 1 else 0)) else 2)
      (ap segment_or_empty (filter-removed (λ (s : SegInfo). same_kind Ephemeral s.kind) h.segments k empty_segment l
      (not-young (segment_at h k).kind other)))

  start-same : new.start0 ≡ h.start0
  start-same = ap (λ (v : HeapView). v.start0) is

  -- an object stands in another segment
  elsewhere : (o : Object) → (home : IsHomed rows h o) → home.home ≢ k
  elsewhere o home same =
      let above = home.above in
      let below = home.below in
      let least = home.least in
      let first : first_of h home.home ≡ first_of h k = ap (first_of h) same in
      let last : last_of h home.home ≡ last_of h k = ap (last_of h) same in
      omega arith

  segment-left : (j : ℕ) → j < length h.segments → j ≢ k → IsIn (segment_at h j) new.segments
  segment-left j inside apart =
      subst (λ (ss : List SegInfo). IsIn (segment_at h j) ss) (sym segments-left) (left-in h.segments j k inside apart)

  module _ (cards : List (CoverView ℕ)) (bricks : List (CoverView ℤ)) (t : AreTablesOf rows h cards bricks) where
    known : IsIn (segment_at h k) h.segments
    known = segment-in h.segments k l

    -- covers begin where the segment does
    pub cards_begin : begins cards ((segment_at h k).base / 2048) ≡ true
    cards_begin = segment_begins 2048 cards h.segments t.cards (segment_at h k) known

    pub bricks_begin : begins bricks ((segment_at h k).base / 4096) ≡ true
    bricks_begin = segment_begins 4096 bricks h.segments t.bricks (segment_at h k) known

    module _ (cards' : List (CoverView ℕ)) (bricks' : List (CoverView ℤ))
        (sets : (i : ℕ) → is_covered cards' i ≡ true → is_card_set cards' i ≡ is_card_set cards i)
        (entries : (i : ℕ) → is_covered bricks' i ≡ true → entry_at bricks' i ≡ entry_at bricks i)
        (card_spans : (j : ℕ) → j < length cards → (get_or (spans cards) j (0, 0)).0 ≡ (segment_at h k).base / 2048
        → spans cards' ≡ remove (spans cards) j)
        (brick_spans : (j : ℕ) → j < length bricks → (get_or (spans bricks) j (0, 0)).0 ≡ (segment_at h k).base / 4096
        → spans bricks' ≡ remove (spans bricks) j) where
      cards-left : spans cards' ≡ map (units_of 2048) new.segments
      cards-left =
          spans_left 2048 cards h.segments t.cards cards' k l card_spans
          ∙ ap (map (units_of 2048)) (sym segments-left)

      bricks-left : spans bricks' ≡ map (units_of 4096) new.segments
      bricks-left =
          spans_left 4096 bricks h.segments t.bricks bricks' k l brick_spans
          ∙ ap (map (units_of 4096)) (sym segments-left)

      -- ---- cards

      slot-covered : (a : ℕ) → NamesYounger rows (frame h) (objects_in rows h) a → is_covered cards' (a / 2048) ≡ true
      slot-covered a n =
          let home = homed rows h heap held n.object n.present in
          let s = segment_at h home.home in
          let at = n.address in
          let above = home.above in
          let high = home.high in
          let under = home.slots n.slot (slice_get_within n.object.slots n.slot (ref n.target.name) n.named) in
          let (low, up) = card-inside s (lawful_at h home.home heap home.in_range) a (omega arith) (omega arith) in
          segment_covered 2048 cards' new.segments cards-left s
          (segment-left home.home home.in_range (elsewhere n.object home)) (a / 2048) low up

      card-law : (a : ℕ) → NamesYounger rows (frame new) (objects_in rows new) a
          → is_card_set cards' (a / 2048) ≡ true
      card-law a n =
          let was = younger_aged rows (frame h) (frame new) ages (objects_in rows h) a
          (subst (λ (os : List Object). NamesYounger rows (frame new) os a) same-objects n) in
          sets (a / 2048) (slot-covered a was) ∙ t.card_law a was

      -- ---- bricks

      -- what reaches into a brick of a segment stands in it
      reaching-inside : (j : ℕ) → j < length h.segments → (b : ℕ) → IsBrickOf (segment_at h j) b
          → (r : ReachesInto rows (frame h) (objects_in rows h) b) → (segment_at h j).base ≤ r.object.place
      reaching-inside j inside b of r =
          let home = homed rows h heap held r.object r.present in
          let above = home.above in
          let below = home.below in
          let high = home.high in
          let from = r.from in
          let to = r.to in
          let (first, last) = of in
          let lawful = lawful_at h j heap inside in
          let base = lawful.base in
          let reserved = lawful.reserved in
          elim (cases_eq home.home j) [
            | inl same ↦ let at : first_of h home.home ≡ first_of h j = ap (first_of h) same in omega arith
            | inr apart ↦ elim (outside_other h home.home j (4096 * b) heap home.in_range inside apart (omega arith)
                (omega arith)) [ inl under ↦ absurd (omega arith) | inr over ↦ absurd (omega arith) ]
          ]

      brick-law : (s : SegInfo) → IsIn s new.segments → AreEntered rows (frame new) (objects_in rows new)
          (entry_at bricks') s
      brick-law s i =
          let (j, inside, apart, at) = left-from h.segments k s l
          (subst (λ (ss : List SegInfo). IsIn s ss) segments-left i) in
          let lawful = lawful_at h j heap inside in
          let there = segment-left j inside apart in
          let same : (b : ℕ) → IsBrickOf (segment_at h j) b → entry_at bricks' b ≡ entry_at bricks b =
          λ b of.
          let (low, high) = of in
          let whole = bricks-reserved (segment_at h j) lawful in
          entries b (segment_covered 4096 bricks' new.segments bricks-left (segment_at h j) there b low
          (omega arith)) in
          subst (AreEntered rows (frame new) (objects_in rows new) (entry_at bricks')) at
          (subst (λ (os : List Object). AreEntered rows (frame new) os (entry_at bricks') (segment_at h j))
          (sym same-objects)
          (entered_alike rows (frame h) (frame new) ages start-same (objects_in rows h) (objects_in rows h)
          (λ p. (λ s. s, λ s. s)) (λ b r. reaches_aged rows (frame h) (frame new) ages (objects_in rows h) b r)
          (entry_at bricks') (segment_at h j)
          (entered_kept rows (frame h) (objects_in rows h) (segment_at h j) lawful (entry_at bricks) (entry_at bricks')
          same (reaching-inside j inside) (t.brick_law (segment_at h j) (segment-in h.segments j inside)))))

      -- THE TABLES without those of the segment
      pub tables_left : AreTablesOf rows new cards' bricks'
      tables_left = record {
        cards = cards-left;
        bricks = bricks-left;
        card_law = card-law;
        brick_law = brick-law;
      }
