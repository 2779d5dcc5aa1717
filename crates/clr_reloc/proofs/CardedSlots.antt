-- Slots of an object by their numbers: their words, and which references a loop over them has passed.
use Rattle.std.proofs.Common.{◌≡◌, ◌⊎◌, ◌-◌, ℕ, zero, suc, ◌+◌, ◌*◌, ◌/◌, ◌^◌, ◌<◌, ◌≤◌, Bool, true, false, List, [], ◌∷◌, ◌++◌}
use Rattle.std.proofs.Common.{append-nil, append_assoc, length, length-append, filter, map, refl, ap, sym, ◌∙◌, subst}
use Rattle.std.proofs.Common.{subst₂, arith, slice_get, Some}
use Rattle.std.proofs.lemmas.Bool.{both_ways}
use Rattle.clr_types.specs.Rising.{IsIn}
use Rattle.clr_types.specs.Segments.{generation}
use Rattle.clr_types.specs.Types.{bytes_form, class_form, Form, form_at, is_bytes, references_form, slot_kinds}
use Rattle.clr_types.specs.Types.{slot_offset, slots_from, structs_form, TypeRow}
use Rattle.clr_types.specs.declared.item.Item.{Item}
use Rattle.clr_types.specs.declared.shape.Slot.{Slot}
use Rattle.clr_cards.specs.Cards.{is_card_set}
use Rattle.clr_covers.specs.Covers.{CoverView, is_covered}
use Rattle.clr_covers.proofs.Spans.{is_covered-spans, share_cover-spans}
use Rattle.clr_heap.specs.Memories.{HasWord, memory_index}
use Rattle.clr_heap.specs.View.{frame, heap_items, HeapView, IsHeap}
use Rattle.clr_heap.proofs.Storing.{HasWord-shapes}
use Rattle.clr_model.specs.Compaction.{Move}
use Rattle.clr_view.specs.View.{IsHeld}
use Rattle.clr_view.proofs.Listed.{listed-low, listed-sized}
use Rattle.clr_view.proofs.Standing.{cell_has, InCell, standing}
use Rattle.clr_view.proofs.StoredSlots.{slot-there}
use Rattle.clr_pinq.specs.Queue.{QueueView}
use Rattle.clr_moves.specs.declared.stretch.Stretch.{Stretch}
use Rattle.clr_reloc.specs.Partial.{IsPartial}
use Rattle.clr_reloc.specs.References.{references_of}
use Rattle.clr_reloc.specs.Relocated.{rebounded}
use Rattle.clr_reloc.specs.Relocating.{IsSlotAhead}
use Rattle.clr_reloc.specs.Relocations.{IsObjectAhead, IsPlaced, IsRelocatingBy, IsSlotRelocated, KeepsBeside}
use Rattle.clr_reloc.specs.Resting.{IsPassed, MayRest}
use Rattle.clr_reloc.specs.Scanning.{AreInRow}
use Rattle.clr_reloc.specs.declared.relocation.LeftObject.{LeftObject}
use Rattle.clr_reloc.specs.declared.relocation.Relocation.{Relocation}
use Rattle.clr_reloc.proofs.Cells.{moved_lower}
use Rattle.clr_reloc.proofs.ObjectLoops.{HasPassed, passed_more, passed_none, slot_at, slot_card, slot_fits, slot_next}
use Rattle.clr_reloc.proofs.OneSegment.{cell_segment}
use Rattle.clr_reloc.proofs.RestingWords.{one_rests}

-- the offsets of the references among slots of these kinds, from number i on
abbrev pub refs_from : Form → ℕ → List Bool → List ℕ
refs_from form i kinds = map (λ (s : Slot). s.offset) (filter (λ (s : Slot). s.reference) (slots_from form i kinds))

refs_more : (form : Form) (i : ℕ) (done left : List Bool)
    → refs_from form i (done ++ left) ≡ refs_from form i done ++ refs_from form (i + length done) left
refs_more form i [] left = let at : i ≡ i + 0 = omega arith in ap (λ n. refs_from form n left) at
refs_more form i (true ∷ done) left =
    let at : i + 1 + length done ≡ i + suc (length done) = omega arith in
    ap (λ (ns : List ℕ). slot_offset form i ∷ ns) (refs_more form (i + 1) done left
    ∙ ap (λ n. refs_from form (i + 1) done ++ refs_from form n left) at)
refs_more form i (false ∷ done) left =
    let at : i + 1 + length done ≡ i + suc (length done) = omega arith in
    refs_more form (i + 1) done left ∙ ap (λ n. refs_from form (i + 1) done ++ refs_from form n left) at

-- slots stand side by side
pub offset_on : (form : Form) → is_bytes form ≡ false → (i k : ℕ)
    → slot_offset form (i + k) ≡ slot_offset form i + 8 * k
offset_on (class_form pattern) words i k = omega arith
offset_on references_form words i k = omega arith
offset_on bytes_form words i k = absurd (both_ways true words refl)
offset_on (structs_form pattern) words i k = omega arith

head_at : (done left : List Bool) (b : Bool) → slice_get (done ++ left) (length done) ≡ Some b
    → (more : List Bool) × (left ≡ b ∷ more)
head_at [] [] b e = absurd cc
head_at [] (c ∷ more) b e = let same : c ≡ b = cc in (more, ap (λ (x : Bool). x ∷ more) same)
head_at (d ∷ done) left b e = head_at done left b e

kind_at : (kinds : List Bool) (i : ℕ) → i < length kinds → (b : Bool) × (slice_get kinds i ≡ Some b)
kind_at [] i l = absurd (omega (arith, l))
kind_at (b ∷ kinds) zero l = (b, refl)
kind_at (b ∷ kinds) (suc i) l = kind_at kinds i (omega (arith, l))

none_left : (kinds : List Bool) → length kinds ≡ 0 → kinds ≡ []
none_left [] e = refl
none_left (b ∷ kinds) e = absurd (omega (arith, e))

-- where slots aren't bytes, the word of each stands in its object's cell
word_cell : (rows : List TypeRow) (view : HeapView) (heap : IsHeap view) (held : IsHeld rows view) (found : Item)
    → IsIn found (heap_items rows view) → is_bytes (form_at rows found.type_id.0) ≡ false → (first : ℕ)
    → first ≡ slot_offset (form_at rows found.type_id.0) 0 → (i : ℕ)
    → i < length (slot_kinds (form_at rows found.type_id.0) found.len)
    → InCell found (found.place + (first + 8 * i))
word_cell rows view heap held found listed words first first_is i below =
    let form = form_at rows found.type_id.0 in
    let aligned = (standing rows view heap held found listed).aligned in
    let sized = listed-sized rows view found heap held listed in
    let there = slot-there form found.len found.place i words aligned below in
    let whole = there.aligned in
    let above = there.above in
    let under = there.below in
    let on = offset_on form words 0 i in
    let none : 0 + i ≡ i = omega arith in
    let is = ap (slot_offset form) none in
    record {
      aligned = omega (arith, whole, on, is, first_is);
      low = omega (arith, above, on, is, first_is);
      high = omega (arith, under, sized, on, is, first_is);
    }

module _ (work : Relocation) (object : LeftObject) (h : HeapView) (pins : QueueView) (cards : List (CoverView ℕ))
    (last : Stretch) where
  abbrev rows : List TypeRow
  rows = work.types.now

  abbrev found : Item
  found = object.found

  abbrev form : Form
  form = form_at work.types.now object.found.type_id.0

  abbrev kinds : List Bool
  kinds = slot_kinds form object.found.len

  -- the references among the first slots have been passed
  pub record AreSlotsPassed (after : HeapView) (queue : QueueView) (flags : List (CoverView ℕ)) (near : Stretch) (at : ℕ)
      : Type 0 where
    pub done : List Bool
    pub left : List Bool
    pub all : done ++ left ≡ slot_kinds (form_at work.types.now object.found.type_id.0) object.found.len
    pub count : length done ≡ at
    pub passed : HasPassed work object h pins cards last after queue flags near
        (refs_from (form_at work.types.now object.found.type_id.0) 0 done)

  -- by other names for the same heap, queue, cards and stretch
  pub slots_same : (after other : HeapView) (queue others : QueueView) (flags marks : List (CoverView ℕ))
      (near next : Stretch) (at : ℕ) → other ≡ after → others ≡ queue → marks ≡ flags → next ≡ near
      → AreSlotsPassed after queue flags near at → AreSlotsPassed other others marks next at
  slots_same after other queue others flags marks near next at heap saved set last s =
      subst (λ x. AreSlotsPassed x others marks next at) (sym heap)
      (subst (λ x. AreSlotsPassed after x marks next at) (sym saved)
      (subst (λ x. AreSlotsPassed after queue x next at) (sym set)
      (subst (λ x. AreSlotsPassed after queue flags x at) (sym last) s)))

  pub slots_none : AreSlotsPassed h pins cards last 0
  slots_none = record {
    done = [];
    left = kinds;
    all = refl;
    count = refl;
    passed = passed_none work object h pins cards last;
  }

  module _ (after : HeapView) (queue : QueueView) (flags : List (CoverView ℕ)) (near : Stretch) (at : ℕ)
      (s : AreSlotsPassed after queue flags near at) where
    abbrev before : List ℕ
    before = refs_from form 0 s.done

    from : 0 + length s.done ≡ at
    from = let count = s.count in omega (arith, count)

    next_kinds : (kind : Bool) → slice_get kinds at ≡ Some kind → (more : List Bool) × (s.left ≡ kind ∷ more)
    next_kinds kind get = head_at s.done s.left kind
        (subst₂ (λ ks n. slice_get ks n ≡ Some kind) (sym s.all) (sym s.count) get)

    all_next : (kind : Bool) (get : slice_get kinds at ≡ Some kind)
        → (s.done ++ kind ∷ []) ++ (next_kinds kind get).0 ≡ kinds
    all_next kind get = append_assoc s.done (kind ∷ []) (next_kinds kind get).0
        ∙ ap (λ (l : List Bool). s.done ++ l) (sym (next_kinds kind get).1) ∙ s.all

    count_next : (kind : Bool) → length (s.done ++ kind ∷ []) ≡ at + 1
    count_next kind = length-append s.done (kind ∷ []) ∙ ap (λ n. n + 1) s.count

    refs_next : (kind : Bool) → refs_from form 0 (s.done ++ kind ∷ []) ≡ before ++ refs_from form at (kind ∷ [])
    refs_next kind = refs_more form 0 s.done (kind ∷ [])
        ∙ ap (λ n. before ++ refs_from form n (kind ∷ [])) from

    -- one that is no reference
    pub none_passed : slice_get kinds at ≡ Some false → AreSlotsPassed after queue flags near (at + 1)
    none_passed get = record {
      done = s.done ++ false ∷ [];
      left = (next_kinds false get).0;
      all = all_next false get;
      count = count_next false;
      passed = subst (HasPassed work object h pins cards last after queue flags near)
          (sym (refs_next false ∙ append-nil before)) s.passed;
    }

    -- one that is a reference
    module _ (get : slice_get kinds at ≡ Some true) (offset : ℕ) (is : offset ≡ slot_offset form at) where
      later_refs : List ℕ
      later_refs = refs_from form (at + 1) (next_kinds true get).0

      slot_walked : refs_from form 0 s.done ++ offset ∷ later_refs ≡ references_of work.types.now object.found
      unfolding later_refs next_kinds
      slot_walked =
          let more = (next_kinds true get).0 in
          subst (λ o. before ++ o ∷ refs_from form (at + 1) more ≡ references_of rows found) (sym is)
          (subst (λ n. before ++ slot_offset form n ∷ refs_from form (n + 1) more ≡ references_of rows found) from
          (sym (refs_more form 0 s.done (true ∷ more))
          ∙ ap (refs_from form 0) (ap (λ (l : List Bool). s.done ++ l) (sym (next_kinds true get).1) ∙ s.all)))

      reference_passed : (new : HeapView) (saved : QueueView) (set : List (CoverView ℕ)) (nearer : Stretch)
          → HasPassed work object h pins cards last new saved set nearer (refs_from form 0 s.done ++ offset ∷ [])
          → AreSlotsPassed new saved set nearer (at + 1)
      reference_passed new saved set nearer more = record {
        done = s.done ++ true ∷ [];
        left = (next_kinds true get).0;
        all = all_next true get;
        count = count_next true;
        passed = subst (HasPassed work object h pins cards last new saved set nearer)
            (sym (refs_next true ∙ ap (λ (o : ℕ). before ++ o ∷ []) (sym is))) more;
      }

      -- what the code asks of it
      module _ (can : (view : HeapView) × (now : HeapView) × (vs : List Move)
          × IsRelocatingBy work view now h pins.entries vs last × IsObjectAhead work view now vs cards object) where
        pub due_fits : (object.found.place + offset < 2 ^ 64) × (object.to + offset < 2 ^ 64)
        due_fits =
            let (view, now, vs, r, ahead) = can in
            slot_fits work object h pins cards last after queue flags near before offset later_refs slot_walked s.passed
            view now vs r ahead

        pub due_next : (view : HeapView) × (next : HeapView) × (vs : List Move)
            × IsRelocatingBy work view next after queue.entries vs near
            × IsSlotAhead work.types.now view next work.g vs (object.found.place + offset)
        due_next =
            let (view, now, vs, r, ahead) = can in
            let (next, q, here) = slot_next work object h pins cards last after queue flags near before offset
            later_refs slot_walked s.passed view now vs r ahead in
            (view, next, vs, q, here)

        pub due_index : IsPlaced work h cards object
            → object.segment ≡ memory_index after.memories (object.found.place + offset)
        due_index =
            let (view, now, vs, r, ahead) = can in
            slot_at work object h pins cards last after queue flags near before offset later_refs slot_walked s.passed
            view now vs r ahead

        pub due_card : IsPlaced work h cards object → is_covered flags ((object.to + offset) / 2048) ≡ true
        due_card =
            let (view, now, vs, r, ahead) = can in
            slot_card work object h pins cards last after queue flags near before offset later_refs slot_walked
            s.passed view now vs r ahead

      -- and then the loop has passed one slot more
      pub due_passed : object.age ≡ generation (rebounded (frame h) work.planned) object.to
          → (new : HeapView) (saved : QueueView) (set : List (CoverView ℕ)) (nearer : Stretch)
          → ((view next : HeapView) (vs : List Move) → IsRelocatingBy work view next after queue.entries vs near
          → IsSlotAhead work.types.now view next work.g vs (object.found.place + offset)
          → IsSlotRelocated work view next vs after new queue saved set nearer object offset)
          → KeepsBeside flags set queue saved → AreSlotsPassed new saved set nearer (at + 1)
      due_passed age_is new saved set nearer slot beside =
          reference_passed new saved set nearer
          (passed_more work object h pins cards last after queue flags near before offset later_refs slot_walked
          s.passed age_is new saved set nearer slot beside)

    -- all of them
    pub slots_all : length kinds ≤ at → refs_from form 0 s.done ≡ references_of work.types.now object.found
    slots_all most =
        let lengths = sym (length-append s.done s.left) ∙ ap length s.all in
        let count = s.count in
        let none = none_left s.left (omega (arith, lengths, count, most)) in
        ap (refs_from form 0) (sym (append-nil s.done) ∙ ap (λ (l : List Bool). s.done ++ l) (sym none) ∙ s.all)

    -- what the code asks of the words of slots, from slot i on: slot 0 stands at the offset `first`
    module _ (words : is_bytes (form_at work.types.now object.found.type_id.0) ≡ false) (first : ℕ)
        (first_is : first ≡ slot_offset (form_at work.types.now object.found.type_id.0) 0)
        (can : (view : HeapView) × (now : HeapView) × (vs : List Move)
        × IsRelocatingBy work view now h pins.entries vs last × IsObjectAhead work view now vs cards object)
        (i : ℕ) (below : i < length (slot_kinds (form_at work.types.now object.found.type_id.0) object.found.len)) where
      -- both its addresses can be spelled
      pub word_fits : (object.found.place + (first + 8 * i) < 2 ^ 64) × (object.to + (first + 8 * i) < 2 ^ 64)
      word_fits =
          let (view, now, vs, r, ahead) = can in
          let cell = word_cell rows view r.0.begun.plan.overlaid.heap r.0.begun.plan.held found ahead.left.listed words
          first first_is i below in
          let high = cell.high in
          let small = listed-low rows view found r.0.begun.plan.overlaid.heap r.0.begun.plan.held ahead.left.listed in
          let lower = moved_lower vs found.place r.0.begun.plan.overlaid.line.lower in
          let goes = ahead.goes in
          (omega (arith, high, small), omega (arith, high, small, lower, goes))

      pub word_has : HasWord after.memories (object.found.place + (first + 8 * i))
      word_has =
          let (view, now, vs, r, ahead) = can in
          let (next, q, keeps, gone) = s.passed.gone view now vs r ahead in
          let a = found.place + (first + 8 * i) in
          HasWord-shapes view.memories after.memories a q.0.shape.memories
          (cell_has rows view r.0.begun.plan.overlaid.heap r.0.begun.plan.held found a ahead.left.listed
          (word_cell rows view r.0.begun.plan.overlaid.heap r.0.begun.plan.held found ahead.left.listed words first
          first_is i below))

      -- it stands in its object's segment
      pub word_index : IsPlaced work h cards object
          → object.segment ≡ memory_index after.memories (object.found.place + (first + 8 * i))
      word_index placed =
          let (view, now, vs, r, ahead) = can in
          let (next, q, keeps, gone) = s.passed.gone view now vs r ahead in
          cell_segment rows view r.0.begun.plan.overlaid.heap r.0.begun.plan.held found ahead.left.listed h after
          r.0.shape q.0.shape object.segment placed.segment (found.place + (first + 8 * i))
          (word_cell rows view r.0.begun.plan.overlaid.heap r.0.begun.plan.held found ahead.left.listed words first
          first_is i below)

      -- and has a card
      pub word_card : IsPlaced work h cards object → is_covered flags ((object.to + (first + 8 * i)) / 2048) ≡ true
      word_card placed =
          let (view, now, vs, r, ahead) = can in
          let high = (word_cell rows view r.0.begun.plan.overlaid.heap r.0.begun.plan.held found ahead.left.listed words
          first first_is i below).high in
          is_covered-spans flags cards ((object.to + (first + 8 * i)) / 2048) s.passed.beside.cards
          ∙ placed.covered (object.to + (first + 8 * i)) (omega arith) (omega (arith, high))

      -- where the object is carded, it and those behind it have cards in one row
      pub word_row : object.carded ≡ true → (count : ℕ)
          → count ≡ length (slot_kinds (form_at work.types.now object.found.type_id.0) object.found.len)
          → (object.found.place + (first + 8 * i) + 8 * (count - i) < 2 ^ 64)
          × AreInRow flags (object.found.place + (first + 8 * i))
          (object.found.place + (first + 8 * i) + 8 * (count - i))
      word_row on count all =
          let (view, now, vs, r, ahead) = can in
          let high = (word_cell rows view r.0.begun.plan.overlaid.heap r.0.begun.plan.held found ahead.left.listed words
          first first_is (count - 1) (omega (arith, below, all))).high in
          let small = listed-low rows view found r.0.begun.plan.overlaid.heap r.0.begun.plan.held ahead.left.listed in (
            omega (arith, high, small, below, all),
            λ a b from_a to_a from_b to_b.
                share_cover-spans flags cards (a / 2048) (b / 2048) s.passed.beside.cards
                ∙ (ahead.skip on).row a b (omega (arith, from_a)) (omega (arith, to_a, high, below, all))
                (omega (arith, from_b)) (omega (arith, to_b, high, below, all)),
          )

  -- slots whose words may stay, or stand on clear cards
  module _ (after : HeapView) (queue : QueueView) (flags : List (CoverView ℕ)) (near : Stretch)
      (age_is : object.age ≡ generation (rebounded (frame h) work.planned) object.to) (few : IsPartial work.g) where
    abbrev Rests : ℕ → Type 0
    Rests offset = MayRest after queue.entries work.g (rebounded (frame after) work.planned) (is_card_set flags)
        object.age (object.found.place + offset) (object.to + offset)
        ⊎ IsPassed object.carded (is_card_set flags) (object.found.place + offset)

    one_still : (at : ℕ) (s : AreSlotsPassed after queue flags near at) → Rests (slot_offset form at) → (kind : Bool)
        → slice_get kinds at ≡ Some kind → AreSlotsPassed after queue flags near (at + 1)
    one_still at s may true get =
        reference_passed after queue flags near at s get (slot_offset form at) refl after queue flags near
        (one_rests work object h pins cards last after queue flags near age_is few (refs_from form 0 s.done)
        (slot_offset form at) (later_refs after queue flags near at s get (slot_offset form at) refl)
        (slot_walked after queue flags near at s get (slot_offset form at) refl) s.passed may)
    one_still at s may false get = none_passed after queue flags near at s get

    slots_rest : (n at : ℕ) → AreSlotsPassed after queue flags near at → at + n ≤ length kinds
        → ((j : ℕ) → j < n → Rests (slot_offset form (at + j))) → AreSlotsPassed after queue flags near (at + n)
    slots_rest zero at s within may =
        let e : at ≡ at + 0 = omega arith in subst (AreSlotsPassed after queue flags near) e s
    slots_rest (suc n) at s within may =
        let (kind, get) = kind_at kinds at (omega (arith, within)) in
        let here : at + 0 ≡ at = omega arith in
        let first = subst (λ m. Rests (slot_offset form m)) here (may 0 (omega arith)) in
        let e : at + 1 + n ≡ at + suc n = omega arith in
        subst (AreSlotsPassed after queue flags near) e
        (slots_rest n (at + 1) (one_still at s first kind get) (omega (arith, within)) (λ j l.
        let to : at + suc j ≡ at + 1 + j = omega arith in
        subst (λ m. Rests (slot_offset form m)) to (may (suc j) (omega (arith, l)))))

    -- so it is with words side by side, whatever they are
    pub words_rest : is_bytes (form_at work.types.now object.found.type_id.0) ≡ false → (first : ℕ)
        → first ≡ slot_offset (form_at work.types.now object.found.type_id.0) 0 → (n at : ℕ)
        → AreSlotsPassed after queue flags near at
        → at + n ≤ length (slot_kinds (form_at work.types.now object.found.type_id.0) object.found.len)
        → ((j : ℕ) → j < n → MayRest after queue.entries work.g (rebounded (frame after) work.planned)
        (is_card_set flags) object.age (object.found.place + (first + 8 * at) + 8 * j)
        (object.to + (first + 8 * at) + 8 * j)
        ⊎ IsPassed object.carded (is_card_set flags) (object.found.place + (first + 8 * at) + 8 * j))
        → AreSlotsPassed after queue flags near (at + n)
    words_rest words first first_is n at s within may = slots_rest n at s within (λ j l.
        let on = offset_on form words 0 (at + j) in
        let none : 0 + (at + j) ≡ at + j = omega arith in
        let is = ap (slot_offset form) none in
        let x : found.place + (first + 8 * at) + 8 * j ≡ found.place + slot_offset form (at + j) =
        omega (arith, on, is, first_is) in
        let y : object.to + (first + 8 * at) + 8 * j ≡ object.to + slot_offset form (at + j) =
        omega (arith, on, is, first_is) in
        subst₂ (λ p q. MayRest after queue.entries work.g (rebounded (frame after) work.planned) (is_card_set flags)
        object.age p q ⊎ IsPassed object.carded (is_card_set flags) p) x y (may j l))
