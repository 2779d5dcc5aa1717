-- What a loop over the references of one object has done, once it has passed those at some offsets.
use Rattle.std.proofs.Common.{◌≡◌, ℕ, zero, suc, ◌+◌, ◌-◌, ◌*◌, ◌/◌, ◌^◌, ◌<◌, true, List, [], ◌∷◌, ◌++◌}
use Rattle.std.proofs.Common.{refl, ap, ap₂, ◌∙◌, subst, arith}
use Rattle.clr_types.specs.Descriptors.{offsets_from}
use Rattle.clr_types.specs.Rising.{IsIn}
use Rattle.clr_types.specs.Segments.{generation, Layout}
use Rattle.clr_types.specs.Types.{TypeRow}
use Rattle.clr_types.specs.declared.item.Item.{Item}
use Rattle.clr_cards.specs.Cards.{is_card_set}
use Rattle.clr_covers.specs.Covers.{CoverView, is_covered}
use Rattle.clr_covers.proofs.Spans.{is_covered-spans}
use Rattle.clr_heap.specs.Memories.{memory_index}
use Rattle.clr_heap.specs.View.{frame, HeapView, stored, word_of}
use Rattle.clr_heap.proofs.Storing.{HasWord-shapes}
use Rattle.clr_model.specs.Compaction.{Move, moved_by}
use Rattle.clr_pinq.specs.Queue.{QueueView}
use Rattle.clr_moves.specs.declared.stretch.Stretch.{Stretch}
use Rattle.clr_moves.specs.declared.condemned.Condemned.{Condemned}
use Rattle.clr_reloc.specs.References.{references_of}
use Rattle.clr_reloc.specs.Relocated.{rebounded}
use Rattle.clr_reloc.specs.Relocating.{IsSlotAhead, KeepsTelling}
use Rattle.clr_reloc.specs.Relocations.{AreRelocated, IsObjectAhead, IsPlaced, IsRelocatingBy, IsSlotRelocated}
use Rattle.clr_reloc.specs.Relocations.{KeepsBeside}
use Rattle.clr_reloc.specs.declared.relocation.LeftObject.{LeftObject}
use Rattle.clr_reloc.specs.declared.relocation.Relocation.{Relocation}
use Rattle.clr_reloc.proofs.Cells.{InItem, moved_lower, reference_inside}
use Rattle.clr_reloc.proofs.OneObject.{beside_refl, beside_trans, gone_more, gone_nowhere, HasGoneAt, keeps_refl}
use Rattle.clr_reloc.proofs.OneObject.{keeps_trans, listed_next_of, object_carded, object_gone, slot_ahead}
use Rattle.clr_reloc.proofs.OneSegment.{slot_segment}

-- one reference of a run, with those before it and those after it
pub run_around : (offset count i : ℕ) → i < count
    → offsets_from offset i ++ (offset + 8 * i) ∷ offsets_from (offset + 8 * i + 8) (count - i - 1)
    ≡ offsets_from offset count
run_around offset zero i l = absurd (omega arith)
run_around offset (suc count) zero l =
    let at : offset + 8 * 0 ≡ offset = omega arith in
    let left : suc count - 0 - 1 ≡ count = omega arith in
    ap₂ (λ (m n : ℕ). m ∷ offsets_from (m + 8) n) at left
run_around offset (suc count) (suc i) l =
    let at : offset + 8 * suc i ≡ offset + 8 + 8 * i = omega arith in
    let left : suc count - suc i - 1 ≡ count - i - 1 = omega arith in
    ap₂ (λ (m n : ℕ). offset ∷ (offsets_from (offset + 8) i ++ m ∷ offsets_from (m + 8) n)) at left
    ∙ ap (λ (ns : List ℕ). offset ∷ ns) (run_around (offset + 8) count i (omega arith))

module _ (work : Relocation) (object : LeftObject) (h : HeapView) (pins : QueueView) (cards : List (CoverView ℕ))
    (last : Stretch) where
  abbrev rows : List TypeRow
  rows = work.types.now

  abbrev g : Condemned
  g = work.g

  abbrev found : Item
  found = object.found

  pub record HasPassed (after : HeapView) (queue : QueueView) (flags : List (CoverView ℕ)) (near : Stretch)
      (offsets : List ℕ) : Type 0 where
    pub gone : (view now : HeapView) (vs : List Move) → IsRelocatingBy work view now h pins.entries vs last
        → IsObjectAhead work view now vs cards object
        → (next : HeapView) × IsRelocatingBy work view next after queue.entries vs near
        × KeepsTelling work.types.now view work.g vs pins.entries h after
        × HasGoneAt work.types.now view now next work.g vs object.found offsets (rebounded (frame view) work.planned)
        (is_card_set flags)
    pub beside : KeepsBeside cards flags pins queue

  pub passed_none : HasPassed h pins cards last []
  passed_none = record {
    gone = λ view now vs r ahead. (
      now,
      r,
      keeps_refl rows view g vs pins.entries h,
      gone_nowhere rows view now g vs found (rebounded (frame view) work.planned) (is_card_set cards),
    );
    beside = beside_refl cards pins;
  }

  module _ (after : HeapView) (queue : QueueView) (flags : List (CoverView ℕ)) (near : Stretch) (yielded : List ℕ)
      (offset : ℕ) (rest : List ℕ) (walked : yielded ++ offset ∷ rest ≡ references_of work.types.now object.found)
      (passed : HasPassed after queue flags near yielded) where
    abbrev a : ℕ
    a = object.found.place + offset

    listed : IsIn offset (references_of rows found)
    listed = listed_next_of offset yielded rest (references_of rows found) walked

    module _ (view now : HeapView) (vs : List Move) (r : IsRelocatingBy work view now h pins.entries vs last)
        (ahead : IsObjectAhead work view now vs cards object) where
      inside : InItem rows view r.0.begun.plan.overlaid.heap r.0.begun.plan.held found (found.place + offset)
      inside = reference_inside rows view r.0.begun.plan.overlaid.heap r.0.begun.plan.held found offset
          ahead.left.listed listed

      -- both addresses of the reference can be spelled
      pub slot_fits : (object.found.place + offset < 2 ^ 64) × (object.to + offset < 2 ^ 64)
      slot_fits =
          let fits = inside.fits in
          let lower = moved_lower vs found.place r.0.begun.plan.overlaid.line.lower in
          let goes = ahead.goes in
          (omega (arith, fits), omega (arith, fits, lower, goes))

      -- it is still to be relocated
      pub slot_next : (next : HeapView) × IsRelocatingBy work view next after queue.entries vs near
          × IsSlotAhead work.types.now view next work.g vs (object.found.place + offset)
      slot_next =
          let (next, q, keeps, gone) = passed.gone view now vs r ahead in (
            next,
            q,
            slot_ahead rows view now next g vs found (rebounded (frame view) work.planned) (is_card_set flags)
                r.0.begun.plan.overlaid.heap r.0.begun.plan.held ahead.left ahead.ahead yielded offset rest walked gone,
          )

      -- it stands in its object's segment
      pub slot_at : IsPlaced work h cards object
          → object.segment ≡ memory_index after.memories (object.found.place + offset)
      slot_at placed =
          let (next, q, keeps, gone) = passed.gone view now vs r ahead in
          slot_segment rows view r.0.begun.plan.overlaid.heap r.0.begun.plan.held found ahead.left.listed h after
          r.0.shape q.0.shape object.segment placed.segment offset listed

      -- and has a card
      pub slot_card : IsPlaced work h cards object → is_covered flags ((object.to + offset) / 2048) ≡ true
      slot_card placed =
          let high = inside.below in
          is_covered-spans flags cards ((object.to + offset) / 2048) passed.beside.cards
          ∙ placed.covered (object.to + offset) (omega arith) (omega (arith, high))

    -- once it has been relocated, the loop has passed one offset more
    pub passed_by : object.age ≡ generation (rebounded (frame h) work.planned) object.to
        → (new : HeapView) (saved : QueueView) (set : List (CoverView ℕ)) (nearer : Stretch)
        → ((view now next : HeapView) (vs : List Move) → IsRelocatingBy work view now h pins.entries vs last
        → IsObjectAhead work view now vs cards object → IsRelocatingBy work view next after queue.entries vs near
        → IsSlotAhead work.types.now view next work.g vs (object.found.place + offset)
        → IsSlotRelocated work view next vs after new queue saved set nearer object offset)
        → KeepsBeside flags set queue saved → HasPassed new saved set nearer (yielded ++ offset ∷ [])
    passed_by age_is new saved set nearer slot beside = record {
      gone = λ view now vs r ahead.
          let (next, q, keeps, gone) = passed.gone view now vs r ahead in
          let layout = rebounded (frame view) work.planned in
          let heap = r.0.begun.plan.overlaid.heap in
          let held = r.0.begun.plan.held in
          let here = slot_ahead rows view now next g vs found layout (is_card_set flags) heap held ahead.left
          ahead.ahead yielded offset rest walked gone in
          let done = slot view now next vs r ahead q here in
          let same : frame h ≡ frame view = ap (λ (x : HeapView). frame x) r.0.shape.others in
          let own : object.age ≡ generation layout (moved_by vs found.place) =
          age_is ∙ ap (λ (l : Layout). generation (rebounded l work.planned) object.to) same
          ∙ ap (generation layout) ahead.goes in
          let target = moved_by vs (word_of view a) in (
            stored next a target,
            done.relocating,
            keeps_trans rows view g vs pins.entries queue.entries h after new passed.beside.saved keeps done.telling,
            gone_more rows view now next g vs found layout (is_card_set flags) heap held ahead.left ahead.ahead yielded
                offset rest walked gone (stored next a target) (is_card_set set) refl
                (HasWord-shapes view.memories next.memories a q.0.underway.shape.memories (inside view now vs r
                ahead).word).inside beside.set
                (λ less. subst (λ n. is_card_set set ((n + offset) / 2048) ≡ true) ahead.goes
                (done.carded (omega (arith, own, less)))),
          );
      beside = beside_trans cards flags set pins queue saved passed.beside beside;
    }

    pub passed_more : object.age ≡ generation (rebounded (frame h) work.planned) object.to
        → (new : HeapView) (saved : QueueView) (set : List (CoverView ℕ)) (nearer : Stretch)
        → ((view next : HeapView) (vs : List Move) → IsRelocatingBy work view next after queue.entries vs near
        → IsSlotAhead work.types.now view next work.g vs (object.found.place + offset)
        → IsSlotRelocated work view next vs after new queue saved set nearer object offset)
        → KeepsBeside flags set queue saved → HasPassed new saved set nearer (yielded ++ offset ∷ [])
    passed_more age_is new saved set nearer slot beside =
        passed_by age_is new saved set nearer (λ view now next vs r ahead. slot view next vs) beside

  -- all of them
  pub passed_all : (after : HeapView) (queue : QueueView) (flags : List (CoverView ℕ)) (near : Stretch)
      (offsets : List ℕ) → HasPassed after queue flags near offsets
      → offsets ≡ references_of work.types.now object.found
      → (view now : HeapView) (vs : List Move) → IsRelocatingBy work view now h pins.entries vs last
      → IsObjectAhead work view now vs cards object
      → AreRelocated work view now vs h after pins queue flags near object.found.place
      (object.found.place + object.found.size)
  passed_all after queue flags near offsets passed all view now vs r ahead =
      let (next, q, keeps, gone) = passed.gone view now vs r ahead in
      let layout = rebounded (frame view) work.planned in
      let heap = r.0.begun.plan.overlaid.heap in
      let held = r.0.begun.plan.held in
      record {
        next = next;
        relocating = q;
        gone = object_gone rows view now next g vs found layout (is_card_set flags) heap held ahead.left offsets all
            gone;
        telling = keeps;
        carded = object_carded rows view now next g vs found layout (is_card_set flags) heap held ahead.left offsets all
            gone;
      }
