-- The marks before a slide of the large heap: exactly the objects of large segments are marked, and headers say what is
-- pinned.
use Rattle.std.proofs.Common.{◌≡◌, inl, inr, ℕ, ◌%◌, ◌⊎◌, Bool, true, false, not, ◌||◌, List, refl, ap, ap₂, sym}
use Rattle.std.proofs.Common.{◌∙◌, subst}
use Rattle.std.proofs.lemmas.Bool.{cases_Bool}
use Rattle.std.specs.FinMap.{FinMap}
use Rattle.std.specs.Ordering.{nat_cmp}
use Rattle.clr_types.specs.Rising.{IsIn}
use Rattle.clr_types.specs.Segments.{Layout, same_kind}
use Rattle.clr_types.specs.Types.{TypeRow}
use Rattle.clr_types.specs.declared.handle.Handle.{Handle}
use Rattle.clr_types.specs.declared.segment.SegKind.TheVariants.{Large}
use Rattle.clr_heap.specs.View.{frame, HeapView, IsHeap, word_of}
use Rattle.clr_heap.proofs.Rewrite.{shaped_heap}
use Rattle.clr_mark.specs.Marks.{IsRemarked}
use Rattle.clr_mark.proofs.Held.{keeps_held}
use Rattle.clr_mark.proofs.Remarking.{keeps_layout, keeps_objects}
use Rattle.clr_model.specs.Machine.{Machine, Object}
use Rattle.clr_model.specs.Sweep.{is_in_part}
use Rattle.clr_view.specs.Clean.{AreClean}
use Rattle.clr_view.specs.Marks.{IsUnmarked}
use Rattle.clr_view.specs.Memory.{is_marked, IsMemoryOf, TestsMarks}
use Rattle.clr_view.specs.SlotValues.{StandsAt}
use Rattle.clr_view.specs.View.{IsHeld, objects_in}
use Rattle.clr_view.proofs.CleanWords.{clean_remarked}
use Rattle.clr_view.proofs.LeftNames.{name-is-place}
use Rattle.clr_moves.specs.Objects.{is_in_parts, is_spared}
use Rattle.clr_moves.specs.declared.condemned.Condemned.TheVariants.{LargeSegments}
use Rattle.clr_survivors.specs.Pins.{HasPins}
use Rattle.clr_survivors.proofs.PinsTold.{marked-kept}

or-off : (b : Bool) → (b || false) ≡ b
or-off true = refl
or-off false = refl

or-not : (b : Bool) → (b || not b) ≡ true
or-not true = refl
or-not false = refl

module _ (rows : List TypeRow) (old marked : HeapView) (heap : IsHeap old) (held : IsHeld rows old)
    (r : IsRemarked rows old marked) where
  pub marked-heap : IsHeap marked
  marked-heap = shaped_heap old marked r.shape heap

  pub marked-held : IsHeld rows marked
  marked-held = keeps_held rows old marked heap held r

  pub marked-objects : objects_in rows marked ≡ objects_in rows old
  marked-objects = keeps_objects rows old marked heap held r

  pub memory-marked : (m : Machine) → IsMemoryOf rows old m → IsMemoryOf rows marked m
  memory-marked m memory = record {
    types = memory.types;
    objects = memory.objects ∙ sym marked-objects;
    layout = memory.layout ∙ sym (keeps_layout rows old marked heap held r);
  }

  pub clean-marked : AreClean rows old → AreClean rows marked
  clean-marked = clean_remarked rows old marked heap held marked-heap marked-held marked-objects words
    where
      words : (a : ℕ) → a % 8 ≡ 0 → (word_of marked a ≡ word_of old a) ⊎ StandsAt rows old a
      words a z = elim (r.words a z) [ inl same ↦ inl same | inr other ↦ inr other.0 ]

  module _ (unmarked : IsUnmarked rows old)
      (marks : (o : Object) → IsIn o (objects_in rows old)
      → is_marked marked o ≡ (is_in_parts old LargeSegments o.place || is_marked old o))
      (view : HeapView) (table : FinMap nat_cmp Handle) (pins : HasPins rows marked view table 1 65536 true) where
    pub objects-pinned : objects_in rows view ≡ objects_in rows old
    objects-pinned = pins.objects ∙ marked-objects

    pub frame-pinned : frame view ≡ frame old
    frame-pinned = ap frame pins.shape.others ∙ ap frame r.shape.others

    pub inside-pinned : (x : ℕ) → is_in_parts view LargeSegments x ≡ is_in_parts old LargeSegments x
    inside-pinned x =
        ap (λ (l : Layout). is_in_part (same_kind Large) l 2 (record { place = x; size = 0 })) frame-pinned

    none-marked : (o : Object) → IsIn o (objects_in rows old) → is_marked old o ≡ false
    none-marked o i = elim (cases_Bool (is_marked old o)) [
      | inl on ↦ absurd (unmarked o.place (record { stands = (o, i, refl); mark = on }))
      | inr off ↦ off
    ]

    -- exactly the objects of large segments are marked
    pub mark-pinned : (o : Object) → IsIn o (objects_in rows old)
        → is_marked view o ≡ is_in_parts old LargeSegments o.place
    mark-pinned o i =
        marked-kept rows marked view table 1 marked-heap marked-held true pins o
        (subst (λ (os : List Object). IsIn o os) (sym marked-objects) i)
        ∙ marks o i
        ∙ ap (λ (b : Bool). is_in_parts old LargeSegments o.place || b) (none-marked o i)
        ∙ or-off (is_in_parts old LargeSegments o.place)

    -- so every object is left
    pub spared-pinned : (o : Object) → IsIn o (objects_in rows old) → is_spared view LargeSegments o ≡ true
    spared-pinned o i =
        ap₂ (λ (a b : Bool). a || not b) (mark-pinned o i) (inside-pinned o.place)
        ∙ or-not (is_in_parts old LargeSegments o.place)

    pub tests-pinned : TestsMarks rows view 2 (is_in_parts old LargeSegments)
    tests-pinned o i young =
        let was = subst (λ (os : List Object). IsIn o os) objects-pinned i in
        ap (is_in_parts old LargeSegments) (name-is-place rows old o was) ∙ sym (mark-pinned o was)
