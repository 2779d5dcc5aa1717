-- The second pass over what is kept of an image.
use Rattle.std.proofs.Common.{◌≡◌, ℕ, ◌<◌, ◌≤◌, List, [], length, Option}
use Rattle.std.proofs.Common.{refl, sym, ◌∙◌, ap, subst, arith}
use Rattle.std.specs.List.{AllByRecursion}
use Rattle.clr_types.specs.Rising.{IsRisingBy}
use Rattle.clr_types.specs.Segments.{ephemeral, segments_of}
use Rattle.clr_types.specs.Types.{TypeRow}
use Rattle.clr_types.specs.declared.handle.Handle.{Handle}
use Rattle.clr_types.specs.declared.segment.SegInfo.{SegInfo}
use Rattle.clr_types.specs.declared.segment.SegKind.TheVariants.{Ephemeral, Small}
use Rattle.clr_heap.specs.View.{frame, heap_items, HeapView, IsHeap, no_rests}
use Rattle.clr_view.specs.View.{IsHeld}
use Rattle.clr_sos.specs.CheckedCells.{or_else}
use Rattle.clr_sos.specs.Faultless.{IsFaultless}
use Rattle.clr_fields.specs.Fields.{found}
use Rattle.clr_format.specs.Images.{fields_of, Parts, Rest, tests_in}
use Rattle.clr_format.specs.NameTests.{first_failed}
use Rattle.clr_load.specs.KeptParts.{IsParts}
use Rattle.clr_load.specs.KnownStarts.{AreStarts}
use Rattle.clr_load.specs.ReadTables.{rest_of}
use Rattle.clr_load.specs.StepTests.{IsKnownStep}
use Rattle.clr_load.specs.TableTests.{first_in_tables, HasOffsets}
use Rattle.clr_load.specs.Wholes.{IsWhole}
use Rattle.clr_load.specs.declared.parts.Kept.{Kept}
use Rattle.clr_load.specs.declared.whole.Whole.{Whole}
use Rattle.clr_load.proofs.LoadedHeaps.{items_are}
use Rattle.clr_load.proofs.LoadedNames.{is_faultless, is_held}
use Rattle.clr_load.proofs.PassedTests.{names_passed, tests_are}
use Rattle.clr_load.proofs.ReadHeads.{AreInOrder}
use Rattle.clr_load.proofs.ReadImages.{ArePartsFound, parts_found}

module _ (bytes : List ℕ) (w : Whole) (p : Parts) (is : IsWhole bytes w p) where
  abbrev parts : ArePartsFound bytes p is.next
  parts = parts_found bytes p is.next is.fields

  pub has_offsets : HasOffsets w.rest
  has_offsets =
      let r = is.rest in
      let small = is.small in
      let low = parts.rest.low in
      let high = parts.rest.high in
      let room = parts.rest.tables.room in
      let at : w.rest.tables_at ≡ p.rest.tables_at = ap (λ (x : Rest). x.tables_at) r in
      let handles : length w.rest.tables.handles.items ≡ length p.rest.tables.handles =
      ap (λ (x : Rest). length x.tables.handles) r in
      let entries : length w.rest.tables.entries.items ≡ length p.rest.tables.entries =
      ap (λ (x : Rest). length x.tables.entries) r in
      let ready : length w.rest.tables.ready.items ≡ length p.rest.tables.ready =
      ap (λ (x : Rest). length x.tables.ready) r in
      record {
        low = omega arith;
        high = omega arith;
        locals = ap (λ (x : Rest). length x.locals) r ∙ parts.rest.locals;
        steps = ap (λ (x : Rest). length x.tables.steps) r ∙ parts.rest.tables.steps;
        fits = omega arith;
      }

  pub known_steps : AllByRecursion (IsKnownStep w.types) w.rest.tables.steps.items
  known_steps =
      subst (λ (rows : List TypeRow). AllByRecursion (IsKnownStep rows) w.rest.tables.steps.items) (sym is.types)
      (subst (λ (x : Rest). AllByRecursion (IsKnownStep p.types) x.tables.steps) (sym is.rest) parts.rest.tables.known)

  pub rising_handles : IsRisingBy (λ (e : ℕ × Handle). e.0) w.rest.tables.handles.items
  rising_handles =
      subst (λ (x : Rest). IsRisingBy (λ (e : ℕ × Handle). e.0) x.tables.handles) (sym is.rest)
      parts.rest.tables.rising

  pub low_handles : AllByRecursion (λ (e : ℕ × Handle). e.0 < 65536) w.rest.tables.handles.items
  low_handles =
      subst (λ (x : Rest). AllByRecursion (λ (e : ℕ × Handle). e.0 < 65536) x.tables.handles) (sym is.rest)
      parts.rest.tables.below

  heap_is : IsHeap p.body.heap
  heap_is = subst IsHeap is.heap is.lawful

  items_is : heap_items p.types p.body.heap ≡ p.body.items
  items_is = items_are bytes p.head.large p.types p.body parts.body.segs parts.body.made heap_is

  pub items_kept : heap_items w.types w.heap ≡ p.body.items
  items_kept =
      ap (λ (rows : List TypeRow). heap_items rows w.heap) is.types
      ∙ ap (λ (h : HeapView). heap_items p.types h) is.heap ∙ items_is

  pub starts_kept : AreStarts w.starts (heap_items w.types w.heap)
  starts_kept = subst (AreStarts w.starts) (sym items_kept) is.starts

  pub alone_kept : w.heap.rests ≡ no_rests
  alone_kept = ap (λ (h : HeapView). h.rests) is.heap ∙ parts.body.made.rests

  faultless : IsFaultless p.types p.head.large p.body.heap []
  faultless =
      is_faultless bytes p.head.large p.types p.body parts.body.segs parts.body.made heap_is []
      (names_passed p.body.items p.body.references is.references) (λ x m. elim m [ ])

  pub held_kept : IsHeld w.types w.heap
  held_kept =
      subst (λ (rows : List TypeRow). IsHeld rows w.heap) (sym is.types)
      (subst (λ (h : HeapView). IsHeld p.types h) (sym is.heap)
      (is_held bytes p.head.large p.types p.body parts.body.segs parts.body.made heap_is [] faultless))

  -- THE SECOND PASS, over what is kept
  pub tests_kept : first_failed (tests_in p)
      ≡ first_in_tables (rest_of w.rest) w.types w.heap (heap_items w.types w.heap)
  tests_kept =
      tests_are p
      ∙ ap (λ (o : Option ℕ). or_else o (first_in_tables p.rest p.types p.body.heap p.body.items)) is.references
      ∙ ap (λ (r : Rest). first_in_tables r p.types p.body.heap p.body.items) (sym is.rest)
      ∙ ap (λ (rows : List TypeRow). first_in_tables (rest_of w.rest) rows p.body.heap p.body.items) (sym is.types)
      ∙ ap (λ (h : HeapView). first_in_tables (rest_of w.rest) w.types h p.body.items) (sym is.heap)
      ∙ ap (first_in_tables (rest_of w.rest) w.types w.heap) (sym items_kept)

-- ---- the heap can be made

module _ (bytes : List ℕ) (kept : Kept) (p : Parts) (n : ℕ) (fields : fields_of bytes ≡ found p n)
    (is : IsParts bytes kept p) where
  order : AreInOrder p.body.heap.segments p.body.heap.top
  order = (parts_found bytes p n fields).body.made.order

  pub one_young : length (segments_of Ephemeral (frame kept.body.draft)) ≡ 1
  one_young =
      let young = (parts_found bytes p n fields).young in
      let count : length (segments_of Ephemeral (frame p.body.heap)) ≡ 1 = order.count ∙ rw young refl in
      ap (λ (h : HeapView). length (segments_of Ephemeral (frame h))) is.body.heap ∙ count

  pub young_last : AllByRecursion (λ (s : SegInfo). s.base ≤ (ephemeral (frame kept.body.draft)).base)
      (segments_of Small (frame kept.body.draft))
  young_last =
      subst (λ (h : HeapView). AllByRecursion (λ (s : SegInfo). s.base ≤ (ephemeral (frame h)).base)
      (segments_of Small (frame h))) (sym is.body.heap) (order.last (parts_found bytes p n fields).young)
