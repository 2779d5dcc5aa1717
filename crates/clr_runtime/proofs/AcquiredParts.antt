-- A new segment beside the small heap: what still holds of the parts of a runtime.
use Rattle.std.proofs.Common.{◌≡◌, ◌∙◌, ℕ, ◌+◌, ◌/◌, ◌<◌, ◌↔◌, inl, inr, Bool, true, false, nat_le, List, refl, ap, sym}
use Rattle.std.proofs.Common.{subst}
use Rattle.std.proofs.Common.{Result, Ok, Err, ℤ}
use Rattle.std.specs.Prelude.{OnErr, OnOk}
use Rattle.std.proofs.lemmas.Bool.{leb-false}
use Rattle.clr_types.specs.Segments.{reserved_sum}
use Rattle.clr_types.specs.declared.segment.SegKind.{SegKind}
use Rattle.clr_types.specs.declared.segment.SegKind.TheVariants.{Ephemeral, Large, Pinned, Small}
use Rattle.clr_covers.specs.Covers.{CoverView}
use Rattle.clr_heap.specs.View.{acquired, frame, HeapView, IsHeap}
use Rattle.clr_heap.specs.declared.heap.segments.AcquireFault.{AcquireFault}
use Rattle.clr_heap.specs.declared.heap.segments.AcquireFault.TheVariants.{OverLimit}
use Rattle.clr_view.specs.Clean.{AreClean}
use Rattle.clr_view.specs.Marks.{IsUnmarked}
use Rattle.clr_view.specs.View.{AreFreeHeads, IsHeld, layout_in, objects_in}
use Rattle.clr_bricks.specs.Bricks.{entry_at}
use Rattle.clr_cards.specs.Cards.{is_card_set}
use Rattle.clr_generations.specs.Laws.{BrickLaw, NamesNoMore}
use Rattle.clr_generations.specs.Tables.{AreBricksOf, AreCardsOf, AreTablesBy}
use Rattle.clr_large.proofs.AcquiredKind.{tables_with}
use Rattle.clr_ctx.specs.Contexts.{young_items}
use Rattle.clr_large.specs.Places.{IsOldKind, kind_items}
use Rattle.clr_large.proofs.KindKept.{young_with_segment}
use Rattle.clr_model.specs.Allocation.{allows, segment_for, with_segment}
use Rattle.clr_model.specs.Lawful.{IsPlaceNamed}
use Rattle.clr_model.specs.Machine.{Object}
use Rattle.clr_model.proofs.KindAdded.{acquired_lawful}
use Rattle.clr_safe.specs.Threads.{steps_of}
use Rattle.clr_runtime.specs.Segments.{with_segment_for}
use Rattle.clr_runtime.specs.RuntimeView.{IsBegunStore, IsRuntime, IsToldBy, seen}
use Rattle.clr_runtime.specs.declared.parts.Parts.{Parts}
use Rattle.clr_runtime.proofs.IndexKept.{index_kept}
use Rattle.clr_runtime.proofs.MarkedKept.{same_marked}

-- a new segment leaves the limit
limit-acquired : (h : HeapView) (kind : SegKind) (size : ℕ) → (acquired h kind size).limit ≡ h.limit
limit-acquired h Small size = refl
limit-acquired h Ephemeral size = refl
limit-acquired h Large size = refl
limit-acquired h Pinned size = refl

-- a segment was acquired
abbrev acquired_one : Result (Unit {0}) AcquireFault
acquired_one = Ok tt

-- so many bytes may be reserved where a segment was acquired
may-reserve : (total limit : ℕ) → ((acquired_one ≡ Err OverLimit) ↔ (limit < total)) → nat_le total limit ≡ true
may-reserve total limit told = go (nat_le total limit) refl
  where
    other : acquired_one ≡ Err OverLimit → ⊥
    other e = cc

    go : (b : Bool) → nat_le total limit ≡ b → nat_le total limit ≡ true
    go true e = e
    go false e = absurd (other (told.1 (leb-false total limit e)))

module _ (group : SegKind) (old : IsOldKind group) (p : Parts) (is : IsRuntime p) (size : ℕ) (new : HeapView)
    (objects : objects_in p.types new ≡ objects_in p.types p.space.heap) where
  -- the bytes that the new segment reserves
  abbrev reserved : ℕ
  reserved = segment_for (seen p) size

  -- what is seen is lawful with it
  acquired-sound : layout_in p.types new ≡ with_segment (layout_in p.types p.space.heap) group
      (segment_for (seen p) size)
      → allows (seen p) (segment_for (seen p) size) ≡ true
      → IsPlaceNamed (seen (record p { space = record p.space { heap = new } }))
  acquired-sound layout may =
      let shown : seen (record p { space = record p.space { heap = new } }) ≡ with_segment_for group (seen p) size =
      λ k. record (seen p) { objects = objects k; layout = layout k } in
      subst IsPlaceNamed (sym shown)
      (record {
        lawful = acquired_lawful group old (seen p) is.shown.sound.lawful size may;
        places = is.shown.sound.places;
        uncounted = is.shown.sound.uncounted;
      })

  -- what is told of references to younger objects is told still
  told-still : (cards : List (CoverView ℕ)) → ((i : ℕ) → is_card_set cards i ≡ is_card_set p.space.cards i) → (a : ℕ)
      → IsToldBy p.types p.space.heap p.space.cards p.safe a → IsToldBy p.types new cards p.safe a
  told-still cards sets a (inl set) = inl (sets (a / 2048) ∙ set)
  told-still cards sets a (inr begun) =
      inr (subst (λ (os : List Object). IsBegunStore p.types os (steps_of p.safe) a) (sym objects) begun)

  -- so the cards and bricks are those of the heap with the segment
  pub acquired_tables : (cards : List (CoverView ℕ)) (bricks : List (CoverView ℤ)) → AreCardsOf (frame new) cards
      → AreBricksOf (frame new) bricks → ((i : ℕ) → is_card_set cards i ≡ is_card_set p.space.cards i)
      → NamesNoMore p.types (frame p.space.heap) (objects_in p.types p.space.heap) (frame new) (objects_in p.types new)
      → (BrickLaw p.types (frame p.space.heap) (objects_in p.types p.space.heap) (entry_at p.space.bricks)
      → BrickLaw p.types (frame new) (objects_in p.types new) (entry_at bricks))
      → AreTablesBy p.types new cards bricks (IsToldBy p.types new cards p.safe)
  acquired_tables cards bricks own_cards own_bricks sets names law =
      let t = tables_with p.types p.space.heap new p.space.cards cards p.space.bricks bricks
      (IsToldBy p.types p.space.heap p.space.cards p.safe)
      own_cards own_bricks names law is.tables in
      record {
        cards = t.cards;
        bricks = t.bricks;
        card_law = λ a n. told-still cards sets a (t.card_law a n);
        brick_law = t.brick_law;
      }

  -- what holds of the parts of a runtime still holds, whether there is a new segment or not
  pub acquired_kept : (cards : List (CoverView ℕ)) (bricks : List (CoverView ℤ))
      (result : Result (Unit {0}) AcquireFault)
      → OnOk result (new ≡ acquired p.space.heap group (segment_for (seen p) size))
      → OnOk result (layout_in p.types new
      ≡ with_segment (layout_in p.types p.space.heap) group (segment_for (seen p) size))
      → OnErr result (new ≡ p.space.heap)
      → ((result ≡ Err OverLimit)
      ↔ (p.space.heap.limit < reserved_sum (frame p.space.heap) + segment_for (seen p) size))
      → ((other : SegKind) → kind_items other (layout_in p.types new)
      ≡ kind_items other (layout_in p.types p.space.heap))
      → IsHeap new → IsHeld p.types new
      → (IsUnmarked p.types p.space.heap → IsUnmarked p.types new)
      → (AreFreeHeads p.types p.space.heap → AreFreeHeads p.types new)
      → (AreClean p.types p.space.heap → AreClean p.types new)
      → AreTablesBy p.types new cards bricks (IsToldBy p.types new cards p.safe)
      → IsRuntime (record p { space = record p.space { heap = new; cards = cards; bricks = bricks } })
  acquired_kept cards bricks (Ok done) words layout stays told items heap held unmarked heads clean tables = record {
    shown = record {
      locals = is.shown.locals;
      held = held;
      unmarked = unmarked is.shown.unmarked;
      free_heads = heads is.shown.free_heads;
      clean = clean is.shown.clean;
      sound = acquired-sound layout
          (may-reserve (reserved_sum (frame p.space.heap) + reserved) p.options.limit
          (subst (λ n. (acquired_one ≡ Err OverLimit) ↔ (n < reserved_sum (frame p.space.heap) + reserved)) is.limit
          told));
      marked = same_marked (seen p) (seen (record p { space = record p.space { heap = new } })) objects refl refl
          p.background is.shown.marked;
    };
    heap = heap;
    tables = tables;
    owed = is.owed;
    finalizers = is.finalizers;
    index = index_kept young_items p.types p.types p.space.heap new p.collector.young
        (ap young_items layout ∙ young_with_segment group old (layout_in p.types p.space.heap) reserved) is.index;
    large = index_kept (kind_items Large) p.types p.types p.space.heap new p.large (items Large) is.large;
    pinned = index_kept (kind_items Pinned) p.types p.types p.space.heap new p.pinned (items Pinned) is.pinned;
    limit = ap (λ (h : HeapView). h.limit) words ∙ limit-acquired p.space.heap group reserved ∙ is.limit;
    ready = is.ready;
  }
  acquired_kept cards bricks (Err fault) words layout stays told items heap held unmarked heads clean tables =
      let before : IsRuntime (record p { space = record p.space { heap = new } }) =
      subst (λ (h : HeapView). IsRuntime (record p { space = record p.space { heap = h } })) (sym stays) is in
      record {
        shown = before.shown;
        heap = heap;
        tables = tables;
        owed = before.owed;
        finalizers = before.finalizers;
        index = before.index;
        large = before.large;
        pinned = before.pinned;
        limit = before.limit;
        ready = before.ready;
      }
