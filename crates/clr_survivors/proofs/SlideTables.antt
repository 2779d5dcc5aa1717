-- Cards and bricks after a slide of the large heap.
use Rattle.std.proofs.Common.{◌≡◌, ℕ, false, List, map, refl, ap, sym, ◌∙◌, subst}
use Rattle.clr_types.specs.Rising.{IsIn, sorted_by}
use Rattle.clr_types.specs.Segments.{ended_at, Layout, same_kind}
use Rattle.clr_types.specs.declared.segment.SegInfo.{SegInfo}
use Rattle.clr_types.specs.declared.segment.SegKind.TheVariants.{Large}
use Rattle.clr_bricks.specs.Bricks.{entry_at}
use Rattle.clr_covers.specs.Covers.{spans}
use Rattle.clr_generations.specs.Laws.{BrickLaw}
use Rattle.clr_generations.specs.Tables.{AreTablesOf, units_of}
use Rattle.clr_generations.proofs.KeptLaws.{were-younger}
use Rattle.clr_generations.proofs.SameBounds.{HasSameBounds}
use Rattle.clr_heap.specs.View.{frame, HeapView}
use Rattle.clr_model.specs.Machine.{Machine, Object}
use Rattle.clr_model.specs.Slide.{slid_end}
use Rattle.clr_view.specs.View.{objects_in}
use Rattle.clr_moves.specs.Objects.{is_left_by, moved_object, relocated_object}
use Rattle.clr_moves.specs.declared.condemned.Condemned.TheVariants.{LargeSegments}
use Rattle.clr_plugs.specs.BrickEntries.{BricksView}
use Rattle.clr_reloc.specs.Relocated as relocated
use Rattle.clr_reloc.specs.Relocated.{rebounded}
use Rattle.clr_survivors.specs.Pins.{HasPins}
use Rattle.clr_survivors.proofs.EndedTables.{same-but-ends, same-members}
use Rattle.clr_survivors.proofs.SlideCourse.{all-spared, frame-view, IsCourse, objects-view, Stages}
use Rattle.clr_survivors.proofs.SlideEnded.{filter-every, gone, laid-moved, objects-ended}

module _ (s : Stages) (m : Machine) (c : IsCourse s m) (new : HeapView)
    (e : HasPins s.rows s.moved.heap new s.roots_after.handles 1 65536 false) where
  -- segments change their ends alone
  pub segments-ended : {X : Type 0} (f : SegInfo → X) → ((end : ℕ) (u : SegInfo) → f (ended_at end u) ≡ f u)
      → map f new.segments ≡ map f s.old.heap.segments
  segments-ended f same =
      ap (λ (h : HeapView). map f h.segments) e.shape.others
      ∙ ap (λ (l : Layout). map f l.segments) (laid-moved s m c)
      ∙ same-but-ends f same (same_kind Large) 2 (slid_end c.begun.plan.moves) m.layout.segments
      ∙ ap (λ (l : Layout). map f l.segments) c.memory.layout

  start1-ended : new.start1 ≡ s.planned.start1
  start1-ended = ap (λ (h : HeapView). h.start1) e.shape.others ∙ c.run.start1_kept

  start0-ended : new.start0 ≡ s.planned.start0
  start0-ended = ap (λ (h : HeapView). h.start0) e.shape.others ∙ c.run.start0_kept

  same-bounds : HasSameBounds (rebounded (frame c.begun.view) s.planned) (frame new)
  same-bounds = record {
    segments = segments-ended (ended_at 0) (λ end u. refl)
        ∙ sym (ap (λ (l : Layout). map (ended_at 0) l.segments) (frame-view s c.run.given m c.begun));
    start1 = start1-ended;
    start0 = start0-ended;
  }

  -- the plan takes along all objects
  left-lists : relocated.left_objects s.rows c.begun.view LargeSegments c.begun.plan.moves
      ≡ map (gone s m c) (objects_in s.rows s.old.heap)
  left-lists =
      ap (map (λ o. moved_object c.begun.plan.moves (relocated_object c.begun.plan.moves o)))
      (filter-every (is_left_by c.begun.view LargeSegments) (objects_in s.rows c.begun.view)
      (λ o i. all-spared s c.run.given m c.begun o
      (subst (λ (os : List Object). IsIn o os) (objects-view s c.run.given m c.begun) i))
      ∙ objects-view s c.run.given m c.begun)

  pub tables-ended : (bricks : BricksView) → spans s.moved.cards ≡ spans s.ready.cards
      → spans bricks ≡ spans s.ready.bricks
      → BrickLaw s.rows (frame new) (objects_in s.rows new) (entry_at bricks)
      → AreTablesOf s.rows new s.moved.cards bricks
  tables-ended bricks same_cards same_bricks brick_law = record {
    cards = same_cards ∙ ap spans c.begun.cards_is ∙ c.run.given.tidy.tables.cards
        ∙ sym (segments-ended (units_of 2048) (λ end u. refl));
    bricks = same_bricks ∙ c.begun.same_bricks ∙ c.run.given.tidy.tables.bricks
        ∙ sym (segments-ended (units_of 4096) (λ end u. refl));
    card_law = λ a y. c.went.card_law a
        (were-younger s.rows s.rows (rebounded (frame c.begun.view) s.planned) (frame new)
        (relocated.left_objects s.rows c.begun.view LargeSegments c.begun.plan.moves) (objects_in s.rows new)
        same-bounds
        (same-members s.rows (relocated.left_objects s.rows c.begun.view LargeSegments c.begun.plan.moves)
        (objects_in s.rows new)
        (objects-ended s m c new e ∙ ap (sorted_by (λ (o : Object). o.name)) (sym left-lists))) a y);
    brick_law = brick_law;
  }
