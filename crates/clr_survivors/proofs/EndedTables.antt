-- Cards and bricks after all has moved.
use Rattle.std.proofs.Common.{◌≡◌, ℕ, Bool, true, false, ◌&&◌, List, map, filter, refl, ap, sym, ◌∙◌, subst}
use Rattle.std.proofs.Common.{if◌then◌else◌, ◌==◌, ◌/◌}
use Rattle.clr_types.specs.Rising.{IsIn, sorted_by}
use Rattle.clr_types.specs.Segments.{ended_at, is_small_or_ephemeral, Layout}
use Rattle.clr_types.specs.Types.{TypeRow}
use Rattle.clr_types.specs.declared.segment.SegInfo.{SegInfo}
use Rattle.clr_types.specs.declared.segment.SegKind.{SegKind}
use Rattle.clr_types.proofs.ListMembers.{map-map}
use Rattle.clr_types.proofs.SortedLists.{into_sorted_by, out_of_sorted_by}
use Rattle.clr_bricks.specs.Bricks.{entry_at}
use Rattle.clr_cards.specs.Cards.{is_card_set}
use Rattle.clr_covers.specs.Covers.{CoverView, spans}
use Rattle.clr_generations.specs.Laws.{BrickLaw}
use Rattle.clr_generations.specs.Tables.{AreTablesOf, units_of}
use Rattle.clr_generations.proofs.KeptLaws.{HasSameObjects, were-younger}
use Rattle.clr_generations.proofs.SameBounds.{HasSameBounds}
use Rattle.clr_heap.specs.View.{frame, HeapView}
use Rattle.clr_model.specs.Compaction.{compacted_end}
use Rattle.clr_model.specs.Machine.{Machine, Object}
use Rattle.clr_model.specs.Sweep.{has_condemned_part, segments_after, survivors, swept_end, swept_others}
use Rattle.clr_view.specs.Memory.{is_left}
use Rattle.clr_view.specs.View.{layout_in, objects_in}
use Rattle.clr_moves.specs.Objects.{moved_object, relocated_object}
use Rattle.clr_plugs.specs.BrickEntries.{BricksView}
use Rattle.clr_moves.specs.declared.condemned.Condemned.TheVariants.{Generations}
use Rattle.clr_reloc.specs.Relocated as relocated
use Rattle.clr_reloc.specs.Relocated.{rebounded}
use Rattle.clr_survivors.specs.Phases.{HasSettled}
use Rattle.clr_survivors.specs.Survivors.{left_objects}
use Rattle.clr_survivors.proofs.CanMoveAll.{left-view}
use Rattle.clr_survivors.proofs.Course.{IsCourse, segments-moved, Stages}
use Rattle.clr_survivors.proofs.Ended.{by-kind, layout-ended, objects-ended}
use Rattle.clr_survivors.proofs.LargeTold.{tells-large}
use Rattle.clr_survivors.proofs.MovedList.{filter-alike}
use Rattle.clr_types.specs.Segments.{is_large_or_pinned}

-- ---- segments

-- what reads no ends is as before where only ends change
pub same-but-ends : {X : Type 0} (f : SegInfo → X) → ((end : ℕ) (u : SegInfo) → f (ended_at end u) ≡ f u)
    → (kinds : SegKind → Bool) (g : ℕ) (ends : SegInfo → ℕ) (ss : List SegInfo)
    → map f (segments_after kinds g ends ss) ≡ map f ss
same-but-ends f same kinds g ends ss =
    map-map (λ u. if kinds u.kind && has_condemned_part g u then record u { end = ends u } else u) f ss
    ∙ (λ k. map (λ u. each u (kinds u.kind && has_condemned_part g u) k) ss)
  where
    each : (u : SegInfo) (b : Bool) → f (if b then record u { end = ends u } else u) ≡ f u
    each u true = same (ends u) u
    each u false = refl

-- ---- objects

-- a list and its members by rising name
pub same-members : (rows : List TypeRow) (xs ys : List Object) → ys ≡ sorted_by (λ o. o.name) xs
    → HasSameObjects rows rows xs ys
same-members rows xs ys is = record {
  were = λ o i. record {
    was = record {
      object = o;
      present = out_of_sorted_by (λ (q : Object). q.name) o xs (subst (λ (zs : List Object). IsIn o zs) is i);
      name = refl;
      place = refl;
      form = refl;
      len = refl;
    };
    named = λ j name e. e;
  };
  stay = λ place at.
      let (o, i, there) = at in (
        o,
        subst (λ (zs : List Object). IsIn o zs) (sym is) (into_sorted_by (λ (q : Object). q.name) o xs i),
        there,
      );
}

module _ (s : Stages) (m : Machine) (kept : ℕ → Bool) (c : IsCourse s m kept) (new : HeapView)
    (e : HasSettled s.rows s.moved.heap new s.roots_after.handles s.low s.g) where
  pub segments-ended : {X : Type 0} (f : SegInfo → X) → ((end : ℕ) (u : SegInfo) → f (ended_at end u) ≡ f u)
      → map f new.segments ≡ map f s.old.heap.segments
  segments-ended f same =
      let moved : map f s.moved.heap.segments ≡ map f s.old.heap.segments =
      ap (map f) (segments-moved s m kept c)
      ∙ same-but-ends f same is_small_or_ephemeral s.g
      (compacted_end c.begun.plan.after.start0 c.begun.plan.compaction.compacted.plugs c.begun.plan.moves)
      s.old.heap.segments in
      let bare : map f e.bare.segments ≡ map f s.old.heap.segments =
      ap (λ (h : HeapView). map f h.segments) e.pins.shape.others ∙ moved in
      by-kind s m kept c new e (map f new.segments ≡ map f s.old.heap.segments)
      (λ young is. ap (λ (h : HeapView). map f h.segments) is ∙ bare)
      (λ full swept. ap (λ (l : Layout). map f l.segments)
      (swept.layout (survivors m s.g kept) (tells-large s m kept c full e.bare e.pins))
      ∙ same-but-ends f same (is_large_or_pinned) 2 (swept_end (layout_in s.rows e.bare) 2 (survivors m s.g kept))
      e.bare.segments
      ∙ bare)

  pub start1-ended : new.start1 ≡ s.planned.start1
  start1-ended =
      ap (λ (l : Layout). l.start1) (layout-ended s m kept c new e) ∙ go (s.g == 2) ∙ c.begun.plan.start1_is
    where
      go : (b : Bool)
          → (if b then swept_others c.begun.plan.after 2 (survivors m s.g kept) else c.begun.plan.after).start1
          ≡ c.begun.plan.after.start1
      go true = refl
      go false = refl

  pub start0-ended : new.start0 ≡ s.planned.start0
  start0-ended =
      ap (λ (l : Layout). l.start0) (layout-ended s m kept c new e) ∙ go (s.g == 2) ∙ c.begun.plan.start0_is
    where
      go : (b : Bool)
          → (if b then swept_others c.begun.plan.after 2 (survivors m s.g kept) else c.begun.plan.after).start0
          ≡ c.begun.plan.after.start0
      go true = refl
      go false = refl

  same-bounds : HasSameBounds (rebounded (frame c.begun.view) s.planned) (frame new)
  same-bounds = record {
    segments = segments-ended (ended_at 0) (λ end u. refl)
        ∙ sym (ap (λ (h : HeapView). map (ended_at 0) h.segments) c.begun.pins.shape.others);
    start1 = start1-ended;
    start0 = start0-ended;
  }

  -- what the view's plan takes along is what is left
  left-lists : relocated.left_objects s.rows c.begun.view (Generations s.g) c.begun.plan.moves
      ≡ left_objects s.rows s.old.heap s.g c.begun.plan.moves
  left-lists =
      ap (map (λ o. moved_object c.begun.plan.moves (relocated_object c.begun.plan.moves o)))
      (ap (filter (is_left c.begun.view s.g)) c.begun.pins.objects
      ∙ filter-alike (is_left c.begun.view s.g) (is_left s.old.heap s.g) (objects_in s.rows s.old.heap)
      (left-view s.rows s.old s.ready s.roots s.g s.entries s.planned c.run.given m kept c.begun))

  pub tables-ended : (cards : List (CoverView ℕ)) (bricks : BricksView) → cards ≡ s.moved.cards
      → spans s.moved.cards ≡ spans s.ready.cards → spans bricks ≡ spans s.ready.bricks
      → BrickLaw s.rows (frame new) (objects_in s.rows new) (entry_at bricks) → AreTablesOf s.rows new cards bricks
  tables-ended cards bricks same_cards span_cards same_bricks brick_law = record {
    cards = ap spans same_cards ∙ span_cards ∙ ap spans c.begun.cards_is ∙ c.run.given.tidy.tables.cards
        ∙ sym (segments-ended (units_of 2048) (λ end u. refl));
    bricks = same_bricks ∙ c.begun.same_bricks ∙ c.run.given.tidy.tables.bricks
        ∙ sym (segments-ended (units_of 4096) (λ end u. refl));
    card_law = λ a y. subst (λ (cs : List (CoverView ℕ)). is_card_set cs (a / 2048) ≡ true) (sym same_cards)
        (c.went.card_law a (were-younger s.rows s.rows (rebounded (frame c.begun.view) s.planned) (frame new)
        (relocated.left_objects s.rows c.begun.view (Generations s.g) c.begun.plan.moves) (objects_in s.rows new)
        same-bounds (same-members s.rows (relocated.left_objects s.rows c.begun.view (Generations s.g)
        c.begun.plan.moves) (objects_in s.rows new)
        (objects-ended s m kept c new e ∙ ap (sorted_by (λ (o : Object). o.name)) (sym left-lists))) a y));
    brick_law = brick_law;
  }
