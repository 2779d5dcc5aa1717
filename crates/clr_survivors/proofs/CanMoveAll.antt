-- References can be relocated, and all that is named may go.
use Rattle.std.proofs.Common.{◌≡◌, inl, inr, ℕ, ◌<◌, ◌≤◌, Bool, true, not, ◌||◌, List, refl, ap, sym, ◌∙◌, subst}
use Rattle.std.proofs.Common.{arith}
use Rattle.std.proofs.Common.{Some, [], ◌∷◌, ◌&&◌, ◌==◌, eq-eqb}
use Rattle.std.proofs.lemmas.Bool.{or_right}
use Rattle.std.specs.List.{list_any}
use Rattle.std.specs.FinMap as finmap
use Rattle.std.specs.FinMap.{FinMap}
use Rattle.std.specs.Ordering.{nat_cmp}
use Rattle.clr_types.specs.Kinds.{is_pinned_kind}
use Rattle.clr_types.specs.Rising.{first, IsIn, later}
use Rattle.clr_types.specs.Segments.{Layout}
use Rattle.clr_types.specs.Types.{TypeRow}
use Rattle.clr_types.specs.declared.handle.Handle.{Handle}
use Rattle.clr_bricks.specs.Bricks.{entry_at}
use Rattle.clr_cards.specs.Cards.{is_card_set}
use Rattle.clr_covers.specs.Covers.{CoverView, spans}
use Rattle.clr_generations.specs.Laws.{CardLaw}
use Rattle.clr_generations.specs.Tables.{AreBricksOf, AreCardsOf}
use Rattle.clr_generations.specs.Tidy.{IsTidy}
use Rattle.clr_generations.specs.declared.space.Space.{Space}
use Rattle.clr_heap.specs.View.{frame, HeapView, IsHeap}
use Rattle.clr_heap.proofs.Rewrite.{shaped_heap}
use Rattle.clr_model.specs.Compaction.{moved_by}
use Rattle.clr_model.specs.Lookups.{handle_rows, is_pinned}
use Rattle.clr_model.specs.Machine.{Machine, Object}
use Rattle.clr_model.specs.Reach.{SlotNames}
use Rattle.clr_model.proofs.HandleTables.{value-among}
use Rattle.clr_model.proofs.MovedPlaces.{pinned_stays}
use Rattle.clr_view.specs.Memory.{is_left, is_marked, is_reached_by, IsLeft}
use Rattle.clr_view.specs.SlotValues.{StandsAt}
use Rattle.clr_view.specs.View.{objects_in}
use Rattle.clr_view.proofs.LeftNames.{name-is-place}
use Rattle.clr_moves.specs.Moves.{IsInPart}
use Rattle.clr_moves.specs.Overlaid.{HoldsPlan, MayGo}
use Rattle.clr_moves.specs.declared.planned.Planned.{Planned}
use Rattle.clr_moves.proofs.PlacesInPlugs.{none_at_zero, outside_stays}
use Rattle.clr_pinq.specs.declared.entry.PinEntry.{PinEntry}
use Rattle.clr_survivors.specs.Condemned.{condemned_from}
use Rattle.clr_survivors.specs.Moving.{IsMarkedFor}
use Rattle.clr_survivors.specs.Phases.{CanMove, HasPlannedPinned, plan_of}
use Rattle.clr_survivors.specs.Survivors.{IsNullOrLeft, world_of}
use Rattle.clr_survivors.specs.declared.roots.Roots.{Roots}
use Rattle.clr_survivors.proofs.LeftGoes.{left-goes, none-null}
use Rattle.clr_survivors.proofs.OldParts.{memory_old_parts}
use Rattle.clr_survivors.proofs.PinsTold.{frame-kept, marked-kept}
use Rattle.clr_moves.specs.declared.condemned.Condemned.TheVariants.{Generations}

-- one of the objects stands at the place
abbrev StandsIn : List Object → ℕ → Type 0
StandsIn os place = (o : Object) × IsIn o os × (o.place ≡ place)

-- a test that a handle passes, one of them passes
any-of : (test : Handle → Bool) (rows : List Handle) (row : Handle) → IsIn row rows → test row ≡ true
    → list_any test rows ≡ true
any-of test [] row i passes = elim i [ ]
any-of test (other ∷ rows) row first passes = rw passes refl
any-of test (other ∷ rows) row (later i) passes =
    or_right (test other) (list_any test rows) (any-of test rows row i passes)

-- what a pinned handle names is pinned
pub pinned-told : (m : Machine) (k : ℕ) (row : Handle) → finmap.get m.handles k ≡ Some row
    → is_pinned_kind row.kind ≡ true → (name : ℕ) → row.target ≡ name → is_pinned m name ≡ true
pinned-told m k row found pinned name same =
    any-of (λ (r : Handle). is_pinned_kind r.kind && (r.target == name)) (handle_rows m) row
    (value-among m.handles k row found) (rw (pinned, eq-eqb row.target name same) refl)

-- What is given before survivors move.
pub record IsGiven (rows : List TypeRow) (s : Space) (roots : Roots) (g : ℕ) : Type 0 where
  pub generation : g ≤ 2
  pub tidy : IsTidy rows s
  pub marked : IsMarkedFor (world_of rows s.heap roots) g

module _ (rows : List TypeRow) (old new : Space) (roots : Roots) (g : ℕ) (entries : List PinEntry)
    (planned : Planned) (given : IsGiven rows old roots g) (m : Machine) (kept : ℕ → Bool)
    (p : HasPlannedPinned rows old new entries roots.handles g m kept planned) where
  abbrev pub view-of : HeapView
  view-of = p.view

  -- the heap with its pins, as it was otherwise
  pub frame-view : frame p.view ≡ frame old.heap
  frame-view =
      frame-kept rows old.heap p.view roots.handles (condemned_from old.heap g) given.tidy.heap given.tidy.held true
      p.pins

  pub left-view : (o : Object) → IsIn o (objects_in rows old.heap) → is_left p.view g o ≡ is_left old.heap g o
  left-view o i =
      ap (λ (b : Bool). not (is_reached_by p.view g o.place) || b)
      (marked-kept rows old.heap p.view roots.handles (condemned_from old.heap g) given.tidy.heap given.tidy.held true
      p.pins o i)
      ∙ ap (λ (h : HeapView). not (is_reached_by h g o.place) || is_marked old.heap o) p.pins.shape.others

  pub holds-plan : HoldsPlan rows p.view new.heap new.bricks entries (Generations g) p.plan.moves planned.start1
      planned.start0
  holds-plan = record {
    overlaid = p.plan.overlaid;
    told = p.plan.told;
    held = p.pins.held;
    no_contexts = ap (λ (h : HeapView). h.rests) p.pins.shape.others ∙ given.marked.no_contexts;
    machine = m;
    kept = kept;
    after = p.plan.after;
    compaction = p.plan.compaction;
    start1_is = p.plan.start1_is;
    start0_is = p.plan.start0_is;
  }

  -- an object that is left may go
  pub object-goes : (o : Object) → IsIn o (objects_in rows old.heap) → is_left old.heap g o ≡ true
      → MayGo p.view (Generations g) p.plan.moves o.place
  object-goes o i left =
      left-goes rows p.view g p.plan.moves m kept p.plan.after given.generation p.plan.compaction o
      (subst (λ (os : List Object). IsIn o os) (sym p.pins.objects) i) (left-view o i ∙ left)

  pub name-goes : (x : ℕ) → IsLeft rows old.heap g x → MayGo p.view (Generations g) p.plan.moves x
  name-goes x left =
      subst (MayGo p.view (Generations g) p.plan.moves)
      (sym (name-is-place rows old.heap left.object left.present) ∙ left.named)
      (object-goes left.object left.present left.left)

  pub may-go : (x : ℕ) → IsNullOrLeft rows old.heap g x → MayGo p.view (Generations g) p.plan.moves x
  may-go x (inl null) =
      inl (λ t is. none-null rows p.view g p.plan.moves m kept p.plan.after given.generation p.plan.compaction t
      (subst (λ (n : ℕ). IsInPart p.view (Generations g) t n) null is))
  may-go x (inr left) = name-goes x left

  -- words alone have changed
  pub ready-heap : IsHeap new.heap
  ready-heap = shaped_heap p.view new.heap p.plan.overlaid.shape p.plan.overlaid.heap

  pub null-stays : moved_by p.plan.moves 0 ≡ 0
  null-stays =
      sym (outside_stays rows new.heap new.bricks (Generations g) p.plan.moves ready-heap p.plan.told 0
      (none_at_zero rows p.view new.heap new.bricks entries (Generations g) p.plan.moves planned.start1 planned.start0
      ready-heap holds-plan 0 refl))

  -- what a pinned handle names stays
  pub pinned-target : m.handles ≡ roots.handles → (k : ℕ) (row : Handle) → finmap.get roots.handles k ≡ Some row
      → is_pinned_kind row.kind ≡ true → moved_by p.plan.moves row.target ≡ row.target
  pinned-target same k row found pinned = elim (given.marked.named.targets k row found) [
    | inl null ↦ ap (moved_by p.plan.moves) null ∙ null-stays ∙ sym null
    | inr left ↦
        let o = left.object in
        let c = p.plan.compaction in
        let place : o.place ≡ row.target = sym (name-is-place rows old.heap o left.present) ∙ left.named in
        let listed = subst (λ (os : List Object). IsIn o os) (sym c.memory.objects)
        (subst (λ (os : List Object). IsIn o os) (sym p.pins.objects) left.present) in
        let pins = pinned-told m k row (ap (λ (t : FinMap nat_cmp Handle). finmap.get t k) same ∙ found) pinned o.name
        (sym left.named) in
        ap (moved_by p.plan.moves) (sym place)
        ∙ pinned_stays m c.laid g given.generation kept p.plan.moves p.plan.after c.compacted o listed pins ∙ place
  ]

  pub can-move : m.handles ≡ roots.handles
      → CanMove (plan_of rows p.view entries p.plan.moves planned) new g (entry_at old.bricks) planned roots
  can-move handles = record {
    relocates = record {
      plan = holds-plan;
      followed = λ o j x i left slot.
          let was = subst (λ (os : List Object). IsIn o os) p.pins.objects i in
          may-go x (given.marked.closed o j x was (sym (left-view o was) ∙ left) slot);
      card_law = subst
          (λ (cs : List (CoverView ℕ)). CardLaw rows (frame p.view) (objects_in rows p.view) (is_card_set cs))
          (sym p.cards_is)
          (subst (λ (l : Layout). CardLaw rows l (objects_in rows p.view) (is_card_set old.cards)) (sym frame-view)
          (subst (λ (os : List Object). CardLaw rows (frame old.heap) os (is_card_set old.cards)) (sym p.pins.objects)
          given.tidy.tables.card_law));
      cards_of = subst (λ (l : Layout). AreCardsOf l new.cards) (sym frame-view)
          (ap spans p.cards_is ∙ given.tidy.tables.cards);
      bricks_of = subst (λ (l : Layout). AreBricksOf l new.bricks) (sym frame-view)
          (p.same_bricks ∙ given.tidy.tables.bricks);
      remembered = p.remembered;
      named = λ x y names.
          subst (λ (os : List Object). StandsIn os y) (sym p.pins.objects)
          (given.marked.stands x y (subst (λ (os : List Object). SlotNames os x y) p.pins.objects names));
      old_parts = λ young.
          memory_old_parts rows p.view p.plan.overlaid.heap p.pins.held holds-plan.no_contexts m
          p.plan.compaction.memory p.plan.compaction.laid g (omega (arith, young));
    };
    names = record {
      locals_go = λ x i. may-go x (given.marked.named.locals x i);
      handles_go = record {
        targets = λ k row found. may-go row.target (given.marked.named.targets k row found);
        seconds = λ k row found. may-go row.second (given.marked.named.seconds k row found);
        pinned = pinned-target handles;
      };
      entries_go = λ x i. name-goes x (given.marked.named.entries x i);
      ready_go = λ x i. name-goes x (given.marked.named.ready x i);
      null = null-stays;
    };
  }

-- what is left stands there
pub left-stands : (rows : List TypeRow) (h : HeapView) (g x : ℕ) → 0 < x → IsNullOrLeft rows h g x → StandsAt rows h x
left-stands rows h g x some (inl null) = absurd (omega (arith, some, null))
left-stands rows h g x some (inr left) =
    (left.object, left.present, sym (name-is-place rows h left.object left.present) ∙ left.named)
