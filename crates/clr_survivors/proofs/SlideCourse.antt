-- A whole slide of the large heap: what was given, what the plan says, what has gone.
use Rattle.std.proofs.Common.{◌≡◌, inl, inr, ℕ, ◌+◌, ◌<◌, ◌≤◌, true, false, List, refl, ap, sym}
use Rattle.std.proofs.Common.{◌∙◌, subst, arith, Some}
use Rattle.std.proofs.lemmas.Bool.{both_ways, cases_Bool}
use Rattle.std.specs.FinMap as finmap
use Rattle.std.specs.FinMap.{FinMap}
use Rattle.std.specs.Ordering.{nat_cmp}
use Rattle.std.specs.Prelude.{ℤ}
use Rattle.clr_types.specs.Kinds.{is_pinned_kind}
use Rattle.clr_types.specs.Rising.{IsIn}
use Rattle.clr_types.specs.Segments.{Layout, same_kind}
use Rattle.clr_types.specs.Types.{TypeRow}
use Rattle.clr_types.specs.declared.handle.Handle.{Handle}
use Rattle.clr_types.specs.declared.segment.SegKind.TheVariants.{Large}
use Rattle.clr_bricks.specs.Bricks.{entry_at}
use Rattle.clr_cards.specs.Cards.{is_card_set}
use Rattle.clr_covers.specs.Covers.{CoverView, spans}
use Rattle.clr_generations.specs.Laws.{BrickLaw, CardLaw}
use Rattle.clr_generations.specs.Tables.{AreBricksOf, AreCardsOf}
use Rattle.clr_generations.specs.Tidy.{IsTidy}
use Rattle.clr_generations.specs.declared.space.Space.{Space}
use Rattle.clr_heap.specs.View.{first_of, frame, HeapView, IsHeap, no_rests}
use Rattle.clr_model.specs.Compaction.{Move, moved_by}
use Rattle.clr_model.specs.Lawful.{IsLaid, IsPlaceNamed}
use Rattle.clr_model.specs.Lookups.{is_pinned}
use Rattle.clr_model.specs.Machine.{Machine, Object}
use Rattle.clr_model.specs.Reach.{SlotNames}
use Rattle.clr_model.specs.Sweep.{is_in_part}
use Rattle.clr_model.proofs.Landings.{covered_by, IsCoveredBy, is_covered}
use Rattle.clr_model.proofs.MovedPlaces.{moved-is}
use Rattle.clr_view.specs.Marks.{IsUnmarked}
use Rattle.clr_view.specs.Memory.{is_marked, IsMemoryOf}
use Rattle.clr_view.specs.View.{objects_in}
use Rattle.clr_view.specs.World.{IsNullOrStands, IsWorldOf}
use Rattle.clr_view.proofs.LeftNames.{name-is-place}
use Rattle.clr_sweep.proofs.SurvivorsSwept.{seen}
use Rattle.clr_moves.specs.Moves.{IsInPlug, start_of}
use Rattle.clr_moves.specs.Objects.{is_in_parts, is_spared}
use Rattle.clr_moves.specs.Overlaid.{HoldsPlan, MayGo}
use Rattle.clr_moves.specs.declared.condemned.Condemned.TheVariants.{LargeSegments}
use Rattle.clr_moves.specs.declared.planned.Planned.{Planned}
use Rattle.clr_moves.proofs.CompactionFills.{fills-parts}
use Rattle.clr_moves.proofs.FilledParts.{FillsParts}
use Rattle.clr_moves.proofs.PartPlaces.{into_parts, out_of_parts}
use Rattle.clr_moves.proofs.PlacesInPlugs.{none_at_zero, outside_stays}
use Rattle.clr_moves.proofs.PlannedMoves.{seen-laid}
use Rattle.clr_moves.proofs.FromMachine.{number_of}
use Rattle.clr_types.proofs.SegmentFacts.{between-stands}
use Rattle.clr_heap.specs.View.{segment_at}
use Rattle.clr_heap.proofs.Rewrite.{shaped_heap}
use Rattle.clr_pinq.specs.declared.entry.PinEntry.{PinEntry}
use Rattle.clr_survivors.specs.Large.{CanSlide, HasPlannedSlide, HasSlidBy}
use Rattle.clr_survivors.specs.Phases.{plan_of}
use Rattle.clr_survivors.specs.Roots.{Plan}
use Rattle.clr_survivors.specs.Survivors.{world_of}
use Rattle.clr_survivors.specs.declared.roots.Roots.{Roots}
use Rattle.clr_survivors.proofs.CanMoveAll.{pinned-told}
use Rattle.clr_survivors.proofs.SlideGiven.{entry-stands, local-stands, ready-stands, row-stands, slot-stands}
use Rattle.clr_survivors.proofs.SlideGiven.{slots-stand}
use Rattle.clr_survivors.proofs.SlideMarks.{frame-pinned, inside-pinned, mark-pinned, objects-pinned, spared-pinned}

-- The heap with its tables before, with its plan, and where all has gone; names before and after.
pub record Stages : Type 0 where
  pub rows : List TypeRow
  pub old : Space
  pub ready : Space
  pub moved : Space
  pub entries : List PinEntry
  pub roots : Roots
  pub roots_after : Roots
  pub planned : Planned

abbrev pub Plans : Stages → Machine → Type 0
Plans s m = HasPlannedSlide s.rows s.old s.ready s.entries s.roots.handles m

-- the plan of these moves of a heap with all its words
abbrev pub planning : Stages → HeapView → List Move → Plan
planning s view vs = plan_of s.rows view s.entries vs s.planned

abbrev pub Can : Stages → HeapView → List Move → (ℕ → ℤ) → Type 0
Can s view vs entry = CanSlide (planning s view vs) s.ready entry s.planned s.roots

abbrev pub Goes : Stages → HeapView → List Move → Type 0
Goes s view vs = HasSlidBy (planning s view vs) s.moved s.planned s.roots s.roots_after

-- What is given before the slide.
pub record IsGiven (s : Stages) : Type 0 where
  pub tidy : IsTidy s.rows s.old
  pub no_contexts : s.old.heap.rests ≡ no_rests
  pub unmarked : IsUnmarked s.rows s.old.heap
  pub world : (n : Machine) × IsWorldOf (world_of s.rows s.old.heap s.roots) n × IsPlaceNamed n

-- ---- what is marked, and told

module _ (s : Stages) (given : IsGiven s) (m : Machine) (p : Plans s m) where
  pub objects-view : objects_in s.rows p.view ≡ objects_in s.rows s.old.heap
  objects-view =
      objects-pinned s.rows s.old.heap p.marked given.tidy.heap given.tidy.held p.remarked given.unmarked p.marks
      p.view s.roots.handles p.pins

  pub in-view : (o : Object) → IsIn o (objects_in s.rows s.old.heap) → IsIn o (objects_in s.rows p.view)
  in-view o i = subst (λ (os : List Object). IsIn o os) (sym objects-view) i

  -- the heap with its marks and pins is as it was otherwise
  pub frame-view : frame p.view ≡ frame s.old.heap
  frame-view =
      frame-pinned s.rows s.old.heap p.marked given.tidy.heap given.tidy.held p.remarked given.unmarked p.marks
      p.view s.roots.handles p.pins

  pub inside-view : (x : ℕ) → is_in_parts p.view LargeSegments x ≡ is_in_parts s.old.heap LargeSegments x
  inside-view =
      inside-pinned s.rows s.old.heap p.marked given.tidy.heap given.tidy.held p.remarked given.unmarked p.marks
      p.view s.roots.handles p.pins

  -- exactly the objects of large segments are marked
  pub mark-view : (o : Object) → IsIn o (objects_in s.rows s.old.heap)
      → is_marked p.view o ≡ is_in_parts s.old.heap LargeSegments o.place
  mark-view =
      mark-pinned s.rows s.old.heap p.marked given.tidy.heap given.tidy.held p.remarked given.unmarked p.marks
      p.view s.roots.handles p.pins

  -- so every object is left
  pub all-spared : (o : Object) → IsIn o (objects_in s.rows s.old.heap) → is_spared p.view LargeSegments o ≡ true
  all-spared =
      spared-pinned s.rows s.old.heap p.marked given.tidy.heap given.tidy.held p.remarked given.unmarked p.marks
      p.view s.roots.handles p.pins

  pub fills : FillsParts s.rows p.view m LargeSegments (is_in_parts s.old.heap LargeSegments) p.plan.moves p.plan.after
  fills =
      fills-parts s.rows p.view LargeSegments p.plan.moves m (is_in_parts s.old.heap LargeSegments) p.plan.after
      p.plan.compaction (omega arith)

  abbrev base : Machine
  base = seen s.rows p.view m

  base-laid : IsLaid (seen s.rows p.view m)
  base-laid = seen-laid s.rows p.view LargeSegments p.plan.moves m (is_in_parts s.old.heap LargeSegments) p.plan.after
      p.plan.compaction

  -- ---- where places go

  -- an object of a large segment goes with a plug
  large-goes : (o : Object) → IsIn o (objects_in s.rows s.old.heap) → is_in_parts p.view LargeSegments o.place ≡ true
      → (k : ℕ) × IsInPlug p.plan.moves k o.place
  large-goes o i inside =
      let (t, into, up) = out_of_parts p.view LargeSegments o.place inside in
      let name : is_in_parts s.old.heap LargeSegments o.name ≡ true =
      ap (is_in_parts s.old.heap LargeSegments) (name-is-place s.rows s.old.heap o i) ∙ sym (inside-view o.place)
      ∙ inside in
      let survives = fills.landings.survives o (in-view o i) name (segment_at p.view t)
      (fills.among t into.in_range into.takes) (between-stands (segment_at p.view t) o.place up into.high) into.low in
      elim (moved-is p.plan.moves o.place) [
        | inr (uncovered, still) ↦
            absurd (is_covered base base-laid (is_in_parts s.old.heap LargeSegments) fills.segments
            (start_of (frame p.view) LargeSegments) fills.survive fills.plugs p.plan.moves fills.landings o survives
            uncovered)
        | inl (v, j, cover, e) ↦
            let (k, within, is) = number_of p.plan.moves v j in (
              k,
              record {
                within = within;
                low = subst (λ (u : Move). u.start ≤ o.place) is cover.0;
                high = subst (λ (u : Move). o.place < u.start + u.size) is cover.1;
              },
            )
      ]

  pub object-goes : (o : Object) → IsIn o (objects_in s.rows s.old.heap)
      → MayGo p.view LargeSegments p.plan.moves o.place
  object-goes o i = elim (cases_Bool (is_in_parts p.view LargeSegments o.place)) [
    | inl inside ↦ inr (large-goes o i inside)
    | inr away ↦
        inl (λ t is. both_ways (is_in_parts p.view LargeSegments o.place) away
        (into_parts p.view LargeSegments t o.place is is.low))
  ]

  pub may-go : (x : ℕ) → IsNullOrStands s.rows s.old.heap x → MayGo p.view LargeSegments p.plan.moves x
  may-go x (inl null) =
      inl (λ t is. let low : first_of p.view t ≤ x = is.low in omega (arith, low, null))
  may-go x (inr (o, i, at)) = subst (MayGo p.view LargeSegments p.plan.moves) at (object-goes o i)

  -- words alone have changed
  pub ready-heap : IsHeap s.ready.heap
  ready-heap = shaped_heap p.view s.ready.heap p.plan.overlaid.shape p.plan.overlaid.heap

  -- what stands in no large segment stays
  pub away-stays : (x : ℕ) → is_in_parts p.view LargeSegments x ≡ false → moved_by p.plan.moves x ≡ x
  away-stays x away =
      sym (outside_stays s.rows s.ready.heap s.ready.bricks LargeSegments p.plan.moves ready-heap p.plan.told x
      (λ t is. both_ways (is_in_parts s.ready.heap LargeSegments x)
      (ap (λ (l : Layout). is_in_part (same_kind Large) l 2 (record { place = x; size = 0 }))
      (ap frame p.plan.overlaid.shape.others) ∙ away)
      (into_parts s.ready.heap LargeSegments t x is is.low)))

  -- nothing goes up
  pub goes-lower : (x : ℕ) → moved_by p.plan.moves x ≤ x
  goes-lower x = elim (moved-is p.plan.moves x) [
    | inr (uncovered, still) ↦ omega (arith, still)
    | inl (v, j, (low, high), e) ↦
        let (k, within, is) = number_of p.plan.moves v j in
        let lower = p.plan.overlaid.line.lower k within in
        let start = ap (λ (w : Move). w.start) is in
        let to = ap (λ (w : Move). w.to) is in
        omega (arith, e, lower, start, to, low)
  ]

  -- what a pinned handle names stays
  pinned-stays : (o : Object) → IsIn o (objects_in s.rows s.old.heap) → is_pinned m o.name ≡ true
      → moved_by p.plan.moves o.place ≡ o.place
  pinned-stays o i pinned = elim (moved-is p.plan.moves o.place) [
    | inr (uncovered, still) ↦ still
    | inl (v, j, (low, high), e) ↦
        let is : IsCoveredBy base base-laid (is_in_parts s.old.heap LargeSegments) fills.survive fills.plugs
        p.plan.moves fills.landings.going o v =
        covered_by base base-laid (is_in_parts s.old.heap LargeSegments) fills.survive fills.plugs p.plan.moves
        fills.landings.going o (in-view o i) v j (low, high) in
        let to = is.of.pinned (sym is.pinned ∙ pinned) in
        let start = is.of.start in
        omega (arith, e, to, start, low)
  ]

-- ---- what can slide

module _ (s : Stages) (given : IsGiven s) (start1 : s.planned.start1 ≡ s.ready.heap.start1)
    (start0 : s.planned.start0 ≡ s.ready.heap.start0) (m : Machine) (p : Plans s m) where
  abbrev vs : List Move
  vs = p.plan.moves

  pub start1-planned : p.plan.after.start1 ≡ s.planned.start1
  start1-planned =
      p.plan.start1_is
      ∙ sym (start1 ∙ ap (λ (h : HeapView). h.start1) p.plan.overlaid.shape.others
      ∙ ap (λ (l : Layout). l.start1) (frame-view s given m p))

  pub start0-planned : p.plan.after.start0 ≡ s.planned.start0
  start0-planned =
      p.plan.start0_is
      ∙ sym (start0 ∙ ap (λ (h : HeapView). h.start0) p.plan.overlaid.shape.others
      ∙ ap (λ (l : Layout). l.start0) (frame-view s given m p))

  pub holds-plan : HoldsPlan s.rows p.view s.ready.heap s.ready.bricks s.entries LargeSegments p.plan.moves
      s.planned.start1 s.planned.start0
  holds-plan = record {
    overlaid = p.plan.overlaid;
    told = p.plan.told;
    held = p.pins.held;
    no_contexts = ap (λ (h : HeapView). h.rests) p.pins.shape.others
        ∙ ap (λ (h : HeapView). h.rests) p.remarked.shape.others ∙ given.no_contexts;
    machine = m;
    kept = is_in_parts s.old.heap LargeSegments;
    after = p.plan.after;
    compaction = p.plan.compaction;
    start1_is = start1-planned;
    start0_is = start0-planned;
  }

  pub null-stays : moved_by p.plan.moves 0 ≡ 0
  null-stays =
      sym (outside_stays s.rows s.ready.heap s.ready.bricks LargeSegments p.plan.moves (ready-heap s given m p)
      p.plan.told 0
      (none_at_zero s.rows p.view s.ready.heap s.ready.bricks s.entries LargeSegments p.plan.moves s.planned.start1
      s.planned.start0 (ready-heap s given m p) holds-plan 0 refl))

  goes : (x : ℕ) → IsNullOrStands s.rows s.old.heap x → MayGo p.view LargeSegments p.plan.moves x
  goes = may-go s given m p

  pinned-target : m.handles ≡ s.roots.handles → (k : ℕ) (row : Handle) → finmap.get s.roots.handles k ≡ Some row
      → is_pinned_kind row.kind ≡ true → moved_by p.plan.moves row.target ≡ row.target
  pinned-target handles k row found pinned =
      let (n, is, named) = given.world in
      elim ((row-stands (world_of s.rows s.old.heap s.roots) n is named k row found).0) [
        | inl null ↦ ap (moved_by p.plan.moves) null ∙ null-stays ∙ sym null
        | inr (o, i, at) ↦
            let name : row.target ≡ o.name = sym at ∙ sym (name-is-place s.rows s.old.heap o i) in
            let pins : is_pinned m o.name ≡ true =
            pinned-told m k row (ap (λ (t : FinMap nat_cmp Handle). finmap.get t k) handles ∙ found) pinned o.name
            name in
            ap (moved_by p.plan.moves) (sym at) ∙ pinned-stays s given m p o i pins ∙ at
      ]

  pub can-slide : m.handles ≡ s.roots.handles → Can s p.view p.plan.moves (entry_at s.old.bricks)
  can-slide handles =
      let (n, is, named) = given.world in
      let w = world_of s.rows s.old.heap s.roots in
      let objects = objects-view s given m p in
      let bounds = frame-view s given m p in
      record {
        relocates = record {
          plan = holds-plan;
          followed = λ o j x i left slot.
              goes x (slot-stands w n is named o j x (subst (λ (os : List Object). IsIn o os) objects i) slot);
          named = λ x y names.
              subst (λ (os : List Object). (o : Object) × IsIn o os × (o.place ≡ y)) (sym objects)
              (slots-stand w n is named x y (subst (λ (os : List Object). SlotNames os x y) objects names));
          card_law = subst (λ (cs : List (CoverView ℕ)).
              CardLaw s.rows (frame p.view) (objects_in s.rows p.view) (is_card_set cs)) (sym p.cards_is)
              (subst (λ (l : Layout). CardLaw s.rows l (objects_in s.rows p.view) (is_card_set s.old.cards))
              (sym bounds)
              (subst (λ (os : List Object). CardLaw s.rows (frame s.old.heap) os (is_card_set s.old.cards))
              (sym objects) given.tidy.tables.card_law));
          cards_of = subst (λ (l : Layout). AreCardsOf l s.ready.cards) (sym bounds)
              (ap spans p.cards_is ∙ given.tidy.tables.cards);
          bricks_of = subst (λ (l : Layout). AreBricksOf l s.ready.bricks) (sym bounds)
              (p.same_bricks ∙ given.tidy.tables.bricks);
          remembered = tt;
          old_parts = tt;
        };
        names = record {
          locals_go = λ x i. goes x (local-stands w n is named x i);
          handles_go = record {
            targets = λ k row found. goes row.target (row-stands w n is named k row found).0;
            seconds = λ k row found. goes row.second (row-stands w n is named k row found).1;
            pinned = pinned-target handles;
          };
          entries_go = λ x i. goes x (entry-stands w n is named x i);
          ready_go = λ x i. goes x (ready-stands w n is named x i);
          null = null-stays;
        };
        start1 = start1;
        start0 = start0;
        law = subst (λ (l : Layout). BrickLaw s.rows l (objects_in s.rows p.view) (entry_at s.old.bricks)) (sym bounds)
            (subst (λ (os : List Object). BrickLaw s.rows (frame s.old.heap) os (entry_at s.old.bricks)) (sym objects)
            given.tidy.tables.brick_law);
        others = p.others;
      }

-- ---- the whole

-- What the phases say.
pub record IsRun (s : Stages) : Type 0 where
  pub given : IsGiven s
  pub start1_is : s.planned.start1 ≡ s.ready.heap.start1
  pub start0_is : s.planned.start0 ≡ s.ready.heap.start0
  pub plans : (m : Machine) → IsMemoryOf s.rows s.old.heap m → m.handles ≡ s.roots.handles → Plans s m
  pub moves : (view : HeapView) (vs : List Move) (entry : ℕ → ℤ) → Can s view vs entry → Goes s view vs
  pub start1_kept : s.moved.heap.start1 ≡ s.planned.start1
  pub start0_kept : s.moved.heap.start0 ≡ s.planned.start0

-- And what they say of one machine.
pub record IsCourse (s : Stages) (m : Machine) : Type 0 where
  pub run : IsRun s
  pub memory : IsMemoryOf s.rows s.old.heap m
  pub laid : IsLaid m
  pub begun : Plans s m
  pub can : Can s begun.view begun.plan.moves (entry_at s.old.bricks)
  pub went : Goes s begun.view begun.plan.moves

module _ (s : Stages) (run : IsRun s) where
  pub course-of : (m : Machine) → IsMemoryOf s.rows s.old.heap m → IsLaid m → m.handles ≡ s.roots.handles → IsCourse s m
  course-of m memory laid same =
      let p = run.plans m memory same in
      let can = can-slide s run.given run.start1_is run.start0_is m p same in
      record {
        run = run;
        memory = memory;
        laid = laid;
        begun = p;
        can = can;
        went = run.moves p.view p.plan.moves (entry_at s.old.bricks) can;
      }

  pub some-course : (m : Machine) × IsCourse s m
  some-course =
      let (n, is, named) = run.given.world in
      (n, course-of n is.memory named.lawful.laid is.handles)
