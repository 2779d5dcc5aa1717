-- A whole move of survivors: what was given, what the plan says, what has gone.
use Rattle.std.proofs.Common.{◌≡◌, ℕ, Bool, true, false, List, refl, ap, sym, ◌∙◌, ℤ, map}
use Rattle.std.proofs.Common.{if◌then◌else◌, ◌&&◌}
use Rattle.clr_types.specs.Segments.{is_small_or_ephemeral, Layout}
use Rattle.clr_types.specs.Types.{TypeRow}
use Rattle.clr_types.specs.declared.segment.SegInfo.{SegInfo}
use Rattle.clr_types.proofs.ListMembers.{map-map}
use Rattle.clr_bricks.specs.Bricks.{entry_at}
use Rattle.clr_generations.specs.Tables.{units_of}
use Rattle.clr_generations.specs.declared.space.Space.{Space}
use Rattle.clr_heap.specs.View.{HeapView, IsHeap, no_rests}
use Rattle.clr_model.specs.Compaction.{compacted_end, IsCompacted, Move}
use Rattle.clr_model.specs.Lawful.{IsLaid}
use Rattle.clr_model.specs.Machine.{Machine}
use Rattle.clr_model.specs.Sweep.{has_condemned_part, segments_after, survivors}
use Rattle.clr_view.specs.Memory.{is_left_name, IsMemoryOf, TestsMarks}
use Rattle.clr_view.specs.View.{AreFreeHeads, layout_in}
use Rattle.clr_moves.specs.declared.condemned.Condemned.TheVariants.{Generations}
use Rattle.clr_moves.specs.declared.planned.Planned.{Planned}
use Rattle.clr_moves.specs.declared.promoted.Promoted.{Promoted}
use Rattle.clr_pinq.specs.declared.entry.PinEntry.{PinEntry}
use Rattle.clr_survivors.specs.Condemned.{condemned_from}
use Rattle.clr_survivors.specs.Phases.{CanMove, HasMovedBy, HasPlannedPinned, plan_of}
use Rattle.clr_survivors.specs.Roots.{Plan}
use Rattle.clr_survivors.specs.declared.roots.Roots.{Roots}
use Rattle.clr_survivors.proofs.CanMoveAll.{can-move, IsGiven, ready-heap}
use Rattle.clr_survivors.proofs.PlannedPins.{laid-with, memory-with, with_handles}
use Rattle.clr_survivors.proofs.RelocatedPlan.{compaction-stays, relocated_machine}
use Rattle.clr_view.proofs.LeftNames.{tests_marks}

-- The heap with its tables before, with its plan, and where all has moved; names and counts before and after.
pub record Stages : Type 0 where
  pub rows : List TypeRow
  pub old : Space
  pub ready : Space
  pub moved : Space
  pub entries : List PinEntry
  pub roots : Roots
  pub roots_after : Roots
  pub g : ℕ
  pub low : ℕ
  pub promoted : Promoted
  pub slides : ℕ
  pub slides_after : ℕ
  pub planned : Planned

abbrev pub Plans : Stages → Machine → (ℕ → Bool) → Type 0
Plans s m kept = HasPlannedPinned s.rows s.old s.ready s.entries s.roots.handles s.g m kept s.planned

-- the plan of these moves of a heap with all its words
abbrev pub planning : Stages → HeapView → List Move → Plan
planning s view vs = plan_of s.rows view s.entries vs s.planned

abbrev pub Can : Stages → HeapView → List Move → (ℕ → ℤ) → Type 0
Can s view vs entry = CanMove (planning s view vs) s.ready s.g entry s.planned s.roots

abbrev pub Goes : Stages → HeapView → List Move → Type 0
Goes s view vs = HasMovedBy (planning s view vs) s.moved s.g s.planned s.roots s.roots_after s.promoted s.slides
    s.slides_after

-- What the phases say.
pub record IsRun (s : Stages) : Type 0 where
  pub given : IsGiven s.rows s.old s.roots s.g
  pub low_is : s.low ≡ condemned_from s.old.heap s.g
  pub plans : (m : Machine) (kept : ℕ → Bool) → IsMemoryOf s.rows s.old.heap m → m.handles ≡ s.roots.handles
      → TestsMarks s.rows s.old.heap s.g kept → Plans s m kept
  pub moves : (view : HeapView) (vs : List Move) (entry : ℕ → ℤ) → Can s view vs entry → Goes s view vs
  pub start1_is : s.moved.heap.start1 ≡ s.planned.start1
  pub start0_is : s.moved.heap.start0 ≡ s.planned.start0

-- And what they say of one machine.
pub record IsCourse (s : Stages) (m : Machine) (kept : ℕ → Bool) : Type 0 where
  pub run : IsRun s
  pub memory : IsMemoryOf s.rows s.old.heap m
  pub laid : IsLaid m
  pub tests : TestsMarks s.rows s.old.heap s.g kept
  pub begun : Plans s m kept
  pub ready_heap : IsHeap s.ready.heap
  pub can : Can s begun.view begun.plan.moves (entry_at s.old.bricks)
  pub went : Goes s begun.view begun.plan.moves

module _ (s : Stages) (run : IsRun s) where
  pub course-of : (m : Machine) (kept : ℕ → Bool) → IsMemoryOf s.rows s.old.heap m → IsLaid m
      → m.handles ≡ s.roots.handles → TestsMarks s.rows s.old.heap s.g kept → IsCourse s m kept
  course-of m kept memory laid same tests =
      let p = run.plans m kept memory same tests in
      let can = can-move s.rows s.old s.ready s.roots s.g s.entries s.planned run.given m kept p same in
      record {
        run = run;
        memory = memory;
        laid = laid;
        tests = tests;
        begun = p;
        ready_heap = ready-heap s.rows s.old s.ready s.roots s.g s.entries s.planned run.given m kept p;
        can = can;
        went = run.moves p.view p.plan.moves (entry_at s.old.bricks) can;
      }

  pub some-course : (m : Machine) × (kept : ℕ → Bool) × IsCourse s m kept
  some-course =
      let (n, memory, laid) = run.given.marked.laid in
      let m = with_handles n s.roots.handles in
      let kept = is_left_name s.rows s.old.heap s.g in (
        m,
        kept,
        course-of m kept (memory-with s.rows s.old.heap n s.roots.handles memory)
            (laid-with n s.roots.handles laid) refl (tests_marks s.rows s.old.heap s.g),
      )

-- ---- the layout

-- units of segments are as before where only ends change
pub units-after : (unit g : ℕ) (ends : SegInfo → ℕ) (ss : List SegInfo)
    → map (units_of unit) (segments_after is_small_or_ephemeral g ends ss) ≡ map (units_of unit) ss
units-after unit g ends ss =
    map-map (λ s. if is_small_or_ephemeral s.kind && has_condemned_part g s then record s { end = ends s } else s)
    (units_of unit) ss
    ∙ (λ k. map (λ s. each s (is_small_or_ephemeral s.kind && has_condemned_part g s) k) ss)
  where
    each : (s : SegInfo) (b : Bool) → units_of unit (if b then record s { end = ends s } else s) ≡ units_of unit s
    each s true = refl
    each s false = refl

module _ (s : Stages) (m : Machine) (kept : ℕ → Bool) (c : IsCourse s m kept) where
  abbrev pub view : HeapView
  view = c.begun.view

  abbrev pub vs : List Move
  vs = c.begun.plan.moves

  abbrev pub after : Layout
  after = c.begun.plan.after

  -- THE LAYOUT is that of the compaction
  pub layout-moved : layout_in s.rows s.moved.heap ≡ c.begun.plan.after
  layout-moved =
      c.went.compacted.layout
      (relocated_machine s.rows c.begun.view c.went.mid (Generations s.g) c.begun.plan.moves c.went.relocated m
      c.begun.plan.compaction.memory) kept c.begun.plan.after
      (compaction-stays s.rows c.begun.view c.went.mid (Generations s.g) c.begun.plan.moves c.went.relocated m
      c.begun.plan.compaction.memory kept c.begun.plan.after c.begun.plan.compaction)
      (c.begun.plan.start1_is ∙ sym c.run.start1_is) (c.begun.plan.start0_is ∙ sym c.run.start0_is)

  pub rests-moved : s.moved.heap.rests ≡ no_rests
  rests-moved =
      ap (λ (l : Layout). l.rests) layout-moved ∙ c.begun.plan.compaction.compacted.rests
      ∙ ap (λ (l : Layout). l.rests) c.memory.layout ∙ c.run.given.marked.no_contexts

  pub segments-moved : s.moved.heap.segments
      ≡ segments_after is_small_or_ephemeral s.g
      (compacted_end c.begun.plan.after.start0 c.begun.plan.compaction.compacted.plugs c.begun.plan.moves)
      s.old.heap.segments
  segments-moved =
      ap (λ (l : Layout). l.segments) layout-moved ∙ c.begun.plan.compaction.compacted.ends
      ∙ ap (λ (l : Layout). segments_after is_small_or_ephemeral s.g
      (compacted_end c.begun.plan.after.start0 c.begun.plan.compaction.compacted.plugs c.begun.plan.moves) l.segments)
      c.memory.layout

  pub units-moved : (unit : ℕ) → map (units_of unit) s.moved.heap.segments ≡ map (units_of unit) s.old.heap.segments
  units-moved unit =
      ap (map (units_of unit)) segments-moved
      ∙ units-after unit s.g
      (compacted_end c.begun.plan.after.start0 c.begun.plan.compaction.compacted.plugs c.begun.plan.moves)
      s.old.heap.segments

  pub limit-moved : s.moved.heap.limit ≡ s.old.heap.limit
  limit-moved =
      c.went.compacted.limit ∙ ap (λ (h : HeapView). h.limit) c.went.relocated.others
      ∙ ap (λ (h : HeapView). h.limit) c.begun.pins.shape.others

  pub heads-moved : AreFreeHeads s.rows s.moved.heap
  heads-moved =
      c.went.compacted.free_heads (c.went.relocated.free_heads (c.begun.pins.free_heads c.run.given.tidy.free_heads))

  pub compacted-of : IsCompacted m.layout s.g (survivors m s.g kept) c.begun.plan.moves c.begun.plan.after
  compacted-of = c.begun.plan.compaction.compacted
