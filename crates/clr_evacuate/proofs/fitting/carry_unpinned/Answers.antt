-- What pinned handles name is marked in the headers while the fit is made.
use Rattle.std.proofs.Common.{◌≡◌, ℕ, Bool, true, false, ap, refl, ◌∙◌, sym, subst}
use Rattle.clr_types.specs.Segments.{Layout, rest_pieces}
use Rattle.clr_bricks.specs.Bricks.{entry_at}
use Rattle.clr_generations.specs.Tables.{AreBricksOf}
use Rattle.clr_heap.specs.View.{frame, HeapView}
use Rattle.clr_model.specs.Lawful.{IsLaid}
use Rattle.clr_model.specs.Machine.{Machine}
use Rattle.clr_view.specs.Memory.{is_left_name, IsMemoryOf, TestsMarks}
use Rattle.clr_view.proofs.LeftNames.{tests_marks}
use Rattle.clr_survivors.proofs.PinsTold.{memory-kept, tests-kept}
use Rattle.clr_survivors.proofs.PlannedPins.{laid-with, memory-with, with_handles}
use Rattle.clr_evacuate.proofs.PinsWhileFitting.{clean_back, IsPinnedFit, made_back, pins_stand_carried, tells_all}
use Rattle.clr_evacuate.proofs.PinsWhileFitting.{pinned_law}
use Rattle.clr_evacuate.proofs.fitting.carry_unpinned.Goals as goal
use Rattle.clr_evacuate.proofs.fitting.carry_unpinned.Goals.{After-carry_all-bytes}

pub carry_all-bytes-requires-clause-no_contexts : goal.carry_all-bytes-requires-clause-no_contexts
carry_all-bytes-requires-clause-no_contexts c =
    ap (λ (h : HeapView). h.rests) c.set_pins.ensures.pins.shape.others ∙ c.requires.no_contexts

pub carry_all-bytes-requires-clause-laid : goal.carry_all-bytes-requires-clause-laid
carry_all-bytes-requires-clause-laid c =
    let (n, memory, laid) = c.requires.laid in (
      n,
      memory-kept c.args.types.now c.args.heap.now c.set_pins.new.heap c.args.handles.now 1 c.requires.heap
          c.requires.held true c.set_pins.ensures.pins n memory,
      laid,
    )

pub carry_all-bytes-requires-clause-bricks : goal.carry_all-bytes-requires-clause-bricks
carry_all-bytes-requires-clause-bricks c =
    subst (λ l. AreBricksOf l c.args.bricks.now) (sym (ap frame c.set_pins.ensures.pins.shape.others)) c.requires.bricks

-- the fit of a machine whose memory and handles these are
ran : (c : After-carry_all-bytes) → (n : Machine) (kept : ℕ → Bool) → IsMemoryOf c.args.types.now c.args.heap.now n
    → IsLaid n → n.handles ≡ c.args.handles.now → TestsMarks c.args.types.now c.args.heap.now 1 kept
    → IsPinnedFit c.args.types.now c.args.heap.now c.set_pins.new.heap c.carry_all-bytes.new.heap c.args.handles.now n
    kept c.carry_all-bytes.result
ran c n kept memory laid same tests =
    let rows = c.args.types.now in
    let old = c.args.heap.now in
    let view = c.set_pins.new.heap in
    let table = c.args.handles.now in
    let heap = c.requires.heap in
    let held = c.requires.held in
    let pins = c.set_pins.ensures.pins in
    record {
      heap = heap;
      held = held;
      bare = ap (λ (l : Layout). rest_pieces l.rests) memory.layout ∙ ap rest_pieces c.requires.no_contexts;
      clean = c.requires.clean;
      stand = c.requires.stand;
      memory = memory;
      laid = laid;
      handles = same;
      pins = pins;
      made = c.carry_all-bytes.ensures.made n kept (memory-kept rows old view table 1 heap held true pins n memory) laid
          (tells_all rows old view table heap held c.requires.clean c.set_pins.ensures.below pins n same)
          (tests-kept rows old view table 1 heap held true pins 1 kept tests);
    }

-- and of some machine
some : (c : After-carry_all-bytes) → (n : Machine) × IsPinnedFit c.args.types.now c.args.heap.now c.set_pins.new.heap
    c.carry_all-bytes.new.heap c.args.handles.now n (is_left_name c.args.types.now c.args.heap.now 1)
    c.carry_all-bytes.result
some c =
    let rows = c.args.types.now in
    let old = c.args.heap.now in
    let table = c.args.handles.now in
    let (n, memory, laid) = c.requires.laid in (
      with_handles n table,
      ran c (with_handles n table) (is_left_name rows old 1) (memory-with rows old n table memory)
          (laid-with n table laid) refl (tests_marks rows old 1),
    )

pub set_pins-requires-2-clause-held : goal.set_pins-requires-2-clause-held
set_pins-requires-2-clause-held c =
    let (n, f) = some (goal.at.set_pins-requires-2-clause-held c).After-carry_all-bytes in f.made.held

pub set_pins-requires-2-clause-stand : goal.set_pins-requires-2-clause-stand
set_pins-requires-2-clause-stand c =
    let rows = c.args.types.now in
    let (n, f) = some (goal.at.set_pins-requires-2-clause-stand c).After-carry_all-bytes in
    pins_stand_carried rows c.args.heap.now c.set_pins.new.heap c.carry_all-bytes.new.heap c.args.handles.now n
    (is_left_name rows c.args.heap.now 1) c.carry_all-bytes.result f

pub returns-clause-made : goal.returns-clause-made
returns-clause-made c = λ n kept memory laid same tests.
    made_back c.args.types.now c.args.heap.now c.set_pins.new.heap c.carry_all-bytes.new.heap c.args.handles.now n kept
    c.carry_all-bytes.result (ran (goal.at.returns-clause-made c).After-carry_all-bytes n kept memory laid same tests)
    c.set_pins-2.new.heap c.set_pins-2.ensures.pins

pub returns-clause-clean : goal.returns-clause-clean
returns-clause-clean c =
    let rows = c.args.types.now in
    let (n, f) = some (goal.at.returns-clause-clean c).After-carry_all-bytes in
    clean_back rows c.args.heap.now c.set_pins.new.heap c.carry_all-bytes.new.heap c.args.handles.now n
    (is_left_name rows c.args.heap.now 1) c.carry_all-bytes.result f c.set_pins-2.new.heap c.set_pins-2.ensures.pins

pub returns-clause-brick_law : goal.returns-clause-brick_law
returns-clause-brick_law c = λ law.
    let rows = c.args.types.now in
    pinned_law rows c.carry_all-bytes.new.heap c.set_pins-2.new.heap c.args.handles.now false c.set_pins-2.ensures.pins
    (entry_at c.carry_all-bytes.new.bricks)
    (c.carry_all-bytes.ensures.bricks
    (pinned_law rows c.args.heap.now c.set_pins.new.heap c.args.handles.now true c.set_pins.ensures.pins
    (entry_at c.args.bricks.now) law))
