-- A fit, and then the usual moves: what these need, and what both come to.
use Rattle.std.proofs.Common.{◌≡◌, ℕ, Bool, refl, arith, ◌∙◌}
use Rattle.clr_model.specs.Lawful.{IsLaid}
use Rattle.clr_model.specs.Machine.{Machine}
use Rattle.clr_view.specs.Memory.{is_left_name, IsMemoryOf, TestsMarks}
use Rattle.clr_view.proofs.LeftNames.{tests_marks}
use Rattle.clr_survivors.proofs.PlannedPins.{laid-with, memory-with, with_handles}
use Rattle.clr_evacuate.proofs.BothMoves.{few-bytes, HaveMovedThen, moved-twice, MoveStages}
use Rattle.clr_evacuate.proofs.LeftAfterFit.{closed-after, FitStages, IsFit, named-after, stands-after, young-after}
use Rattle.clr_evacuate.proofs.SeenAfterFit.{kept_then, seen-laid, seen-memory, seen_in, then-marks}
use Rattle.clr_evacuate.proofs.moving.fit_and_move.Goals as goal
use Rattle.clr_evacuate.proofs.moving.fit_and_move.Goals.{After-fit_survivors-bytes, After-move_survivors-moved}

-- ---- the fit

abbrev stages : After-fit_survivors-bytes → FitStages
stages c = record {
  rows = c.args.types.now;
  old = c.args.space.now.heap;
  mid = c.fit_survivors-bytes.new.space.heap;
  locals = c.args.roots.now.locals.items;
  locals_mid = c.fit_survivors-bytes.new.roots.locals.items;
  table = c.args.roots.now.handles;
  table_mid = c.fit_survivors-bytes.new.roots.handles;
  queues = c.args.roots.now.finals;
  queues_mid = c.fit_survivors-bytes.new.roots.finals;
  bytes = c.fit_survivors-bytes.result;
}

-- it was made of the survivors of each such machine
fit-made : (c : After-fit_survivors-bytes) (m : Machine) (kept : ℕ → Bool)
    → IsMemoryOf c.args.types.now c.args.space.now.heap m → IsLaid m → m.handles ≡ c.args.roots.now.handles
    → TestsMarks c.args.types.now c.args.space.now.heap 1 kept → IsFit (stages c) m kept
fit-made c m kept memory laid same tests = record {
  memory = memory;
  laid = laid;
  no_contexts = c.requires.marked.no_contexts;
  same = same;
  tests = tests;
  named = c.requires.marked.named;
  fitted = c.fit_survivors-bytes.ensures.fitted m kept memory laid same tests;
}

-- and there is one
some-fit : (c : After-fit_survivors-bytes) → (m : Machine) × (kept : ℕ → Bool) × IsFit (stages c) m kept
some-fit c =
    let (n, memory, laid) = c.requires.marked.laid in
    let rows = c.args.types.now in
    let old = c.args.space.now.heap in
    let table = c.args.roots.now.handles in (
      with_handles n table,
      is_left_name rows old 1,
      fit-made c (with_handles n table) (is_left_name rows old 1) (memory-with rows old n table memory)
          (laid-with n table laid) refl (tests_marks rows old 1),
    )

-- ---- what the moves need

pub move_survivors-moved-requires-clause-marked : goal.move_survivors-moved-requires-clause-marked
move_survivors-moved-requires-clause-marked c =
    let at = (goal.at.move_survivors-moved-requires-clause-marked c).After-fit_survivors-bytes in
    let s = stages at in
    let (m, kept, f) = some-fit at in
    record {
      no_contexts = c.fit_survivors-bytes.ensures.no_contexts;
      laid = (seen_in s.rows s.mid s.table_mid m, seen-memory s m kept f, seen-laid s m kept f);
      young = young-after s m kept f c.requires.marked.young;
      closed = closed-after s m kept f c.requires.marked.closed;
      stands = stands-after s m kept f c.requires.marked.stands;
      named = named-after s m kept f;
    }

pub move_survivors-moved-requires-clause-ready : goal.move_survivors-moved-requires-clause-ready
move_survivors-moved-requires-clause-ready c =
    let room = c.requires.ready.room in
    let same = c.fit_survivors-bytes.ensures.numbers.pinned in
    record { empty = c.requires.ready.empty; room = omega (arith, room, same) }

-- ---- both

abbrev ends : After-move_survivors-moved → MoveStages
ends c = record {
  new = c.move_survivors-moved.new.space.heap;
  locals_new = c.move_survivors-moved.new.roots.locals.items;
  table_new = c.move_survivors-moved.new.roots.handles;
  queues_new = c.move_survivors-moved.new.roots.finals;
  to1 = c.move_survivors-moved.result.promoted1;
  to2 = c.move_survivors-moved.result.promoted2;
  before = c.args.slides.now;
  after = c.move_survivors-moved.new.slides;
}

pub overflow_add-result : goal.overflow_add-result
overflow_add-result c =
    let at = (goal.at.overflow_add-result c).After-fit_survivors-bytes in
    let last = (goal.at.overflow_add-result c).After-move_survivors-moved in
    let s = stages at in
    let (m, kept, f) = some-fit at in
    let moved : HaveMovedThen s (ends last) m kept =
    c.move_survivors-moved.ensures.moved (seen_in s.rows s.mid s.table_mid m) (kept_then m kept)
    (seen-memory s m kept f) (seen-laid s m kept f) refl (then-marks s m kept f) in
    let few = few-bytes s m kept f (ends last) moved c.requires.tidy.heap c.requires.tidy.held in
    omega (arith, few)

pub returns-clause-moved : goal.returns-clause-moved
returns-clause-moved c =
    let at = (goal.at.returns-clause-moved c).After-fit_survivors-bytes in
    let last = (goal.at.returns-clause-moved c).After-move_survivors-moved in
    let s = stages at in
    λ m kept memory laid same tests.
    let f = fit-made at m kept memory laid same tests in
    let moved : HaveMovedThen s (ends last) m kept =
    c.move_survivors-moved.ensures.moved (seen_in s.rows s.mid s.table_mid m) (kept_then m kept)
    (seen-memory s m kept f) (seen-laid s m kept f) refl (then-marks s m kept f) in
    let tidy = c.move_survivors-moved.ensures.tidy in
    moved-twice s m kept f (ends last) moved tidy.heap tidy.held _ (omega arith)

pub returns-clause-limit : goal.returns-clause-limit
returns-clause-limit c = c.move_survivors-moved.ensures.limit ∙ c.fit_survivors-bytes.ensures.limit

pub returns-clause-numbers : goal.returns-clause-numbers
returns-clause-numbers c =
    let first = c.fit_survivors-bytes.ensures.numbers in
    let second = c.move_survivors-moved.ensures.numbers in
    record {
      pinned = second.pinned ∙ first.pinned;
      spare = second.spare ∙ first.spare;
      entries = second.entries ∙ first.entries;
    }
