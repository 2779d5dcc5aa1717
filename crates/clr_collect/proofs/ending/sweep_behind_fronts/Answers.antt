-- What isn't found is swept behind the fronts.
use Rattle.std.proofs.Common.{◌≡◌, ◌↔◌, inr, ℕ, List, ap, arith, refl, subst, sym}
use Rattle.clr_types.specs.Types.{TypeRow}
use Rattle.clr_model.specs.Machine.{Machine}
use Rattle.clr_model.specs.Lawful.{IsPlaceNamed}
use Rattle.clr_model.specs.Reach.{starts}
use Rattle.clr_heap.specs.View.{HeapView, IsHeap}
use Rattle.clr_generations.specs.Tables.{AreTablesOf}
use Rattle.clr_generations.specs.declared.space.Space.{Space}
use Rattle.clr_mark.proofs.Held.{keeps_held}
use Rattle.clr_mark.proofs.Remarking.{keeps_layout, keeps_objects, keeps_stands}
use Rattle.clr_heap.proofs.Rewrite.{shaped_heap}
use Rattle.clr_view.specs.Marks.{Marked}
use Rattle.clr_view.specs.View.{IsHeld}
use Rattle.clr_view.specs.World.{IsWorldOf}
use Rattle.clr_sweep.specs.Fronts.{HasFronts}
use Rattle.clr_sweep.specs.declared.behind.Front.{Front}
use Rattle.clr_bgmark.specs.LastPause.{HasMarked}
use Rattle.clr_bgmark.specs.Pauses.{IsFound}
use Rattle.clr_bgmark.specs.Scanning.{AreObjects}
use Rattle.clr_bgmark.specs.Shades.{BackgroundView, ShadeView}
use Rattle.clr_bgmark.specs.Tiles.{HasFoundMarks}
use Rattle.clr_survivors.specs.Survivors.{world_of}
use Rattle.clr_collect.proofs.FoundAlive.{given_known}
use Rattle.clr_collect.proofs.FoundFronts.{bases_given, edges_given, found_marked, given_memory}
use Rattle.clr_collect.proofs.FoundHeaps.{found_heap, found_marks}
use Rattle.clr_collect.proofs.FoundKept.{found_kept}
use Rattle.clr_collect.proofs.ReachedMarks.{given_clear}
use Rattle.clr_collect.proofs.TablesKept.{tables_remarked}
use Rattle.clr_collect.proofs.TidySpaces.{tidy_kept, tidy_swept}
use Rattle.clr_collect.proofs.ending.sweep_behind_fronts.Goals.{After-fronts, After-give_up_contexts, After-mark_behind}
use Rattle.clr_collect.proofs.ending.sweep_behind_fronts.Goals as goal

pub settle-requires-clause-laid : goal.settle-requires-clause-laid
settle-requires-clause-laid c =
    let (m, is, named, idle) = c.requires.world in
    given_memory (world_of c.args.types.now c.args.space.now.heap c.args.roots.now) c.give_up_contexts.new.space.heap
    c.give_up_contexts.ensures.given m is named c.give_up_contexts.new.space.heap refl refl

pub settle-requires-clause-unmarked : goal.settle-requires-clause-unmarked
settle-requires-clause-unmarked c =
    given_clear (world_of c.args.types.now c.args.space.now.heap c.args.roots.now)
    c.give_up_contexts.new.space.heap c.requires.tidy.heap c.requires.tidy.held c.requires.unmarked
    c.give_up_contexts.ensures.given

pub settle-requires-clause-edges : goal.settle-requires-clause-edges
settle-requires-clause-edges c =
    edges_given c.args.types.now c.args.space.now.heap c.give_up_contexts.new.space.heap c.requires.tidy.heap
    c.requires.tidy.held c.give_up_contexts.ensures.given c.args.background.now.shades c.requires.objects
    c.args.background.now.parts c.requires.edges

pub mark_behind-requires-clause-unmarked : goal.mark_behind-requires-clause-unmarked
mark_behind-requires-clause-unmarked c =
    given_clear (world_of c.args.types.now c.args.space.now.heap c.args.roots.now)
    c.give_up_contexts.new.space.heap c.requires.tidy.heap c.requires.tidy.held c.requires.unmarked
    c.give_up_contexts.ensures.given

-- ---- the sweep

pub sweep_behind-swept-requires-clause-held : goal.sweep_behind-swept-requires-clause-held
sweep_behind-swept-requires-clause-held c =
    keeps_held c.args.types.now c.give_up_contexts.new.space.heap c.mark_behind.new.heap
    c.give_up_contexts.ensures.tidy.heap c.give_up_contexts.ensures.tidy.held c.mark_behind.ensures.words

pub sweep_behind-swept-requires-clause-laid : goal.sweep_behind-swept-requires-clause-laid
sweep_behind-swept-requires-clause-laid c =
    let (m, is, named, idle) = c.requires.world in
    let rows = c.args.types.now in
    let mid = c.give_up_contexts.new.space.heap in
    let tidy = c.give_up_contexts.ensures.tidy in
    given_memory (world_of rows c.args.space.now.heap c.args.roots.now) mid c.give_up_contexts.ensures.given m is named
    c.mark_behind.new.heap
    (keeps_objects rows mid c.mark_behind.new.heap tidy.heap tidy.held c.mark_behind.ensures.words)
    (keeps_layout rows mid c.mark_behind.new.heap tidy.heap tidy.held c.mark_behind.ensures.words)

pub sweep_behind-swept-requires-clause-brick_law : goal.sweep_behind-swept-requires-clause-brick_law
sweep_behind-swept-requires-clause-brick_law c =
    let rows = c.args.types.now in
    let mid = c.give_up_contexts.new.space.heap in
    let tidy = c.give_up_contexts.ensures.tidy in
    let t : AreTablesOf rows c.mark_behind.new.heap c.give_up_contexts.new.space.cards
    c.give_up_contexts.new.space.bricks =
    tables_remarked rows mid c.mark_behind.new.heap c.give_up_contexts.new.space.cards
    c.give_up_contexts.new.space.bricks tidy.tables
    (keeps_objects rows mid c.mark_behind.new.heap tidy.heap tidy.held c.mark_behind.ensures.words)
    (keeps_layout rows mid c.mark_behind.new.heap tidy.heap tidy.held c.mark_behind.ensures.words) in
    t.brick_law

-- ---- the heap in which all that is found is marked

record Ghost (rows : List TypeRow) (mid new : HeapView) (ss : List ShadeView) (fronts : List Front) : Type 0 where
  v : HeapView
  made : HasMarked rows (IsFound ss) mid v
  marks : (x : ℕ) → Marked rows v x ↔ IsFound ss x
  fronted : HasFronts rows new v fronts

known : (c : After-fronts) → AreObjects c.args.types.now c.give_up_contexts.new.space.heap
    c.args.background.now.shades
known c =
    given_known (world_of c.args.types.now c.args.space.now.heap c.args.roots.now)
    c.give_up_contexts.new.space.heap c.requires.tidy.heap c.requires.tidy.held c.requires.unmarked
    c.give_up_contexts.ensures.given c.args.background.now.shades c.requires.objects

ghost : (c : After-fronts) → Ghost c.args.types.now c.give_up_contexts.new.space.heap c.mark_behind.new.heap
    c.args.background.now.shades c.fronts.result.now
ghost c =
    let rows = c.args.types.now in
    let mid = c.give_up_contexts.new.space.heap in
    let ss = c.args.background.now.shades in
    let tidy = c.give_up_contexts.ensures.tidy in
    let clear = given_clear (world_of rows c.args.space.now.heap c.args.roots.now) mid c.requires.tidy.heap
    c.requires.tidy.held c.requires.unmarked c.give_up_contexts.ensures.given in
    let (v, made) = found_heap rows mid tidy.heap tidy.held ss (known c) in
    let marks = found_marks rows mid tidy.heap tidy.held ss (known c) v made clear in
    let same : c.settle.new.self.shades ≡ ss = ap (λ (b : BackgroundView). b.shades) c.settle.ensures.others in
    let found : HasFoundMarks rows mid v ss =
    found_marked rows mid v ss made marks (keeps_stands rows mid v tidy.heap tidy.held made.words) in
    record {
      v = v;
      made = made;
      marks = marks;
      fronted = subst (λ (fs : List Front). HasFronts rows c.mark_behind.new.heap v fs) (sym c.fronts.ensures)
          (c.mark_behind.ensures.fronts v (subst (HasFoundMarks rows mid v) (sym same) found));
    }

pub sweep_behind-swept-requires-clause-fronts : goal.sweep_behind-swept-requires-clause-fronts
sweep_behind-swept-requires-clause-fronts c =
    let g = ghost (goal.at.sweep_behind-swept-requires-clause-fronts c).After-fronts in (g.v, g.fronted)

pub returns-clause-ended : goal.returns-clause-ended
returns-clause-ended c =
    let rows = c.args.types.now in
    let old = c.args.space.now.heap in
    let mid = c.give_up_contexts.new.space in
    let ss = c.args.background.now.shades in
    let handles = c.args.roots.now.handles in
    let finals = c.args.roots.now.finals in
    let tidy = c.give_up_contexts.ensures.tidy in
    let given = c.give_up_contexts.ensures.given in
    let (m, is, named, idle) = c.requires.world in
    let g = ghost (goal.at.returns-clause-ended c).After-fronts in
    let now : IsHeap g.v = shaped_heap mid.heap g.v g.made.words.shape tidy.heap in
    let now_held : IsHeld rows g.v = keeps_held rows mid.heap g.v tidy.heap tidy.held g.made.words in
    let kept = found_kept rows old c.args.roots.now.locals.items handles finals c.requires.tidy.heap
    c.requires.tidy.held c.requires.unmarked (m, is, named) mid.heap tidy.heap given ss c.requires.objects ss
    (λ x found. starts (inr found)) c.requires.all c.requires.targets c.requires.entries g.v g.made.words now now_held
    g.marks in
    let swept = c.sweep_behind-swept.ensures.swept g.v g.fronted in
    let marked : Space = record { heap = g.v; cards = mid.cards; bricks = mid.bricks } in
    let tables : AreTablesOf rows g.v mid.cards mid.bricks =
    tables_remarked rows mid.heap g.v mid.cards mid.bricks tidy.tables
    (keeps_objects rows mid.heap g.v tidy.heap tidy.held g.made.words)
    (keeps_layout rows mid.heap g.v tidy.heap tidy.held g.made.words) in
    let w = world_of rows old c.args.roots.now in
    record {
      marked = g.v;
      kept = kept;
      swept = swept;
      counted = c.sweep_behind-swept.ensures.tally g.v g.fronted;
      tidy =
          tidy_swept w marked handles finals 2 (omega arith) kept c.sweep_behind-swept.new.heap swept c.requires.world
          (tidy_kept w c.args.space.now marked handles finals 2 refl c.requires.tidy kept tables)
          c.sweep_behind-swept.new.bricks c.sweep_behind-swept.ensures.spans c.sweep_behind-swept.ensures.brick_law;
    }
