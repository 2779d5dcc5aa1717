-- What isn't kept is swept, and empty segments are given back.
use Rattle.std.proofs.Common.{ap, arith, subst, true}
use Rattle.clr_model.specs.declared.Collected.{Collected}
use Rattle.clr_model.specs.Picture.{picture}
use Rattle.clr_view.specs.View.{objects_in}
use Rattle.clr_view.specs.World.{IsWorldOf, World}
use Rattle.clr_bgmark.specs.Scanning.{marking_in}
use Rattle.clr_survivors.specs.Survivors.{world_of}
use Rattle.clr_collect.proofs.KeptRoots.{same_world}
use Rattle.clr_collect.proofs.LastPause.{last_pause_ends}
use Rattle.clr_collect.proofs.NamedKept.{pinned_kept}
use Rattle.clr_collect.proofs.WholeCollection.{limit_after, new_index, none_given, none_marked}
use Rattle.clr_collect.proofs.ending.end_background.Goals as goal

pub release_after-requires-clause-tidy : goal.release_after-requires-clause-tidy
release_after-requires-clause-tidy c = c.sweep_rest-swept.ensures.ended.tidy

pub release_after-requires-clause-no_contexts : goal.release_after-requires-clause-no_contexts
release_after-requires-clause-no_contexts c =
    let e = c.sweep_rest-swept.ensures.ended in
    none_given (world_of c.args.types.now c.args.space.now.heap c.args.roots.now) e.marked
    c.sweep_rest-swept.new.roots.handles c.sweep_rest-swept.new.roots.finals 2 (omega arith) e.kept
    c.sweep_rest-swept.new.space.heap e.swept c.requires.world

pub returns-clause-collected : goal.returns-clause-collected
returns-clause-collected c =
    λ m is named idle.
    let e = c.sweep_rest-swept.ensures.ended in
    let (next, ends, world) = last_pause_ends (world_of c.args.types.now c.args.space.now.heap c.args.roots.now)
    (marking_in (objects_in c.args.types.now c.args.space.now.heap) c.args.background.now.shades)
    e.marked c.sweep_rest-swept.new.roots.handles c.sweep_rest-swept.new.roots.finals (omega arith) e.kept
    c.sweep_rest-swept.new.space.heap e.swept c.release_after.new.space.heap c.release_after.ensures.released
    c.sweep_rest-swept.result e.counted _
    (ap (λ (a : Collected). record a { background = true }) c.answer.ensures) m is named idle in (
      next,
      ends,
      subst (λ (v : World). IsWorldOf v (picture next))
          (same_world c.args.types.now c.release_after.new.space.heap c.args.roots.now c.sweep_rest-swept.new.roots
          c.sweep_rest-swept.ensures.locals) world,
    )

pub returns-clause-unmarked : goal.returns-clause-unmarked
returns-clause-unmarked c =
    let e = c.sweep_rest-swept.ensures.ended in
    none_marked (world_of c.args.types.now c.args.space.now.heap c.args.roots.now) e.marked
    c.sweep_rest-swept.new.roots.handles c.sweep_rest-swept.new.roots.finals 2 (omega arith) e.kept
    c.sweep_rest-swept.new.space.heap e.swept c.release_after.new.space.heap c.release_after.ensures.released

pub returns-clause-index : goal.returns-clause-index
returns-clause-index c =
    let e = c.sweep_rest-swept.ensures.ended in
    new_index (world_of c.args.types.now c.args.space.now.heap c.args.roots.now) e.marked
    c.sweep_rest-swept.new.roots.handles c.sweep_rest-swept.new.roots.finals 2 (omega arith) e.kept
    c.sweep_rest-swept.new.space.heap e.swept c.release_after.new.space.heap c.release_after.ensures.released
    c.requires.world c.forget.new.self c.forget.ensures

pub returns-clause-limit : goal.returns-clause-limit
returns-clause-limit c =
    let e = c.sweep_rest-swept.ensures.ended in
    limit_after (world_of c.args.types.now c.args.space.now.heap c.args.roots.now) e.marked
    c.sweep_rest-swept.new.roots.handles c.sweep_rest-swept.new.roots.finals 2 (omega arith) e.kept
    c.sweep_rest-swept.new.space.heap e.swept c.release_after.new.space.heap c.release_after.ensures.released

pub returns-clause-pinned : goal.returns-clause-pinned
returns-clause-pinned c =
    let e = c.sweep_rest-swept.ensures.ended in
    pinned_kept (world_of c.args.types.now c.args.space.now.heap c.args.roots.now) e.marked
    c.sweep_rest-swept.new.roots.handles c.sweep_rest-swept.new.roots.finals 2 (omega arith) e.kept c.requires.world
