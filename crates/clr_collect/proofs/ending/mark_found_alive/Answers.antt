-- The contexts are given up, and what the last pause finds alive is marked.
use Rattle.std.proofs.Common.{◌↔◌, ◌⊎◌, ℕ, List, subst, sym}
use Rattle.clr_model.specs.Machine.{Object}
use Rattle.clr_model.specs.Reach.{Reach}
use Rattle.clr_view.specs.Marks.{Marked}
use Rattle.clr_mark.proofs.Remarking.{keeps_layout, keeps_objects}
use Rattle.clr_mark.specs.Roots as roots
use Rattle.clr_mark.specs.Ties.{IsStart, Joins}
use Rattle.clr_bgmark.specs.LastPause.{LogHolds}
use Rattle.clr_bgmark.specs.Pauses.{IsFound}
use Rattle.clr_survivors.specs.Survivors.{world_of}
use Rattle.clr_collect.proofs.FoundAlive.{found_alive, given_known}
use Rattle.clr_collect.proofs.ReachedMarks.{given_clear, given_closed, given_handles, given_locals, given_ready}
use Rattle.clr_collect.proofs.TablesKept.{tables_remarked}
use Rattle.clr_collect.proofs.ending.mark_found_alive.Goals as goal

pub finish-requires-clause-closed : goal.finish-requires-clause-closed
finish-requires-clause-closed c =
    given_closed (world_of c.args.types.now c.args.space.now.heap c.args.roots.now)
    c.give_up_contexts.new.space.heap c.requires.tidy.heap c.requires.tidy.held c.requires.unmarked
    c.give_up_contexts.ensures.given c.requires.world c.give_up_contexts.ensures.tidy.heap

pub finish-requires-clause-clear : goal.finish-requires-clause-clear
finish-requires-clause-clear c =
    given_clear (world_of c.args.types.now c.args.space.now.heap c.args.roots.now)
    c.give_up_contexts.new.space.heap c.requires.tidy.heap c.requires.tidy.held c.requires.unmarked
    c.give_up_contexts.ensures.given

pub finish-requires-clause-objects : goal.finish-requires-clause-objects
finish-requires-clause-objects c =
    given_known (world_of c.args.types.now c.args.space.now.heap c.args.roots.now)
    c.give_up_contexts.new.space.heap c.requires.tidy.heap c.requires.tidy.held c.requires.unmarked
    c.give_up_contexts.ensures.given c.args.background.now.shades c.requires.objects

pub finish-requires-clause-handles : goal.finish-requires-clause-handles
finish-requires-clause-handles c =
    given_handles (world_of c.args.types.now c.args.space.now.heap c.args.roots.now)
    c.give_up_contexts.new.space.heap c.requires.tidy.heap c.requires.tidy.held c.requires.unmarked
    c.give_up_contexts.ensures.given c.requires.world

pub finish-requires-clause-locals : goal.finish-requires-clause-locals
finish-requires-clause-locals c =
    subst (roots.AreObjects c.args.types.now c.give_up_contexts.new.space.heap) (sym c.deref.ensures.value)
    (given_locals (world_of c.args.types.now c.args.space.now.heap c.args.roots.now)
    c.give_up_contexts.new.space.heap c.requires.tidy.heap c.requires.tidy.held c.requires.unmarked
    c.give_up_contexts.ensures.given c.requires.world)

pub finish-requires-clause-ready : goal.finish-requires-clause-ready
finish-requires-clause-ready c =
    subst (roots.AreObjects c.args.types.now c.give_up_contexts.new.space.heap) (sym c.ready.ensures)
    (given_ready (world_of c.args.types.now c.args.space.now.heap c.args.roots.now)
    c.give_up_contexts.new.space.heap c.requires.tidy.heap c.requires.tidy.held c.requires.unmarked
    c.give_up_contexts.ensures.given c.requires.world)

pub finish-requires-clause-log : goal.finish-requires-clause-log
finish-requires-clause-log c =
    subst (λ (os : List Object). LogHolds c.args.types.now os c.args.background.now.shades)
    (sym c.give_up_contexts.ensures.given.objects) c.requires.log

pub returns-clause-alive : goal.returns-clause-alive
returns-clause-alive c =
    let rows = c.args.types.now in
    let mid = c.give_up_contexts.new.space.heap in
    let handles = c.args.roots.now.handles in
    let shades = c.args.background.now.shades in
    found_alive (world_of rows c.args.space.now.heap c.args.roots.now) mid c.requires.tidy.heap c.requires.tidy.held
    c.requires.unmarked c.give_up_contexts.ensures.given shades c.requires.objects c.finish.new.heap
    c.give_up_contexts.ensures.tidy.heap c.finish.ensures.words c.finish.ensures.gray.closed.heap
    c.finish.ensures.gray.closed.held
    (subst (λ (ls : List ℕ). (x : ℕ) → Marked rows c.finish.new.heap x ↔ Reach (Joins rows mid handles)
    (λ y. IsStart handles ls c.args.roots.now.finals.ready y ⊎ IsFound shades y) x) c.deref.ensures.value
    (subst (λ (rs : List ℕ). (x : ℕ) → Marked rows c.finish.new.heap x ↔ Reach (Joins rows mid handles)
    (λ y. IsStart handles c.deref.result.now rs y ⊎ IsFound shades y) x) c.ready.ensures c.finish.ensures.marked))

pub returns-clause-tables : goal.returns-clause-tables
returns-clause-tables c =
    let rows = c.args.types.now in
    let mid = c.give_up_contexts.new.space in
    let tidy = c.give_up_contexts.ensures.tidy in
    tables_remarked rows mid.heap c.finish.new.heap mid.cards mid.bricks tidy.tables
    (keeps_objects rows mid.heap c.finish.new.heap tidy.heap tidy.held c.finish.ensures.words)
    (keeps_layout rows mid.heap c.finish.new.heap tidy.heap tidy.held c.finish.ensures.words)
