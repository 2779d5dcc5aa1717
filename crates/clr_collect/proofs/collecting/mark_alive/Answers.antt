-- The contexts are given up, and what is alive is marked.
use Rattle.std.proofs.Common.{◌↔◌, ◌⊎◌, ℕ, List, [], ap, ◌∙◌, subst, sym}
use Rattle.clr_model.specs.Reach.{Reach}
use Rattle.clr_view.specs.Marks.{Marked}
use Rattle.clr_mark.specs.Roots.{AreObjects}
use Rattle.clr_mark.specs.Ties.{Draws, IsCondemnedStart}
use Rattle.clr_mark.specs.Waiting.{MarkerView}
use Rattle.clr_survivors.specs.Survivors.{world_of}
use Rattle.clr_scan.specs.References.{IsNamedByOlder}
use Rattle.clr_collect.proofs.ReachedMarks.{given_clear, given_closed, given_handles, given_locals, given_none}
use Rattle.clr_collect.proofs.ReachedMarks.{given_parts, given_ready, reached_marked}
use Rattle.clr_collect.proofs.SettledReady.{lowest_begun, marked_from_all, rest_stands}
use Rattle.clr_collect.proofs.collecting.mark_alive.Goals as goal

pub mark_from-requires-clause-closed : goal.mark_from-requires-clause-closed
mark_from-requires-clause-closed c =
    given_closed (world_of c.args.types.now c.args.space.now.heap c.args.roots.now)
    c.give_up_contexts.new.space.heap c.requires.tidy.heap c.requires.tidy.held c.requires.unmarked
    c.give_up_contexts.ensures.given c.requires.world c.give_up_contexts.ensures.tidy.heap

pub mark_from-requires-clause-clear : goal.mark_from-requires-clause-clear
mark_from-requires-clause-clear c =
    given_clear (world_of c.args.types.now c.args.space.now.heap c.args.roots.now)
    c.give_up_contexts.new.space.heap c.requires.tidy.heap c.requires.tidy.held c.requires.unmarked
    c.give_up_contexts.ensures.given

pub mark_from-requires-clause-handles : goal.mark_from-requires-clause-handles
mark_from-requires-clause-handles c =
    given_handles (world_of c.args.types.now c.args.space.now.heap c.args.roots.now)
    c.give_up_contexts.new.space.heap c.requires.tidy.heap c.requires.tidy.held c.requires.unmarked
    c.give_up_contexts.ensures.given c.requires.world

pub mark_from-requires-clause-locals : goal.mark_from-requires-clause-locals
mark_from-requires-clause-locals c =
    subst (AreObjects c.args.types.now c.give_up_contexts.new.space.heap) (sym c.deref.ensures.value)
    (given_locals (world_of c.args.types.now c.args.space.now.heap c.args.roots.now)
    c.give_up_contexts.new.space.heap c.requires.tidy.heap c.requires.tidy.held c.requires.unmarked
    c.give_up_contexts.ensures.given c.requires.world)

pub mark_from-requires-clause-ready : goal.mark_from-requires-clause-ready
mark_from-requires-clause-ready c =
    let mid = c.give_up_contexts.new.space.heap in
    rest_stands c.args.types.now mid c.args.g c.lowest_condemned.result
    (lowest_begun mid c.args.g c.lowest_condemned.result c.begin.new.self.oldest
    (ap (λ (m : MarkerView). m.oldest) c.begin.ensures) c.lowest_condemned.ensures.below)
    c.args.roots.now.finals.ready c.ready_from-ready.result.now c.ready_from-ready.ensures
    (given_ready (world_of c.args.types.now c.args.space.now.heap c.args.roots.now)
    c.give_up_contexts.new.space.heap c.requires.tidy.heap c.requires.tidy.held c.requires.unmarked
    c.give_up_contexts.ensures.given c.requires.world)

pub mark_from-requires-clause-no_contexts : goal.mark_from-requires-clause-no_contexts
mark_from-requires-clause-no_contexts c =
    given_none (world_of c.args.types.now c.args.space.now.heap c.args.roots.now)
    c.give_up_contexts.new.space.heap c.requires.tidy.heap c.requires.tidy.held c.requires.unmarked
    c.give_up_contexts.ensures.given

pub mark_from-requires-clause-parts : goal.mark_from-requires-clause-parts
mark_from-requires-clause-parts c =
    given_parts (world_of c.args.types.now c.args.space.now.heap c.args.roots.now)
    c.give_up_contexts.new.space.heap c.requires.tidy.heap c.requires.tidy.held c.requires.unmarked
    c.give_up_contexts.ensures.given c.requires.world c.give_up_contexts.ensures.tidy.heap c.args.g

pub returns-clause-alive : goal.returns-clause-alive
returns-clause-alive c =
    let rows = c.args.types.now in
    let mid = c.give_up_contexts.new.space.heap in
    let roots = c.args.roots.now in
    reached_marked (world_of rows c.args.space.now.heap roots) mid c.requires.tidy.heap c.requires.tidy.held
    c.requires.unmarked c.give_up_contexts.ensures.given c.mark_from.new.space.heap c.give_up_contexts.ensures.tidy.heap
    c.mark_from.ensures.words c.mark_from.ensures.gray.closed.heap c.mark_from.ensures.gray.closed.held c.args.g
    (marked_from_all rows mid c.args.g c.lowest_condemned.result
    (lowest_begun mid c.args.g c.lowest_condemned.result c.begin.new.self.oldest
    (ap (λ (m : MarkerView). m.oldest) c.begin.ensures) c.lowest_condemned.ensures.below)
    roots.finals.ready c.ready_from-ready.result.now c.ready_from-ready.ensures roots.handles
    roots.locals.items c.mark_from.new.space.heap (Draws rows mid roots.handles c.args.g)
    (IsNamedByOlder rows mid c.args.g)
    (subst (λ (ls : List ℕ). (x : ℕ) → Marked rows c.mark_from.new.space.heap x
    ↔ Reach (Draws rows mid roots.handles c.args.g)
    (λ y. IsCondemnedStart rows mid roots.handles c.args.g ls c.ready_from-ready.result.now y
    ⊎ IsNamedByOlder rows mid c.args.g y) x) c.deref.ensures.value c.mark_from.ensures.marked))

pub returns-clause-marker : goal.returns-clause-marker
returns-clause-marker c =
    c.mark_from.ensures.marker
    ∙ ap (λ (m : MarkerView). record m { stack = []; ranges = []; oldest = c.args.g }) c.begin.ensures
