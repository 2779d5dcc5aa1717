-- Locals, handles and the queue are met in turn.
use Rattle.std.proofs.Common.{List, subst}
use Rattle.clr_sos.specs.Reaching.{AllCameBy}
use Rattle.clr_sos.specs.RootTexts.{IsRootOrigin}
use Rattle.clr_sos.specs.declared.reach.FoundObject.{FoundObject}
use Rattle.clr_sos.proofs.ReachedAll.{roots-listed}
use Rattle.clr_sos.proofs.Searching.{came-root, came-trans}
use Rattle.clr_sos.proofs.reach.Reached.from_roots.Goals as goal

pub returns-clause-search : goal.returns-clause-search
returns-clause-search c = c.in_ok-add_ready.ensures.added.search

pub returns-clause-roots : goal.returns-clause-roots
returns-clause-roots c =
    roots-listed c.args.view.now c.in_ok-reached.reached.entries.items c.add_locals.new.self.entries.items
    c.add_targets.new.self.entries.items c.add_ready.new.self.entries.items c.add_locals.new.self.seen.items
    c.add_targets.new.self.seen.items c.add_ready.new.self.seen.items c.in_ok-add_locals.ensures.added
    c.in_ok-add_targets.ensures.added c.in_ok-add_ready.ensures.added

pub returns-clause-came : goal.returns-clause-came
returns-clause-came c =
    let none = c.in_ok-reached.reached.entries.items in
    let locals = c.add_locals.new.self.entries.items in
    let targets = c.add_targets.new.self.entries.items in
    let ready = c.add_ready.new.self.entries.items in
    subst (λ (es : List FoundObject). AllCameBy es IsRootOrigin ready) c.in_ok-reached.ensures.entries
    (came-trans none targets ready IsRootOrigin c.in_ok-add_ready.ensures.added.grown
    (came-trans none locals targets IsRootOrigin c.in_ok-add_targets.ensures.added.grown
    (came-root none locals c.in_ok-add_locals.ensures.came) c.in_ok-add_targets.ensures.came) c.in_ok-add_ready.ensures.came)
