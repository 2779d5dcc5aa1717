-- The roots alone are listed when the search begins, and nothing is retained by an object that it doesn't find.
use Rattle.clr_paths.proofs.HeldReach.{listed-root}
use Rattle.clr_paths.proofs.HeldSums.{retained-none}
use Rattle.clr_paths.proofs.held.retained_by.Goals as goal

pub follow_but-requires-clause-roots : goal.follow_but-requires-clause-roots
follow_but-requires-clause-roots c = λ x. (
  listed-root c.args.view.now c.requires c.in_ok-reached.reached.seen.items c.in_ok-reached.reached.entries.items
      c.in_ok-reached.ensures.search c.in_ok-reached.ensures.came x,
  c.in_ok-reached.ensures.roots x,
)

pub returns-in-None : goal.returns-in-None
returns-in-None c =
    retained-none c.args.view.now c.requires c.follow_but.new.reached.entries.items c.args.a
    c.in_ok-follow_but.ensures.around c.in-None.ensures.none
