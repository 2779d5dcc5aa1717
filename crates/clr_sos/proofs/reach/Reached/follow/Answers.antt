-- An entry is followed by its slots, and then by dependent handles.
use Rattle.clr_sos.proofs.ReachedAll.{followed-more}
use Rattle.std.proofs.Common.{◌≡◌}
use Rattle.clr_sos.specs.declared.reach.Origin.{Origin}
use Rattle.clr_sos.specs.declared.reach.Origin.TheVariants.{Through}
use Rattle.clr_sos.proofs.Searching.{came-trans, grown-trans}
use Rattle.clr_sos.proofs.reach.Reached.follow.Goals as goal

pub returns-clause-search : goal.returns-clause-search
returns-clause-search c = c.in_ok-follow_ties.ensures.added.search

pub returns-clause-grown : goal.returns-clause-grown
returns-clause-grown c =
    grown-trans c.args.self.now.entries.items c.follow_slots.new.self.entries.items
    c.follow_ties.new.self.entries.items c.in_ok-item.ensures.added.grown c.in_ok-follow_ties.ensures.added.grown

pub returns-clause-followed : goal.returns-clause-followed
returns-clause-followed c =
    followed-more c.args.view.now c.args.self.now.entries.items c.follow_slots.new.self.entries.items
    c.follow_ties.new.self.entries.items c.follow_slots.new.self.seen.items c.follow_ties.new.self.seen.items
    c.args.i c.requires.below c.requires.followed c.in_ok-item.ensures.added c.in_ok-follow_ties.ensures.added

pub returns-clause-came : goal.returns-clause-came
returns-clause-came c =
    came-trans c.args.self.now.entries.items c.follow_slots.new.self.entries.items
    c.follow_ties.new.self.entries.items (λ (o : Origin). o ≡ Through c.args.i)
    c.in_ok-follow_ties.ensures.added.grown c.in_ok-item.ensures.came c.in_ok-follow_ties.ensures.came
