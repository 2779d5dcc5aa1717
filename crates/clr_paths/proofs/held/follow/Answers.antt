-- An entry is followed by its slots, and then by dependent handles.
use Rattle.clr_paths.proofs.HeldReach.{led-both}
use Rattle.clr_paths.proofs.held.follow.Goals as goal

pub returns-clause-led : goal.returns-clause-led
returns-clause-led c =
    led-both c.args.view.now c.args.reached.now.entries.items c.follow_slots.new.self.entries.items
    c.follow_ties.new.self.entries.items c.follow_slots.new.self.seen.items c.follow_ties.new.self.seen.items c.args.i
    c.requires.below c.in_ok-item.ensures.added c.in_ok-item.ensures.came c.in_ok-follow_ties.ensures.added
    c.in_ok-follow_ties.ensures.came
