use Rattle.std.specs.Prelude.{[]}
use Rattle.clr_mark.specs.Markings.{with_target}
use Rattle.clr_mark.proofs.Chains.{IsChained, links_left}
use Rattle.clr_mark.proofs.marker.Marker.follow_chain.Given as goal

abbrev pub invariant-loop-link : goal.invariant-loop-link
invariant-loop-link l =
    IsChained l.types l.initial.heap l.heap l.initial.self l.self l.obj (with_target [] l.link.target)

abbrev pub decreases-loop-link : goal.decreases-loop-link
decreases-loop-link l = links_left l.types l.heap l.self l.link.target
