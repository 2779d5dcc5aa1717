-- A new context, or nothing has changed.
use Rattle.std.proofs.Common.{is_some}
use Rattle.clr_runtime.specs.Rooms.{IsRefill}
use Rattle.clr_runtime.specs.RuntimeView.{IsRuntime}
use Rattle.clr_runtime.specs.declared.parts.Parts.{Parts}
use Rattle.clr_runtime.proofs.RefillKept.{refill_answers, relaid_parts}
use Rattle.clr_runtime.proofs.rooms.refill.Goals as goal
use Rattle.clr_runtime.proofs.rooms.refill.Goals.{After-is_some}

-- the parts afterwards
abbrev relaid : After-is_some → Parts
relaid c = relaid_parts c.args.parts.now c.refill.new.heap c.refill.new.self

answered : (c : After-is_some)
    → IsRefill c.args.parts.now (relaid c) c.args.thread c.args.size (is_some c.refill.result)
    × IsRuntime (relaid c)
answered c =
    let done = c.refill in
    refill_answers c.args.parts.now c.requires.runtime c.args.thread c.args.size c.requires.positive
    c.requires.few c.requires.idle (c.requires.least, c.requires.whole) done.new.heap done.new.self done.result
    done.ensures.none done.ensures.refilled done.ensures.index

pub returns-clause-refilled : goal.returns-clause-refilled
returns-clause-refilled c = rw c.is_some.ensures (answered c).0

pub returns-clause-runtime : goal.returns-clause-runtime
returns-clause-runtime c = (answered c).1
