-- The new segment has room for the context.
use Rattle.clr_runtime.specs.RuntimeView.{seen}
use Rattle.clr_runtime.proofs.RefillKept.{thread-idle}
use Rattle.clr_runtime.proofs.StepsSeen.{still_calm}
use Rattle.clr_runtime.proofs.RuntimeKept.{small_enough}
use Rattle.clr_runtime.proofs.SealedParts.{sealing_refilled}
use Rattle.clr_runtime.proofs.rooms.refill_by_sealing.Goals as goal

pub refill-requires-clause-idle : goal.refill-requires-clause-idle
refill-requires-clause-idle c =
    thread-idle (seen c.seal_parts.new.parts) c.args.thread
    (still_calm c.args.parts.now.safe c.seal_parts.new.parts.safe c.seal_parts.ensures.safe c.requires.idle)

pub returns-clause-refilled : goal.returns-clause-refilled
returns-clause-refilled c =
    sealing_refilled c.args.parts.now c.seal_parts.new.parts c.refill.new.parts c.args.thread c.args.size
    c.requires.runtime c.requires.small c.in_ok-seal_parts.ensures.sealed c.refill.result c.refill.ensures.refilled

pub refill-requires-clause-most : goal.refill-requires-clause-most
refill-requires-clause-most c = small_enough c.requires.runtime.shown c.args.size c.requires.small
