use Rattle.std.proofs.Common.{◌-◌}
use Rattle.clr_heap.proofs.Storing.{HasWord-shapes}
use Rattle.clr_evacuate.proofs.Copying.{vacated}
use Rattle.clr_evacuate.proofs.carrying.vacate.Goals as goal

pub set_word-requires : goal.set_word-requires
set_word-requires c =
    HasWord-shapes c.args.heap.now.memories c.make_free.new.self.memories (c.args.object.place - 8)
    c.make_free.ensures.shape.memories c.requires.head.header

pub returns : goal.returns
returns c =
    vacated c.args.heap.now c.args.object c.args.to c.requires.head c.requires.least c.make_free.new.self
    c.set_word.new.self c.make_free.ensures.words c.set_word.ensures.value
