use Rattle.std.proofs.Common.{◌-◌, subst}
use Rattle.clr_heap.specs.View.{word_of}
use Rattle.clr_heap.proofs.Addresses.{InOne-shapes}
use Rattle.clr_compact.specs.Slides.{HasFilled}
use Rattle.clr_compact.proofs.Landing.{landed}
use Rattle.clr_compact.proofs.sliding.slide_plug.Goals as goal

pub move_plug-requires-clause-from : goal.move_plug-requires-clause-from
move_plug-requires-clause-from c =
    InOne-shapes c.args.heap.now.memories c.fill.new.heap.memories (c.args.plug.start - 8)
    c.args.plug.size c.fill.ensures.shape.memories c.requires.from

pub move_plug-requires-clause-into : goal.move_plug-requires-clause-into
move_plug-requires-clause-into c =
    InOne-shapes c.args.heap.now.memories c.fill.new.heap.memories (c.args.plug.to - 8)
    c.args.plug.size c.fill.ensures.shape.memories c.requires.into

pub returns-clause-words : goal.returns-clause-words
returns-clause-words c =
    let h = c.args.heap.now in
    landed c.args.plug c.args.top h (word_of h) (word_of c.fill.new.heap) (word_of c.move_plug.new.heap)
    c.requires.lower c.requires.aligned c.requires.gap c.requires.head
    (subst (λ n. HasFilled c.args.top n (word_of h) (word_of c.fill.new.heap)) c.to.ensures c.fill.ensures.words)
    c.move_plug.ensures.words
