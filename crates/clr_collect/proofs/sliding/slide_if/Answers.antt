-- The large heap slides, or all stays.
use Rattle.clr_survivors.specs.Survivors.{world_of}
use Rattle.clr_collect.proofs.SlideEnds.{slides_so, stays_unslid, tail_slid}
use Rattle.clr_collect.proofs.sliding.slide_if.Goals as goal

pub returns-then-not-slides-clause-slid : goal.returns-then-not-slides-clause-slid
returns-then-not-slides-clause-slid c =
    stays_unslid (world_of c.args.types.now c.args.space.now.heap c.args.roots.now) c.args.slides c.if-not-slides.true

pub returns-clause-slid : goal.returns-clause-slid
returns-clause-slid c =
    slides_so c.args.types.now c.args.space.now.heap c.slide_large_heap.new.space.heap c.args.roots.now.locals.items
    c.slide_large_heap.new.roots.locals.items c.args.roots.now.handles c.slide_large_heap.new.roots.handles
    c.args.roots.now.finals c.slide_large_heap.new.roots.finals c.requires.no_contexts c.slide_large_heap.ensures.slid
    c.args.slides c.if-not-slides.false

pub returns-clause-tail : goal.returns-clause-tail
returns-clause-tail c =
    tail_slid c.args.types.now c.args.space.now.heap c.slide_large_heap.new.space.heap c.args.roots.now.locals.items
    c.slide_large_heap.new.roots.locals.items c.args.roots.now.handles c.slide_large_heap.new.roots.handles
    c.args.roots.now.finals c.slide_large_heap.new.roots.finals c.requires.no_contexts c.slide_large_heap.ensures.slid
    c.requires.world
