use Rattle.clr_types.specs.Descriptors.{offsets_from}
use Rattle.clr_heap.specs.View.{word_of}
use Rattle.clr_objsize.proofs.LoneObjects.{AreNull}
use Rattle.clr_objsize.proofs.sizes.are_null.Given as goal

abbrev pub invariant-loop-j : goal.invariant-loop-j
invariant-loop-j l = AreNull (word_of l.view.heap.now) l.item.place (offsets_from l.run.offset l.j)
