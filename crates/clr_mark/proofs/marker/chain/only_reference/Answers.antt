use Rattle.std.proofs.Common.{◌∙◌, arith}
use Rattle.clr_mark.proofs.Chains.{can_read_only, named_only, only_named}
use Rattle.clr_mark.proofs.marker.chain.only_reference.Goals as goal

pub overflow_add-obj : goal.overflow_add-obj
overflow_add-obj c =
    let fits = (can_read_only c.args.types.now c.args.heap.now c.args.obj c.args.run c.requires.closed
    c.requires.marked c.requires.run c.requires.single).fits in
    omega (arith, fits)

pub word_at-requires-clause-word : goal.word_at-requires-clause-word
word_at-requires-clause-word c = (can_read_only c.args.types.now c.args.heap.now c.args.obj c.args.run
    c.requires.closed c.requires.marked c.requires.run c.requires.single).slot

pub word_at-requires-clause-segment : goal.word_at-requires-clause-segment
word_at-requires-clause-segment c =
    c.requires.segment
    ∙ (can_read_only c.args.types.now c.args.heap.now c.args.obj c.args.run c.requires.closed c.requires.marked
    c.requires.run c.requires.single).segment

pub returns-clause-only : goal.returns-clause-only
returns-clause-only c = only_named c.args.types.now c.args.heap.now c.args.obj c.args.run c.requires.closed
    c.requires.marked c.requires.run c.requires.single c.word_at.result c.word_at.ensures

pub returns-clause-all : goal.returns-clause-all
returns-clause-all c = named_only c.args.types.now c.args.heap.now c.args.obj c.args.run c.requires.closed
    c.requires.marked c.requires.run c.requires.single c.word_at.result c.word_at.ensures
