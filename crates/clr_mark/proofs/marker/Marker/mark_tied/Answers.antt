-- The ties of one primary are followed one by one.
use Rattle.std.proofs.Common.{arith}
use Rattle.clr_mark.proofs.TieMarks.{none_behind, tied_ends, tied_more, tied_starts, tied_word}
use Rattle.clr_mark.proofs.marker.Marker.mark_tied.Goals as goal

pub loop-i-init : goal.loop-i-init
loop-i-init c = tied_starts c.args.types.now c.args.ties.now c.args.heap.now c.args.self.now c.args.obj
    c.first_tie-start.result c.first_tie-start.ensures.below

pub returns-then-tie-obj-clause-followed : goal.returns-then-tie-obj-clause-followed
returns-then-tie-obj-clause-followed c =
    let ties = c.args.ties.now in
    tied_ends c.args.types.now ties c.args.heap.now c.loop-i.heap c.args.self.now c.loop-i.self c.args.obj c.loop-i.i
    c.requires.closed c.requires.ties c.requires.marked c.loop-i.invariant
    (none_behind ties c.args.obj c.first_tie-start.result c.loop-i.i c.requires.ties.rise
    c.first_tie-start.ensures.above c.loop-i.auto.i c.loop-i-test.true c.if-tie-obj.true)

pub mark_condemned-requires : goal.mark_condemned-requires
mark_condemned-requires c = tied_word c.args.types.now c.args.ties.now c.args.heap.now c.loop-i.heap c.args.self.now
    c.loop-i.self c.args.obj c.loop-i.i c.requires.closed c.requires.ties c.requires.marked c.loop-i.invariant
    c.loop-i-test.true

pub loop-i-preserved : goal.loop-i-preserved
loop-i-preserved c = tied_more c.args.types.now c.args.ties.now c.args.heap.now c.loop-i.heap c.args.self.now
    c.loop-i.self c.args.obj c.loop-i.i c.requires.closed c.requires.ties c.requires.marked c.loop-i.invariant
    c.loop-i-test.true c.if-tie-obj.false c.mark_condemned.new.heap c.mark_condemned.new.self
    c.mark_condemned.ensures.heap c.mark_condemned.ensures.marker

pub returns-clause-followed : goal.returns-clause-followed
returns-clause-followed c =
    let ties = c.args.ties.now in
    let past = c.loop-i-test.false in
    tied_ends c.args.types.now ties c.args.heap.now c.loop-i.heap c.args.self.now c.loop-i.self c.args.obj c.loop-i.i
    c.requires.closed c.requires.ties c.requires.marked c.loop-i.invariant
    (λ k le l is. omega (arith, past, le, l))
