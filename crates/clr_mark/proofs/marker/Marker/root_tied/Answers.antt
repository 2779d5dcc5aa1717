use Rattle.std.proofs.Common.{arith, sym, ◌∙◌}
use Rattle.clr_mark.proofs.TieMarks.{primary_word, rooted_gray, rooted_old, rooting_more, rooting_other}
use Rattle.clr_mark.proofs.TieMarks.{rooting_starts, second_at}
use Rattle.clr_mark.proofs.marker.Marker.root_tied.Goals as goal

pub loop-i-init : goal.loop-i-init
loop-i-init c = rooting_starts c.args.types.now c.args.ties.now c.args.heap.now c.args.self.now c.requires.gray

pub is_new-requires : goal.is_new-requires
is_new-requires c = primary_word c.args.types.now c.args.ties.now c.args.heap.now c.loop-i.heap c.args.self.now
    c.loop-i.self c.loop-i.i c.requires.gray.closed c.requires.ties c.loop-i.invariant c.loop-i-test.true

pub root-requires : goal.root-requires
root-requires c = record {
  gray = c.loop-i.invariant.gray;
  object = second_at c.args.types.now c.args.ties.now c.args.heap.now c.loop-i.heap c.args.self.now c.loop-i.self
      c.loop-i.i c.requires.gray.closed c.requires.ties c.loop-i.invariant c.loop-i-test.true;
}

pub loop-i-preserved-then-is_new : goal.loop-i-preserved-then-is_new
loop-i-preserved-then-is_new c = rooting_other c.args.types.now c.args.ties.now c.args.heap.now c.loop-i.heap
    c.args.self.now c.loop-i.self c.loop-i.i c.requires.gray.closed c.requires.ties c.loop-i.invariant
    c.loop-i-test.true (sym c.is_new.ensures ∙ c.if-is_new.true)

pub loop-i-preserved : goal.loop-i-preserved
loop-i-preserved c = rooting_more c.args.types.now c.args.ties.now c.args.heap.now c.loop-i.heap c.args.self.now
    c.loop-i.self c.loop-i.i c.requires.gray.closed c.requires.ties c.loop-i.invariant c.loop-i-test.true
    (sym c.is_new.ensures ∙ c.if-is_new.false) c.root.new.heap c.root.new.self c.root.ensures.heap
    c.root.ensures.marker c.root.ensures.gray

pub returns : goal.returns
returns c =
    let past = c.loop-i-test.false in
    let inv = c.loop-i.invariant in
    record {
      gray = rooted_gray c.args.types.now c.args.ties.now c.args.heap.now c.loop-i.heap c.args.self.now c.loop-i.self
          c.loop-i.i c.requires.gray.closed c.requires.ties inv (omega (arith, past));
      reached = inv.reached;
      old = rooted_old c.args.types.now c.args.ties.now c.args.heap.now c.loop-i.heap c.args.self.now c.loop-i.self
          c.loop-i.i c.requires.gray.closed c.requires.ties inv (omega (arith, past));
      capacity = inv.capacity;
      oldest = inv.oldest;
    }
