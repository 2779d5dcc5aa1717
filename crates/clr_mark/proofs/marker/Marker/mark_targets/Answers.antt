use Rattle.std.proofs.Common.{arith, refl}
use Rattle.clr_mark.proofs.BatchRoots.{next_root_word, root_word, rooting_all_next, rooting_all_starts, roots_marked}
use Rattle.clr_mark.proofs.BatchRoots.{roots_marked_before}
use Rattle.clr_mark.proofs.Held.{remarked-refl}
use Rattle.clr_mark.proofs.marker.Marker.mark_targets.Goals as goal

pub are_marked-requires : goal.are_marked-requires
are_marked-requires c = root_word c.args.types.now c.args.heap.now c.args.self.now c.args.targets.now c.requires.gray
    c.requires.objects

pub returns-then-are_marked : goal.returns-then-are_marked
returns-then-are_marked c = record {
  gray = c.requires.gray;
  words = remarked-refl c.args.types.now c.args.heap.now;
  marked = roots_marked_before c.args.types.now c.args.heap.now c.args.self.now c.args.targets.now c.requires.gray
      c.requires.objects (c.are_marked.ensures.all c.if-are_marked.true);
  capacity = refl;
  oldest = refl;
}

pub loop-target-init : goal.loop-target-init
loop-target-init c = rooting_all_starts c.args.types.now c.args.heap.now c.args.self.now c.args.targets.now
    c.requires.gray

pub segment_near-k-requires : goal.segment_near-k-requires
segment_near-k-requires c = next_root_word c.args.types.now c.args.heap.now c.args.self.now c.args.targets.now
    c.requires.gray c.requires.objects c.loop-target.heap c.loop-target.self c.loop-target.target-index
    c.loop-target.invariant c.loop-target-test.true

pub mark-requires : goal.mark-requires
mark-requires c = record {
  word = next_root_word c.args.types.now c.args.heap.now c.args.self.now c.args.targets.now c.requires.gray
      c.requires.objects c.loop-target.heap c.loop-target.self c.loop-target.target-index c.loop-target.invariant
      c.loop-target-test.true;
  segment = c.segment_near-k.ensures;
}

pub loop-target-preserved : goal.loop-target-preserved
loop-target-preserved c =
    rooting_all_next c.args.types.now c.args.heap.now c.args.self.now c.args.targets.now c.requires.gray
    c.requires.objects c.loop-target.heap c.loop-target.self c.loop-target.target-index c.loop-target.invariant
    c.loop-target-test.true c.mark.new.heap c.mark.new.self c.mark.ensures.heap c.mark.ensures.marker

pub returns : goal.returns
returns c =
    let s = c.loop-target.invariant in
    record {
      gray = s.gray;
      words = s.words;
      marked = roots_marked c.args.types.now c.args.heap.now c.args.self.now c.args.targets.now c.requires.gray
          c.requires.objects c.loop-target.heap c.loop-target.self c.loop-target.target-index s
          (omega (arith, c.loop-target-test.false));
      capacity = s.capacity;
      oldest = s.oldest;
    }
