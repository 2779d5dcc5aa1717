use Rattle.std.proofs.Common.{arith, ◌≡◌, length}
use Rattle.clr_save.proofs.SavedLists.{all_segments, no_segments, segment_more}
use Rattle.clr_save.proofs.put_segments.put_segments.Goals as goal

pub loop-k-init : goal.loop-k-init
loop-k-init c = no_segments c.put_word.new.out.items c.args.types.now c.args.heap.now

pub loop-k-preserved : goal.loop-k-preserved
loop-k-preserved c =
    segment_more c.put_word.new.out.items c.loop-k.out.items _ c.args.types.now c.args.heap.now c.loop-k.k
    c.loop-k.invariant c.in_ok-put_segment.ensures

pub returns : goal.returns
returns c =
    let count = c.segments-count.ensures.count in
    let over = c.loop-k-test.false in
    let most = c.loop-k.auto.k-end in
    let all : c.loop-k.k ≡ length c.args.heap.now.segments = omega arith in
    all_segments c.args.out.now.items c.put_word.new.out.items _ c.args.types.now c.args.heap.now c.loop-k.k
    (length c.args.heap.now.segments) all (rw count at c.in_ok-put_word.ensures) c.loop-k.invariant
