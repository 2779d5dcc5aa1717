use Rattle.std.proofs.Common.{◌+◌, ◌*◌, ◌<◌, length, arith}
use Rattle.clr_sos.specs.Windows.{bit_of}
use Rattle.clr_sos.proofs.WalkedItems.{bits_on}
use Rattle.clr_sos.proofs.verify.starts.mark_starts.Goals as goal

pub loop-k-preserved : goal.loop-k-preserved
loop-k-preserved c j l =
    let same = c.mark_segment.auto.bits in
    let small : j < 64 * length c.loop-k.bits = omega (arith, l, same) in
    bits_on c.args.types.now c.args.heap.now c.loop-k.k (c.args.window.start + 8 * j) (bit_of c.loop-k.bits j)
    (bit_of c.mark_segment.new.bits j) (c.loop-k.invariant j small) (c.mark_segment.ensures j small)
