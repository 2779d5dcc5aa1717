use Rattle.std.proofs.Common.{◌≡◌, ◌+◌, ◌-◌, ◌*◌, ◌/◌, length, get_or, ap, arith}
use Rattle.clr_mem.specs.Words.{Memory}
use Rattle.clr_heap.specs.Memories.{memory_index}
use Rattle.clr_heap.proofs.Finding.{found_holds, index_at_least, index_lower}
use Rattle.clr_heap.proofs.heap.words.search.Goals as goal

pub loop-low-preserved-then-base-a : goal.loop-low-preserved-then-base-a
loop-low-preserved-then-base-a c =
    let ms = c.args.memories.now.items in
    let m = c.index-memory.result.now in
    let middle = c.loop-low.low + (c.loop-low.high - c.loop-low.low) / 2 in
    let more = c.loop-low-test.true in
    let i = c.loop-low.invariant in
    let base : m.base ≡ (get_or ms middle m).base = ap (λ (n : Memory). n.base) c.index-memory.ensures in
    let low = c.if-base-a.true in
    let is = c.base.ensures in
    let up = index_at_least ms c.args.a m c.requires.apart c.requires.word.inside middle (omega arith) (omega arith) in
    record { above = up; below = i.below; within = i.within }

pub loop-low-preserved : goal.loop-low-preserved
loop-low-preserved c =
    let ms = c.args.memories.now.items in
    let m = c.index-memory.result.now in
    let middle = c.loop-low.low + (c.loop-low.high - c.loop-low.low) / 2 in
    let more = c.loop-low-test.true in
    let i = c.loop-low.invariant in
    let base : m.base ≡ (get_or ms middle m).base = ap (λ (n : Memory). n.base) c.index-memory.ensures in
    let high = c.if-base-a.false in
    let is = c.base.ensures in
    let down = index_lower ms c.args.a m c.requires.apart c.requires.word.inside middle (omega arith) (omega arith) in
    record { above = i.above; below = down; within = omega arith }

pub returns-clause-word : goal.returns-clause-word
returns-clause-word c =
    let i = c.loop-low.invariant in
    let last = c.loop-low-test.false in
    let at : c.loop-low.low ≡ memory_index c.args.memories.now.items c.args.a = omega arith in
    found_holds c.args.memories.now.items c.loop-low.low c.args.a c.index-memory-2.result.now
    c.requires.word at c.index-memory-2.ensures c.len.ensures.aligned

pub returns-clause-room : goal.returns-clause-room
returns-clause-room c =
    let m = c.index-memory-2.result.now in
    let held = returns-clause-word c m in
    let same = ap (λ (n : Memory). n.base + 8 * length n.words) c.index-memory-2.ensures in
    let below = held.below in
    let fits = c.len.ensures.fits in
    omega arith
