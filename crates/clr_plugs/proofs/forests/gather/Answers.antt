use Rattle.std.proofs.Common.{ℕ, ◌+◌, take, drop, subst, arith}
use Rattle.clr_heap.specs.View.{word_of}
use Rattle.clr_plugs.specs.Forests.{CanReadAll}
use Rattle.clr_plugs.proofs.Waiting.{front_starts, roots_few, segment_is, waits_first}
use Rattle.clr_plugs.proofs.forests.gather.Goals as goal

pub overflow_sub-base : goal.overflow_sub-base
overflow_sub-base c =
    let (starts, segment, can, begun) = c.requires.can in
    let few = roots_few (word_of c.args.heap.now) starts c.args.base c.args.roots c.args.into.now c.args.words.now
    c.requires.room begun in
    let room = c.requires.room in
    let some = c.requires.some in
    let o = c.from.result in
    let w = waits_first (word_of c.args.heap.now) starts c.args.base 0 c.args.roots o c.args.into.now
    c.args.words.now (omega (arith, some)) (omega (arith, few, room)) c.from.ensures begun in
    let start = front_starts c.args.heap.now c.args.base segment starts can 0 o
    (drop (0 + 1) (take c.args.roots c.args.into.now)) c.args.words.now w in
    let above = (can.words (c.args.base + o) start).above in
    omega (arith, above)

pub segment_near-k-requires : goal.segment_near-k-requires
segment_near-k-requires c =
    let (starts, segment, can, begun) = c.requires.can in
    let few = roots_few (word_of c.args.heap.now) starts c.args.base c.args.roots c.args.into.now c.args.words.now
    c.requires.room begun in
    let room = c.requires.room in
    let some = c.requires.some in
    let o = c.from.result in
    let w = waits_first (word_of c.args.heap.now) starts c.args.base 0 c.args.roots o c.args.into.now
    c.args.words.now (omega (arith, some)) (omega (arith, few, room)) c.from.ensures begun in
    let start = front_starts c.args.heap.now c.args.base segment starts can 0 o
    (drop (0 + 1) (take c.args.roots c.args.into.now)) c.args.words.now w in
    (can.words (c.args.base + o) start).children

pub gather_in-requires-clause-can : goal.gather_in-requires-clause-can
gather_in-requires-clause-can c =
    let (starts, segment, can, begun) = c.requires.can in
    let few = roots_few (word_of c.args.heap.now) starts c.args.base c.args.roots c.args.into.now c.args.words.now
    c.requires.room begun in
    let room = c.requires.room in
    let some = c.requires.some in
    let o = c.from.result in
    let w = waits_first (word_of c.args.heap.now) starts c.args.base 0 c.args.roots o c.args.into.now
    c.args.words.now (omega (arith, some)) (omega (arith, few, room)) c.from.ensures begun in
    let start = front_starts c.args.heap.now c.args.base segment starts can 0 o
    (drop (0 + 1) (take c.args.roots c.args.into.now)) c.args.words.now w in
    let P : ℕ → Type 0 = λ k. CanReadAll c.args.heap.now c.args.base k starts in (
      starts,
      subst P (segment_is c.args.heap.now c.args.base segment c.segment_near-k.result (c.args.base + o) starts can start
          c.segment_near-k.ensures) can,
      begun,
    )

pub returns : goal.returns
returns c = λ starts segment can begun.
    let few = roots_few (word_of c.args.heap.now) starts c.args.base c.args.roots c.args.into.now c.args.words.now
    c.requires.room begun in
    let room = c.requires.room in
    let some = c.requires.some in
    let o = c.from.result in
    let w = waits_first (word_of c.args.heap.now) starts c.args.base 0 c.args.roots o c.args.into.now
    c.args.words.now (omega (arith, some)) (omega (arith, few, room)) c.from.ensures begun in
    let start = front_starts c.args.heap.now c.args.base segment starts can 0 o
    (drop (0 + 1) (take c.args.roots c.args.into.now)) c.args.words.now w in
    let P : ℕ → Type 0 = λ k. CanReadAll c.args.heap.now c.args.base k starts in
    c.gather_in.ensures starts (subst P (segment_is c.args.heap.now c.args.base segment c.segment_near-k.result
    (c.args.base + o) starts can start c.segment_near-k.ensures) can) begun
