use Rattle.std.proofs.Common.{◌≡◌, ◌<◌, length, ◌+◌, ap, refl, sym, ◌∙◌, subst, arith}
use Rattle.clr_heap.specs.View.{first_of, HeapView}
use Rattle.clr_heap.proofs.Rewrite.{SameShape-refl, shaped_heap}
use Rattle.clr_types.specs.Segments.{first_place}
use Rattle.clr_plan.specs.Counts.{HasCounted, no_counts}
use Rattle.clr_plan.proofs.Counting.{ahead-same, counted-old, counting-starts, counting-then}
use Rattle.clr_plan.proofs.Counting.{ended-same}
use Rattle.clr_plan.proofs.Laid.{lay-can, lay-ends, lay-more, lay-settles, lay-smaller, lay-starts, one, scan-here}
use Rattle.clr_plan.proofs.Writing.{shape-on}
use Rattle.clr_plan.proofs.parts.plan_part.Goals as goal
use Rattle.clr_plan.specs.States.{written}

pub loop-found-init : goal.loop-found-init
loop-found-init c = (
  SameShape-refl c.args.heap.now,
  refl,
  c.new-walk.ensures.known c.args.types.now,
  λ old w starts free part can. lay-starts w c.args.types.now
      old (written c.args.heap.now c.args.bricks.now c.args.queue.now c.args.laying.now.writer) c.args.laying.now.at
      starts free part c.args.k c.args.low c.args.end c.args.laying.now.below can,
  λ old w starts free part can. subst (HasCounted c.args.types.now old c.args.k c.args.end c.args.low no_counts
      c.args.low) (sym c.new-walk.ensures.counts) (counting-starts c.args.types.now old c.args.k c.args.end c.args.low
      no_counts),
)

pub info-requires : goal.info-requires
info-requires c =
    let (old, w, starts, free, part, can) = c.requires.part in
    subst (λ (h : HeapView). c.args.k < length h.segments) (sym can.laying.words.shape.others) can.plan.among.in_range

pub next_plug-requires-clause-in_range : goal.next_plug-requires-clause-in_range
next_plug-requires-clause-in_range c =
    let (old, w, starts, free, part, can) = c.requires.part in
    let l = c.loop-found.invariant.3 old w starts free part can in
    subst (λ (h : HeapView). c.args.k < length h.segments) (sym l.laying.words.shape.others) can.plan.among.in_range

pub next_plug-requires-clause-scan : goal.next_plug-requires-clause-scan
next_plug-requires-clause-scan c =
    let (old, w, starts, free, part, can) = c.requires.part in
    let l = c.loop-found.invariant.3 old w starts free part can in
    scan-here w c.args.types.now old (written c.args.heap.now c.args.bricks.now c.args.queue.now
    c.args.laying.now.writer) c.args.laying.now.at starts free part c.args.k c.args.low c.args.end
    c.args.laying.now.below can (written c.loop-found.heap c.loop-found.bricks c.loop-found.queue
    c.loop-found.laying.writer) c.loop-found.laying.at c.loop-found.place c.loop-found.laying.below l

pub next_plug-requires-clause-counted : goal.next_plug-requires-clause-counted
next_plug-requires-clause-counted c =
    let (old, w, starts, free, part, can) = c.requires.part in
    let l = c.loop-found.invariant.4 old w starts free part can in
    let a = l.kept in
    let b = l.freed in
    record { kept = omega (arith, a); freed = omega (arith, b) }

pub place_plug-requires-clause-stage : goal.place_plug-requires-clause-stage
place_plug-requires-clause-stage c =
    let (old, w, starts, free, part, can) = c.requires.part in
    let l = c.loop-found.invariant.3 old w starts free part can in (
      one w c.args.types.now old (written c.args.heap.now c.args.bricks.now c.args.queue.now c.args.laying.now.writer)
          c.args.laying.now.at starts free part c.args.k c.args.low c.args.end c.args.laying.now.below can
          (written c.loop-found.heap c.loop-found.bricks c.loop-found.queue c.loop-found.laying.writer)
          c.loop-found.laying.at c.loop-found.place c.loop-found.laying.below l c.in-Some.found c.in-Some.ensures.plugs,
      lay-settles w c.args.types.now old (written c.args.heap.now c.args.bricks.now c.args.queue.now
          c.args.laying.now.writer) c.args.laying.now.at starts free part c.args.k c.args.low c.args.end
          c.args.laying.now.below can (written c.loop-found.heap c.loop-found.bricks c.loop-found.queue
          c.loop-found.laying.writer) c.loop-found.laying.at c.loop-found.place c.loop-found.laying.below l
          c.in-Some.found c.in-Some.ensures.plugs,
    )

pub place_plug-requires-clause-can : goal.place_plug-requires-clause-can
place_plug-requires-clause-can c =
    let (old, w, starts, free, part, can) = c.requires.part in
    let l = c.loop-found.invariant.3 old w starts free part can in
    lay-can w c.args.types.now old (written c.args.heap.now c.args.bricks.now c.args.queue.now c.args.laying.now.writer)
    c.args.laying.now.at starts free part c.args.k c.args.low c.args.end c.args.laying.now.below can
    (written c.loop-found.heap c.loop-found.bricks c.loop-found.queue c.loop-found.laying.writer)
    c.loop-found.laying.at c.loop-found.place c.loop-found.laying.below l c.in-Some.found c.in-Some.ensures.plugs
    (c.info.result.base + 4096)

pub loop-found-smaller : goal.loop-found-smaller
loop-found-smaller c =
    let (old, w, starts, free, part, can) = c.requires.part in
    let l = c.loop-found.invariant.3 old w starts free part can in
    lay-smaller w c.args.types.now old (written c.args.heap.now c.args.bricks.now c.args.queue.now
    c.args.laying.now.writer) c.args.laying.now.at starts free part c.args.k c.args.low c.args.end
    c.args.laying.now.below can (written c.loop-found.heap c.loop-found.bricks c.loop-found.queue
    c.loop-found.laying.writer) c.loop-found.laying.at c.loop-found.place c.loop-found.laying.below l
    c.in-Some.found c.in-Some.ensures.plugs

pub loop-found-preserved : goal.loop-found-preserved
loop-found-preserved c = (
  shape-on c.args.heap.now c.loop-found.heap c.place_plug.new.heap c.loop-found.invariant.0 c.place_plug.ensures.shape,
  c.place_plug.ensures.spans ∙ c.loop-found.invariant.1,
  c.next_plug.ensures.known,
  λ old w starts free part can.
      let l = c.loop-found.invariant.3 old w starts free part can in
      let same : first_place c.info.result ≡ first_of old c.args.k = ap first_place c.info.ensures.value
      ∙ ap (λ (h : HeapView). first_of h c.args.k) can.laying.words.shape.others in
      rw c.place_plug.ensures.below (lay-more w c.args.types.now old (written c.args.heap.now c.args.bricks.now
      c.args.queue.now c.args.laying.now.writer) c.args.laying.now.at starts free part c.args.k c.args.low
      c.args.end c.args.laying.now.below can (written c.loop-found.heap c.loop-found.bricks c.loop-found.queue
      c.loop-found.laying.writer) c.loop-found.laying.at c.loop-found.place c.loop-found.laying.below l
      c.in-Some.found c.in-Some.ensures.plugs
      (written c.place_plug.new.heap c.place_plug.new.bricks c.place_plug.new.queue c.place_plug.new.laying.writer)
      c.place_plug.new.laying.at (first_place c.info.result) same
      (shaped_heap c.loop-found.heap c.place_plug.new.heap c.place_plug.ensures.shape l.laying.heap)
      c.place_plug.ensures.settled c.place_plug.ensures.written c.place_plug.ensures.brick c.place_plug.ensures.pushed
      c.place_plug.ensures.spare c.in-Some.ensures.behind c.place_plug.ensures.words c.place_plug.ensures.entries),
  λ old w starts free part can.
      let l = c.loop-found.invariant.3 old w starts free part can in
      let above = c.in-Some.ensures.plugs.above in
      counting-then c.args.types.now old c.args.k c.args.end c.args.low no_counts c.loop-found.place
      c.loop-found.walk.counts c.in-Some.found.next c.next_plug.new.walk.counts
      (c.loop-found.invariant.4 old w starts free part can)
      (counted-old c.args.types.now old c.loop-found.heap c.args.k c.loop-found.place c.args.end
      c.loop-found.laying.below l.laying.words.shape l.laying.words.ahead l.up l.s.scan c.loop-found.walk.counts
      c.in-Some.found.next c.next_plug.new.walk.counts (ahead-same c.args.types.now old c.loop-found.heap c.args.k
      c.loop-found.place c.args.end c.loop-found.laying.below l.laying.words.shape l.laying.words.ahead l.up
      c.in-Some.found.next (omega (arith, above)) c.in-Some.ensures.plugs.scan) c.in-Some.ensures.counted),
)

pub returns-clause-laid : goal.returns-clause-laid
returns-clause-laid c = λ old w starts free part can.
    let l = c.loop-found.invariant.3 old w starts free part can in
    lay-ends w c.args.types.now old (written c.args.heap.now c.args.bricks.now c.args.queue.now
    c.args.laying.now.writer) c.args.laying.now.at starts free part c.args.k c.args.low c.args.end
    c.args.laying.now.below can (written c.loop-found.heap c.loop-found.bricks c.loop-found.queue
    c.loop-found.laying.writer) c.loop-found.laying.at c.loop-found.place c.loop-found.laying.below l
    c.in_default.ensures.plugs

pub returns-clause-counted : goal.returns-clause-counted
returns-clause-counted c = λ old w starts free part can.
    let l = c.loop-found.invariant.3 old w starts free part can in
    counting-then c.args.types.now old c.args.k c.args.end c.args.low no_counts c.loop-found.place
    c.loop-found.walk.counts c.args.end c.next_plug.new.walk.counts
    (c.loop-found.invariant.4 old w starts free part can)
    (counted-old c.args.types.now old c.loop-found.heap c.args.k c.loop-found.place c.args.end
    c.loop-found.laying.below l.laying.words.shape l.laying.words.ahead l.up l.s.scan c.loop-found.walk.counts
    c.args.end c.next_plug.new.walk.counts (ended-same c.args.types.now old c.loop-found.heap c.args.k c.args.end)
    c.in_default.ensures.counted)

pub returns-clause-shape : goal.returns-clause-shape
returns-clause-shape c = c.loop-found.invariant.0

pub returns-clause-spans : goal.returns-clause-spans
returns-clause-spans c = c.loop-found.invariant.1
