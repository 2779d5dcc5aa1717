use Rattle.std.proofs.Common.{ap, arith, sym, ◌∙◌}
use Rattle.clr_heap.specs.View.{HeapView}
use Rattle.clr_compact.specs.NextPlugs.{landing_below}
use Rattle.clr_compact.proofs.CompactingTurns.{compacting-starts, rises, turn-can-land, turn-end, turn-ended, turn-few}
use Rattle.clr_compact.proofs.CompactingTurns.{turn-higher, turn-placed, turn-start, turn-under, turn-up, turn-within}
use Rattle.clr_compact.proofs.CompactingTurns.{turns-counted, turns-past, turns-promoted}
use Rattle.clr_compact.proofs.Overlaying.{saved_before, whole_ends}
use Rattle.clr_compact.proofs.slide_plan.slide_plan.Goals as goal

pub new-plugs-requires : goal.new-plugs-requires
new-plugs-requires c =
    let (view, vs, o, told) = c.requires.can in (
      vs,
      told,
      rises c.args.types.now c.args.bricks.now view c.args.heap.now c.args.pins.now.entries c.args.g vs o
          c.args.planned.now,
    )

pub loop-front-init : goal.loop-front-init
loop-front-init c = λ view vs o told.
    compacting-starts c.args.types.now c.args.bricks.now view c.args.heap.now c.args.pins.now.entries c.args.g vs o
    c.args.planned.now
    c.new-plugs.result c.front_of-front.result c.args.slides.now c.add.new.self
    (c.new-plugs.ensures vs told
    (rises c.args.types.now c.args.bricks.now view c.args.heap.now c.args.pins.now.entries c.args.g vs o
    c.args.planned.now))
    c.front_of-front.ensures c.add.ensures

pub pass-requires : goal.pass-requires
pass-requires c =
    let (view, vs, o, told) = c.requires.can in
    let n = c.segments-count.ensures.count in
    let test = c.loop-front-test.true in
    let lands = sym (ap (λ o. landing_below o c.room_end.result) c.next.ensures) ∙ sym c.landing_below.ensures
    ∙ c.in-Some.is in (
      vs,
      (c.loop-front.invariant view vs o told).order,
      (c.loop-front.invariant view vs o told).next,
      turn-within c.args.types.now c.args.bricks.now view c.args.heap.now c.args.pins.now.entries c.args.g vs o
          c.args.planned.now
          c.loop-front.heap c.loop-front.plugs c.loop-front.front c.args.slides.now c.loop-front.slides
          c.loop-front.promoted
          (c.loop-front.invariant view vs o told) c.room_end.ensures.heap c.room_end.result c.room_end.ensures.value
          (omega (arith, n, test)) c.in-Some.plug lands,
    )

pub with_plug-promoted-requires-clause-to1 : goal.with_plug-promoted-requires-clause-to1
with_plug-promoted-requires-clause-to1 c =
    let (view, vs, o, told) = c.requires.can in
    let n = c.segments-count.ensures.count in
    let test = c.loop-front-test.true in
    let lands = sym (ap (λ o. landing_below o c.room_end.result) c.next.ensures) ∙ sym c.landing_below.ensures
    ∙ c.in-Some.is in
    let few =
    turn-few c.args.types.now c.args.bricks.now view c.args.heap.now c.args.pins.now.entries c.args.g vs o
    c.args.planned.now
    c.loop-front.heap c.loop-front.plugs c.loop-front.front c.args.slides.now c.loop-front.slides
    c.loop-front.promoted
    (c.loop-front.invariant view vs o told) c.room_end.ensures.heap c.room_end.result c.room_end.ensures.value
    (omega (arith, n, test)) c.in-Some.plug lands in
    few.0

pub with_plug-promoted-requires-clause-to2 : goal.with_plug-promoted-requires-clause-to2
with_plug-promoted-requires-clause-to2 c =
    let (view, vs, o, told) = c.requires.can in
    let n = c.segments-count.ensures.count in
    let test = c.loop-front-test.true in
    let lands = sym (ap (λ o. landing_below o c.room_end.result) c.next.ensures) ∙ sym c.landing_below.ensures
    ∙ c.in-Some.is in
    let few =
    turn-few c.args.types.now c.args.bricks.now view c.args.heap.now c.args.pins.now.entries c.args.g vs o
    c.args.planned.now
    c.loop-front.heap c.loop-front.plugs c.loop-front.front c.args.slides.now c.loop-front.slides
    c.loop-front.promoted
    (c.loop-front.invariant view vs o told) c.room_end.ensures.heap c.room_end.result c.room_end.ensures.value
    (omega (arith, n, test)) c.in-Some.plug lands in
    few.1

pub land_plug-near-requires-clause-can : goal.land_plug-near-requires-clause-can
land_plug-near-requires-clause-can c =
    let (view, vs, o, told) = c.requires.can in
    let n = c.segments-count.ensures.count in
    let test = c.loop-front-test.true in
    let lands = sym (ap (λ o. landing_below o c.room_end.result) c.next.ensures) ∙ sym c.landing_below.ensures
    ∙ c.in-Some.is in
    turn-can-land c.args.types.now c.args.bricks.now view c.args.heap.now c.args.pins.now.entries c.args.g vs o
    c.args.planned.now
    c.loop-front.heap c.loop-front.plugs c.loop-front.front c.args.slides.now c.loop-front.slides
    c.loop-front.promoted
    (c.loop-front.invariant view vs o told) c.room_end.ensures.heap c.room_end.result c.room_end.ensures.value
    (omega (arith, n, test)) c.in-Some.plug lands

pub land_plug-near-requires-clause-end : goal.land_plug-near-requires-clause-end
land_plug-near-requires-clause-end c =
    let (view, vs, o, told) = c.requires.can in
    let n = c.segments-count.ensures.count in
    let test = c.loop-front-test.true in
    let lands = sym (ap (λ o. landing_below o c.room_end.result) c.next.ensures) ∙ sym c.landing_below.ensures
    ∙ c.in-Some.is in
    turn-under c.args.types.now c.args.bricks.now view c.args.heap.now c.args.pins.now.entries c.args.g vs o
    c.args.planned.now
    c.loop-front.heap c.loop-front.plugs c.loop-front.front c.args.slides.now c.loop-front.slides
    c.loop-front.promoted
    (c.loop-front.invariant view vs o told) c.room_end.ensures.heap c.room_end.result c.room_end.ensures.value
    (omega (arith, n, test)) c.in-Some.plug lands

pub land_plug-near-requires-clause-fits : goal.land_plug-near-requires-clause-fits
land_plug-near-requires-clause-fits c =
    let (view, vs, o, told) = c.requires.can in
    let n = c.segments-count.ensures.count in
    let test = c.loop-front-test.true in
    let lands = sym (ap (λ o. landing_below o c.room_end.result) c.next.ensures) ∙ sym c.landing_below.ensures
    ∙ c.in-Some.is in
    turn-start c.args.types.now c.args.bricks.now view c.args.heap.now c.args.pins.now.entries c.args.g vs o
    c.args.planned.now
    c.loop-front.heap c.loop-front.plugs c.loop-front.front c.args.slides.now c.loop-front.slides
    c.loop-front.promoted
    (c.loop-front.invariant view vs o told) c.room_end.ensures.heap c.room_end.result c.room_end.ensures.value
    (omega (arith, n, test)) c.in-Some.plug lands

pub overflow_add-front : goal.overflow_add-front
overflow_add-front c =
    let (view, vs, o, told) = c.requires.can in
    let n = c.segments-count.ensures.count in
    let test = c.loop-front-test.true in
    let lands = sym (ap (λ o. landing_below o c.room_end.result) c.next.ensures) ∙ sym c.landing_below.ensures
    ∙ c.in-Some.is in
    let fits =
    turn-end c.args.types.now c.args.bricks.now view c.args.heap.now c.args.pins.now.entries c.args.g vs o
    c.args.planned.now
    c.loop-front.heap c.loop-front.plugs c.loop-front.front c.args.slides.now c.loop-front.slides
    c.loop-front.promoted
    (c.loop-front.invariant view vs o told) c.room_end.ensures.heap c.room_end.result c.room_end.ensures.value
    (omega (arith, n, test)) c.in-Some.plug lands in
    let to = c.to.ensures in
    let size = c.size.ensures in
    omega (arith, fits, to, size)

pub loop-front-smaller-in-Some : goal.loop-front-smaller-in-Some
loop-front-smaller-in-Some c =
    let (view, vs, o, told) = c.requires.can in
    let n = c.segments-count.ensures.count in
    let test = c.loop-front-test.true in
    let lands = sym (ap (λ o. landing_below o c.room_end.result) c.next.ensures) ∙ sym c.landing_below.ensures
    ∙ c.in-Some.is in
    let (up, high) =
    turn-up c.args.types.now c.args.bricks.now view c.args.heap.now c.args.pins.now.entries c.args.g vs o
    c.args.planned.now
    c.loop-front.heap c.loop-front.plugs c.loop-front.front c.args.slides.now c.loop-front.slides
    c.loop-front.promoted
    (c.loop-front.invariant view vs o told) c.room_end.ensures.heap c.room_end.result c.room_end.ensures.value
    (omega (arith, n, test)) c.in-Some.plug lands in
    let top = ap (λ (h : HeapView). h.top) o.shape.others in
    let to = c.to.ensures in
    let size = c.size.ensures in
    omega (arith, up, high, to, size, top)

pub loop-front-preserved-in-Some : goal.loop-front-preserved-in-Some
loop-front-preserved-in-Some c = λ view vs o told.
    let n = c.segments-count.ensures.count in
    let test = c.loop-front-test.true in
    let lands = sym (ap (λ o. landing_below o c.room_end.result) c.next.ensures) ∙ sym c.landing_below.ensures
    ∙ c.in-Some.is in
    let w = c.loop-front.invariant view vs o told in
    let within =
    turn-within c.args.types.now c.args.bricks.now view c.args.heap.now c.args.pins.now.entries c.args.g vs o
    c.args.planned.now
    c.loop-front.heap c.loop-front.plugs c.loop-front.front c.args.slides.now c.loop-front.slides
    c.loop-front.promoted
    (c.loop-front.invariant view vs o told) c.room_end.ensures.heap c.room_end.result c.room_end.ensures.value
    (omega (arith, n, test)) c.in-Some.plug lands in
    turn-placed c.args.types.now c.args.bricks.now view c.args.heap.now c.args.pins.now.entries c.args.g vs o
    c.args.planned.now
    c.loop-front.heap c.loop-front.plugs c.loop-front.front c.args.slides.now c.loop-front.slides
    c.loop-front.promoted
    (c.loop-front.invariant view vs o told) c.room_end.ensures.heap c.room_end.result c.room_end.ensures.value
    (omega (arith, n, test)) c.in-Some.plug lands
    c.pass.new.self c.land_plug-near.new.heap c.to.result c.size.result c.add_plug.new.self
    c.with_plug-promoted.result c.to.ensures c.size.ensures
    (c.pass.ensures vs w.order w.next within) c.land_plug-near.ensures.shape c.land_plug-near.ensures.words
    c.add_plug.ensures c.with_plug-promoted.ensures.to1 c.with_plug-promoted.ensures.to2

pub loop-front-smaller : goal.loop-front-smaller
loop-front-smaller c =
    let (view, vs, o, told) = c.requires.can in
    let n = c.segments-count.ensures.count in
    let test = c.loop-front-test.true in
    let none = sym (ap (λ o. landing_below o c.room_end.result) c.next.ensures) ∙ sym c.landing_below.ensures
    ∙ c.in-None.is in
    let higher =
    turn-higher c.args.types.now c.args.bricks.now view c.args.heap.now c.args.pins.now.entries c.args.g vs o
    c.args.planned.now
    c.loop-front.heap c.loop-front.plugs c.loop-front.front c.args.slides.now c.loop-front.slides
    c.loop-front.promoted
    (c.loop-front.invariant view vs o told) c.room_end.ensures.heap c.room_end.result c.room_end.ensures.value
    (omega (arith, n, test)) none
    c.set_end.new.self c.front_of-front-in-None.result c.set_end.ensures c.front_of-front-in-None.ensures in
    let above = c.front_of-front-in-None.ensures.above in
    omega (arith, higher, above, test)

pub loop-front-preserved : goal.loop-front-preserved
loop-front-preserved c = λ view vs o told.
    let n = c.segments-count.ensures.count in
    let test = c.loop-front-test.true in
    let none = sym (ap (λ o. landing_below o c.room_end.result) c.next.ensures) ∙ sym c.landing_below.ensures
    ∙ c.in-None.is in
    turn-ended c.args.types.now c.args.bricks.now view c.args.heap.now c.args.pins.now.entries c.args.g vs o
    c.args.planned.now
    c.loop-front.heap c.loop-front.plugs c.loop-front.front c.args.slides.now c.loop-front.slides
    c.loop-front.promoted
    (c.loop-front.invariant view vs o told) c.room_end.ensures.heap c.room_end.result c.room_end.ensures.value
    (omega (arith, n, test)) none
    c.set_end.new.self c.front_of-front-in-None.result c.set_end.ensures c.front_of-front-in-None.ensures

pub put_before_parts-requires : goal.put_before_parts-requires
put_before_parts-requires c =
    let (view, vs, o, told) = c.requires.can in
    let n = c.segments-count.ensures.count in
    let test = c.loop-front-test.false in
    let w = c.loop-front.invariant view vs o told in
    let past =
    turns-past c.args.types.now c.args.bricks.now view c.args.heap.now c.args.pins.now.entries c.args.g vs o
    c.args.planned.now
    c.loop-front.heap c.loop-front.plugs c.loop-front.front c.args.slides.now c.loop-front.slides
    c.loop-front.promoted w
    (omega (arith, n, test)) in
    saved_before view c.args.heap.now c.args.pins.now.entries c.args.g vs o c.loop-front.heap w.order c.loop-front.front
    w.whole past

pub returns-clause-slid : goal.returns-clause-slid
returns-clause-slid c = λ view vs o told.
    let n = c.segments-count.ensures.count in
    let test = c.loop-front-test.false in
    let w = c.loop-front.invariant view vs o told in
    let past =
    turns-past c.args.types.now c.args.bricks.now view c.args.heap.now c.args.pins.now.entries c.args.g vs o
    c.args.planned.now
    c.loop-front.heap c.loop-front.plugs c.loop-front.front c.args.slides.now c.loop-front.slides
    c.loop-front.promoted w
    (omega (arith, n, test)) in
    whole_ends view c.args.heap.now c.args.pins.now.entries c.args.g vs o c.loop-front.heap w.order c.loop-front.front
    w.whole past
    c.put_before_parts.new.heap c.put_before_parts.ensures.shape c.put_before_parts.ensures.outside
    c.put_before_parts.ensures.parts

pub returns-clause-slides : goal.returns-clause-slides
returns-clause-slides c = λ view vs o told.
    let n = c.segments-count.ensures.count in
    let test = c.loop-front-test.false in
    turns-counted c.args.types.now c.args.bricks.now view c.args.heap.now c.args.pins.now.entries c.args.g vs o
    c.args.planned.now
    c.loop-front.heap c.loop-front.plugs c.loop-front.front c.args.slides.now c.loop-front.slides
    c.loop-front.promoted
    (c.loop-front.invariant view vs o told) (omega (arith, n, test))

pub returns-clause-to1 : goal.returns-clause-to1
returns-clause-to1 c = λ view vs o told.
    let n = c.segments-count.ensures.count in
    let test = c.loop-front-test.false in
    (turns-promoted c.args.types.now c.args.bricks.now view c.args.heap.now c.args.pins.now.entries c.args.g vs o
    c.args.planned.now
    c.loop-front.heap c.loop-front.plugs c.loop-front.front c.args.slides.now c.loop-front.slides
    c.loop-front.promoted
    (c.loop-front.invariant view vs o told) (omega (arith, n, test))).0

pub returns-clause-to2 : goal.returns-clause-to2
returns-clause-to2 c = λ view vs o told.
    let n = c.segments-count.ensures.count in
    let test = c.loop-front-test.false in
    (turns-promoted c.args.types.now c.args.bricks.now view c.args.heap.now c.args.pins.now.entries c.args.g vs o
    c.args.planned.now
    c.loop-front.heap c.loop-front.plugs c.loop-front.front c.args.slides.now c.loop-front.slides
    c.loop-front.promoted
    (c.loop-front.invariant view vs o told) (omega (arith, n, test))).1
