use Rattle.std.proofs.Common.{ℕ, ◌-◌, ◌<◌, ◌≤◌, ap, sym, ◌∙◌, subst, arith}
use Rattle.clr_types.specs.Ranges.{Piece, piece_end}
use Rattle.clr_heap.specs.Parts.{item_at}
use Rattle.clr_heap.specs.View.{frame, HeapView, word_of}
use Rattle.clr_evacuate.specs.Carried.{CanCarry, HasCarried}
use Rattle.clr_evacuate.specs.Left.{IsOldHome}
use Rattle.clr_evacuate.proofs.CarryingBricks.{bricks_more, bricks_now, bricks_start, carrying_home, carrying_inside}
use Rattle.clr_evacuate.proofs.CarryingBricks.{carrying_old}
use Rattle.clr_evacuate.proofs.CarryingRuns.{carrying_on, carrying_starts, IsCarrying, next_there, run_done}
use Rattle.clr_evacuate.proofs.plugs.carry_plug.Goals as goal

-- the range that is left of an item, by where the run and the item begin and where the item ends
abbrev span_at : ℕ → ℕ → ℕ → ℕ → Piece
span_at place start to end = record { place = place - (start - to); size = end - (place - (start - to)) }

pub loop-place-init : goal.loop-place-init
loop-place-init c = (
  subst (IsCarrying c.args.types.now c.args.heap.now c.args.heap.now c.args.plug c.args.item)
      (sym c.place-place.ensures)
      (carrying_starts c.args.types.now c.args.heap.now c.args.plug c.args.item c.requires.heap c.requires.held
      c.requires.can),
  bricks_start c.args.types.now c.args.heap.now c.args.bricks.now,
)

pub carry_next-place-requires-clause-head : goal.carry_next-place-requires-clause-head
carry_next-place-requires-clause-head c =
    (next_there c.args.types.now c.args.heap.now c.loop-place.heap c.args.plug c.args.item c.loop-place.place
    c.loop-place.invariant.0 (subst (λ (e : ℕ). c.loop-place.place < e) c.end.ensures c.loop-place-test.true)).head

pub carry_next-place-requires-clause-can : goal.carry_next-place-requires-clause-can
carry_next-place-requires-clause-can c =
    subst (CanCarry c.args.types.now c.loop-place.heap
    (item_at c.args.types.now (word_of c.loop-place.heap) c.loop-place.place)) (sym (c.between.ensures
    ∙ (λ k. span_at c.loop-place.place (c.place.ensures k) (c.place-in-loop-place.ensures k)
    (c.end-in-loop-place.ensures k))))
    (next_there c.args.types.now c.args.heap.now c.loop-place.heap c.args.plug c.args.item c.loop-place.place
    c.loop-place.invariant.0
    (subst (λ (e : ℕ). c.loop-place.place < e) c.end.ensures c.loop-place-test.true)).can

pub carry_next-place-requires-clause-order : goal.carry_next-place-requires-clause-order
carry_next-place-requires-clause-order c =
    let order = c.requires.order in
    let shape = c.loop-place.invariant.0.shape.others in
    let low = ap (λ (g : HeapView). g.start1) shape in
    let high = ap (λ (g : HeapView). g.start0) shape in
    omega (arith, order, low, high)

pub carry_next-place-requires-clause-inside : goal.carry_next-place-requires-clause-inside
carry_next-place-requires-clause-inside c =
    carrying_inside c.args.types.now c.args.heap.now c.loop-place.heap c.args.plug c.args.item c.loop-place.place
    c.loop-place.invariant.0 (subst (λ (e : ℕ). c.loop-place.place < e) c.end.ensures c.loop-place-test.true)
    c.requires.inside

pub carry_next-place-requires-clause-old : goal.carry_next-place-requires-clause-old
carry_next-place-requires-clause-old c =
    carrying_old c.args.types.now c.args.heap.now c.loop-place.heap c.args.plug c.args.item c.loop-place.place
    c.loop-place.invariant.0 (subst (λ (e : ℕ). c.loop-place.place < e) c.end.ensures c.loop-place-test.true)
    c.requires.below

pub carry_next-place-requires-clause-home : goal.carry_next-place-requires-clause-home
carry_next-place-requires-clause-home c =
    subst (λ (p : Piece). IsOldHome (frame c.loop-place.heap) p.place) (sym (c.between.ensures
    ∙ (λ k. span_at c.loop-place.place (c.place.ensures k) (c.place-in-loop-place.ensures k)
    (c.end-in-loop-place.ensures k))))
    (carrying_home c.args.types.now c.args.heap.now c.loop-place.heap c.args.plug c.args.item c.loop-place.place
    c.loop-place.invariant.0 (subst (λ (e : ℕ). c.loop-place.place < e) c.end.ensures c.loop-place-test.true)
    c.requires.home)

pub carry_next-place-requires-clause-bricks : goal.carry_next-place-requires-clause-bricks
carry_next-place-requires-clause-bricks c =
    bricks_now c.args.types.now c.args.heap.now c.loop-place.heap c.args.bricks.now c.loop-place.bricks
    c.loop-place.invariant.0.shape c.requires.bricks c.loop-place.invariant.1

pub overflow_add-place : goal.overflow_add-place
overflow_add-place c =
    let next = next_there c.args.types.now c.args.heap.now c.loop-place.heap c.args.plug c.args.item
    c.loop-place.place c.loop-place.invariant.0
    (subst (λ (e : ℕ). c.loop-place.place < e) c.end.ensures c.loop-place-test.true) in
    let ends = next.ends in
    rw c.carry_next-place.ensures.size (omega (arith, ends))

pub loop-place-smaller : goal.loop-place-smaller
loop-place-smaller c =
    let next = next_there c.args.types.now c.args.heap.now c.loop-place.heap c.args.plug c.args.item
    c.loop-place.place c.loop-place.invariant.0
    (subst (λ (e : ℕ). c.loop-place.place < e) c.end.ensures c.loop-place-test.true) in
    let least = next.least in
    rw c.carry_next-place.ensures.size (let below : c.loop-place.place < piece_end c.args.plug =
    subst (λ (e : ℕ). c.loop-place.place < e) c.end.ensures c.loop-place-test.true in omega (arith, least, below))

pub loop-place-preserved : goal.loop-place-preserved
loop-place-preserved c =
    let rows = c.args.types.now in
    let now = c.loop-place.heap in (
      rw c.carry_next-place.ensures.size
          (carrying_on rows c.args.heap.now now c.args.plug c.args.item c.loop-place.place c.loop-place.invariant.0
          (subst (λ (e : ℕ). c.loop-place.place < e) c.end.ensures c.loop-place-test.true)
          c.carry_next-place.new.heap c.carry_next-place.ensures.heap
          (subst (HasCarried rows now c.carry_next-place.new.heap (item_at rows (word_of now) c.loop-place.place))
          (c.between.ensures
          ∙ (λ k. span_at c.loop-place.place (c.place.ensures k) (c.place-in-loop-place.ensures k)
          (c.end-in-loop-place.ensures k)))
          c.carry_next-place.ensures.carried)),
      bricks_more rows c.args.heap.now now c.carry_next-place.new.heap c.args.bricks.now c.loop-place.bricks
          c.carry_next-place.new.bricks c.loop-place.invariant.1 c.carry_next-place.ensures.bricks
          c.carry_next-place.ensures.spans,
    )

pub returns-clause-bricks : goal.returns-clause-bricks
returns-clause-bricks c = c.loop-place.invariant.1.law

pub returns-clause-spans : goal.returns-clause-spans
returns-clause-spans c = c.loop-place.invariant.1.spans

pub returns-clause-carried : goal.returns-clause-carried
returns-clause-carried c run can =
    let past : piece_end c.args.plug ≤ c.loop-place.place = omega (arith, c.loop-place-test.false, c.end.ensures) in
    run_done c.args.types.now c.args.heap.now c.loop-place.heap c.args.plug c.args.item c.loop-place.place
    c.requires.heap c.requires.held c.loop-place.invariant.0 past run can
