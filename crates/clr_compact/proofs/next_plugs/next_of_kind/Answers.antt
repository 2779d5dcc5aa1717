use Rattle.std.proofs.Common.{◌≡◌, [], drop, arith, subst, sym, ℕ}
use Rattle.clr_moves.specs.PlugMoves.{HasGiven}
use Rattle.clr_compact.proofs.PassingPlugs.{IsPassing, kind-differs, kind-same, of-none, of-some}
use Rattle.clr_compact.proofs.PassingPlugs.{passing-ends, passing-finds, passing-more, passing-starts, passing-up}
use Rattle.clr_compact.proofs.next_plugs.next_of_kind.Goals as goal

pub loop-plug-init : goal.loop-plug-init
loop-plug-init c = λ vs start from.
    passing-starts c.args.types.now c.args.heap.now c.args.bricks.now c.args.g c.args.going vs start c.args.moves.now
    from

pub next-requires : goal.next-requires
next-requires c =
    let (vs, start, from) = c.requires in
    let p = c.loop-plug.invariant vs start from in
    (drop p.count vs, p.gives)

pub returns-then-to-start : goal.returns-then-to-start
returns-then-to-start c = λ vs start from.
    let p = c.loop-plug.invariant vs start from in
    let given =
    of-some (drop p.count vs ≡ [])
    (HasGiven c.args.types.now c.args.heap.now c.args.bricks.now c.args.g c.next.new.self (drop p.count vs))
    c.next.result c.in-Some.plug c.in-Some.is (c.next.ensures (drop p.count vs) p.gives) in
    passing-finds c.args.types.now c.args.heap.now c.args.bricks.now c.args.g c.args.going vs start from.rising
    c.loop-plug.moves c.loop-plug.place p c.next.new.self c.in-Some.plug given
    (kind-same c.in-Some.plug c.to.result c.start.result c.args.going c.to.ensures c.start.ensures c.if-to-start.true)

pub loop-plug-smaller : goal.loop-plug-smaller
loop-plug-smaller c =
    let (vs, start, from) = c.requires in
    let p = c.loop-plug.invariant vs start from in
    let given =
    of-some (drop p.count vs ≡ [])
    (HasGiven c.args.types.now c.args.heap.now c.args.bricks.now c.args.g c.next.new.self (drop p.count vs))
    c.next.result c.in-Some.plug c.in-Some.is (c.next.ensures (drop p.count vs) p.gives) in
    let (up, high) =
    passing-up c.args.types.now c.args.heap.now c.args.bricks.now c.args.g c.args.going vs start from.rising
    c.loop-plug.moves c.loop-plug.place p c.next.new.self c.in-Some.plug given in
    let at = c.start-place.ensures in
    omega (arith, up, high, at)

pub loop-plug-preserved : goal.loop-plug-preserved
loop-plug-preserved c = λ vs start from.
    let p = c.loop-plug.invariant vs start from in
    let given =
    of-some (drop p.count vs ≡ [])
    (HasGiven c.args.types.now c.args.heap.now c.args.bricks.now c.args.g c.next.new.self (drop p.count vs))
    c.next.result c.in-Some.plug c.in-Some.is (c.next.ensures (drop p.count vs) p.gives) in
    let P : ℕ → Type 0 =
    λ n. IsPassing c.args.types.now c.args.heap.now c.args.bricks.now c.args.g c.args.going vs start c.next.new.self
    n in
    subst P (sym c.start-place.ensures)
    (passing-more c.args.types.now c.args.heap.now c.args.bricks.now c.args.g c.args.going vs start from.rising
    c.loop-plug.moves c.loop-plug.place p c.next.new.self c.in-Some.plug given
    (kind-differs c.in-Some.plug c.to.result c.start.result c.args.going c.to.ensures c.start.ensures
    c.if-to-start.false))

pub returns : goal.returns
returns c = λ vs start from.
    let p = c.loop-plug.invariant vs start from in
    let none =
    of-none (drop p.count vs ≡ [])
    (HasGiven c.args.types.now c.args.heap.now c.args.bricks.now c.args.g c.next.new.self (drop p.count vs))
    c.next.result c.in_default.is (c.next.ensures (drop p.count vs) p.gives) in
    passing-ends c.args.types.now c.args.heap.now c.args.bricks.now c.args.g c.args.going vs start from.rising
    c.loop-plug.moves c.loop-plug.place p c.next.new.self none
