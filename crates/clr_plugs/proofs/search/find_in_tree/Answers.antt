use Rattle.std.proofs.Common.{ℕ, subst, arith}
use Rattle.clr_plugs.proofs.Descent.{at_plug, begin_descent, found_in_tree, go_left, go_right}
use Rattle.clr_plugs.specs.SideBySide.{IsDescent}
use Rattle.clr_plugs.proofs.search.find_in_tree.Goals as goal

pub loop-node-init : goal.loop-node-init
loop-node-init g c =
    begin_descent c.args.heap.now c.args.k c.args.brick c.args.root c.args.a c.args.end c.args.steps.now c.requires.can
    c.requires.end

pub overflow_add-plug : goal.overflow_add-plug
overflow_add-plug g c =
    let at = at_plug c.args.heap.now c.args.k c.args.brick c.args.root c.args.a c.args.end c.args.steps.now
    c.loop-node.found
    c.loop-node.above c.loop-node.node c.loop-node.steps c.loop-node.invariant c.loop-node-test.true in
    let limit = at.limit in
    let high = at.high in
    let place = at.place in
    omega (arith, limit, high, place)

pub children_of-left-requires : goal.children_of-left-requires
children_of-left-requires g c =
    let at = at_plug c.args.heap.now c.args.k c.args.brick c.args.root c.args.a c.args.end c.args.steps.now
    c.loop-node.found
    c.loop-node.above c.loop-node.node c.loop-node.steps c.loop-node.invariant c.loop-node-test.true in
    rw at.place (let w = at.words in let above = w.above in
    record { above = omega (arith, above); word = w.children; segment = w.children_in })

pub loop-node-smaller-then-plug-a : goal.loop-node-smaller-then-plug-a
loop-node-smaller-then-plug-a g c =
    let at = at_plug c.args.heap.now c.args.k c.args.brick c.args.root c.args.a c.args.end c.args.steps.now
    c.loop-node.found
    c.loop-node.above c.loop-node.node c.loop-node.steps c.loop-node.invariant c.loop-node-test.true in
    let high = at.high in
    let better = at.better in
    let place = at.place in
    omega (arith, high, better, place)

pub loop-node-smaller : goal.loop-node-smaller
loop-node-smaller g c =
    let at = at_plug c.args.heap.now c.args.k c.args.brick c.args.root c.args.a c.args.end c.args.steps.now
    c.loop-node.found
    c.loop-node.above c.loop-node.node c.loop-node.steps c.loop-node.invariant c.loop-node-test.true in
    let high = at.high in
    let better = at.better in
    let place = at.place in
    omega (arith, high, better, place)

pub loop-node-preserved-then-plug-a : goal.loop-node-preserved-then-plug-a
loop-node-preserved-then-plug-a g c =
    let l = c.loop-node in
    go_right c.args.heap.now c.args.k c.args.brick c.args.root c.args.a c.args.end c.args.steps.now l.found l.above
    l.node l.steps
    l.invariant c.loop-node-test.true c.if-plug-a.true
    c.children_of-left.result c.tick.new.self c.children_of-left.ensures c.tick.ensures

pub loop-node-preserved : goal.loop-node-preserved
loop-node-preserved g c =
    let l = c.loop-node in
    go_left c.args.heap.now c.args.k c.args.brick c.args.root c.args.a c.args.end c.args.steps.now l.found l.above
    l.node l.steps
    l.invariant c.loop-node-test.true c.if-plug-a.false
    c.children_of-left.result c.tick.new.self c.children_of-left.ensures c.tick.ensures

pub returns : goal.returns
returns g c =
    let l = c.loop-node in
    let P : ℕ → Type 0 =
    λ n. IsDescent c.args.heap.now c.args.k c.args.brick c.args.root c.args.a c.args.end l.found l.above n
    c.args.steps.now
    l.steps in
    let d = subst P c.loop-node-test.false l.invariant in
    let told = found_in_tree c.args.heap.now c.args.k c.args.brick c.args.root c.args.a c.args.end c.args.steps.now
    l.found l.above
    l.steps d in
    record {
      found = λ starts t. (told starts t).0;
      alone = λ starts t. (told starts t).1;
      end = d.limit;
      past = d.past;
      steps = λ starts t. let s = told starts t in (s.2, s.3, s.4);
    }
