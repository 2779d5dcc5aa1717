-- The queue is told object by object.
use Rattle.std.proofs.Common.{◌<◌, ◌≤◌, ℕ, List, arith, get_or, length, subst}
use Rattle.clr_types.specs.Rising.{IsIn}
use Rattle.clr_mark.proofs.Rooting.{at_in}
use Rattle.clr_paths.specs.AllRoots.{node_at, PutsRoots, root_at}
use Rattle.clr_sos.specs.declared.reach.Origin.TheVariants.{Ready}
use Rattle.clr_paths.proofs.RootBlocks.{ready-all, ready-next, told-none}
use Rattle.clr_paths.proofs.all_roots.put_ready.Goals as goal

pub loop-i-init : goal.loop-i-init
loop-i-init c = record {
  told = λ m shown. told-none m (node_at c.args.numbers.now.places.items c.args.ways.now 0) c.args.text.now.items;
  few = omega arith;
}

pub put_way-requires-clause-stands : goal.put_way-requires-clause-stands
put_way-requires-clause-stands c = λ some.
    let queue = c.ready-ready.result.now in
    c.requires.sound.ready (get_or queue c.loop-i.i 0) (record {
      listed = subst (λ (xs : List ℕ). IsIn (get_or queue c.loop-i.i 0) xs) c.ready-ready.ensures
          (at_in queue c.loop-i.i 0 c.loop-i-test.true);
      not_null = omega (arith, some);
    })

pub loop-i-preserved : goal.loop-i-preserved
loop-i-preserved c =
    let v = c.args.view.now in
    let a = node_at c.args.numbers.now.places.items c.args.ways.now 0 in
    let i = c.loop-i.i in
    let few = c.loop-i.invariant.few in
    let one = c.in_ok-count.ensures.one in
    record {
      told = ready-next v a i c.loop-i.count c.in_ok-count.field-0 c.args.text.now.items c.loop-i.text.items
          c.put_way.new.text.items
          (subst (λ (xs : List ℕ). i < length xs) c.ready-ready.ensures c.loop-i-test.true) c.loop-i.invariant.told
          (subst (λ (xs : List ℕ). PutsRoots v a (λ m. root_at (Ready i) (get_or xs i 0)) c.in_ok-count.field-0
          c.loop-i.text.items c.put_way.new.text.items) c.ready-ready.ensures c.in_ok-count.ensures.told);
      few = omega (arith, few, one);
    }

pub returns : goal.returns
returns c =
    ready-all c.args.view.now (node_at c.args.numbers.now.places.items c.args.ways.now 0) c.loop-i.i c.loop-i.count
    c.args.text.now.items c.loop-i.text.items
    (subst (λ (xs : List ℕ). length xs ≤ c.loop-i.i) c.ready-ready.ensures c.loop-i-test.false) c.loop-i.invariant.told
