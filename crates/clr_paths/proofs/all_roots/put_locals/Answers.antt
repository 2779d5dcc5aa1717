-- Locals are told one by one.
use Rattle.std.proofs.Common.{arith, get_or}
use Rattle.clr_mark.proofs.Rooting.{at_in}
use Rattle.clr_paths.specs.AllRoots.{node_at}
use Rattle.clr_paths.proofs.RootBlocks.{locals-all, locals-next, told-none}
use Rattle.clr_paths.proofs.all_roots.put_locals.Goals as goal

pub loop-i-init : goal.loop-i-init
loop-i-init c = record {
  told = λ m shown. told-none m (node_at c.args.numbers.now.places.items c.args.ways.now 0) c.args.text.now.items;
  few = omega arith;
}

pub put_way-requires-clause-stands : goal.put_way-requires-clause-stands
put_way-requires-clause-stands c = λ some.
    let locals = c.args.view.now.locals.now in
    c.requires.sound.locals (get_or locals c.loop-i.i 0)
    (record { listed = at_in locals c.loop-i.i 0 c.loop-i-test.true; not_null = omega (arith, some) })

pub loop-i-preserved : goal.loop-i-preserved
loop-i-preserved c =
    let few = c.loop-i.invariant.few in
    let one = c.in_ok-count.ensures.one in
    record {
      told = locals-next c.args.view.now (node_at c.args.numbers.now.places.items c.args.ways.now 0) c.loop-i.i
          c.loop-i.count c.in_ok-count.field-0 c.args.text.now.items c.loop-i.text.items c.put_way.new.text.items
          c.loop-i-test.true c.loop-i.invariant.told c.in_ok-count.ensures.told;
      few = omega (arith, few, one);
    }

pub returns : goal.returns
returns c =
    locals-all c.args.view.now (node_at c.args.numbers.now.places.items c.args.ways.now 0) c.loop-i.i c.loop-i.count
    c.args.text.now.items c.loop-i.text.items c.loop-i-test.false c.loop-i.invariant.told
