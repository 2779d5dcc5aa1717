-- Large objects slide by the plan, and all names with them.
use Rattle.std.proofs.Common.{◌∙◌}
use Rattle.clr_survivors.specs.Phases.{plan_of}
use Rattle.clr_survivors.proofs.SlideByPlan.{can-slide-large, holds-gone, names-gone, start0-gone, start1-gone}
use Rattle.clr_survivors.proofs.large.slide_by_plan.Goals as goal

pub move_roots-requires-clause-go : goal.move_roots-requires-clause-go
move_roots-requires-clause-go c =
    let (view, vs, entry, can) = c.requires.can in
    let (mid, relocated, holds) = c.relocate.ensures.relocated view vs entry can.relocates in (
      plan_of c.args.types.now mid c.relocate.new.pins.entries vs c.args.planned.now,
      holds,
      names-gone c.args.types.now view c.args.space.now c.args.pins.now.entries vs entry c.args.planned.now
          c.args.roots.now can mid c.relocate.new.heap c.relocate.new.pins.entries relocated holds,
    )

pub slide_large-requires : goal.slide_large-requires
slide_large-requires c =
    let (view, vs, entry, can) = c.requires.can in
    let (mid, relocated, holds) = c.relocate.ensures.relocated view vs entry can.relocates in
    can-slide-large c.args.types.now view c.args.space.now c.args.pins.now.entries vs entry c.args.planned.now
    c.args.roots.now can mid c.relocate.new.heap c.relocate.new.pins.entries relocated holds

pub returns-clause-slid : goal.returns-clause-slid
returns-clause-slid c = λ view vs entry can.
    let (mid, relocated, holds) = c.relocate.ensures.relocated view vs entry can.relocates in
    record {
      mid = mid;
      heap = c.slide_large.ensures.lawful;
      relocated = relocated;
      compacted = c.slide_large.ensures.compacted mid vs
          (holds-gone c.args.types.now view c.args.space.now c.args.pins.now.entries vs entry c.args.planned.now
          c.args.roots.now can mid c.relocate.new.heap c.relocate.new.pins.entries relocated holds);
      gone = c.move_roots.ensures.gone
          (plan_of c.args.types.now mid c.relocate.new.pins.entries vs c.args.planned.now) holds
          (names-gone c.args.types.now view c.args.space.now c.args.pins.now.entries vs entry c.args.planned.now
          c.args.roots.now can mid c.relocate.new.heap c.relocate.new.pins.entries relocated holds);
      card_law = c.relocate.ensures.card_law view vs entry can.relocates;
    }

pub returns-clause-start1 : goal.returns-clause-start1
returns-clause-start1 c =
    let (view, vs, entry, can) = c.requires.can in
    let (mid, relocated, holds) = c.relocate.ensures.relocated view vs entry can.relocates in
    c.slide_large.ensures.start1
    ∙ start1-gone c.args.types.now view c.args.space.now c.args.pins.now.entries vs entry c.args.planned.now
    c.args.roots.now can mid c.relocate.new.heap c.relocate.new.pins.entries relocated holds

pub returns-clause-start0 : goal.returns-clause-start0
returns-clause-start0 c =
    let (view, vs, entry, can) = c.requires.can in
    let (mid, relocated, holds) = c.relocate.ensures.relocated view vs entry can.relocates in
    c.slide_large.ensures.start0
    ∙ start0-gone c.args.types.now view c.args.space.now c.args.pins.now.entries vs entry c.args.planned.now
    c.args.roots.now can mid c.relocate.new.heap c.relocate.new.pins.entries relocated holds
