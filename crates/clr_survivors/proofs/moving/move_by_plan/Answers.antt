-- What survives moves by the plan, and all names with it.
use Rattle.std.proofs.Common.{refl, ap, sym, ◌∙◌, subst}
use Rattle.clr_heap.specs.View.{frame}
use Rattle.clr_generations.specs.Tables.{AreBricksOf}
use Rattle.clr_moves.specs.Promoted.{bytes_between}
use Rattle.clr_moves.specs.declared.condemned.Condemned.TheVariants.{Generations}
use Rattle.clr_survivors.specs.Phases.{plan_of}
use Rattle.clr_survivors.proofs.NamesGone.{names-on}
use Rattle.clr_survivors.proofs.RelocatedPlan.{frame-between, may-go-on, remembered-on}
use Rattle.clr_survivors.proofs.moving.move_by_plan.Goals as goal

pub move_roots-requires-clause-go : goal.move_roots-requires-clause-go
move_roots-requires-clause-go c =
    let (view, vs, entry, can) = c.requires.can in
    let (mid, relocated, holds) = c.relocate.ensures.relocated view vs entry can.relocates in
    let rows = c.args.types.now in (
      plan_of rows mid c.relocate.new.pins.entries vs c.args.planned.now,
      holds,
      names-on (plan_of rows view c.args.pins.now.entries vs c.args.planned.now)
          (plan_of rows mid c.relocate.new.pins.entries vs c.args.planned.now) (Generations c.args.g) refl
          (may-go-on rows view mid (Generations c.args.g) vs relocated) c.args.roots.now can.names,
    )

pub compact-requires-clause-plan : goal.compact-requires-clause-plan
compact-requires-clause-plan c =
    let (view, vs, entry, can) = c.requires.can in
    let (mid, relocated, holds) = c.relocate.ensures.relocated view vs entry can.relocates in
    let rows = c.args.types.now in
    record {
      view = mid;
      moves = vs;
      entry = entry;
      plan = holds;
      remembered = remembered-on rows view mid (Generations c.args.g) vs relocated c.args.space.now.bricks entry
          c.args.planned.now.below c.args.planned.now.first can.relocates.remembered;
      bricks_of = subst (λ l. AreBricksOf l c.args.space.now.bricks)
          (sym (ap frame holds.overlaid.shape.others ∙ frame-between rows view mid (Generations c.args.g) vs relocated))
          can.relocates.bricks_of;
    }

pub returns-clause-moved : goal.returns-clause-moved
returns-clause-moved c = λ view vs entry can.
    let (mid, relocated, holds) = c.relocate.ensures.relocated view vs entry can.relocates in
    let rows = c.args.types.now in
    let planned = c.args.planned.now in
    let same = ap frame holds.overlaid.shape.others
    ∙ frame-between rows view mid (Generations c.args.g) vs relocated in
    record {
      mid = mid;
      heap = c.compact.ensures.lawful;
      relocated = relocated;
      compacted = c.compact.ensures.compacted mid vs holds;
      gone = c.move_roots.ensures.gone (plan_of rows mid c.relocate.new.pins.entries vs planned) holds
          (names-on (plan_of rows view c.args.pins.now.entries vs planned)
          (plan_of rows mid c.relocate.new.pins.entries vs planned) (Generations c.args.g) refl
          (may-go-on rows view mid (Generations c.args.g) vs relocated) c.args.roots.now can.names);
      card_law = c.relocate.ensures.card_law view vs entry can.relocates;
      to1_is = c.compact.ensures.to1 mid vs holds
          ∙ ap (λ l. bytes_between l planned vs 0) same;
      to2_is = c.compact.ensures.to2 mid vs holds
          ∙ ap (λ l. bytes_between l planned vs 1) same;
      slid = c.compact.ensures.slides mid vs holds;
    }
