use Rattle.std.proofs.Common.{length, sym, ◌∙◌}
use Rattle.std.proofs.lemmas.Bool.{eqb-true}
use Rattle.clr_mark.proofs.Following.{none_left}
use Rattle.clr_mark.proofs.TieDrains.{grayed_alone}
use Rattle.clr_mark.proofs.marker.Marker.empty_over.Goals as goal

pub returns-then-is_empty-clause-grayed : goal.returns-then-is_empty-clause-grayed
returns-then-is_empty-clause-grayed c = grayed_alone c.args.types.now c.args.ties.now c.args.heap.now
    c.empty_stack.new.heap c.args.self.now c.empty_stack.new.self
    (none_left c.args.ties.now (eqb-true (length c.args.ties.now) 0 (sym c.is_empty.ensures ∙ c.if-is_empty.true)))
    c.empty_stack.ensures.grayed
