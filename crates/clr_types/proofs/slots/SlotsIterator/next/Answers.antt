use Rattle.std.proofs.Common.{◌∙◌, sym, ap, length, rules}
use Rattle.clr_types.proofs.CursorSteps.{first_offset}
use Rattle.clr_types.proofs.slots.SlotsIterator.next.Goals as goal

pub returns-clause-steps : goal.returns-clause-steps
returns-clause-steps c = sym c.self.view_is
    ∙ (sym c.in_ok-cursor.ensures.same ∙ first_offset _ _ _ c.in_ok-cursor.ensures.some)

pub returns-clause-goes : goal.returns-clause-goes
returns-clause-goes c =
    let step = sym c.self.view_is ∙ (sym c.in_ok-cursor.ensures.same ∙ first_offset _ _ _ c.in_ok-cursor.ensures.some)
    in
    let shorter = ap length step in
    search rules
