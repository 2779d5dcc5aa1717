-- Each arm writes the line of its kind.
use Rattle.std.proofs.Common.{◌≡◌, ◌∙◌, sym, ap, arith}
use Rattle.clr_model.specs.LineGrammar.{spelling}
use Rattle.clr_script.proofs.MadeChoices.{node_chosen, bytes_chosen, file_chosen, set_chosen, null_chosen}
use Rattle.clr_script.proofs.MadeChoices.{collect_chosen, four_drawn, bytes_drawn, collect_drawn}
use Rattle.clr_script.proofs.made.Draws.put_use.Goals as goal

pub returns-in-0-clause-line : goal.returns-in-0-clause-line
returns-in-0-clause-line c =
    let made = c.choose-thread.ensures in
    c.put_new-in-0.ensures.line ∙ ap spelling (sym (node_chosen made.drawn (omega arith)))

pub returns-in-0-clause-state : goal.returns-in-0-clause-state
returns-in-0-clause-state c =
    let made = c.choose-thread.ensures in
    four_drawn made.drawn (λ is. absurd (omega arith)) (λ is. absurd (omega arith)) made.state

pub returns-in-2-clause-line : goal.returns-in-2-clause-line
returns-in-2-clause-line c =
    let made = c.choose-thread.ensures in
    let more = c.draw.ensures in
    c.put_new_array.ensures.line
    ∙ ap spelling (sym (bytes_chosen made.drawn c.in-2.is made.state more.state more.drawn))

pub returns-in-2-clause-state : goal.returns-in-2-clause-state
returns-in-2-clause-state c =
    let made = c.choose-thread.ensures in
    bytes_drawn made.drawn c.in-2.is made.state c.draw.ensures.state

pub returns-in-3-clause-line : goal.returns-in-3-clause-line
returns-in-3-clause-line c =
    let made = c.choose-thread.ensures in
    c.put_new.ensures.line ∙ ap spelling (sym (file_chosen made.drawn c.in-3.is))

pub returns-in-3-clause-state : goal.returns-in-3-clause-state
returns-in-3-clause-state c =
    let made = c.choose-thread.ensures in
    four_drawn made.drawn (λ is. absurd (omega arith)) (λ is. absurd (omega arith)) made.state

pub returns-in-4-clause-line : goal.returns-in-4-clause-line
returns-in-4-clause-line c =
    let made = c.choose-thread.ensures in
    c.put_set.ensures.line ∙ ap spelling (sym (set_chosen made.drawn (omega arith) (omega arith)))

pub returns-in-4-clause-state : goal.returns-in-4-clause-state
returns-in-4-clause-state c =
    let made = c.choose-thread.ensures in
    four_drawn made.drawn (λ is. absurd (omega arith)) (λ is. absurd (omega arith)) made.state

pub returns-in-6-clause-line : goal.returns-in-6-clause-line
returns-in-6-clause-line c =
    let made = c.choose-thread.ensures in
    c.put_null.ensures.line ∙ ap spelling (sym (null_chosen made.drawn c.in-6.is))

pub returns-in-6-clause-state : goal.returns-in-6-clause-state
returns-in-6-clause-state c =
    let made = c.choose-thread.ensures in
    four_drawn made.drawn (λ is. absurd (omega arith)) (λ is. absurd (omega arith)) made.state

pub returns-in_default-clause-line : goal.returns-in_default-clause-line
returns-in_default-clause-line c =
    let made = c.choose-thread.ensures in
    let more = c.draw-in_default.ensures in
    let seven : c.choose-thread.result.kind ≡ 7 = omega arith in
    c.put_collect.ensures.line ∙ ap spelling (sym (collect_chosen made.drawn seven made.state more.state more.drawn))

pub returns-in_default-clause-state : goal.returns-in_default-clause-state
returns-in_default-clause-state c =
    let made = c.choose-thread.ensures in
    let seven : c.choose-thread.result.kind ≡ 7 = omega arith in
    collect_drawn made.drawn seven made.state c.draw-in_default.ensures.state
