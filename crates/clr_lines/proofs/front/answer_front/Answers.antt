-- The line that was done is the first of the text.
use Rattle.std.proofs.Common.{List, ℕ, drop, sym, subst, take}
use Rattle.clr_lines.specs.Fronts.{IsDone}
use Rattle.clr_lines.proofs.FrontSteps.{near_answered}
use Rattle.clr_lines.proofs.TopGrows.{top_grows}
use Rattle.clr_lines.proofs.front.answer_front.Goals as goal

pub returns-clause-answered : goal.returns-clause-answered
returns-clause-answered c =
    let text = c.args.text.now in
    let told = c.in_ok-written in
    near_answered c.args.runtime.now.machine c.answer_verb.new.runtime.machine text _ told.read told.ensures.near.0
    told.ensures.near.1
    (subst (λ (l : List ℕ). IsDone c.args.runtime.now.machine l (drop told.read text)
    (take told.written c.answer_verb.new.into) c.answer_verb.new.runtime.machine)
    (sym c.in_ok-t.ensures.read.0) told.ensures.done)

pub returns-clause-grows : goal.returns-clause-grows
returns-clause-grows c =
    let answered = returns-clause-answered c in
    top_grows c.args.runtime.now.machine c.answer_verb.new.runtime.machine answered.line answered.outcome
    c.heap.ensures.sound
    answered.follows
