-- The last line is answered by one step of the machine.
use Rattle.std.proofs.Common.{arith, sym, ◌∙◌}
use Rattle.std.proofs.lemmas.Bool.{eqb-true, eqb-false}
use Rattle.std.proofs.lemmas.Result.{on_ok_weaker, on_err_weaker}
use Rattle.clr_lines.specs.Outcomes.{outcome_of}
use Rattle.clr_session.proofs.SessionSteps.{ends_line, ends_none, stops_last}
use Rattle.clr_session.proofs.session.Session.answer_end.Goals as goal

pub returns-then-is_empty-clause-bytes : goal.returns-then-is_empty-clause-bytes
returns-then-is_empty-clause-bytes g c = ends_none c.args.self.now _
    (let e = eqb-true _ _ (sym c.is_empty.ensures ∙ c.if-is_empty.true) in omega (arith, e, c.args.self.now.line.ok))

pub returns-clause-bytes : goal.returns-clause-bytes
returns-clause-bytes g c = on_ok_weaker c.put_outcome.result
    (λ wrote. ends_line c.args.self.now c.execute-outcome.new.self.runtime.machine _
    (outcome_of c.execute-outcome.result) _ _
    (let e = eqb-false _ _ (sym c.is_empty.ensures ∙ c.if-is_empty.false) in omega (arith, e, c.args.self.now.line.ok))
    c.execute-outcome.ensures.follows (rw c.execute-outcome.ensures.pending at wrote))
    c.put_outcome.ensures.wrote

pub returns-clause-stops : goal.returns-clause-stops
returns-clause-stops g c = on_err_weaker c.put_outcome.result
    (λ wrote. stops_last c.args.self.now c.execute-outcome.new.self.runtime.machine
    (outcome_of c.execute-outcome.result) _ _
    (let e = eqb-false _ _ (sym c.is_empty.ensures ∙ c.if-is_empty.false) in omega (arith, e, c.args.self.now.line.ok))
    c.execute-outcome.ensures.follows (rw c.execute-outcome.ensures.pending at wrote))
    c.put_outcome.ensures.part
