-- The line is answered by one step of the machine.
use Rattle.std.proofs.lemmas.Result.{on_ok_weaker, on_err_weaker}
use Rattle.clr_lines.specs.Outcomes.{outcome_of}
use Rattle.clr_session.proofs.SessionSteps.{goes_line, stops_line}
use Rattle.clr_session.proofs.session.Session.end_line.Goals as goal

pub returns-clause-bytes : goal.returns-clause-bytes
returns-clause-bytes g c = on_ok_weaker c.put_outcome.result
    (λ wrote. goes_line c.args.self.now c.execute-outcome.new.self.runtime.machine c.execute-outcome.new.self.line.items
    _
    c.args.rest.now (outcome_of c.execute-outcome.result) _ _
    c.requires.unfed c.execute-outcome.ensures.follows c.execute-outcome.ensures.line
    (rw c.execute-outcome.ensures.pending at wrote))
    c.put_outcome.ensures.wrote

pub returns-clause-stops : goal.returns-clause-stops
returns-clause-stops g c = on_err_weaker c.put_outcome.result
    (λ wrote. stops_line c.args.self.now c.execute-outcome.new.self.runtime.machine c.args.rest.now
    (outcome_of c.execute-outcome.result) _ _
    c.requires.unfed c.execute-outcome.ensures.follows (rw c.execute-outcome.ensures.pending at wrote))
    c.put_outcome.ensures.part
