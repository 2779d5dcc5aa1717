-- A begun line and the bytes behind it are one line, of which so much is kept as a line can have.
use Rattle.std.proofs.Common.{arith, sym, ◌∙◌}
use Rattle.std.proofs.lemmas.Bool.{eqb-true}
use Rattle.clr_session.proofs.SessionSteps.{follows_whole, follows_rest}
use Rattle.clr_session.proofs.session.Session.execute.Goals as goal

pub returns-then-is_empty-clause-follows : goal.returns-then-is_empty-clause-follows
returns-then-is_empty-clause-follows c = λ begun kept.
    follows_rest _ _ c.args.self.now.line.items c.args.rest.now begun _
    (let e = eqb-true _ _ (sym c.is_empty.ensures ∙ c.if-is_empty.true) in omega (arith, e, c.args.self.now.line.ok))
    kept c.execute.ensures.follows

pub returns-clause-follows : goal.returns-clause-follows
returns-clause-follows c = λ begun kept.
    follows_whole _ _ c.args.self.now.line.items c.keep.new.line.items c.args.rest.now begun _ kept c.keep.ensures.items
    (rw c.deref.ensures.value at c.execute-outcome.ensures.follows)
