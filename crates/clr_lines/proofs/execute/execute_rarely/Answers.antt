-- A line that is no line of the grammar, or too long, is refused.
use Rattle.std.proofs.Common.{inl, inr}
use Rattle.clr_lines.proofs.LineSteps.{long_follows, unread_follows}
use Rattle.clr_lines.proofs.execute.execute_rarely.Goals as goal

pub returns-in-Err-clause-follows : goal.returns-in-Err-clause-follows
returns-in-Err-clause-follows c = elim c.in-Err.ensures.no_other [
  | inl long ↦ rw long (long_follows c.args.runtime.now.machine c.args.line.now
      (c.read_line.ensures.too_long.0 (rw long at c.in-Err.is)))
  | inr syntax ↦ rw syntax (let (short, none) = c.read_line.ensures.syntax (rw syntax at c.in-Err.is) in
      unread_follows c.args.runtime.now.machine c.args.line.now short none)
]
