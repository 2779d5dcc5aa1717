-- Each line reserves little.
use Rattle.clr_lines.proofs.TopGrows.{top_grows}
use Rattle.clr_lines.proofs.execute.execute.Goals as goal

pub returns-in-Some-clause-grows : goal.returns-in-Some-clause-grows
returns-in-Some-clause-grows c = top_grows c.args.runtime.now.machine c.obey.new.runtime.machine c.args.line.now _
    c.heap.ensures.sound c.obey.ensures.follows

pub returns-in-None-clause-grows : goal.returns-in-None-clause-grows
returns-in-None-clause-grows c =
    top_grows c.args.runtime.now.machine c.execute_rarely.new.runtime.machine c.args.line.now _
    c.heap.ensures.sound c.execute_rarely.ensures.follows
