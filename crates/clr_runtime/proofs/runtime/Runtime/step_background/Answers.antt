-- So many gray objects are scanned, or none runs.
use Rattle.std.proofs.Common.{◌∙◌, ap, not, sym}
use Rattle.clr_runtime.specs.RuntimeView.{seen}
use Rattle.clr_runtime.proofs.BackgroundLines.{step_done, step_none}
use Rattle.clr_runtime.proofs.BackgroundParts.{none_is}
use Rattle.clr_runtime.proofs.CountsKept.{collector_kept}
use Rattle.clr_runtime.proofs.runtime.Runtime.step_background.Goals as goal

pub returns-then-not-running-clause-follows : goal.returns-then-not-running-clause-follows
returns-then-not-running-clause-follows c =
    let p = c.self.inside.parts in
    rw (← c.self.view_is)
    (step_none c.args.n (seen p)
    (none_is p.background ∙ ap not (sym c.running.ensures ∙ c.if-not-running.true)))

pub scan_gray-requires-clause-running : goal.scan_gray-requires-clause-running
scan_gray-requires-clause-running c = sym c.running.ensures ∙ c.if-not-running.false

pub returns-clause-follows : goal.returns-clause-follows
returns-clause-follows c =
    let p = c.self.inside.parts in
    let done = c.scan_gray in
    let (old, new, runs, scans, counted, same) = done.ensures.scans in
    rw (← c.self.view_is)
    (step_done c.args.n (seen p) old runs done.result.scanned new scans done.result.gray counted (seen done.new.parts)
    same)

pub returns-clause-others : goal.returns-clause-others
returns-clause-others c =
    rw (← c.self.view_is) (collector_kept c.self.inside.parts c.scan_gray.new.parts c.scan_gray.ensures.collector)
