-- So many gray objects are scanned.
use Rattle.clr_runtime.proofs.BackgroundParts.{parts_closed, parts_counted, parts_objects, parts_whole, scanned_answer}
use Rattle.clr_runtime.proofs.BackgroundParts.{scanned_kept}
use Rattle.clr_runtime.proofs.background.scan_gray.Goals as goal

pub step-requires-clause-closed : goal.step-requires-clause-closed
step-requires-clause-closed c = parts_closed c.args.parts.now c.requires.runtime

pub step-requires-clause-objects : goal.step-requires-clause-objects
step-requires-clause-objects c =
    parts_objects c.args.parts.now c.requires.runtime c.requires.running

pub step-requires-clause-whole : goal.step-requires-clause-whole
step-requires-clause-whole c = parts_whole c.args.parts.now c.requires.runtime c.requires.running

pub step-requires-clause-counted : goal.step-requires-clause-counted
step-requires-clause-counted c =
    parts_counted c.args.parts.now c.requires.runtime c.requires.running

pub returns-clause-scans : goal.returns-clause-scans
returns-clause-scans c =
    let done = c.step.ensures in
    scanned_answer c.args.parts.now c.requires.runtime c.requires.running c.step.new.self c.args.n
    c.step.result.scanned c.step.result.gray done.running done.objects done.counted done.log done.scans done.gray

pub returns-clause-runtime : goal.returns-clause-runtime
returns-clause-runtime c =
    let done = c.step.ensures in
    scanned_kept c.args.parts.now c.requires.runtime c.requires.running c.step.new.self c.args.n
    c.step.result.scanned c.step.result.gray done.running done.objects done.counted done.log done.scans done.gray
    done.taken done.parts done.fronts
