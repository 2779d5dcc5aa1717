-- What a run over a runtime answers, from what its loop does.
use Rattle.std.proofs.Common.{ap, arith}
use Rattle.clr_runtime.specs.RuntimeView.{RuntimeView, StandsFor}
use Rattle.clr_session.proofs.ScriptLoop.{headline, still_stands}
use Rattle.clr_session.proofs.script.run_over.Goals as goal

pub returns-in-Done-clause-headline : goal.returns-in-Done-clause-headline
returns-in-Done-clause-headline g c = λ e first stands.
    rw c.replace.ensures.after
    (let (taken, answered, last, short, ended) = c.run_script.ensures.done c.in-Done.is first
    (still_stands c.in-Ok-over.ensures.runtime stands) in
    headline _ _ _ _ _ taken answered ended (λ m. StandsFor c.into_runtime.result m) (rw c.into_runtime.ensures last))

pub returns-in-Done-clause-done : goal.returns-in-Done-clause-done
returns-in-Done-clause-done g c = λ e first stands.
    rw c.replace.ensures.after
    (let (taken, answered, last, short, ended) = c.run_script.ensures.done c.in-Done.is first
    (still_stands c.in-Ok-over.ensures.runtime stands) in
    (taken, answered, short, rw c.into_runtime.ensures last))

pub returns-in-Done-clause-low : goal.returns-in-Done-clause-low
returns-in-Done-clause-low g c = λ e. rw (c.replace.ensures.after, c.into_runtime.ensures)
    (c.run_script.ensures.low c.in-Done.is)

pub returns-clause-low : goal.returns-clause-low
returns-clause-low g c = λ e. absurd (c.in_default-run_script.not-Done e)

pub returns-clause-headline : goal.returns-clause-headline
returns-clause-headline g c = λ e. absurd (c.in_default-run_script.not-Done e)

pub returns-clause-done : goal.returns-clause-done
returns-clause-done g c = λ e. absurd (c.in_default-run_script.not-Done e)

pub returns-clause-too_much : goal.returns-clause-too_much
returns-clause-too_much g c = λ e first stands. c.run_script.ensures.too_much e first
    (still_stands c.in-Ok-over.ensures.runtime stands)

pub returns-clause-read_before : goal.returns-clause-read_before
returns-clause-read_before g c = λ e first stands. c.run_script.ensures.read_before e first
    (still_stands c.in-Ok-over.ensures.runtime stands)

pub returns-clause-write_before : goal.returns-clause-write_before
returns-clause-write_before g c = λ e first stands. c.run_script.ensures.write_before e first
    (still_stands c.in-Ok-over.ensures.runtime stands)

pub run_script-requires-clause-room : goal.run_script-requires-clause-room
run_script-requires-clause-room g c =
    let top = ap (λ (r : RuntimeView). r.machine.layout.top) c.in-Ok-over.ensures.runtime in
    let room = c.requires.room in
    omega (arith, top, room)
