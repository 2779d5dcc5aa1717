-- What a run of a script answers: a run over the runtime that was made, from the opening state.
use Rattle.std.proofs.Common.{arith}
use Rattle.clr_options.specs.Options.{options_of}
use Rattle.clr_model.specs.Run.{opening}
use Rattle.clr_session.proofs.SessionSteps.{opening_top}
use Rattle.clr_session.proofs.script.run_source.Goals as goal

pub run_over-requires-clause-room : goal.run_over-requires-clause-room
run_over-requires-clause-room g c =
    let segment = c.requires.lawful.segment_greatest in
    let top = opening_top _ _ c.in-Ok.ensures.opens in
    omega (arith, segment, top)

pub returns-clause-headline : goal.returns-clause-headline
returns-clause-headline g c = λ e.
    c.run_over.ensures.headline e (opening (options_of c.args.options)) c.in-Ok.ensures.opens

pub returns-clause-done : goal.returns-clause-done
returns-clause-done g c = λ e. c.run_over.ensures.done e (opening (options_of c.args.options)) c.in-Ok.ensures.opens

pub returns-clause-read_before : goal.returns-clause-read_before
returns-clause-read_before g c = λ e.
    c.run_over.ensures.read_before e (opening (options_of c.args.options)) c.in-Ok.ensures.opens

pub returns-clause-write_before : goal.returns-clause-write_before
returns-clause-write_before g c = λ e.
    c.run_over.ensures.write_before e (opening (options_of c.args.options)) c.in-Ok.ensures.opens

pub returns-clause-too_much : goal.returns-clause-too_much
returns-clause-too_much g c = λ e.
    c.run_over.ensures.too_much e (opening (options_of c.args.options)) c.in-Ok.ensures.opens
