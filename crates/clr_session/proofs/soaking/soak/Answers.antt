-- What the run of a generated script answers, from its loop and its summary.
use Rattle.std.proofs.Common.{◌∙◌, arith}
use Rattle.clr_options.specs.Options.{options_of}
use Rattle.clr_session.proofs.SessionSteps.{opening_top}
use Rattle.clr_session.proofs.SoakLoop.{stands_for_last, soaked, cut_short}
use Rattle.clr_session.proofs.soaking.soak.Goals as goal

pub run_made-tally-requires : goal.run_made-tally-requires
run_made-tally-requires g c =
    let segment = c.requires.lawful.segment_greatest in
    let few = c.requires.few in
    let top = opening_top _ _ c.in-Ok.ensures.opens in
    omega (arith, segment, few, top)

pub summary-requires : goal.summary-requires
summary-requires g c = stands_for_last _ _ _ _ _ _ _ c.in-Ok.ensures.opens c.run_made-tally.ensures

pub returns-in-Ok-write_all-clause-done : goal.returns-in-Ok-write_all-clause-done
returns-in-Ok-write_all-clause-done g c = λ e.
    rw c.replace.ensures.after
    (soaked (options_of c.args.options) _ _ c.args.seed c.args.count _ _ c.in-Ok.ensures.opens
    c.run_made-tally.ensures _ _ _ (c.deref.ensures.value ∙ c.in-Ok-summary.ensures) c.in-Ok-write_all.ensures.bytes)

pub returns-clause-write_before : goal.returns-clause-write_before
returns-clause-write_before g c = λ e.
    cut_short (options_of c.args.options) _ _ c.args.seed c.args.count _ _ c.in-Ok.ensures.opens
    c.run_made-tally.ensures _ _
    _
    (c.deref.ensures.value ∙ c.in-Ok-summary.ensures) c.in-Err.ensures.part
