-- What was run of the script that the source holds.
use Rattle.std.proofs.Common.{IsSomeAnd, Option, subst}
use Rattle.clr_runtime.specs.RuntimeView.{RuntimeView, StandsFor}
use Rattle.clr_run.proofs.MadeImages.{done_of, ended, error_is, ran_whole, read_too_much}
use Rattle.clr_run.proofs.making.run_unheard.Goals as goal

pub returns-in-Some-clause-ran : goal.returns-in-Some-clause-ran
returns-in-Some-clause-ran g c =
    let ran = c.run_source-status.ensures in
    let done = done_of c.run_source-status.result c.run_source-status.new.end_state c.in-Some.runtime c.in-Some.is
    ran.no_state in
    let (taken, answered, short, stands) = ran.done done in
    let end = ended _ _ taken _ answered.read (ran.headline done) (λ script told. told.4) in (
      answered.last,
      subst (λ (last : Option RuntimeView). IsSomeAnd last (λ runtime. StandsFor runtime answered.last)) c.in-Some.is
          stands,
      ran_whole _ _ _ _ _ _ taken answered short end,
    )

pub returns-in-None-clause-too_much : goal.returns-in-None-clause-too_much
returns-in-None-clause-too_much g c = λ e.
    let (taken, byte, answered, full) = c.run_source-status.ensures.too_much (error_is _ _ _ e) in
    read_too_much _ _ _ _ _ _ taken byte answered full
