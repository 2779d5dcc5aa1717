-- Each thread has its step.
use Rattle.std.proofs.Common.{◌≡◌, ◌∙◌, ap, arith, length-set, refl, sym, take}
use Rattle.std.proofs.lemmas.List.{take_all, take_more_set}
use Rattle.clr_sos.specs.Steps.{steps_of}
use Rattle.clr_lines.proofs.BegunSteps.{steps-turn}
use Rattle.clr_lines.proofs.begun.begun_steps.Goals as goal

pub loop-k-init : goal.loop-k-init
loop-k-init c = record { built = refl; all = refl }

pub loop-k-preserved : goal.loop-k-preserved
loop-k-preserved c =
    let m = c.args.runtime.now.machine in
    let k = c.loop-k.k in
    let steps = c.loop-k.steps in
    let threads = c.heap.ensures.sound.lawful.steps in
    let within = c.loop-k-test.true in
    let all = c.loop-k.invariant.all in
    record {
      built =
          steps-turn m k (take k steps) c.begun_step.result (omega (arith, threads, within)) c.loop-k.invariant.built
          c.begun_step.ensures
          ∙ sym (take_more_set steps k c.begun_step.result (omega (arith, all, within)));
      all = length-set steps k c.begun_step.result ∙ all;
    }

pub returns : goal.returns
returns c =
    let m = c.args.runtime.now.machine in
    let threads = c.heap.ensures.sound.lawful.steps in
    let past = c.loop-k-test.false in
    let all = c.loop-k.invariant.all in
    ap (λ ss. steps_of m.layout 1 ss) (sym (take_all c.loop-k.k m.steps (omega (arith, threads, past))))
    ∙ (c.loop-k.invariant.built ∙ take_all c.loop-k.k c.loop-k.steps (omega (arith, all, past)))
