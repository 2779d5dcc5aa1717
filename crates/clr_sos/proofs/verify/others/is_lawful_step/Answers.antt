-- By what is begun.
use Rattle.std.proofs.Common.{◌≡◌, ◌↔◌, true, sym, subst}
use Rattle.clr_sos.specs.LawfulStates.{IsLawfulStep}
use Rattle.clr_sos.specs.Steps.{fronts_among}
use Rattle.clr_sos.specs.declared.step.Step.{Step}
use Rattle.clr_sos.proofs.verify.others.is_lawful_step.Goals as goal

pub returns-in-Store : goal.returns-in-Store
returns-in-Store c =
    let view = c.args.state.now.view in
    let earlier = fronts_among c.args.earlier.now in
    let is = c.is_lawful_store.ensures earlier in
    subst
    (λ (s : Step). (c.is_lawful_store.result ≡ true)
    ↔ IsLawfulStep view.types.now view.large view.heap.now (fronts_among c.args.earlier.now, s)) (sym c.in-Store.is)
    (λ e. (tt, is.0 e), λ p. is.1 p.1)

pub returns-then-local-le63 : goal.returns-then-local-le63
returns-then-local-le63 c =
    let view = c.args.state.now.view in
    subst
    (λ (s : Step). (c.is_lawful_birth-fits.result ≡ true)
    ↔ IsLawfulStep view.types.now view.large view.heap.now (fronts_among c.args.earlier.now, s)) (sym c.in-Begun.is)
    (c.is_lawful_birth-fits.ensures c.in-Begun.local c.if-local-le63.true)
