use Rattle.std.proofs.Common.{◌≡◌, ◌<◌, ◌≤◌, get_or, length, sym, ap, subst, ◌∙◌, arith, true, false}
use Rattle.clr_model.specs.Lookups.{is_step}
use Rattle.clr_safe.specs.Threads.{step_by, Threads}
use Rattle.clr_safe.specs.declared.begun.Begun.TheVariants.{Nothing}
use Rattle.clr_safe.proofs.Entries.{lowest_found, lowest_none, lowest_passed}
use Rattle.clr_safe.proofs.safe.Safe.all_safe.Goals as goal

pub returns-then-is_step-clause-busy : goal.returns-then-is_step-clause-busy
returns-then-is_step-clause-busy c =
    let all : length c.args.self.now.begun ≡ 16 =
    ap (λ (s : Threads). length s.begun) (sym c.self.view_is) ∙ c.self.invariant.all in
    let within : c.loop-i.i < length c.args.self.now.begun = omega arith in
    let busy : is_step (step_by (get_or c.args.self.now.begun c.loop-i.i Nothing)) ≡ true =
    subst (λ (s : Threads). is_step (step_by (get_or s.begun c.loop-i.i Nothing)) ≡ true) c.self.view_is
    (sym c.if-is_step.ensures) in
    c.loop-i.invariant ∙ lowest_found c.args.self.now.begun c.loop-i.i Nothing within busy

pub loop-i-preserved : goal.loop-i-preserved
loop-i-preserved c =
    let all : length c.args.self.now.begun ≡ 16 =
    ap (λ (s : Threads). length s.begun) (sym c.self.view_is) ∙ c.self.invariant.all in
    let within : c.loop-i.i < length c.args.self.now.begun = omega arith in
    let idle : is_step (step_by (get_or c.args.self.now.begun c.loop-i.i Nothing)) ≡ false =
    subst (λ (s : Threads). is_step (step_by (get_or s.begun c.loop-i.i Nothing)) ≡ false) c.self.view_is
    (sym c.if-is_step.ensures) in
    c.loop-i.invariant ∙ lowest_passed c.args.self.now.begun c.loop-i.i Nothing within idle

pub returns-clause-safe : goal.returns-clause-safe
returns-clause-safe c =
    let all : length c.args.self.now.begun ≡ 16 =
    ap (λ (s : Threads). length s.begun) (sym c.self.view_is) ∙ c.self.invariant.all in
    let end : length c.args.self.now.begun ≤ c.loop-i.i = omega arith in
    c.loop-i.invariant ∙ lowest_none c.args.self.now.begun c.loop-i.i end
