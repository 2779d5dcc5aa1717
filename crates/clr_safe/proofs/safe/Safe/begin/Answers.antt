-- Where the thread is in mid-step they don't rest, and else each is looked at.
use Rattle.std.proofs.Common.{◌-◌, ◌∙◌, ap, not, sym, length-set}
use Rattle.clr_safe.proofs.Entries.{entry-within}
use Rattle.clr_safe.proofs.Quiet.{not_quiet}
use Rattle.clr_safe.proofs.safe.Safe.begin.Goals as goal
use Rattle.clr_safe.proofs.safe.Safe.begin.Goals.{then-not-is_step, else-not-is_step}

pub invariant_of-self : goal.invariant_of-self
invariant_of-self c = record {
  all = length-set c.self.inside.begun (c.args.t - 1) c.args.what ∙ c.self.invariant.all;
  quiet = elim c.if-not-is_step.branch [
    | then-not-is_step w ↦ w.self-is ∙ w.are_quiet-self-inside.ensures
    | else-not-is_step w ↦
        let within = entry-within c.args.t _ c.requires c.self.invariant.all in
        let busy = sym c.is_step.ensures ∙ w.if-not-is_step.false in
        w.self-is ∙ ap not w.if-not-is_step.false
        ∙ sym (not_quiet c.self.inside.begun (c.args.t - 1) c.args.what c.self.inside.holder within busy)
  ];
}
