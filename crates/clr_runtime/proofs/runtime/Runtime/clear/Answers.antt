-- The local becomes null.
use Rattle.std.proofs.Common.{sym, ◌∙◌}
use Rattle.clr_model.specs.Outcomes.{answered}
use Rattle.clr_model.specs.declared.Reply.TheVariants.{Done}
use Rattle.clr_model.proofs.LineFollows.{clear_of}
use Rattle.clr_runtime.specs.RuntimeView.{ahead_of, world_of}
use Rattle.clr_runtime.proofs.LocalLines.{cleared}
use Rattle.clr_runtime.proofs.NamesChecked.{names_refused, once}
use Rattle.clr_runtime.proofs.RuntimeKept.{local_kept}
use Rattle.clr_runtime.proofs.runtime.Runtime.clear.Goals as goal

pub returns-in-Some-clause-follows : goal.returns-in-Some-clause-follows
returns-in-Some-clause-follows c =
    let l = clear_of c.args.t c.args.local in
    names_refused l.instruction l.thread l.locals _ l.line l.alike c.args.self.now.machine c.in-Some.refusal
    (once c.args.self.now.machine c.args.t c.args.local _ (sym c.refused_names.ensures.value ∙ c.in-Some.is))

pub invariant_of-self : goal.invariant_of-self
invariant_of-self c =
    let r = c.self.inside.parts in
    let passed = rw (← c.self.view_is) at (sym c.refused_names.ensures.value ∙ c.in_default.is) in
    record {
      shown = local_kept c.self.invariant.shown _ (answered Done) c.index_of.result 0
          (cleared (world_of r) _ _ _ (ahead_of r) c.args.t c.args.local c.index_of.result
          passed c.index_of.ensures.index);
      heap = c.self.invariant.heap;
      tables = c.self.invariant.tables;
      owed = c.self.invariant.owed;
      finalizers = c.self.invariant.finalizers;
      index = c.self.invariant.index;
      large = c.self.invariant.large;
      pinned = c.self.invariant.pinned;
      limit = c.self.invariant.limit;
      ready = c.self.invariant.ready;
    }

pub returns-clause-follows : goal.returns-clause-follows
returns-clause-follows c =
    let r = c.self.inside.parts in
    let passed = rw (← c.self.view_is) at (sym c.refused_names.ensures.value ∙ c.in_default.is) in
    rw (← c.self.view_is)
    (cleared (world_of r) _ _ _ (ahead_of r) c.args.t c.args.local c.index_of.result
    passed c.index_of.ensures.index)
