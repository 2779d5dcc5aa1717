-- The local takes the second object of the handle.
use Rattle.std.proofs.Common.{sym, ◌∙◌}
use Rattle.clr_model.specs.Outcomes.{answered}
use Rattle.clr_model.specs.declared.Reply.TheVariants.{Place}
use Rattle.clr_model.proofs.HandleFollows.{second_from}
use Rattle.clr_runtime.specs.RuntimeView.{ahead_of, world_of}
use Rattle.clr_runtime.proofs.HandleLines.{second_fetched, second_missing, second_other}
use Rattle.clr_runtime.proofs.NamesChecked.{names_refused, once}
use Rattle.clr_runtime.proofs.RuntimeKept.{local_kept}
use Rattle.clr_runtime.proofs.runtime.Runtime.second.Goals as goal

pub returns-in-Some-clause-follows : goal.returns-in-Some-clause-follows
returns-in-Some-clause-follows c =
    let l = second_from c.args.t c.args.to c.args.h in
    names_refused l.instruction l.thread l.locals l.more l.line l.alike c.args.self.now.machine c.in-Some.refusal
    (once c.args.self.now.machine c.args.t c.args.to _ (sym c.refused_names.ensures.value ∙ c.in-Some.is))

pub returns-in_default-get-clause-follows : goal.returns-in_default-get-clause-follows
returns-in_default-get-clause-follows c =
    let passed = rw (← c.self.view_is) at (sym c.refused_names.ensures.value ∙ c.in_default.is) in
    rw (← c.self.view_is)
    (second_missing (world_of c.self.inside.parts) _ _ _
    (ahead_of c.self.inside.parts) c.args.t c.args.to c.args.h passed
    (sym c.get.ensures.value ∙ c.in_default-get.is))

pub returns-then-not-is_dependent-clause-follows : goal.returns-then-not-is_dependent-clause-follows
returns-then-not-is_dependent-clause-follows c =
    let passed = rw (← c.self.view_is) at (sym c.refused_names.ensures.value ∙ c.in_default.is) in
    rw (← c.self.view_is)
    (second_other (world_of c.self.inside.parts) _ _ _
    (ahead_of c.self.inside.parts) c.args.t c.args.to c.args.h passed c.in-Some-get.handle
    (sym c.get.ensures.value ∙ c.in-Some-get.is) (sym c.is_dependent.ensures ∙ c.if-not-is_dependent.true))

pub invariant_of-self : goal.invariant_of-self
invariant_of-self c =
    let passed = rw (← c.self.view_is) at (sym c.refused_names.ensures.value ∙ c.in_default.is) in
    let row = c.in-Some-get.handle in
    record {
      shown = local_kept c.self.invariant.shown _ (answered (Place row.second)) c.index_of.result row.second
          (second_fetched (world_of c.self.inside.parts) _ _ _
          (ahead_of c.self.inside.parts) c.args.t c.args.to c.args.h passed row
          (sym c.get.ensures.value ∙ c.in-Some-get.is) (sym c.is_dependent.ensures ∙ c.if-not-is_dependent.false)
          c.index_of.result c.index_of.ensures.index);
      heap = c.self.invariant.heap;
      tables = c.self.invariant.tables;
      owed = c.self.invariant.owed;
      finalizers = c.self.invariant.finalizers;
      index = c.self.invariant.index;
      large = c.self.invariant.large;
      pinned = c.self.invariant.pinned;
      limit = c.self.invariant.limit;
      ready = c.self.invariant.ready;
    }

pub returns-clause-follows : goal.returns-clause-follows
returns-clause-follows c =
    let passed = rw (← c.self.view_is) at (sym c.refused_names.ensures.value ∙ c.in_default.is) in
    rw (← c.self.view_is)
    (second_fetched (world_of c.self.inside.parts) _ _ _
    (ahead_of c.self.inside.parts) c.args.t c.args.to c.args.h passed c.in-Some-get.handle
    (sym c.get.ensures.value ∙ c.in-Some-get.is) (sym c.is_dependent.ensures ∙ c.if-not-is_dependent.false)
    c.index_of.result c.index_of.ensures.index)
