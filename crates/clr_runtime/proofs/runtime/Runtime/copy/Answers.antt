-- The local takes what the other one holds.
use Rattle.std.proofs.Common.{sym, ◌∙◌}
use Rattle.clr_model.specs.Outcomes.{answered}
use Rattle.clr_model.specs.declared.Reply.TheVariants.{Place}
use Rattle.clr_model.proofs.LineFollows.{copy_of}
use Rattle.clr_runtime.specs.RuntimeView.{ahead_of, world_of}
use Rattle.clr_runtime.proofs.LocalLines.{copied}
use Rattle.clr_runtime.proofs.LocalsSeen.{local-read}
use Rattle.clr_runtime.proofs.NamesChecked.{names_refused}
use Rattle.clr_runtime.proofs.RuntimeKept.{local_kept}
use Rattle.clr_runtime.proofs.runtime.Runtime.copy.Goals as goal

pub returns-in-Some-clause-follows : goal.returns-in-Some-clause-follows
returns-in-Some-clause-follows c =
    let l = copy_of c.args.t c.args.to c.args.from in
    names_refused l.instruction l.thread l.locals _ l.line l.alike c.args.self.now.machine c.in-Some.refusal
    (sym c.refused_names.ensures.value ∙ c.in-Some.is)

pub invariant_of-self : goal.invariant_of-self
invariant_of-self c =
    let r = c.self.inside.parts in
    let passed = rw (← c.self.view_is) at (sym c.refused_names.ensures.value ∙ c.in_default.is) in
    let is = c.self.invariant.shown in
    record {
      shown = local_kept is _ (answered (Place c.index-held.result.now)) c.index_of-2.result c.index-held.result.now
          (copied (world_of r) _ _ _ (ahead_of r) c.args.t c.args.to c.args.from c.index_of-2.result
          c.index-held.result.now passed c.index_of-2.ensures.index
          (local-read is c.args.t c.args.from c.index_of.result c.index-held.result.now c.index_of.ensures.within
          c.index_of.ensures.index c.index-held.ensures));
      heap = c.self.invariant.heap;
      tables = c.self.invariant.tables;
      owed = c.self.invariant.owed;
      finalizers = c.self.invariant.finalizers;
      index = c.self.invariant.index;
      large = c.self.invariant.large;
      pinned = c.self.invariant.pinned;
      limit = c.self.invariant.limit;
      ready = c.self.invariant.ready;
    }

pub returns-clause-follows : goal.returns-clause-follows
returns-clause-follows c =
    let r = c.self.inside.parts in
    let passed = rw (← c.self.view_is) at (sym c.refused_names.ensures.value ∙ c.in_default.is) in
    rw (← c.self.view_is)
    (copied (world_of r) _ _ _ (ahead_of r) c.args.t c.args.to c.args.from c.index_of-2.result
    c.index-held.result.now passed c.index_of-2.ensures.index
    (local-read c.self.invariant.shown c.args.t c.args.from c.index_of.result c.index-held.result.now
    c.index_of.ensures.within c.index_of.ensures.index c.index-held.ensures))
