-- The first object that waits is taken.
use Rattle.std.proofs.Common.{arith, sym, slice_set, ◌∙◌}
use Rattle.clr_types.proofs.ChangedLists.{length-slice_set}
use Rattle.clr_runtime.specs.Shown.{shown}
use Rattle.clr_model.specs.declared.Reply.TheVariants.{Place}
use Rattle.clr_model.specs.Instructions.{take_ready}
use Rattle.clr_model.specs.Outcomes.{answered}
use Rattle.clr_model.specs.Run.{Follows}
use Rattle.clr_model.proofs.FinalFollows.{take_of}
use Rattle.clr_options.specs.Options.{options_of}
use Rattle.clr_runtime.specs.RuntimeView.{ahead_of, seen, sums_of, world_of}
use Rattle.clr_runtime.proofs.FinalizerLines.{take_empty, taken}
use Rattle.clr_runtime.proofs.NamesChecked.{names_refused, once}
use Rattle.clr_runtime.proofs.RuntimeKept.{names_kept, room_follows}
use Rattle.clr_runtime.proofs.runtime.Runtime.finalizer.Goals as goal
use Rattle.clr_runtime.proofs.runtime.Runtime.finalizer.Goals.{After-index_of}

pub returns-in-Some-clause-follows : goal.returns-in-Some-clause-follows
returns-in-Some-clause-follows c =
    let l = take_of c.args.t c.args.to in
    names_refused l.instruction l.thread l.locals l.more l.line l.alike c.args.self.now.machine c.in-Some.refusal
    (once c.args.self.now.machine c.args.t c.args.to _ (sym c.refused_names.ensures.value ∙ c.in-Some.is))

-- nothing waits
pub returns-in_default-next-clause-follows : goal.returns-in_default-next-clause-follows
returns-in_default-next-clause-follows c =
    let passed = rw (← c.self.view_is) at (sym c.refused_names.ensures.value ∙ c.in_default.is) in
    let finals = c.next.new.self in
    rw (← c.self.view_is)
    (room_follows c.self.invariant.shown finals.entries finals.ready c.next.ensures.entries
    (sym c.in_default-next.ensures.taken) (take_ready c.args.t c.args.to) _
    (take_empty (world_of c.self.inside.parts) _ _ _
    (ahead_of c.self.inside.parts) c.args.t c.args.to passed c.in_default-next.ensures.none))

-- the local takes the first that waits
done : (c : After-index_of) → Follows (seen c.self.inside.parts) (take_ready c.args.t c.args.to)
    (answered (Place c.in-Some-next.place))
    (shown (record (world_of c.self.inside.parts) {
      locals = slice_set c.self.inside.parts.roots.locals.items c.index_of.result c.in-Some-next.place;
      entries = c.next.new.self.entries;
      ready = c.next.new.self.ready;
    }) (sums_of c.self.inside.parts.sums) (options_of c.self.inside.parts.options) c.self.inside.parts.safe
    (ahead_of c.self.inside.parts))
done c =
    let passed = rw (← c.self.view_is) at (sym c.refused_names.ensures.value ∙ c.in_default.is) in
    let finals = c.next.new.self in
    taken (world_of c.self.inside.parts) _ _ _
    (ahead_of c.self.inside.parts) c.args.t c.args.to passed c.in-Some-next.place c.index_of.result
    finals.entries
    finals.ready c.in-Some-next.ensures.taken c.next.ensures.entries c.index_of.ensures.index

pub invariant_of-self-2 : goal.invariant_of-self-2
invariant_of-self-2 c =
    let r = c.self.inside.parts in
    let is = c.self.invariant.shown in
    let finals = c.next.new.self in
    record {
      shown = names_kept is _ _ (slice_set r.roots.locals.items c.index_of.result c.in-Some-next.place) r.roots.handles
          finals.entries finals.ready
          (length-slice_set r.roots.locals.items c.index_of.result c.in-Some-next.place ∙ is.locals)
          (done (goal.at.invariant_of-self-2 c).After-index_of);
      heap = c.self.invariant.heap;
      tables = c.self.invariant.tables;
      owed =
          let owed = c.self.invariant.owed in
          let more = c.next.ensures.spare in
          omega (arith, owed, more);
      finalizers = c.self.invariant.finalizers;
      index = c.self.invariant.index;
      large = c.self.invariant.large;
      pinned = c.self.invariant.pinned;
      limit = c.self.invariant.limit;
      ready = c.self.invariant.ready;
    }

pub returns-clause-follows : goal.returns-clause-follows
returns-clause-follows c = rw (← c.self.view_is) (done (goal.at.returns-clause-follows c).After-index_of)
