-- The handle is taken out of use.
use Rattle.std.proofs.Common.{refl, sym, ◌∙◌}
use Rattle.clr_model.specs.Instructions.{free_handle}
use Rattle.clr_model.specs.declared.Refusal.TheVariants.{NoHandle}
use Rattle.clr_model.specs.declared.Reply.TheVariants.{Done}
use Rattle.clr_model.specs.Outcomes.{answered, refused}
use Rattle.clr_model.specs.Run.{Follows}
use Rattle.clr_runtime.specs.Shown.{shown}
use Rattle.clr_options.specs.Options.{options_of}
use Rattle.clr_runtime.specs.RuntimeView.{ahead_of, seen, sums_of, world_of}
use Rattle.clr_runtime.proofs.HandleLines.{free_missing, freed}
use Rattle.clr_runtime.proofs.PinnedRoom.{ready_freed}
use Rattle.clr_runtime.proofs.NamesChecked.{thread_refused}
use Rattle.clr_runtime.proofs.RuntimeKept.{names_kept}
use Rattle.clr_runtime.proofs.runtime.Runtime.free.Goals as goal
use Rattle.clr_runtime.proofs.runtime.Runtime.free.Goals.{In_default-free, In-Ok}

pub returns-in-Some-clause-follows : goal.returns-in-Some-clause-follows
returns-in-Some-clause-follows c =
    thread_refused (free_handle c.args.t c.args.h) c.args.t refl refl c.args.self.now.machine c.in-Some.refusal
    (sym c.refused_thread.ensures.value ∙ c.in-Some.is)

-- a number that isn't in use
missing : (c : In_default-free) → Follows (seen c.self.inside.parts) (free_handle c.args.t c.args.h) (refused NoHandle)
    (shown (record (world_of c.self.inside.parts) { handles = c.free.new.self }) (sums_of c.self.inside.parts.sums)
    (options_of c.self.inside.parts.options) c.self.inside.parts.safe (ahead_of c.self.inside.parts))
missing c =
    let passed = rw (← c.self.view_is) at (sym c.refused_thread.ensures.value ∙ c.in_default.is) in
    free_missing (world_of c.self.inside.parts) _ _ _
    (ahead_of c.self.inside.parts) c.args.t c.args.h passed c.free.new.self c.free.ensures.table
    c.in_default-free.ensures.err

pub invariant_of-self : goal.invariant_of-self
invariant_of-self c =
    let r = c.self.inside.parts in
    let is = c.self.invariant.shown in
    record {
      shown = names_kept is _ _ r.roots.locals.items c.free.new.self r.roots.finals.entries r.roots.finals.ready
          is.locals (missing c);
      heap = c.self.invariant.heap;
      tables = c.self.invariant.tables;
      owed = c.self.invariant.owed;
      finalizers = c.self.invariant.finalizers;
      index = c.self.invariant.index;
      large = c.self.invariant.large;
      pinned = c.self.invariant.pinned;
      limit = c.self.invariant.limit;
      ready = ready_freed r.roots.handles c.free.new.self c.args.h r.collector.pins c.free.ensures.table
          c.self.invariant.ready;
    }

pub returns-in_default-free-clause-follows : goal.returns-in_default-free-clause-follows
returns-in_default-free-clause-follows c = rw (← c.self.view_is) (missing c)

-- the handle is freed
done : (c : In-Ok) → Follows (seen c.self.inside.parts) (free_handle c.args.t c.args.h) (answered Done)
    (shown (record (world_of c.self.inside.parts) { handles = c.free.new.self }) (sums_of c.self.inside.parts.sums)
    (options_of c.self.inside.parts.options) c.self.inside.parts.safe (ahead_of c.self.inside.parts))
done c =
    let passed = rw (← c.self.view_is) at (sym c.refused_thread.ensures.value ∙ c.in_default.is) in
    freed (world_of c.self.inside.parts) _ _ _
    (ahead_of c.self.inside.parts) c.args.t c.args.h passed c.free.new.self c.free.ensures.table
    c.in-Ok.field-0
    c.in-Ok.ensures.freed

pub invariant_of-self-2 : goal.invariant_of-self-2
invariant_of-self-2 c =
    let r = c.self.inside.parts in
    let is = c.self.invariant.shown in
    record {
      shown = names_kept is _ _ r.roots.locals.items c.free.new.self r.roots.finals.entries r.roots.finals.ready
          is.locals (done c);
      heap = c.self.invariant.heap;
      tables = c.self.invariant.tables;
      owed = c.self.invariant.owed;
      finalizers = c.self.invariant.finalizers;
      index = c.self.invariant.index;
      large = c.self.invariant.large;
      pinned = c.self.invariant.pinned;
      limit = c.self.invariant.limit;
      ready = ready_freed r.roots.handles c.free.new.self c.args.h r.collector.pins c.free.ensures.table
          c.self.invariant.ready;
    }

pub returns-clause-follows : goal.returns-clause-follows
returns-clause-follows c = rw (← c.self.view_is) (done c)
