-- The handle is made, or the line is refused for the first check that fails.
use Rattle.std.proofs.Common.{◌≡◌, ◌≢◌, [], ◌∷◌, inl, inr, true, None, unwrap_or, sym, ap, ◌∙◌}
use Rattle.std.proofs.lemmas.Bool.{both_ways}
use Rattle.clr_runtime.specs.Shown.{shown}
use Rattle.clr_model.specs.Instructions.{create_handle}
use Rattle.clr_model.specs.Lookups.{local_of}
use Rattle.clr_types.specs.Kinds.{is_dependent}
use Rattle.clr_model.specs.Run.{Follows}
use Rattle.clr_model.proofs.HandleFollows.{create_of}
use Rattle.clr_runtime.specs.Checks.{names_refusal}
use Rattle.clr_options.specs.Options.{options_of}
use Rattle.clr_runtime.specs.Outcomes.{handle_outcome}
use Rattle.clr_runtime.specs.RuntimeView.{ahead_of, seen, sums_of, world_of}
use Rattle.clr_runtime.proofs.HandleLines.{create_null, create_refused, created, IsCreated, named_once}
use Rattle.clr_runtime.proofs.LocalsSeen.{local-read}
use Rattle.clr_runtime.proofs.NamesChecked.{names_refused}
use Rattle.clr_runtime.proofs.RuntimeKept.{names_kept}
use Rattle.clr_runtime.proofs.runtime.Runtime.handle.Goals as goal
use Rattle.clr_runtime.proofs.runtime.Runtime.handle.Goals.{After-is_dependent, In_default, in-Err, in-Ok}
use Rattle.clr_runtime.proofs.runtime.Runtime.handle.Goals.{Joined-create_with_room}

pub returns-in-Some-clause-follows : goal.returns-in-Some-clause-follows
returns-in-Some-clause-follows c =
    let l = create_of c.args.t c.args.kind c.args.local c.args.second c.requires.form in
    let twice = ap (λ n. names_refusal c.args.self.now.machine c.args.t (c.args.local ∷ n ∷ [])) c.unwrap_or.ensures in
    names_refused l.instruction l.thread l.locals l.more l.line l.alike c.args.self.now.machine c.in-Some.refusal
    (named_once c.args.self.now.machine c.args.t c.args.local c.args.second _
    (sym (c.refused_names.ensures.value ∙ twice) ∙ c.in-Some.is))

-- the locals are there
passed : (c : In_default) → names_refusal (seen c.self.inside.parts) c.args.t
    (c.args.local ∷ unwrap_or c.args.second c.args.local ∷ []) ≡ None
passed c =
    let twice = ap (λ n. names_refusal c.args.self.now.machine c.args.t (c.args.local ∷ n ∷ [])) c.unwrap_or.ensures in
    rw (← c.self.view_is) at (sym (c.refused_names.ensures.value ∙ twice) ∙ c.in_default.is)

-- and this is the first one's object
target-is : (c : After-is_dependent) → c.index-target.result.now
    ≡ local_of (seen c.self.inside.parts) c.args.t c.args.local
target-is c =
    local-read c.self.invariant.shown c.args.t c.args.local c.index_of.result c.index-target.result.now
    c.index_of.ensures.within c.index_of.ensures.index c.index-target.ensures

pub returns-then-target-eq0-clause-follows : goal.returns-then-target-eq0-clause-follows
returns-then-target-eq0-clause-follows c =
    let at = goal.at.returns-then-target-eq0-clause-follows c in
    rw (← c.self.view_is)
    (create_null (world_of c.self.inside.parts) _ _ _
    (ahead_of c.self.inside.parts) c.args.t c.args.kind c.args.local c.args.second c.requires.form
    (passed at.In_default) c.index-target.result.now (target-is at.After-is_dependent)
    (sym c.is_dependent.ensures ∙ c.if-is_dependent.true) c.if-target-eq0.true)

-- what the table answers is told
followed : (c : Joined-create_with_room) → Follows (seen c.self.inside.parts)
    (create_handle c.args.t c.args.kind c.args.local c.args.second) (handle_outcome c.match-create_with_room.result)
    (shown (record (world_of c.self.inside.parts) { handles = c.create_with_room.new.handles })
    (sums_of c.self.inside.parts.sums)
    (options_of c.self.inside.parts.options) c.self.inside.parts.safe (ahead_of c.self.inside.parts))
followed c =
    let r = c.self.inside.parts in
    let at = goal.at.returns-clause-follows c in
    let some : is_dependent c.args.kind ≡ true → c.index-target.result.now ≢ 0 = λ dependent.
    elim c.else-is_dependent.either [
      | inl primary ↦ primary.1
      | inr none ↦ absurd (both_ways c.is_dependent.result none (c.is_dependent.ensures ∙ dependent))
    ] in
    let told : IsCreated r.roots.handles c.create_with_room.new.handles (record {
      kind = c.args.kind;
      target = c.index-target.result.now;
      second = c.held_by-other.result;
    }) c.create_with_room.result = record {
      free = c.create_with_room.ensures.free;
      below = c.create_with_room.ensures.below;
      created = c.create_with_room.ensures.created;
      too_many = c.create_with_room.ensures.too_many;
      err = c.create_with_room.ensures.err;
    } in
    elim c.match-create_with_room.branch [
      | in-Ok w ↦ rw w.result-is
          (created (world_of r) _ _ _ (ahead_of r) c.args.t c.args.kind c.args.local c.args.second c.requires.form
          (passed at.In_default) c.index-target.result.now (target-is at.After-is_dependent) some c.held_by-other.result
          (rw c.deref.ensures.value at c.held_by-other.ensures)
          c.create_with_room.new.handles c.create_with_room.result told w.in-Ok.h
          w.in-Ok.is)
      | in-Err w ↦ rw (w.result-is, w.refusal_of.ensures)
          (create_refused (world_of r) _ _ _
          (ahead_of r) c.args.t c.args.kind c.args.local c.args.second c.requires.form
          (passed at.In_default) c.index-target.result.now (target-is at.After-is_dependent) some c.held_by-other.result
          (rw c.deref.ensures.value at c.held_by-other.ensures)
          c.create_with_room.new.handles c.create_with_room.result told w.in-Err.fault
          w.in-Err.is)
    ]

pub invariant_of-self : goal.invariant_of-self
invariant_of-self c =
    let r = c.self.inside.parts in
    let is = c.self.invariant.shown in
    record {
      shown = names_kept is _ _ r.roots.locals.items c.create_with_room.new.handles r.roots.finals.entries
          r.roots.finals.ready is.locals
          (followed c);
      heap = c.self.invariant.heap;
      tables = c.self.invariant.tables;
      owed = c.self.invariant.owed;
      finalizers = c.self.invariant.finalizers;
      index = c.self.invariant.index;
      large = c.self.invariant.large;
      pinned = c.self.invariant.pinned;
      limit = c.self.invariant.limit;
      ready = record {
        empty = c.create_with_room.ensures.entries ∙ c.self.invariant.ready.empty;
        room = c.create_with_room.ensures.room;
      };
    }

pub returns-clause-follows : goal.returns-clause-follows
returns-clause-follows c = rw (← c.self.view_is) (followed c)
