-- The object's finaliser is suppressed, where there is one.
use Rattle.std.proofs.Common.{◌≡◌, [], ◌∷◌, None, sym, ap, ◌∙◌, refl, true}
use Rattle.clr_types.specs.declared.segment.SegKind.TheVariants.{Large, Pinned}
use Rattle.clr_heap.specs.View.{HeapView}
use Rattle.clr_runtime.specs.Shown.{shown}
use Rattle.clr_model.specs.Instructions.{suppress_object}
use Rattle.clr_model.specs.Lookups.{local_of}
use Rattle.clr_model.specs.Outcomes.{answered}
use Rattle.clr_model.specs.Run.{Follows}
use Rattle.clr_model.specs.declared.Reply.TheVariants.{Done}
use Rattle.clr_model.proofs.FinalFollows.{suppress_of}
use Rattle.clr_ctx.specs.Contexts.{young_items}
use Rattle.clr_large.specs.Places.{kind_items}
use Rattle.clr_runtime.specs.Checks.{names_refusal}
use Rattle.clr_options.specs.Options.{options_of}
use Rattle.clr_runtime.specs.RuntimeView.{ahead_of, seen, sums_of, world_of}
use Rattle.clr_runtime.proofs.HeapKept.{flagged_heap}
use Rattle.clr_runtime.proofs.FinalizerLines.{suppress_null, suppress_plain, suppressed}
use Rattle.clr_runtime.proofs.IndexKept.{same_index}
use Rattle.clr_runtime.proofs.LocalsSeen.{local-read, local-stands}
use Rattle.clr_runtime.proofs.NamesChecked.{names_refused, once}
use Rattle.clr_runtime.proofs.RuntimeKept.{heap_kept}
use Rattle.clr_runtime.proofs.StepsKept.{flagged_tables}
use Rattle.clr_runtime.proofs.runtime.Runtime.suppress.Goals as goal
use Rattle.clr_runtime.proofs.runtime.Runtime.suppress.Goals.{After-index-place, After-set_suppressed}

pub returns-in-Some-clause-follows : goal.returns-in-Some-clause-follows
returns-in-Some-clause-follows c =
    let l = suppress_of c.args.t c.args.local in
    names_refused l.instruction l.thread l.locals l.more l.line l.alike c.args.self.now.machine c.in-Some.refusal
    (once c.args.self.now.machine c.args.t c.args.local _ (sym c.refused_names.ensures.value ∙ c.in-Some.is))

-- the local is there, and this is its object
passed : (c : After-index-place)
    → names_refusal (seen c.self.inside.parts) c.args.t (c.args.local ∷ c.args.local ∷ []) ≡ None
passed c = rw (← c.self.view_is) at (sym c.refused_names.ensures.value ∙ c.in_default.is)

place-is : (c : After-index-place) → c.index-place.result.now
    ≡ local_of (seen c.self.inside.parts) c.args.t c.args.local
place-is c =
    local-read c.self.invariant.shown c.args.t c.args.local c.index_of.result c.index-place.result.now
    c.index_of.ensures.within c.index_of.ensures.index c.index-place.ensures

pub returns-then-place-eq0-clause-follows : goal.returns-then-place-eq0-clause-follows
returns-then-place-eq0-clause-follows c =
    let at = (goal.at.returns-then-place-eq0-clause-follows c).After-index-place in
    rw (← c.self.view_is)
    (suppress_null (world_of c.self.inside.parts) _ _ _ (ahead_of c.self.inside.parts) c.args.t c.args.local
    (passed at) c.index-place.result.now
    (place-is at)
    c.if-place-eq0.true)

pub is_final-requires-clause-stands : goal.is_final-requires-clause-stands
is_final-requires-clause-stands c =
    let at = (goal.at.is_final-requires-clause-stands c).After-index-place in
    local-stands c.self.invariant.shown c.args.t c.args.local c.index-place.result.now (place-is at)
    c.if-place-eq0.false

-- no finaliser
pub returns-then-not-is_final-clause-follows : goal.returns-then-not-is_final-clause-follows
returns-then-not-is_final-clause-follows c =
    let at = (goal.at.returns-then-not-is_final-clause-follows c).After-index-place in
    rw (← c.self.view_is)
    (suppress_plain (world_of c.self.inside.parts) _ _ _ (ahead_of c.self.inside.parts) c.args.t c.args.local
    (passed at) c.index-place.result.now
    (place-is at) c.if-place-eq0.false (sym c.is_final.ensures ∙ c.if-not-is_final.true))

pub set_suppressed-requires-clause-stands : goal.set_suppressed-requires-clause-stands
set_suppressed-requires-clause-stands c =
    let at = (goal.at.set_suppressed-requires-clause-stands c).After-index-place in
    local-stands c.self.invariant.shown c.args.t c.args.local c.index-place.result.now (place-is at)
    c.if-place-eq0.false

-- one that is suppressed now
done : (c : After-set_suppressed) → Follows (seen c.self.inside.parts) (suppress_object c.args.t c.args.local)
    (answered Done)
    (shown (record (world_of c.self.inside.parts) { heap = c.set_suppressed.new.heap })
    (sums_of c.self.inside.parts.sums)
    (options_of c.self.inside.parts.options) c.self.inside.parts.safe (ahead_of c.self.inside.parts))
done c =
    let at = (goal.at.returns-clause-follows c).After-index-place in
    suppressed (world_of c.self.inside.parts) _ _ _ (ahead_of c.self.inside.parts) c.args.t c.args.local
    (passed at) c.index-place.result.now
    (place-is at)
    c.if-place-eq0.false (sym c.is_final.ensures ∙ c.if-not-is_final.false) c.set_suppressed.new.heap
    c.set_suppressed.ensures.flagged

pub invariant_of-self : goal.invariant_of-self
invariant_of-self c =
    let r = c.self.inside.parts in
    let new = c.set_suppressed.new.heap in
    let set = c.set_suppressed.ensures in
    record {
      shown = heap_kept c.self.invariant.shown _ _ refl new set.flagged.held set.unmarked set.free_heads
          (set.clean (λ _. sym c.is_final.ensures ∙ c.if-not-is_final.false)) (done c);
      heap = flagged_heap r.space.heap new c.index-place.result.now true set.words c.self.invariant.heap;
      tables = flagged_tables r.space.cards r.safe r.space.bricks r.types r.space.heap new _ _ set.flagged
          c.self.invariant.tables;
      owed = c.self.invariant.owed;
      finalizers = c.self.invariant.finalizers;
      index = same_index young_items r.types r.types r.space.heap new r.collector.young set.flagged.layout
          c.self.invariant.index;
      large = same_index
          (kind_items Large) r.types r.types r.space.heap new r.large set.flagged.layout c.self.invariant.large;
      pinned = same_index
          (kind_items Pinned) r.types r.types r.space.heap new r.pinned set.flagged.layout c.self.invariant.pinned;
      limit = ap (λ (h : HeapView). h.limit) set.words ∙ c.self.invariant.limit;
      ready = c.self.invariant.ready;
    }

pub returns-clause-follows : goal.returns-clause-follows
returns-clause-follows c = rw (← c.self.view_is) (done c)
