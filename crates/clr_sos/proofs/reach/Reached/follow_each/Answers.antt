-- References are followed one by one.
use Rattle.std.proofs.Common.{◌≡◌, ◌≢◌, ℕ, ◌+◌, List, [], ◌∷◌, ◌++◌, append-nil, append_assoc, ap, arith, length, refl}
use Rattle.std.proofs.Common.{sym, ◌∙◌, subst}
use Rattle.std.proofs.lemmas.Bool.{eqb-true}
use Rattle.clr_types.specs.Rising.{IsIn}
use Rattle.clr_heap.specs.View.{word_of}
use Rattle.clr_mark.specs.Markings.{item_references}
use Rattle.clr_mark.proofs.Following.{next_listed, none_left}
use Rattle.clr_sos.specs.Reaching.{IsObjectOf, IsOrigin}
use Rattle.clr_sos.specs.declared.reach.Origin.{Origin}
use Rattle.clr_sos.specs.declared.reach.Origin.TheVariants.{Through}
use Rattle.clr_sos.proofs.Adding.{added-word}
use Rattle.clr_sos.proofs.FollowedSlots.{can_meet, CanMeet, slots-all, slots-none, slots-start}
use Rattle.clr_sos.proofs.Searching.{came-none, came-trans}
use Rattle.clr_sos.proofs.reach.Reached.follow_each.Goals.{In-Some}
use Rattle.clr_sos.proofs.reach.Reached.follow_each.Goals as goal

pub series-requires : goal.series-requires
series-requires c = c.requires.entry.stands.known

pub returns-then-is_empty-clause-came : goal.returns-then-is_empty-clause-came
returns-then-is_empty-clause-came c =
    came-none c.args.self.now.entries.items (λ (o : Origin). o ≡ Through c.args.i)

pub returns-then-is_empty-clause-added : goal.returns-then-is_empty-clause-added
returns-then-is_empty-clause-added c =
    let empty = none_left c.series.result.now (eqb-true (length c.series.result.now) 0
    (sym c.is_empty.ensures ∙ c.if-is_empty.true)) in
    slots-none c.args.view.now c.requires.sound c.args.self.now.entries.items c.args.i c.args.item c.requires.entry
    c.args.self.now.seen.items c.requires.search (sym c.series.ensures ∙ empty)

pub loop-offset-init : goal.loop-offset-init
loop-offset-init c = record {
  walked = refl;
  added = slots-start c.args.view.now c.requires.sound c.args.self.now.entries.items c.args.i c.args.item
      c.requires.entry c.args.self.now.seen.items c.requires.search;
  came = came-none c.args.self.now.entries.items (λ (o : Origin). o ≡ Through c.args.i);
}

-- the next offset is one of a reference
next : (c : In-Some) → IsIn c.in-Some.offset (item_references c.args.view.now.types.now c.args.item)
next c =
    let yielded = c.loop-offset.yielded in
    next_listed c.in-Some.offset yielded c.next.new.self
    (item_references c.args.view.now.types.now c.args.item)
    (ap (λ (rest : List ℕ). yielded ++ rest) (sym c.in-Some.ensures.steps) ∙ c.loop-offset.invariant.walked
    ∙ c.into_iter-offset-iterator.ensures.into_iter_gives ∙ c.slots-offset-items.ensures)

-- so it can be followed
can : (c : In-Some) → CanMeet c.args.view.now c.loop-offset.self.entries.items c.args.i c.args.item.place
    c.in-Some.offset
can c = can_meet c.args.view.now c.requires.sound c.args.self.now.entries.items c.args.i c.args.item c.requires.entry
    c.in-Some.offset (next c) c.loop-offset.self.entries.items c.loop-offset.invariant.added.grown

pub overflow_add-item : goal.overflow_add-item
overflow_add-item c = let fits = (can (goal.at.overflow_add-item c).In-Some).fits in omega (arith, fits)

pub word_at-target-requires-clause-word : goal.word_at-target-requires-clause-word
word_at-target-requires-clause-word c = (can (goal.at.word_at-target-requires-clause-word c).In-Some).has

pub word_at-target-requires-clause-segment : goal.word_at-target-requires-clause-segment
word_at-target-requires-clause-segment c =
    c.requires.segment ∙ (can (goal.at.word_at-target-requires-clause-segment c).In-Some).segment

pub meet_named-requires-clause-stands : goal.meet_named-requires-clause-stands
meet_named-requires-clause-stands c =
    subst (λ (x : ℕ). x ≢ 0 → IsObjectOf c.args.view.now x) (sym c.word_at-target.ensures)
    (can (goal.at.meet_named-requires-clause-stands c).In-Some).object

pub meet_named-requires-clause-origin : goal.meet_named-requires-clause-origin
meet_named-requires-clause-origin c =
    let now = c.loop-offset.self.entries.items in
    subst (λ (x : ℕ). x ≢ 0 → IsOrigin c.args.view.now now (length now) x (Through c.args.i))
    (sym c.word_at-target.ensures) (can (goal.at.meet_named-requires-clause-origin c).In-Some).origin

pub loop-offset-preserved : goal.loop-offset-preserved
loop-offset-preserved c =
    let yielded = c.loop-offset.yielded in
    let offset = c.in-Some.offset in
    record {
      walked = append_assoc yielded (offset ∷ []) c.next.new.self
          ∙ ap (λ (rest : List ℕ). yielded ++ rest) (sym c.in-Some.ensures.steps) ∙ c.loop-offset.invariant.walked;
      added = added-word c.args.view.now (word_of c.args.view.now.heap.now) c.args.item.place
          c.args.self.now.entries.items c.loop-offset.self.entries.items c.loop-offset.self.seen.items yielded
          c.loop-offset.invariant.added offset c.word_at-target.result c.word_at-target.ensures
          c.meet_named.new.self.entries.items c.meet_named.new.self.seen.items c.in_ok-meet_named.ensures.search
          c.in_ok-meet_named.ensures.grown c.in_ok-meet_named.ensures.met;
      came = came-trans c.args.self.now.entries.items c.loop-offset.self.entries.items
          c.meet_named.new.self.entries.items (λ (o : Origin). o ≡ Through c.args.i)
          c.in_ok-meet_named.ensures.grown c.loop-offset.invariant.came c.in_ok-meet_named.ensures.came;
    }

pub returns-clause-added : goal.returns-clause-added
returns-clause-added c =
    let yielded = c.loop-offset.yielded in
    let all : yielded ≡ item_references c.args.view.now.types.now c.args.item =
    sym (append-nil yielded) ∙ ap (λ (rest : List ℕ). yielded ++ rest) (sym c.in-None.ensures.steps.0)
    ∙ c.loop-offset.invariant.walked ∙ c.into_iter-offset-iterator.ensures.into_iter_gives
    ∙ c.slots-offset-items.ensures in
    slots-all c.args.view.now c.requires.sound c.args.self.now.entries.items c.args.i c.args.item c.requires.entry
    c.loop-offset.self.seen.items c.loop-offset.self.entries.items yielded all c.loop-offset.invariant.added
