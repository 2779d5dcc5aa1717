-- The references of a run are followed one by one.
use Rattle.std.proofs.Common.{◌≡◌, ◌≢◌, ℕ, ◌+◌, ◌*◌, List, length, ap, arith, sym, ◌∙◌, subst}
use Rattle.clr_types.specs.Descriptors.{offsets_from}
use Rattle.clr_types.specs.Rising.{IsIn}
use Rattle.clr_heap.specs.View.{word_of}
use Rattle.clr_mark.proofs.RunReferences.{run_listed, run_more}
use Rattle.clr_sos.specs.Reaching.{IsObjectOf, IsOrigin}
use Rattle.clr_sos.specs.declared.reach.Origin.{Origin}
use Rattle.clr_sos.specs.declared.reach.Origin.TheVariants.{Through}
use Rattle.clr_sos.proofs.Adding.{added-word}
use Rattle.clr_sos.proofs.FollowedSlots.{can_meet, CanMeet, slots-all, slots-start}
use Rattle.clr_sos.proofs.Searching.{came-none, came-trans}
use Rattle.clr_sos.proofs.reach.Reached.follow_run.Goals.{In-loop-j}
use Rattle.clr_sos.proofs.reach.Reached.follow_run.Goals as goal

pub loop-j-init : goal.loop-j-init
loop-j-init c = record {
  added = slots-start c.args.view.now c.requires.sound c.args.self.now.entries.items c.args.i c.args.item
      c.requires.entry c.args.self.now.seen.items c.requires.search;
  came = came-none c.args.self.now.entries.items (λ (o : Origin). o ≡ Through c.args.i);
}

pub returns-clause-added : goal.returns-clause-added
returns-clause-added c =
    let past = c.loop-j-test.false in
    let within = c.loop-j.auto.j-end in
    let end : c.loop-j.j ≡ c.args.run.count = omega (arith, past, within) in
    slots-all c.args.view.now c.requires.sound c.args.self.now.entries.items c.args.i c.args.item c.requires.entry
    c.loop-j.self.seen.items c.loop-j.self.entries.items (offsets_from c.args.run.offset c.loop-j.j)
    (ap (offsets_from c.args.run.offset) end ∙ sym c.requires.run) c.loop-j.invariant.added

-- reference j of the run can be followed
can : (c : In-loop-j) → CanMeet c.args.view.now c.loop-j.self.entries.items c.args.i c.args.item.place
    (c.args.run.offset + 8 * c.loop-j.j)
can c =
    let at : ℕ = c.args.run.offset + 8 * c.loop-j.j in
    let there = run_listed c.args.run.offset c.args.run.count c.loop-j.j c.loop-j-test.true in
    can_meet c.args.view.now c.requires.sound c.args.self.now.entries.items c.args.i c.args.item c.requires.entry
    at (subst (λ (os : List ℕ). IsIn at os) (sym c.requires.run) there) c.loop-j.self.entries.items
    c.loop-j.invariant.added.grown

pub overflow_mul-j : goal.overflow_mul-j
overflow_mul-j c = let fits = (can c).fits in omega (arith, fits)

pub overflow_add-run : goal.overflow_add-run
overflow_add-run c = let fits = (can (goal.at.overflow_add-run c).In-loop-j).fits in omega (arith, fits)

pub overflow_add-item : goal.overflow_add-item
overflow_add-item c = let fits = (can (goal.at.overflow_add-item c).In-loop-j).fits in omega (arith, fits)

pub word_at-target-requires-clause-word : goal.word_at-target-requires-clause-word
word_at-target-requires-clause-word c = (can (goal.at.word_at-target-requires-clause-word c).In-loop-j).has

pub word_at-target-requires-clause-segment : goal.word_at-target-requires-clause-segment
word_at-target-requires-clause-segment c =
    c.requires.segment ∙ (can (goal.at.word_at-target-requires-clause-segment c).In-loop-j).segment

pub meet_named-requires-clause-stands : goal.meet_named-requires-clause-stands
meet_named-requires-clause-stands c =
    subst (λ (x : ℕ). x ≢ 0 → IsObjectOf c.args.view.now x) (sym c.word_at-target.ensures)
    (can (goal.at.meet_named-requires-clause-stands c).In-loop-j).object

pub meet_named-requires-clause-origin : goal.meet_named-requires-clause-origin
meet_named-requires-clause-origin c =
    let now = c.loop-j.self.entries.items in
    subst (λ (x : ℕ). x ≢ 0 → IsOrigin c.args.view.now now (length now) x (Through c.args.i))
    (sym c.word_at-target.ensures) (can (goal.at.meet_named-requires-clause-origin c).In-loop-j).origin

pub loop-j-preserved : goal.loop-j-preserved
loop-j-preserved c =
    let at : ℕ = c.args.run.offset + 8 * c.loop-j.j in
    record {
      added = rw (run_more c.args.run.offset c.loop-j.j)
          (added-word c.args.view.now (word_of c.args.view.now.heap.now) c.args.item.place
          c.args.self.now.entries.items c.loop-j.self.entries.items c.loop-j.self.seen.items
          (offsets_from c.args.run.offset c.loop-j.j) c.loop-j.invariant.added at c.word_at-target.result
          c.word_at-target.ensures c.meet_named.new.self.entries.items c.meet_named.new.self.seen.items
          c.in_ok-meet_named.ensures.search c.in_ok-meet_named.ensures.grown c.in_ok-meet_named.ensures.met);
      came = came-trans c.args.self.now.entries.items c.loop-j.self.entries.items c.meet_named.new.self.entries.items
          (λ (o : Origin). o ≡ Through c.args.i) c.in_ok-meet_named.ensures.grown c.loop-j.invariant.came
          c.in_ok-meet_named.ensures.came;
    }
