-- The ties of one primary are followed one by one.
use Rattle.std.proofs.Common.{◌≡◌, ◌+◌, get_or, arith}
use Rattle.std.proofs.lemmas.List.{get_or_default}
use Rattle.clr_sos.specs.declared.reach.Origin.{Origin}
use Rattle.clr_sos.specs.declared.reach.Origin.TheVariants.{Through}
use Rattle.clr_sos.specs.declared.reach.ties.Tie.{Tie}
use Rattle.clr_sos.proofs.Adding.{added-more, IsTiedBelow, tied-back}
use Rattle.clr_sos.proofs.FollowedSlots.{place-read}
use Rattle.clr_sos.proofs.Searching.{came-none, came-trans}
use Rattle.clr_sos.proofs.Ties.{no_tie, tie-origin, tie-stands, ties-end, ties-past, ties-start}
use Rattle.clr_sos.proofs.reach.Reached.follow_ties.Goals as goal

pub loop-j-init : goal.loop-j-init
loop-j-init c =
    let es = c.args.self.now.entries.items in
    let own = place-read es c.args.i c.index.result.now c.requires.below c.index.ensures in
    record {
      added = ties-start c.args.view.now c.requires.sound c.args.ties.now c.requires.ties es c.args.i
          c.index.result.now.place c.first_tie-start.result own c.first_tie-start.ensures.below
          c.first_tie-start.ensures.above c.args.self.now.seen.items c.requires.search;
      came = came-none es (λ (o : Origin). o ≡ Through c.args.i);
    }

pub returns-then-tie-place-clause-added : goal.returns-then-tie-place-clause-added
returns-then-tie-place-clause-added c =
    let v = c.args.view.now in
    let es = c.args.self.now.entries.items in
    let ties = c.args.ties.now in
    let j = c.loop-j.j in
    let tie : Tie = get_or ties j no_tie in
    let place = c.index.result.now.place in
    let start = c.first_tie-start.result in
    let own = place-read es c.args.i c.index.result.now c.requires.below c.index.ensures in
    let low = c.first_tie-start.ensures.below in
    let high = c.first_tie-start.ensures.above in
    ties-end v c.requires.sound ties c.requires.ties es c.args.i place start own low high c.loop-j.self.entries.items
    c.loop-j.self.seen.items j
    (ties-past v c.requires.sound ties c.requires.ties es c.args.i place start own low high j tie c.loop-j.auto.j
    c.loop-j-test.true (get_or_default ties j no_tie tie c.loop-j-test.true) c.if-tie-place.true)
    c.loop-j.invariant.added

pub meet-requires-clause-stands : goal.meet-requires-clause-stands
meet-requires-clause-stands c =
    let ties = c.args.ties.now in
    let j = c.loop-j.j in
    tie-stands c.args.view.now c.requires.sound ties c.requires.ties j (get_or ties j no_tie) c.loop-j-test.true
    (get_or_default ties j no_tie (get_or ties j no_tie) c.loop-j-test.true)

pub meet-requires-clause-origin : goal.meet-requires-clause-origin
meet-requires-clause-origin c =
    let es = c.args.self.now.entries.items in
    let ties = c.args.ties.now in
    let j = c.loop-j.j in
    let own = place-read es c.args.i c.index.result.now c.requires.below c.index.ensures in
    tie-origin c.args.view.now c.requires.sound ties c.requires.ties es c.args.i c.index.result.now.place
    c.first_tie-start.result own c.first_tie-start.ensures.below c.first_tie-start.ensures.above
    c.loop-j.self.entries.items j (get_or ties j no_tie) c.loop-j.invariant.added.grown c.requires.below
    c.loop-j-test.true (get_or_default ties j no_tie (get_or ties j no_tie) c.loop-j-test.true)
    c.if-tie-place.false

pub loop-j-preserved : goal.loop-j-preserved
loop-j-preserved c =
    let ties = c.args.ties.now in
    let place = c.index.result.now.place in
    let j = c.loop-j.j in
    let tie : Tie = get_or ties j no_tie in
    record {
      added = added-more c.args.view.now c.args.self.now.entries.items c.loop-j.self.entries.items
          c.loop-j.self.seen.items (IsTiedBelow ties place j) c.loop-j.invariant.added (IsTiedBelow ties place (j + 1))
          tie.second c.meet.new.self.seen.items c.meet.new.self.entries.items c.in_ok-meet.ensures.search
          c.in_ok-meet.ensures.grown c.in_ok-meet.ensures.met
          (λ x w. tied-back ties place j x tie (get_or_default ties j no_tie tie c.loop-j-test.true) w);
      came = came-trans c.args.self.now.entries.items c.loop-j.self.entries.items c.meet.new.self.entries.items
          (λ (o : Origin). o ≡ Through c.args.i) c.in_ok-meet.ensures.grown c.loop-j.invariant.came
          c.in_ok-meet.ensures.came;
    }

pub returns-clause-added : goal.returns-clause-added
returns-clause-added c =
    let past = c.loop-j-test.false in
    let es = c.args.self.now.entries.items in
    let own = place-read es c.args.i c.index.result.now c.requires.below c.index.ensures in
    ties-end c.args.view.now c.requires.sound c.args.ties.now c.requires.ties es c.args.i c.index.result.now.place
    c.first_tie-start.result own c.first_tie-start.ensures.below c.first_tie-start.ensures.above
    c.loop-j.self.entries.items c.loop-j.self.seen.items c.loop-j.j
    (λ k d le l is. omega (arith, past, le, l)) c.loop-j.invariant.added
