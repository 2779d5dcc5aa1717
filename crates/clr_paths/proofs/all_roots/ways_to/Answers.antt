-- All entries are followed one by one.
use Rattle.std.proofs.Common.{◌≡◌, ◌<◌, ℕ, ap, arith, length, subst, sym, ◌∙◌}
use Rattle.clr_sos.proofs.Seen.{numbered}
use Rattle.clr_paths.specs.AllRoots.{AreMarked, AreWaysUpTo, count_of}
use Rattle.clr_paths.specs.Incoming.{AreLinked}
use Rattle.clr_paths.specs.Numbers.{place_of}
use Rattle.clr_paths.specs.declared.all_roots.Way.{Way}
use Rattle.clr_paths.proofs.WaysBack.{marked-own, ways-begin, ways-followed}
use Rattle.clr_paths.proofs.all_roots.ways_to.Goals.{In-loop-next}
use Rattle.clr_paths.proofs.all_roots.ways_to.Goals as goal

pub segment_of-requires : goal.segment_of-requires
segment_of-requires c = (numbered c.args.view.now c.requires.sound c.args.a c.requires.stands).word

pub meet-requires-clause-marks : goal.meet-requires-clause-marks
meet-requires-clause-marks c = marked-own _ _ c.in_ok-ways.ensures.marks

pub meet-requires-clause-below : goal.meet-requires-clause-below
meet-requires-clause-below c =
    let below = c.number-goal.ensures.below in
    let count = c.in_ok-ways.ensures.marks.count in
    let length = c.len.ensures in
    let whole = c.args.numbers.now.places.ok.0 in
    omega (arith, below, count, length, whole)

pub loop-next-init : goal.loop-next-init
loop-next-init c =
    let places = c.args.numbers.now.places.items in
    let count = c.in_ok-ways.ensures.marks.count in
    let size = c.len.ensures in
    let whole = c.args.numbers.now.places.ok.0 in
    let marks = subst (λ (k : ℕ). AreMarked k c.meet.new.self)
    (let same : length c.in_ok-ways.ways.at.items ≡ length places = omega (arith, count, size, whole) in same)
    c.in_ok-meet.ensures.marks in
    let begun = ways-begin c.args.view.now places c.requires.numbers c.in_ok-ways.ways c.meet.new.self
    c.number-goal.result c.args.a c.in_ok-ways.ensures.empty marks c.in_ok-meet.ensures.met c.in_ok-meet.ensures.only
    c.in_ok-meet.ensures.found c.number-goal.ensures.is in
    record { ways = begun.0; goal = begun.1; within = omega arith }

-- there is a next entry
inside : (c : In-loop-next) → c.loop-next.next < count_of c.loop-next.ways
inside c =
    let low = c.loop-next-test.true in
    let count = c.len-in-loop-next.ensures in
    let whole = c.loop-next.ways.found.ok.0 in
    omega (arith, low, count, whole)

pub follow-requires-clause-linked : goal.follow-requires-clause-linked
follow-requires-clause-linked c =
    subst (λ (k : ℕ). AreLinked k c.in_ok-incoming.incoming) (sym c.loop-next.invariant.ways.marks.count)
    c.in_ok-incoming.ensures.edges.linked

pub follow-requires-clause-marks : goal.follow-requires-clause-marks
follow-requires-clause-marks c = marked-own _ _ c.loop-next.invariant.ways.marks

pub follow-requires-clause-below : goal.follow-requires-clause-below
follow-requires-clause-below c = inside (goal.at.follow-requires-clause-below c).In-loop-next

pub loop-next-preserved : goal.loop-next-preserved
loop-next-preserved c =
    let v = c.args.view.now in
    let places = c.args.numbers.now.places.items in
    let old = c.loop-next.ways in
    let new = c.follow.new.self in
    let s = c.loop-next.invariant in
    let low = inside (goal.at.loop-next-preserved c).In-loop-next in
    let longer = c.in_ok-follow.ensures.met.longer in
    record {
      ways = ways-followed v places c.requires.numbers c.requires.sound c.in_ok-incoming.incoming
          c.in_ok-incoming.ensures old new c.loop-next.next low s.ways
          (subst (λ (k : ℕ). AreMarked k new) s.ways.marks.count c.in_ok-follow.ensures.marks)
          c.in_ok-follow.ensures.met c.in_ok-follow.ensures.followed;
      goal = ap (λ (w : Way). place_of places w.number) (c.in_ok-follow.ensures.met.same 0 s.ways.some) ∙ s.goal;
      within = omega (arith, low, longer);
    }

pub returns : goal.returns
returns c =
    let ways = c.loop-next.ways in
    let s = c.loop-next.invariant in
    let within = s.within in
    let past = c.loop-next-test.false in
    let count = c.len-in-loop-next.ensures in
    let whole = ways.found.ok.0 in
    let all : c.loop-next.next ≡ count_of ways = omega (arith, within, past, count, whole) in
    record {
      ways = subst (AreWaysUpTo c.args.view.now c.args.numbers.now.places.items ways) all s.ways;
      goal = s.goal;
    }
