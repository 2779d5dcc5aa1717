-- Each entry is followed once, but for the object's.
use Rattle.std.proofs.Common.{ℕ, ◌+◌, ◌<◌, ◌∙◌, arith, length, List, subst, sym}
use Rattle.clr_sos.specs.Reaching.{IsSearch}
use Rattle.clr_sos.specs.declared.reach.FoundObject.{FoundObject}
use Rattle.clr_sos.specs.declared.reach.Reached.{Reached}
use Rattle.clr_sos.specs.declared.view.View.{View}
use Rattle.clr_sos.proofs.FollowedSlots.{place-read}
use Rattle.clr_paths.proofs.HeldReach.{IsPassing, passing-ends, passing-led, passing-own, passing-starts}
use Rattle.clr_paths.proofs.held.follow_but.Goals.{then-index-a+in_ok-follow, else-index-a}
use Rattle.clr_paths.proofs.held.follow_but.Goals as goal

pub loop-next-init : goal.loop-next-init
loop-next-init c = record {
  search = c.requires.search;
  passing = passing-starts c.args.view.now c.args.a c.args.reached.now.entries.items c.requires.roots;
}

-- what holds of a search that has passed over one object so far
abbrev Passes : View → ℕ → List (List ℕ) → List FoundObject → ℕ → Type 0
Passes v a seen es n = record { search : IsSearch v seen es; passing : IsPassing v a es n }

pub loop-next-preserved : goal.loop-next-preserved
loop-next-preserved c =
    let v = c.args.view.now in
    let s = c.loop-next.invariant in
    let es = c.loop-next.reached.entries.items in
    let n = c.loop-next.next in
    let below = c.loop-next-test.true in
    let count = c.len.ensures in
    let whole = c.loop-next.reached.entries.ok.0 in
    let inside : n < length es = omega (arith, below, count, whole) in
    let own = place-read es n c.index.result.now inside c.index.ensures in
    let P : Reached → Type 0 = λ r. Passes v c.args.a r.seen.items r.entries.items (n + 1) in
    elim c.if-index-a.branch [
      | then-index-a+in_ok-follow w ↦ subst P (sym w.reached-is) (record {
        search = w.in_ok-follow.ensures.search;
        passing = passing-led v c.args.a es w.follow.new.reached.entries.items n inside
            (λ same. w.if-index-a.true (own ∙ same)) w.in_ok-follow.ensures.led s.passing;
      })
      | else-index-a w ↦ subst P (sym w.reached-is) (record {
        search = s.search;
        passing = passing-own v c.args.a es n (sym own ∙ w.if-index-a.false) s.passing;
      })
    ]

pub returns-clause-around : goal.returns-clause-around
returns-clause-around c =
    let past = c.loop-next-test.false in
    let count = c.len.ensures in
    let whole = c.loop-next.reached.entries.ok.0 in
    passing-ends c.args.view.now c.args.a c.requires.sound c.loop-next.reached.seen.items
    c.loop-next.reached.entries.items c.loop-next.invariant.search c.loop-next.next (omega (arith, past, count, whole))
    c.loop-next.invariant.passing
