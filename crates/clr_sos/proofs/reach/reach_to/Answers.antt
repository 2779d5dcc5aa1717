-- The search ends where the object is found, or where all entries were followed.
use Rattle.std.proofs.Common.{arith, length, sym, ◌∙◌}
use Rattle.std.proofs.lemmas.Bool.{false≢true}
use Rattle.clr_sos.specs.Reaching.{IsRootOf, Leads, place_at, via_at}
use Rattle.clr_sos.proofs.BreadthFirst.{nearest}
use Rattle.clr_sos.proofs.ReachedAll.{reached-exactly, seen-told, tests-live}
use Rattle.clr_sos.proofs.Searching.{listed-on}
use Rattle.clr_sos.proofs.ShortestTrails.{search-begins, search-goes_on}
use Rattle.clr_sos.proofs.Seen.{numbered}
use Rattle.clr_sos.proofs.reach.reach_to.Goals as goal

pub loop-next-init : goal.loop-next-init
loop-next-init c = record {
  search = c.in_ok-reached.ensures.search;
  roots = c.in_ok-reached.ensures.roots;
  breadth = search-begins c.args.view.now (IsRootOf c.args.view.now) c.in_ok-reached.reached.seen.items
      c.in_ok-reached.reached.entries.items c.in_ok-reached.ensures.search c.in_ok-reached.ensures.came
      c.in_ok-reached.ensures.roots;
  followed = λ i y low. absurd (omega (arith, low));
}

pub has-requires-clause-heap : goal.has-requires-clause-heap
has-requires-clause-heap c = c.requires.sound.closed.heap

pub has-requires-clause-word : goal.has-requires-clause-word
has-requires-clause-word c = (numbered c.args.view.now c.requires.sound c.args.a c.requires.stands).word

pub returns-then-has-clause-exact : goal.returns-then-has-clause-exact
returns-then-has-clause-exact c = λ none. absurd (false≢true (sym none
    ∙ sym (seen-told c.args.view.now c.loop-next.reached.seen.items c.loop-next.reached.entries.items
    c.loop-next.invariant.search c.args.a c.requires.stands) ∙ sym c.has.ensures ∙ c.if-has.true))

pub loop-next-preserved : goal.loop-next-preserved
loop-next-preserved c = record {
  search = c.in_ok-follow.ensures.search;
  roots = λ x root. listed-on c.loop-next.reached.entries.items c.follow.new.self.entries.items x
      c.in_ok-follow.ensures.grown (c.loop-next.invariant.roots x root);
  breadth =
      let low = c.loop-next-test.true in
      let count = c.len.ensures in
      let whole = c.loop-next.reached.entries.ok.0 in
      search-goes_on c.args.view.now (IsRootOf c.args.view.now) c.follow.new.self.seen.items
      c.loop-next.reached.entries.items c.follow.new.self.entries.items c.loop-next.next c.in_ok-follow.ensures.search
      c.in_ok-follow.ensures.grown (omega (arith, low, count, whole)) c.in_ok-follow.ensures.came
      c.in_ok-follow.ensures.followed c.loop-next.invariant.breadth;
  followed = c.in_ok-follow.ensures.followed;
}

pub returns-clause-exact : goal.returns-clause-exact
returns-clause-exact c = λ none.
    let v = c.args.view.now in
    let es = c.loop-next.reached.entries.items in
    let s = c.loop-next.invariant in
    let past = c.loop-next-test.false in
    let count = c.len.ensures in
    let whole = c.loop-next.reached.entries.ok.0 in
    tests-live v es
    (reached-exactly v c.requires.sound c.loop-next.reached.seen.items es s.search s.roots c.loop-next.next
    (omega (arith, past, count, whole)) s.followed)

pub returns-then-has-clause-nearest : goal.returns-then-has-clause-nearest
returns-then-has-clause-nearest c =
    let es = c.loop-next.reached.entries.items in
    nearest (Leads c.args.view.now) (IsRootOf c.args.view.now) (place_at es) (via_at es) (length es) c.loop-next.next
    c.loop-next.invariant.breadth

pub returns-clause-nearest : goal.returns-clause-nearest
returns-clause-nearest c =
    let es = c.loop-next.reached.entries.items in
    nearest (Leads c.args.view.now) (IsRootOf c.args.view.now) (place_at es) (via_at es) (length es) c.loop-next.next
    c.loop-next.invariant.breadth
