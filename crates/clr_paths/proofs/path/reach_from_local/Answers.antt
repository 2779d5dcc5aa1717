-- The search ends where the object is found, or where all entries were followed.
use Rattle.std.proofs.Common.{◌<◌, ◌∙◌, arith, length, sym}
use Rattle.clr_sos.proofs.ReachedAll.{seen-told}
use Rattle.clr_sos.proofs.Seen.{numbered}
use Rattle.clr_paths.proofs.PathSearches.{found-all, found-early, searching-begins, searching-goes_on}
use Rattle.clr_paths.proofs.path.reach_from_local.Goals as goal

pub loop-next-init : goal.loop-next-init
loop-next-init c = record {
  search = c.in_ok-reached.ensures.added.search;
  so_far = searching-begins c.args.view.now c.args.a c.in_ok-reached.reached.seen.items
      c.in_ok-reached.reached.entries.items c.requires.sound c.requires.from c.requires.local
      c.in_ok-reached.ensures.added c.in_ok-reached.ensures.came;
}

pub has-requires-clause-word : goal.has-requires-clause-word
has-requires-clause-word c = (numbered c.args.view.now c.requires.sound c.args.b c.requires.to).word

pub loop-next-preserved : goal.loop-next-preserved
loop-next-preserved c =
    let es = c.loop-next.reached.entries.items in
    let below = c.loop-next-test.true in
    let count = c.len.ensures in
    let whole = c.loop-next.reached.entries.ok.0 in
    let inside : c.loop-next.next < length es = omega (arith, below, count, whole) in
    record {
      search = c.in_ok-follow.ensures.search;
      so_far = searching-goes_on c.args.view.now c.args.a c.follow.new.self.seen.items es
          c.follow.new.self.entries.items c.loop-next.next c.in_ok-follow.ensures.search c.in_ok-follow.ensures.grown
          inside c.in_ok-follow.ensures.came c.in_ok-follow.ensures.followed c.loop-next.invariant.so_far;
    }

pub returns-then-has-clause-stand : goal.returns-then-has-clause-stand
returns-then-has-clause-stand c = λ i l. (c.loop-next.invariant.search.sound i l).stands

pub returns-then-has-clause-found : goal.returns-then-has-clause-found
returns-then-has-clause-found c =
    let v = c.args.view.now in
    let seen = c.loop-next.reached.seen.items in
    let es = c.loop-next.reached.entries.items in
    let s = c.loop-next.invariant.search in
    found-early v c.args.a seen es s c.loop-next.next c.loop-next.invariant.so_far c.args.b
    (sym (seen-told v seen es s c.args.b c.requires.to) ∙ sym c.has.ensures ∙ c.if-has.true)

pub returns-clause-stand : goal.returns-clause-stand
returns-clause-stand c = λ i l. (c.loop-next.invariant.search.sound i l).stands

pub returns-clause-found : goal.returns-clause-found
returns-clause-found c =
    let past = c.loop-next-test.false in
    let count = c.len.ensures in
    let whole = c.loop-next.reached.entries.ok.0 in
    found-all c.args.view.now c.args.a c.loop-next.reached.seen.items c.loop-next.reached.entries.items
    c.loop-next.invariant.search c.loop-next.next c.loop-next.invariant.so_far c.args.b
    (omega (arith, past, count, whole))
