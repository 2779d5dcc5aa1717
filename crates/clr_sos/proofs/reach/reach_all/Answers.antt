-- The search from the roots: each entry is followed once.
use Rattle.std.proofs.Common.{arith}
use Rattle.clr_sos.proofs.ReachedAll.{reached-exactly, seen-told, tests-live}
use Rattle.clr_sos.proofs.Searching.{listed-on}
use Rattle.clr_sos.proofs.reach.reach_all.Goals as goal

pub loop-next-init : goal.loop-next-init
loop-next-init c = record {
  search = c.in_ok-reached.ensures.search;
  roots = c.in_ok-reached.ensures.roots;
  followed = λ i y low. absurd (omega (arith, low));
}

pub loop-next-preserved : goal.loop-next-preserved
loop-next-preserved c = record {
  search = c.in_ok-follow.ensures.search;
  roots = λ x root. listed-on c.loop-next.reached.entries.items c.follow.new.self.entries.items x
      c.in_ok-follow.ensures.grown (c.loop-next.invariant.roots x root);
  followed = c.in_ok-follow.ensures.followed;
}

pub returns-clause-exact : goal.returns-clause-exact
returns-clause-exact c =
    let v = c.args.view.now in
    let es = c.loop-next.reached.entries.items in
    let s = c.loop-next.invariant in
    let past = c.loop-next-test.false in
    let count = c.len.ensures in
    let whole = c.loop-next.reached.entries.ok.0 in
    tests-live v es
    (reached-exactly v c.requires.sound c.loop-next.reached.seen.items es s.search s.roots c.loop-next.next
    (omega (arith, past, count, whole)) s.followed)

pub returns-clause-seen : goal.returns-clause-seen
returns-clause-seen c =
    seen-told c.args.view.now c.loop-next.reached.seen.items c.loop-next.reached.entries.items
    c.loop-next.invariant.search
