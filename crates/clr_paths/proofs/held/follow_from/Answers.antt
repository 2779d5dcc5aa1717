-- Each entry is followed once, and its bytes are added then.
use Rattle.std.proofs.Common.{◌≡◌, ◌<◌, ◌∙◌, ap, arith, length}
use Rattle.clr_sos.proofs.Searching.{grown-refl, grown-trans}
use Rattle.clr_paths.specs.Held.{bytes_among}
use Rattle.clr_paths.proofs.HeldReach.{followed-led}
use Rattle.clr_paths.proofs.HeldSums.{bytes_from-few, bytes_from-more, item-small}
use Rattle.clr_paths.proofs.held.follow_from.Goals as goal

pub loop-next-init : goal.loop-next-init
loop-next-init c = record {
  search = c.requires.search;
  grown = grown-refl c.args.reached.now.entries.items;
  from = omega arith;
  within = c.requires.within;
  followed = λ j y from low. absurd (omega (arith, from, low));
  bytes = omega arith;
}

pub overflow_add-bytes : goal.overflow_add-bytes
overflow_add-bytes c =
    let v = c.args.view.now in
    let s = c.loop-next.invariant in
    let es = c.loop-next.reached.entries.items in
    let few = bytes_from-few v c.requires.sound c.loop-next.reached.seen.items es s.search c.args.start
    c.loop-next.next c.loop-next.bytes s.bytes in
    let small = item-small v c.requires.sound c.loop-next.reached.seen.items es s.search _ c.in_ok-item.item
    c.in_ok-item.ensures.item in
    omega (arith, few, small)

pub loop-next-preserved : goal.loop-next-preserved
loop-next-preserved c =
    let v = c.args.view.now in
    let s = c.loop-next.invariant in
    let es = c.loop-next.reached.entries.items in
    let new = c.follow.new.reached.entries.items in
    let n = c.loop-next.next in
    let led = c.in_ok-item.ensures.led in
    let below = c.loop-next-test.true in
    let count = c.len.ensures in
    let whole = c.loop-next.reached.entries.ok.0 in
    let inside : n < length es = omega (arith, below, count, whole) in
    let longer = led.grown.longer in
    let from = s.from in
    record {
      search = c.in_ok-item.ensures.search;
      grown = grown-trans c.args.reached.now.entries.items es new s.grown led.grown;
      from = omega (arith, from);
      within = omega (arith, inside, longer);
      followed = λ j y after low. followed-led v es new n inside led j y low (λ early. s.followed j y after early);
      bytes = bytes_from-more v c.requires.sound c.loop-next.reached.seen.items es s.search new c.args.start n
          c.loop-next.bytes c.in_ok-item.item led.grown s.from inside c.in_ok-item.ensures.item s.bytes;
    }

pub returns-clause-followed : goal.returns-clause-followed
returns-clause-followed c =
    let past = c.loop-next-test.false in
    let count = c.len.ensures in
    let whole = c.loop-next.reached.entries.ok.0 in
    λ j y from l. c.loop-next.invariant.followed j y from (omega (arith, past, count, whole, l))

pub returns-clause-sum : goal.returns-clause-sum
returns-clause-sum c =
    let s = c.loop-next.invariant in
    let es = c.loop-next.reached.entries.items in
    let past = c.loop-next-test.false in
    let count = c.len.ensures in
    let whole = c.loop-next.reached.entries.ok.0 in
    let within = s.within in
    let from = s.from in
    let all : c.loop-next.next ≡ length es = omega (arith, past, count, whole, within) in
    record {
      objects = omega (arith, all, from);
      bytes = s.bytes ∙ ap (bytes_among c.args.view.now es) all;
    }
