-- The slots of each entry are followed once, and its bytes are counted then.
use Rattle.std.proofs.Common.{◌+◌, ◌<◌, ◌≤◌, length, arith}
use Rattle.clr_model.specs.Lookups.{object_size}
use Rattle.clr_mark.specs.Roots.{IsRoot}
use Rattle.clr_sos.proofs.Searching.{listed-on}
use Rattle.clr_objsize.proofs.CountedEntries.{bytes-few, bytes-more, none-among, sum-grown, total-of}
use Rattle.clr_objsize.proofs.SlotsAlone.{slots-exactly, slots-followed}
use Rattle.clr_objsize.proofs.sizes.total_of_locals.Goals as goal

pub loop-next-init : goal.loop-next-init
loop-next-init c = record {
  search = c.in_ok-reached.ensures.added.search;
  roots = c.in_ok-reached.ensures.added.added;
  followed = λ i y low. absurd (omega (arith, low));
  within = omega arith;
  bytes = none-among c.args.view.now c.in_ok-reached.reached.entries.items (object_size c.args.view.now.types.now);
}

pub overflow_add-bytes : goal.overflow_add-bytes
overflow_add-bytes c =
    let v = c.args.view.now in
    let s = c.loop-next.invariant in
    let es = c.loop-next.reached.entries.items in
    let n = c.loop-next.next in
    let item = c.in_ok-item.item in
    let below = c.loop-next-test.true in
    let count = c.len.ensures in
    let whole = c.loop-next.reached.entries.ok.0 in
    let inside : n < length es = omega (arith, below, count, whole) in
    let more = bytes-more v c.requires.sound c.loop-next.reached.seen.items es s.search n item inside
    c.in_ok-item.ensures.item in
    let few = bytes-few v c.requires.sound c.loop-next.reached.seen.items es s.search (n + 1) in
    let so_far = s.bytes in
    let small : c.loop-next.bytes + item.size ≤ 1073741824 = omega (arith, more, few, so_far) in
    omega (arith, small)

pub loop-next-preserved : goal.loop-next-preserved
loop-next-preserved c =
    let v = c.args.view.now in
    let s = c.loop-next.invariant in
    let es = c.loop-next.reached.entries.items in
    let new = c.follow_slots.new.self.entries.items in
    let n = c.loop-next.next in
    let item = c.in_ok-item.item in
    let slots = c.in_ok-item.ensures.added in
    let below = c.loop-next-test.true in
    let count = c.len.ensures in
    let whole = c.loop-next.reached.entries.ok.0 in
    let inside : n < length es = omega (arith, below, count, whole) in
    let more = bytes-more v c.requires.sound c.loop-next.reached.seen.items es s.search n item inside
    c.in_ok-item.ensures.item in
    let same = sum-grown v es new slots.grown (n + 1) (omega (arith, inside)) (object_size v.types.now) in
    let longer = slots.grown.longer in
    let so_far = s.bytes in
    record {
      search = slots.search;
      roots = λ x root. listed-on es new x slots.grown (s.roots x root);
      followed = slots-followed v c.requires.sound c.requires.handles c.requires.ready es new
          c.follow_slots.new.self.seen.items n inside s.followed slots;
      within = omega (arith, inside, longer);
      bytes = omega (arith, more, same, so_far);
    }

pub returns : goal.returns
returns c =
    let v = c.args.view.now in
    let s = c.loop-next.invariant in
    let seen = c.loop-next.reached.seen.items in
    let es = c.loop-next.reached.entries.items in
    let n = c.loop-next.next in
    let past = c.loop-next-test.false in
    let count = c.len.ensures in
    let whole = c.loop-next.reached.entries.ok.0 in
    let within = s.within in
    total-of v c.requires.sound seen es s.search (IsRoot v.locals.now)
    (slots-exactly v c.requires.sound c.requires.handles c.requires.ready seen es s.search s.roots n
    (omega (arith, past, count, whole)) s.followed) n c.loop-next.bytes (omega (arith, past, count, whole, within))
    s.bytes
