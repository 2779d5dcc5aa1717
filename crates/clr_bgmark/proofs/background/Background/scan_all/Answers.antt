use Rattle.std.proofs.Common.{◌≡◌, [], subst, sym}
use Rattle.clr_view.specs.View.{objects_in}
use Rattle.clr_bgmark.specs.Closing.{HasFollowedBlack, HasFoundMore, IsAtWork}
use Rattle.clr_bgmark.specs.Scanning.{marking_in}
use Rattle.clr_bgmark.specs.Shades.{BackgroundView}
use Rattle.clr_bgmark.proofs.FoundMore.{more_after, more_none}
use Rattle.clr_bgmark.proofs.Further.{scan_followed}
use Rattle.clr_bgmark.proofs.ScanEnds.{fewer_left}
use Rattle.clr_bgmark.proofs.ScannedMore.{scanned_more_found, scanned_work}
use Rattle.clr_bgmark.proofs.background.Background.scan_all.Goals as goal

pub loop-known-init : goal.loop-known-init
loop-known-init c = record {
  known = c.none-known.ensures c.args.types.now;
  work = c.requires.work;
  more = more_none c.args.types.now c.args.heap.now (λ y. ⊥) c.args.self.now;
  black = c.requires.black;
}

pub loop-known-preserved : goal.loop-known-preserved
loop-known-preserved c =
    let rows = c.args.types.now in
    let h = c.args.heap.now in
    let closed = c.requires.closed in
    let v = c.loop-known.self in
    let w = c.scan_next.new.self in
    let so_far = c.loop-known.invariant in
    let done = c.scan_next.ensures in
    let one = done.scans c.loop-known-test.true in
    let more = scanned_more_found rows h closed.heap closed.held v w so_far.work done.objects done.whole done.counted
    done.log one done.rest done.taken in
    record {
      known = done.known;
      work = scanned_work rows h closed.heap closed.held v w so_far.work done.objects done.whole done.counted done.log
          one;
      more = more_after rows h (λ y. ⊥) (λ y. ⊥) (λ y. ⊥) c.args.self.now v w so_far.more more (λ y b. b) (λ y b. b);
      black = scan_followed rows h closed.heap closed.held closed v w so_far.work done.objects one done.taken more.kept
          so_far.black;
    }

pub returns-clause-work : goal.returns-clause-work
returns-clause-work c =
    subst (IsAtWork c.args.types.now c.args.heap.now) (sym (c.scan_next.ensures.none c.loop-known-test.false))
    c.loop-known.invariant.work

pub returns-clause-more : goal.returns-clause-more
returns-clause-more c =
    subst (HasFoundMore c.args.types.now c.args.heap.now (λ y. ⊥) c.args.self.now)
    (sym (c.scan_next.ensures.none c.loop-known-test.false)) c.loop-known.invariant.more

pub returns-clause-black : goal.returns-clause-black
returns-clause-black c =
    subst (λ (v : BackgroundView). HasFollowedBlack c.args.types.now c.args.heap.now v.shades)
    (sym (c.scan_next.ensures.none c.loop-known-test.false)) c.loop-known.invariant.black

pub returns-clause-none : goal.returns-clause-none
returns-clause-none c =
    subst (λ (v : BackgroundView). (marking_in (objects_in c.args.types.now c.args.heap.now) v.shades).gray ≡ [])
    (sym (c.scan_next.ensures.none c.loop-known-test.false)) (c.scan_next.ensures.empty c.loop-known-test.false)

pub loop-known-smaller : goal.loop-known-smaller
loop-known-smaller c =
    fewer_left c.args.types.now c.args.heap.now c.requires.closed.heap c.requires.closed.held c.loop-known.self
    c.scan_next.new.self c.loop-known.invariant.work (c.scan_next.ensures.scans c.loop-known-test.true)
