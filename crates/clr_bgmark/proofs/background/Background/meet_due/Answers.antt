use Rattle.std.proofs.Common.{inl, inr, subst, sym}
use Rattle.clr_bgmark.proofs.FoundPlaces.{behind_none}
use Rattle.clr_bgmark.proofs.Further.{behind_followed, passed_followed}
use Rattle.clr_bgmark.proofs.FoundMore.{GoesOn, meet_on, more_after, more_none}
use Rattle.clr_bgmark.proofs.background.Background.meet_due.Goals as goal

pub loop-near-init : goal.loop-near-init
loop-near-init c = record {
  work = c.requires.work;
  more = more_none c.args.types.now c.args.heap.now (λ y. ⊥) c.args.self.now;
  black = λ x f e behind. absurd (behind_none c.args.self.now.shades x behind);
}

pub meet_at-requires-clause-stands : goal.meet_at-requires-clause-stands
meet_at-requires-clause-stands c =
    let found = c.in-Some.ensures.found.found in
    c.loop-near.invariant.work.objects.marked c.in-Some.obj found.0 found.1

pub loop-near-preserved : goal.loop-near-preserved
loop-near-preserved c =
    let rows = c.args.types.now in
    let h = c.args.heap.now in
    let closed = c.requires.closed in
    let v = c.loop-near.self in
    let so_far = c.loop-near.invariant in
    let x = c.in-Some.obj in
    let on : GoesOn rows h (λ y. ⊥) v c.meet_at.new.self =
    subst (GoesOn rows h (λ y. ⊥) v) (sym c.meet_at.ensures)
    (meet_on rows h closed.heap closed.held v x c.in-Some.ensures.shades so_far.work c.in-Some.ensures.found.found
    (closed.named x)) in
    record {
      work = on.work;
      more = more_after rows h (λ y. ⊥) (λ y. ⊥) (λ y. ⊥) c.args.self.now v c.meet_at.new.self so_far.more on.more
          (λ y b. b) (λ y b. b);
      black = behind_followed rows h closed.heap closed.held closed v c.loop-near.spot.k c.loop-near.spot.from
          c.in-Some.near x c.in-Some.ensures.shades so_far.work c.in-Some.ensures.found so_far.black
          c.meet_at.new.self c.meet_at.ensures on.more.taken on.more.kept;
    }

pub returns-clause-black : goal.returns-clause-black
returns-clause-black c x f black =
    let rows = c.args.types.now in
    let h = c.args.heap.now in
    let closed = c.requires.closed in
    let so_far = c.loop-near.invariant in
    elim (c.in_default.ensures.none x f) [
      | inl behind ↦ so_far.black x f black behind
      | inr over ↦ passed_followed rows h closed.heap closed.held c.loop-near.self.shades so_far.work.objects
          so_far.work.log x f black over
    ]
