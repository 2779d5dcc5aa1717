-- A set for each segment so far, with no number in it.
use Rattle.std.proofs.Common.{ap, arith, false, get_or, ℕ, List, [], length, subst, sym, ◌≡◌, ◌≤◌, ◌*◌, ◌-◌, ◌/◌}
use Rattle.clr_types.specs.declared.segment.SegInfo.{SegInfo}
use Rattle.clr_heap.specs.View.{segment_at}
use Rattle.clr_sos.specs.Bits.{has_bit}
use Rattle.clr_sos.proofs.FreshMarks.{fresh-clear, fresh-count, fresh-each, none-in_none}
use Rattle.clr_sos.proofs.reach.Reached.new.Goals as goal

pub loop-k-init : goal.loop-k-init
loop-k-init c =
    let none = c.new-seen.ensures.items in
    record {
      count = ap (λ (sets : List (List ℕ)). length sets) none;
      room = λ j within. absurd (omega (arith, within));
      clear = λ j n. subst (λ (sets : List (List ℕ)). has_bit (get_or sets j []) n ≡ false) (sym none) (none-in_none n);
    }

pub loop-k-preserved : goal.loop-k-preserved
loop-k-preserved c =
    let l = c.loop-k in
    let was = l.invariant in
    let bits = c.in_ok-bits.bits in
    let e = c.in_ok-push.ensures.items in
    let wide = subst (λ (s : SegInfo). (s.end - s.base) / 8 ≤ 64 * length bits) c.info-segment.ensures.value
    c.in_ok-bits.ensures.room in
    record {
      count = rw e (fresh-count l.seen.items bits l.k was.count);
      room = λ j within. rw e
          (fresh-each (λ (i : ℕ) (b : List ℕ).
          ((segment_at c.args.heap.now i).end - (segment_at c.args.heap.now i).base) / 8 ≤ 64 * length b)
          l.seen.items bits l.k was.count was.room wide j within);
      clear = λ j n. rw e (fresh-clear l.seen.items bits was.clear c.in_ok-bits.ensures.none j n);
    }
