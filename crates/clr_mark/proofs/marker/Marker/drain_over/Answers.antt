use Rattle.std.proofs.Common.{◌≡◌, [], sym, ap, ◌∙◌, subst, ℕ}
use Rattle.clr_view.specs.Marks.{Marked}
use Rattle.clr_mark.specs.Waiting.{IsGrayBy, MarkerView}
use Rattle.clr_mark.specs.Markings.{HasGrayedBy, HasReached, IsRescannedBy}
use Rattle.clr_mark.specs.TieLists.{LeadsBy}
use Rattle.clr_mark.proofs.EdgeLaws.{all_by_marked, gray_by_lowest, gray_by_on, gray_by_round, gray_by_stack}
use Rattle.clr_mark.proofs.EdgeLaws.{marked_by-trans, round_by_lighter}
use Rattle.clr_mark.proofs.TieLaws.{ties_on, ties_stable}
use Rattle.clr_mark.proofs.marker.Marker.drain_over.Goals as goal

pub loop-low-init : goal.loop-low-init
loop-low-init c =
    let rows = c.args.types.now in
    let ties = c.args.ties.now in
    let g = c.empty_over.ensures.grayed in
    record {
      gray = gray_by_on rows (LeadsBy rows ties) (ties_stable rows ties) c.args.heap.now c.empty_over.new.heap
          c.args.self.now c.empty_over.new.self c.requires.gray g;
      marked = g.marked;
      empty = c.empty_over.ensures.empty;
      capacity = g.capacity;
      oldest = g.oldest;
    }

pub empty_over-requires : goal.empty_over-requires
empty_over-requires c =
    let rows = c.args.types.now in
    record {
      closed = c.requires.gray.closed;
      stacked = gray_by_stack rows (LeadsBy rows c.args.ties.now) c.args.heap.now c.args.self.now c.requires.gray;
      ties = c.requires.ties;
    }

pub rescan-requires : goal.rescan-requires
rescan-requires c =
    let rows = c.args.types.now in
    let ties = c.args.ties.now in
    let inv = c.loop-low.invariant in
    let closed = c.requires.gray.closed in
    record {
      closed = inv.gray.closed;
      ties = ties_on rows c.args.heap.now c.loop-low.heap closed.heap closed.held inv.marked.remarked ties
          c.requires.ties;
      empty = sym (ap (λ (m : MarkerView). m.stack) c.in-Some.ensures.some) ∙ inv.empty;
      lowest = gray_by_lowest rows (LeadsBy rows ties) c.loop-low.heap c.loop-low.self c.take_range.new.self
          (c.in-Some.low, c.in-Some.high) c.in-Some.ensures.some inv.gray;
    }

pub loop-low-preserved : goal.loop-low-preserved
loop-low-preserved c =
    let rows = c.args.types.now in
    let ties = c.args.ties.now in
    let closed = c.requires.gray.closed in
    let m = c.loop-low.self in
    let inv = c.loop-low.invariant in
    let now = c.loop-low.heap in
    let new = c.rescan.new.heap in
    let g = c.rescan.ensures.grayed in
    let same : c.take_range.new.self.oldest ≡ m.oldest =
    sym (ap (λ (n : MarkerView). n.oldest) c.in-Some.ensures.some) in
    let room : c.take_range.new.self.capacity ≡ m.capacity =
    sym (ap (λ (n : MarkerView). n.capacity) c.in-Some.ensures.some) in
    let more = subst (λ (b : ℕ). HasReached rows (LeadsBy rows ties now b) (Marked rows now) now new)
    (same ∙ inv.oldest) g.marked in
    record {
      gray = gray_by_round rows (LeadsBy rows ties) (ties_stable rows ties) now new m c.take_range.new.self
          c.rescan.new.self (c.in-Some.low, c.in-Some.high) inv.empty c.in-Some.ensures.some inv.gray g
          c.rescan.ensures.followed;
      marked = marked_by-trans rows (LeadsBy rows ties) (ties_stable rows ties) c.args.self.now.oldest c.args.heap.now
          now new closed.heap closed.held inv.marked more;
      empty = c.rescan.ensures.empty;
      capacity = g.capacity ∙ room ∙ inv.capacity;
      oldest = g.oldest ∙ same ∙ inv.oldest;
    }

pub loop-low-smaller : goal.loop-low-smaller
loop-low-smaller c =
    round_by_lighter c.args.types.now (LeadsBy c.args.types.now c.args.ties.now) c.loop-low.heap c.rescan.new.heap
    c.loop-low.self c.take_range.new.self c.rescan.new.self (c.in-Some.low, c.in-Some.high) c.in-Some.ensures.some
    c.rescan.ensures.grayed

pub returns : goal.returns
returns c =
    let rows = c.args.types.now in
    let ties = c.args.ties.now in
    let closed = c.requires.gray.closed in
    let m = c.loop-low.self in
    let inv = c.loop-low.invariant in
    let left : c.take_range.new.self ≡ m = c.in_default.ensures.none in
    let none : m.ranges ≡ [] = c.in_default.ensures.last in
    record {
      marker = left ∙ (λ k. record m {
        stack = inv.empty k;
        capacity = inv.capacity k;
        ranges = none k;
        oldest = inv.oldest k;
      });
      gray = subst (λ (n : MarkerView). IsGrayBy rows (LeadsBy rows ties) c.loop-low.heap n) (sym left) inv.gray;
      words = inv.marked.remarked;
      marked = λ x. (
        inv.marked.reached x,
        all_by_marked rows (LeadsBy rows ties) (ties_stable rows ties) c.args.heap.now c.loop-low.heap m
            c.args.self.now.oldest closed.heap closed.held inv.marked inv.gray
            (record { stack = inv.empty; ranges = none }) inv.oldest x,
      );
    }
