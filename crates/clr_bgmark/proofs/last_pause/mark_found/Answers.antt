use Rattle.std.proofs.Common.{[], ◌∙◌}
use Rattle.clr_mark.proofs.Rooting.{IsRooting, rooting_ends}
use Rattle.clr_bgmark.specs.Pauses.{IsFound}
use Rattle.clr_bgmark.proofs.RootedFound.{found_rooting, known_on}
use Rattle.clr_bgmark.proofs.last_pause.mark_found.Goals.{After-mark_each}
use Rattle.clr_bgmark.proofs.last_pause.mark_found.Goals as goal

pub mark_each-requires-clause-heap : goal.mark_each-requires-clause-heap
mark_each-requires-clause-heap c = c.root_due.ensures.gray.closed.heap

pub mark_each-requires-clause-held : goal.mark_each-requires-clause-held
mark_each-requires-clause-held c = c.root_due.ensures.gray.closed.held

pub mark_each-requires-clause-objects : goal.mark_each-requires-clause-objects
mark_each-requires-clause-objects c =
    let closed = c.requires.gray.closed in
    known_on c.args.types.now c.args.heap.now c.root_due.new.heap closed.heap closed.held
    c.root_due.ensures.reached.remarked c.args.shades.now.items c.requires.objects

-- the law of a marking holds after all that is found was marked
rooting : (c : After-mark_each) → IsRooting c.args.types.now c.args.heap.now c.mark_each.new.heap c.args.marker.now
    c.root_due.new.marker (IsFound c.args.shades.now.items) (λ y. IsFound c.args.shades.now.items y)
rooting c =
    let closed = c.requires.gray.closed in
    let marks = c.mark_each.ensures in
    found_rooting c.args.types.now c.args.heap.now c.root_due.new.heap c.mark_each.new.heap c.args.marker.now
    c.root_due.new.marker closed.heap closed.held c.args.shades.now.items c.requires.objects c.requires.log
    c.root_due.ensures marks.words marks.kept marks.only marks.found

pub drain_slots-requires : goal.drain_slots-requires
drain_slots-requires c = (rooting (goal.at.drain_slots-requires c).After-mark_each).gray

pub returns : goal.returns
returns c =
    let inv = rooting (goal.at.returns c).After-mark_each in
    let closed = c.requires.gray.closed in
    let ss = c.args.shades.now.items in
    let ends = rooting_ends c.args.types.now c.args.heap.now c.mark_each.new.heap c.args.marker.now
    c.root_due.new.marker (IsFound ss) (λ y. IsFound ss y) closed.heap closed.held inv c.drain_slots.new.heap
    (λ y f. f) c.drain_slots.ensures.words c.drain_slots.ensures.marked in
    record {
      marker = c.drain_slots.ensures.marker ∙ (λ k. record c.root_due.new.marker {
        stack = [];
        capacity = inv.capacity k;
        ranges = [];
        oldest = inv.oldest k;
      });
      gray = c.drain_slots.ensures.gray;
      words = ends.words;
      marked = ends.marked;
    }
