use Rattle.std.proofs.Common.{ℕ, ◌+◌, ◌≤◌, ap, arith, inl, inr, subst, ◌∙◌}
use Rattle.clr_mark.specs.Markings.{HasMarked}
use Rattle.clr_mark.specs.Waiting.{MarkerView}
use Rattle.clr_mark.proofs.Laws.{waiting_keeps}
use Rattle.clr_mark.proofs.Remarking.{keeps_stands}
use Rattle.clr_mark.proofs.Rooting.{all_condemned, rooting_more, rooting_starts}
use Rattle.clr_bgmark.specs.Pauses.{IsFound}
use Rattle.clr_bgmark.proofs.FoundPlaces.{behind_none}
use Rattle.clr_bgmark.proofs.RootedFound.{IsVisited, visited_more}
use Rattle.clr_bgmark.proofs.last_pause.root_found.Goals as goal

pub loop-k-init : goal.loop-k-init
loop-k-init c =
    rooting_starts c.args.types.now c.args.heap.now c.args.marker.now (IsFound c.args.shades.now.items)
    (IsVisited c.args.search c.args.shades.now.items 0 0) c.requires.gray
    (λ y s v. behind_none c.args.shades.now.items y v.0)

pub root-requires : goal.root-requires
root-requires c =
    let inv = c.loop-k.invariant in
    let closed = c.requires.gray.closed in
    let found = c.in-Some.ensures.found.found in
    record {
      gray = inv.gray;
      object = keeps_stands c.args.types.now c.args.heap.now c.loop-k.heap closed.heap closed.held
          inv.reached.remarked c.in-Some.obj (c.requires.objects.marked c.in-Some.obj found.0 found.1);
    }

pub loop-k-preserved : goal.loop-k-preserved
loop-k-preserved c =
    let rows = c.args.types.now in
    let h = c.args.heap.now in
    let m = c.args.marker.now in
    let ss = c.args.shades.now.items in
    let closed = c.requires.gray.closed in
    let keeps = waiting_keeps c.loop-k.heap c.loop-k.marker c.in-Some.obj in
    let oldest = ap (λ (n : MarkerView). n.oldest) c.root.ensures.marker ∙ keeps.0 in
    let capacity = ap (λ (n : MarkerView). n.capacity) c.root.ensures.marker ∙ keeps.1 in
    let drained = subst (λ (b : ℕ). HasMarked rows b c.root.new.heap c.drain_if_full.new.heap) oldest
    c.drain_if_full.ensures.marked in
    let full = c.requires.oldest in
    let two : 2 ≤ m.oldest = omega arith in
    let next = c.in-Some.ensures.found in
    rooting_more rows h c.loop-k.heap m c.loop-k.marker (IsFound ss)
    (IsVisited c.args.search ss c.loop-k.spot.k c.loop-k.spot.from) closed.heap closed.held c.loop-k.invariant
    (IsVisited c.args.search ss c.in-Some.k (c.in-Some.obj + 8)) c.root.new.heap c.drain_if_full.new.heap
    c.drain_if_full.new.self c.in-Some.obj (λ near. next.found) (λ y s. all_condemned h m.oldest y two)
    (visited_more c.args.search ss c.loop-k.spot.k c.loop-k.spot.from c.in-Some.k c.in-Some.obj next)
    c.root.ensures.words c.root.ensures.marked drained c.drain_if_full.ensures.gray
    (c.drain_if_full.ensures.capacity ∙ capacity) (c.drain_if_full.ensures.oldest ∙ oldest)

pub returns : goal.returns
returns c =
    let inv = c.loop-k.invariant in
    record {
      gray = inv.gray;
      reached = inv.reached;
      due = λ x found sought. elim (c.in_default.ensures.none x found) [
        | inl behind ↦ inv.done x found (behind, sought)
        | inr over ↦ absurd (sought over)
      ];
      capacity = inv.capacity;
      oldest = inv.oldest;
    }
