use Rattle.std.proofs.Common.{refl, inl, ap, ◌∙◌}
use Rattle.clr_mark.specs.Waiting.{MarkerView}
use Rattle.clr_mark.proofs.Laws.{waiting_keeps}
use Rattle.clr_scan.proofs.CardScans.{scanned-root}
use Rattle.clr_scan.proofs.slots.mark_target.Goals as goal

pub returns-clause-scanned : goal.returns-clause-scanned
returns-clause-scanned c =
    let rows = c.args.types.now in
    let h = c.args.heap.now in
    let m = c.args.marker.now in
    let keeps = waiting_keeps h m c.args.target in
    let closed = c.requires.gray.closed in
    scanned-root rows h c.root.new.heap c.drain_if_full.new.heap m c.root.new.self c.drain_if_full.new.self
    c.args.target closed.heap closed.held c.requires.named
    c.root.ensures.words c.root.ensures.marked (ap (λ (m : MarkerView). m.oldest) c.root.ensures.marker ∙ keeps.0)
    (ap (λ (m : MarkerView). m.capacity) c.root.ensures.marker ∙ keeps.1)
    c.drain_if_full.ensures.marked c.drain_if_full.ensures.capacity c.drain_if_full.ensures.oldest

pub returns-clause-marked : goal.returns-clause-marked
returns-clause-marked c near =
    c.drain_if_full.ensures.marked.kept c.args.target ((c.root.ensures.marked c.args.target).1 (inl (refl, near)))
