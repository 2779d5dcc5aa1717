use Rattle.std.proofs.Common.{List, ℕ, inl, sym, subst}
use Rattle.clr_types.specs.Rising.{IsIn}
use Rattle.clr_scan.proofs.GatheredWords.{scanned-roots}
use Rattle.clr_scan.proofs.together.mark_gathered.Goals as goal

pub mark_targets-requires-clause-objects : goal.mark_targets-requires-clause-objects
mark_targets-requires-clause-objects c y l =
    let n = c.requires.named y (subst (λ (ys : List ℕ). IsIn y ys) c.as_slice.ensures l) in
    c.requires.gray.closed.named n.by y n.leads.named

pub returns-clause-scanned : goal.returns-clause-scanned
returns-clause-scanned c =
    scanned-roots c.args.types.now c.args.heap.now c.mark_targets.new.heap c.drain_if_full.new.heap c.args.marker.now
    c.mark_targets.new.self c.drain_if_full.new.self c.as_slice.result.now c.requires.gray.closed.heap
    c.requires.gray.closed.held
    (λ y l. c.requires.named y (subst (λ (ys : List ℕ). IsIn y ys) c.as_slice.ensures l))
    c.mark_targets.ensures.words c.mark_targets.ensures.marked c.mark_targets.ensures.oldest
    c.mark_targets.ensures.capacity c.drain_if_full.ensures.marked c.drain_if_full.ensures.capacity
    c.drain_if_full.ensures.oldest

pub returns-clause-marked : goal.returns-clause-marked
returns-clause-marked c y l =
    let n = c.requires.named y l in
    c.drain_if_full.ensures.marked.kept y ((c.mark_targets.ensures.marked y).1 (inl
    (subst (λ (ys : List ℕ). IsIn y ys) (sym c.as_slice.ensures) l, n.leads.condemned)))
