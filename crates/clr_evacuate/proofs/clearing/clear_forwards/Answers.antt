use Rattle.std.proofs.Common.{ℕ, ◌≤◌, ◌-◌, ap, sym, subst}
use Rattle.clr_heap.specs.View.{last_of}
use Rattle.clr_types.specs.declared.segment.SegInfo.{SegInfo}
use Rattle.clr_evacuate.specs.Forwarding.{AreCleared, IsBetween, IsBorderAt}
use Rattle.clr_evacuate.proofs.ClearedHeads.{cleared_cells, cleared_clean, cleared_heads, cleared_layout}
use Rattle.clr_evacuate.proofs.ClearedHeads.{cleared_objects}
use Rattle.clr_evacuate.proofs.ClearingLoops.{all_passed, border_at}
use Rattle.clr_evacuate.proofs.clearing.clear_forwards.Goals as goal
use Rattle.clr_evacuate.proofs.clearing.clear_forwards.Goals.{After-clear_between}

pub clear_between-requires-clause-heap : goal.clear_between-requires-clause-heap
clear_between-requires-clause-heap c = c.ephemeral-k.ensures.heap

pub clear_between-requires-clause-border : goal.clear_between-requires-clause-border
clear_between-requires-clause-border c =
    let rows = c.args.types.now in
    let h = c.args.heap.now in
    subst (λ (s : ℕ × ℕ). IsBorderAt rows h c.ephemeral-k.result s.0) (sym c.boundaries-start1.ensures)
    (border_at rows h c.ephemeral-k.result c.ephemeral-k.ensures.in_range c.ephemeral-k.ensures.segment
    c.requires.border)

pub clear_between-requires-clause-within : goal.clear_between-requires-clause-within
clear_between-requires-clause-within c =
    let h = c.args.heap.now in
    subst (λ (s : ℕ × ℕ). s.1 ≤ last_of h c.ephemeral-k.result) (sym c.boundaries-start1.ensures)
    (subst (λ (u : SegInfo). h.start0 ≤ u.end) (sym c.ephemeral-k.ensures.segment) c.requires.border.high)

-- what was cleared
record IsDone (c : After-clear_between) : Type 0 where
  to : ℕ
  most : c.args.heap.now.start0 ≤ to
  cleared : AreCleared c.args.types.now c.args.heap.now c.clear_between.new.heap
      (λ a. IsBetween c.args.heap.now.start1 to a)

done : (c : After-clear_between) → IsDone c
done c =
    let rows = c.args.types.now in
    let h = c.args.heap.now in
    let (to, most, cleared) = subst (λ (s : ℕ × ℕ). (to : ℕ) × (s.1 ≤ to)
    × AreCleared rows h c.clear_between.new.heap (λ a. IsBetween s.0 to a)) c.boundaries-start1.ensures
    c.clear_between.ensures in
    record { to = to; most = most; cleared = cleared }

pub returns-clause-free_heads : goal.returns-clause-free_heads
returns-clause-free_heads c = λ go forwards still.
    let d = done (goal.at.returns-clause-free_heads c).After-clear_between in
    let rows = c.args.types.now in
    let h = c.args.heap.now in
    let heap = c.ephemeral-k.ensures.heap in
    cleared_heads rows h c.clear_between.new.heap (λ a. IsBetween h.start1 d.to a) heap c.requires.held d.cleared go
    forwards (all_passed rows h go h.start1 h.start0 d.to heap c.requires.held still d.most)

pub returns-clause-objects : goal.returns-clause-objects
returns-clause-objects c =
    let d = done (goal.at.returns-clause-objects c).After-clear_between in
    cleared_objects c.args.types.now c.args.heap.now c.clear_between.new.heap
    (λ a. IsBetween c.args.heap.now.start1 d.to a) c.ephemeral-k.ensures.heap c.requires.held d.cleared

pub returns-clause-items : goal.returns-clause-items
returns-clause-items c = (done (goal.at.returns-clause-items c).After-clear_between).cleared.items

pub returns-clause-layout : goal.returns-clause-layout
returns-clause-layout c =
    let d = done (goal.at.returns-clause-layout c).After-clear_between in
    cleared_layout c.args.types.now c.args.heap.now c.clear_between.new.heap
    (λ a. IsBetween c.args.heap.now.start1 d.to a) c.ephemeral-k.ensures.heap c.requires.held d.cleared

pub returns-clause-cells : goal.returns-clause-cells
returns-clause-cells c =
    let d = done (goal.at.returns-clause-cells c).After-clear_between in
    cleared_cells c.args.types.now c.args.heap.now c.clear_between.new.heap
    (λ a. IsBetween c.args.heap.now.start1 d.to a) c.ephemeral-k.ensures.heap c.requires.held d.cleared

pub returns-clause-clean : goal.returns-clause-clean
returns-clause-clean c =
    let d = done (goal.at.returns-clause-clean c).After-clear_between in
    cleared_clean c.args.types.now c.args.heap.now c.clear_between.new.heap
    (λ a. IsBetween c.args.heap.now.start1 d.to a) c.ephemeral-k.ensures.heap c.requires.held d.cleared

pub returns-clause-shape : goal.returns-clause-shape
returns-clause-shape c = (done (goal.at.returns-clause-shape c).After-clear_between).cleared.shape

pub returns-clause-held : goal.returns-clause-held
returns-clause-held c = (done (goal.at.returns-clause-held c).After-clear_between).cleared.held
