use Rattle.std.proofs.Common.{◌≡◌, ℕ, ◌+◌, ap, sym, ◌∙◌, subst, length, ◌<◌, arith}
use Rattle.clr_types.specs.declared.segment.SegInfo.{SegInfo}
use Rattle.clr_bricks.specs.Bricks.{entry_at}
use Rattle.clr_heap.specs.View.{first_of, frame, HeapView, segment_at}
use Rattle.clr_view.specs.View.{objects_in}
use Rattle.clr_generations.specs.Laws.{IsBrickOf}
use Rattle.clr_generations.proofs.HeapHomes.{heap_homes}
use Rattle.clr_compact.specs.Entered.{AreEnteredBelow, CanEnterFrom}
use Rattle.clr_compact.proofs.EnteringParts.{entered-none}
use Rattle.clr_compact.proofs.part_bricks.enter_whole_part.Goals as goal

pub returns-clause-entered : goal.returns-clause-entered
returns-clause-entered c =
    let rows = c.args.types.now in
    let h = c.args.heap.now in
    let k = c.args.k in
    let entry = entry_at c.clear_bricks.new.bricks in
    let from : first_of h k ≡ c.info-from.result.base + 4096 =
    ap (λ (s : SegInfo). s.base + 4096) (sym c.info-from.ensures.value) in
    λ final can.
    (let at : segment_at final k ≡ segment_at h k = ap (λ (g : HeapView). segment_at g k) can.shape.others in
    let count = ap (λ (g : HeapView). length g.segments) can.shape.others in
    let inside : k < length final.segments = let l = c.requires.in_range in omega (arith, count, l) in
    let first : first_of final k ≡ c.info-from.result.base + 4096 = ap (λ (s : SegInfo). s.base + 4096) at ∙ from in
    let P : ℕ → Type 0 = λ n. AreEnteredBelow rows (frame final) (objects_in rows final) entry (segment_at final k) n in
    c.enter_bricks.ensures.entered final (subst (CanEnterFrom rows h final k) from can)
    (subst P first (entered-none rows (frame final) (objects_in rows final) entry (segment_at final k)
    (heap_homes rows final can.heap can.held k inside)
    (λ b of. c.clear_bricks.ensures.none b (subst (λ (s : SegInfo). IsBrickOf s b) at of)))))
