use Rattle.std.proofs.Common.{◌≡◌, ℕ, ℤ, ap, subst, sym, ◌∙◌, [], if◌then◌else◌}
use Rattle.clr_types.specs.Segments.{ephemeral, reserved_end, same_kind}
use Rattle.clr_types.specs.declared.segment.SegInfo.{SegInfo}
use Rattle.clr_types.specs.declared.segment.SegKind.TheVariants.{Ephemeral}
use Rattle.clr_bricks.specs.Bricks.{entry_at}
use Rattle.clr_heap.specs.View.{frame, HeapView, items_between, segment_at, word_of}
use Rattle.clr_view.specs.View.{objects_in}
use Rattle.clr_generations.specs.Laws.{AreEntered, IsBrickOf}
use Rattle.clr_compact.specs.Entered.{AreEnteredBelow, forgotten}
use Rattle.clr_compact.specs.PartBricks.{both_restored}
use Rattle.clr_compact.specs.Rewrites.{cleared, Rewrites}
use Rattle.clr_compact.proofs.EnteringParts.{restored-away}
use Rattle.clr_compact.proofs.PartBricks.{forgotten-alike}
use Rattle.clr_compact.proofs.part_bricks.enter_young_part.Goals as goal

pub returns-clause-words : goal.returns-clause-words
returns-clause-words c =
    let rows = c.args.types.now in
    let h = c.args.heap.now in
    let P : SegInfo → Type 0 = λ s. Rewrites (cleared (items_between (record {
      rows = rows;
      word = word_of h;
      holes = if same_kind s.kind Ephemeral then h.rests else [];
    }) c.args.part.start s.end)) (word_of h) (word_of c.enter_bricks.new.heap) in
    λ e inside is. subst P (c.ephemeral-k.ensures.segment ∙ sym is) c.enter_bricks.ensures.words

pub returns-clause-entered : goal.returns-clause-entered
returns-clause-entered c =
    let rows = c.args.types.now in
    let h = c.args.heap.now in
    let k = c.ephemeral-k.result in
    let from = c.args.part.start in
    let end = c.args.part.end in
    let below = c.args.planned.now.below in
    let first = c.args.planned.now.first in
    let entry = entry_at c.args.bricks.now in
    λ final all.
    (let young = all k c.ephemeral-k.ensures.in_range c.ephemeral-k.ensures.segment in
    let shape = young.walked.shape.others in
    let at : segment_at final k ≡ segment_at h k = ap (λ (g : HeapView). segment_at g k) shape in
    let is : segment_at final k ≡ ephemeral (frame final) =
    at ∙ c.ephemeral-k.ensures.segment ∙ sym (ap (λ (g : HeapView). ephemeral (frame g)) shape) in
    let room : reserved_end (segment_at final k) ≡ reserved_end (segment_at h k) = ap reserved_end at in
    let P : (ℕ → ℤ) → Type 0 =
    λ f. AreEnteredBelow rows (frame final) (objects_in rows final) f (segment_at final k) from in
    let R : ℕ → Type 0 = λ n. P (forgotten (both_restored entry from n below first) from end) in
    let same : forgotten (both_restored entry from (reserved_end (segment_at h k)) below first) from end
    ≡ entry_at c.forget_bricks.new.bricks =
    λ x i. sym (c.forget_bricks.ensures.entries i ∙ forgotten-alike
    (both_restored entry from (reserved_end (segment_at h k)) below first)
    (entry_at c.restore_both.new.bricks) from end i (c.restore_both.ensures.entries i)) x in
    subst (AreEntered rows (frame final) (objects_in rows final) (entry_at c.enter_bricks.new.bricks)) is
    (c.enter_bricks.ensures.entered final young.walked (subst P same (subst R room young.entered))))

pub returns-clause-others : goal.returns-clause-others
returns-clause-others c =
    let h = c.args.heap.now in
    let k = c.ephemeral-k.result in
    let room = reserved_end (segment_at h k) in
    let young = c.requires.young k c.ephemeral-k.ensures.in_range c.ephemeral-k.ensures.segment in
    λ brick out.
    (let away : IsBrickOf (segment_at h k) brick → ⊥ =
    λ of. out (subst (λ (s : SegInfo). IsBrickOf s brick) c.ephemeral-k.ensures.segment of) in
    c.enter_bricks.ensures.others brick away ∙ c.forget_bricks.ensures.entries brick
    ∙ forgotten-alike
    (both_restored (entry_at c.args.bricks.now)
    c.args.part.start room c.args.planned.now.below c.args.planned.now.first)
    (entry_at c.restore_both.new.bricks) c.args.part.start c.args.part.end brick (c.restore_both.ensures.entries brick)
    ∙ restored-away h k c.args.part.start c.args.part.end c.args.planned.now.below c.args.planned.now.first
    c.ephemeral-k.ensures.heap c.ephemeral-k.ensures.in_range young.low young.order young.high
    (entry_at c.args.bricks.now) brick away)
