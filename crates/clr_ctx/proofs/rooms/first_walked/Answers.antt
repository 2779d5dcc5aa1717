use Rattle.std.proofs.Common.{ℕ, ap, ◌∙◌}
use Rattle.clr_heap.specs.View.{listing}
use Rattle.clr_items.specs.Items.{first_fitting, free_from}
use Rattle.clr_ctx.proofs.Walks.{first_is}
use Rattle.clr_ctx.proofs.rooms.first_walked.Goals as goal

pub returns : goal.returns
returns c =
    let h = c.args.heap.now in
    let k = c.ephemeral-k.result in
    c.first_free.ensures
    ∙ ap (λ (p : ℕ × ℕ). first_fitting c.args.size (free_from p.1 (listing c.args.types.now h k)))
    c.boundaries-start0.ensures
    ∙ first_is c.args.types.now h k c.ephemeral-k.ensures.heap c.requires.held
    (record { in_range = c.ephemeral-k.ensures.in_range; is = c.ephemeral-k.ensures.segment }) c.args.size
