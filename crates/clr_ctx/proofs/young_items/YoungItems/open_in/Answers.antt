use Rattle.std.proofs.Common.{◌%◌, ℕ, ap, ◌∙◌}
use Rattle.clr_ctx.specs.Contexts.{share}
use Rattle.clr_ctx.proofs.Choices.{index_rises, share_aligned}
use Rattle.clr_ctx.proofs.young_items.YoungItems.open_in.Goals as goal

pub open_in_item-requires-clause-aligned : goal.open_in_item-requires-clause-aligned
open_in_item-requires-clause-aligned c =
    ap (λ (n : ℕ). n % 8) (c.share_of-taken.ensures ∙ ap (share c.args.size) c.size.ensures.value)
    ∙ share_aligned c.args.types.now c.args.heap.now c.args.size c.args.item c.requires.heap c.requires.held
    c.requires.listed c.requires.within c.requires.least c.requires.aligned

pub take_front-requires-clause-rising : goal.take_front-requires-clause-rising
take_front-requires-clause-rising c =
    index_rises c.args.types.now c.args.heap.now c.args.self.now c.self.inside.items.items c.self.inside.complete
    c.requires.heap c.requires.held c.requires.index c.self.view_is c.if-self.true
