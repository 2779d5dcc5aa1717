use Rattle.std.proofs.Common.{◌-◌, ap, ◌∙◌}
use Rattle.clr_heap.specs.View.{word_of}
use Rattle.clr_mark.specs.Markings.{references_at}
use Rattle.clr_bgmark.specs.Shades.{BackgroundView, met_all}
use Rattle.clr_bgmark.proofs.EarlyBlack.{passed_all}
use Rattle.clr_bgmark.proofs.FollowedSlots.{head}
use Rattle.clr_bgmark.proofs.background.Background.scan.Goals as goal

pub segment_near-k-requires : goal.segment_near-k-requires
segment_near-k-requires c =
    (head c.args.types.now c.args.heap.now c.requires.heap c.requires.held c.args.obj c.requires.stands).mt

pub returns-clause-value : goal.returns-clause-value
returns-clause-value c v all gray old =
    let word = word_of c.args.heap.now in
    let offsets = references_at c.args.types.now c.args.heap.now c.args.obj in
    (λ i. record {
      running = c.self.inside.running;
      parts = c.self.inside.parts.items;
      fronts = c.self.inside.fronts.items;
      shades = c.self.inside.shades.items;
      gray = c.saturating_sub-self-inside.ensures i;
    })
    ∙ ap (λ (w : BackgroundView). record w { gray = w.gray - 1 })
    (c.self.view_is ∙ c.meet_object.ensures.met
    ∙ ap (λ (w : BackgroundView). met_all word w c.args.obj offsets) old
    ∙ passed_all word c.args.obj offsets v all gray)
