use Rattle.std.proofs.Common.{ap, ◌∙◌}
use Rattle.clr_bgmark.specs.Shades.{BackgroundView, one_more}
use Rattle.clr_bgmark.proofs.background.Background.gray_white.Goals as goal

pub returns : goal.returns
returns c =
    (λ i. record {
      running = c.self.inside.running;
      parts = c.self.inside.parts.items;
      fronts = c.self.inside.fronts.items;
      shades = c.self.inside.shades.items;
      gray = c.saturating_add-self-inside.ensures i;
    })
    ∙ ap (λ (v : BackgroundView). record v { gray = one_more v.gray }) (c.self.view_is ∙ c.mark_near.ensures)
