use Rattle.std.proofs.Common.{sym, subst}
use Rattle.clr_bgmark.specs.Shades.{BackgroundView}
use Rattle.clr_bgmark.specs.Tiles.{HaveSameBases}
use Rattle.clr_bgmark.proofs.PutFronts.{are_fronts}
use Rattle.clr_bgmark.proofs.background.Background.settle.Goals as goal

pub returns-clause-fronts : goal.returns-clause-fronts
returns-clause-fronts c =
    let bases = subst (λ (v : BackgroundView). HaveSameBases c.args.heap.now v.shades) (sym c.self.view_is)
    c.requires.bases in
    are_fronts c.args.types.now c.args.heap.now c.requires.heap c.requires.held c.requires.unmarked
    c.requires.free_heads c.self.inside.shades.items c.self.invariant.background.apart c.put_fronts.new.fronts.items
    c.put_fronts.ensures.room bases c.put_fronts.ensures.fronts
