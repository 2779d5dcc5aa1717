use Rattle.std.proofs.Common.{sym, subst, arith}
use Rattle.clr_sweep.specs.Fronts.{HasFronts}
use Rattle.clr_bgmark.specs.Shades.{BackgroundView}
use Rattle.clr_bgmark.specs.Tiles.{AreFronts, AreParts, HasFoundMarks, HaveSameBases}
use Rattle.clr_bgmark.proofs.FrontsMarked.{fronts_marked}
use Rattle.clr_bgmark.proofs.PutFronts.{part_size}
use Rattle.clr_bgmark.proofs.background.Background.mark_behind.Goals as goal

pub mark_behind-requires-clause-aligned : goal.mark_behind-requires-clause-aligned
mark_behind-requires-clause-aligned c =
    let bases = subst (λ (v : BackgroundView). HaveSameBases c.args.heap.now v.shades) (sym c.self.view_is)
    c.requires.bases in
    let fronts = subst (λ (v : BackgroundView). AreFronts c.args.types.now c.args.heap.now v.shades v.fronts)
    (sym c.self.view_is) c.requires.fronts in
    let count = bases.0 in
    λ k inside. fronts.2 k (omega (arith, count, inside))

pub returns-clause-fronts : goal.returns-clause-fronts
returns-clause-fronts c =
    let rows = c.args.types.now in
    let h = c.args.heap.now in
    let new = c.mark_behind.new.heap in
    let ss = c.self.inside.shades.items in
    let fs = c.self.inside.fronts.items in
    let is = sym c.self.view_is in
    let parts = subst (λ (b : BackgroundView). AreParts b.shades b.parts) is c.requires.parts in
    let bases = subst (λ (b : BackgroundView). HaveSameBases h b.shades) is c.requires.bases in
    let fronts = subst (λ (b : BackgroundView). AreFronts rows h b.shades b.fronts) is c.requires.fronts in
    λ v. subst (λ (b : BackgroundView). HasFoundMarks rows h v b.shades → HasFronts rows new v b.fronts) c.self.view_is
    (fronts_marked rows h new v ss fs c.requires.heap c.requires.held c.requires.unmarked c.self.invariant.background.apart bases
    (part_size ss c.self.inside.parts.items parts) fronts c.mark_behind.ensures)
