use Rattle.std.proofs.Common.{rules, ◌<◌, subst}
use Rattle.clr_heap.proofs.Rewrite.{shaped_heap}
use Rattle.clr_model.specs.Compaction.{moved_by}
use Rattle.clr_survivors.proofs.NamesGone.{handles-gone, told}
use Rattle.clr_survivors.proofs.PartsAbove.{below-stays}
use Rattle.clr_survivors.proofs.roots.move_handles.Goals as goal

pub relocate_unpinned_from-requires : goal.relocate_unpinned_from-requires
relocate_unpinned_from-requires c =
    let (p, guides, go) = c.requires.go in
    λ h row found. (
      λ some high.
          (c.requires.least, (p, guides, go.targets h row found)),
      λ some high.
          (c.requires.least, (p, guides, go.seconds h row found)),
    )

pub returns : goal.returns
returns c = record {
  gone = λ p guides go null.
      handles-gone _ (moved_by p.moves) c.first_in_parts-low.result
      c.args.handles.now c.relocate_unpinned_from.new.self c.relocate_unpinned_from.ensures null
      (λ place under. below-stays p.rows c.args.heap.now c.args.bricks.now c.args.g p.moves
      (shaped_heap p.view c.args.heap.now guides.overlaid.shape guides.overlaid.heap) guides.told place
      (subst (λ low. place < low) c.first_in_parts-low.ensures under))
      (λ k row moved here answer.
      let say =
      told p c.args.heap.now c.args.bricks.now c.args.g row.target moved guides (go.targets k row here) in
      search (rules, say))
      (λ k row here pins. go.pinned k row here pins)
      (λ k row moved here answer.
      let say =
      told p c.args.heap.now c.args.bricks.now c.args.g row.second moved guides (go.seconds k row here) in
      search (rules, say));
}
