-- Short weak handles are cleared.
use Rattle.std.proofs.Common.{rules}
use Rattle.clr_types.specs.declared.handle.Kind.TheVariants.{Weak}
use Rattle.clr_collect.proofs.ClearedHandles.{cleared_left, target_stands}
use Rattle.clr_collect.proofs.judging.clear_short.Goals as goal

pub clear_short_from-requires : goal.clear_short_from-requires
clear_short_from-requires c = λ h row found kind some high κs p e a l.
    (c.requires.held, target_stands c.args.types.now c.args.heap.now row some (c.requires.handles h row found))

pub returns : goal.returns
returns c =
    cleared_left c.args.types.now c.args.heap.now c.args.marker.now.oldest c.lowest_condemned-low.result
    c.lowest_condemned-low.ensures.below Weak c.args.handles.now c.requires.handles _ _ c.clear_short_from.ensures
    (λ x kept answer. search rules)
