-- Long weak handles are cleared, and then dependent ones.
use Rattle.std.proofs.Common.{rules, ap, ◌∙◌, subst, sym}
use Rattle.clr_types.specs.Maps.{map_values}
use Rattle.clr_types.specs.declared.handle.Kind.TheVariants.{Dependent, WeakLong}
use Rattle.clr_handles.specs.Laws.{cleared}
use Rattle.clr_view.specs.Memory.{is_left_name}
use Rattle.clr_view.specs.World.{HandlesStand}
use Rattle.clr_collect.proofs.ClearedHandles.{cleared_left, target_stands}
use Rattle.clr_collect.proofs.HandlesAfter.{cleared_stand}
use Rattle.clr_collect.proofs.judging.clear_long_and_dependent.Goals as goal

pub clear_long_from-requires : goal.clear_long_from-requires
clear_long_from-requires c = λ h row found kind some high κs p e a l.
    (c.requires.held, target_stands c.args.types.now c.args.heap.now row some (c.requires.handles h row found))

pub clear_dependent_from-requires : goal.clear_dependent_from-requires
clear_dependent_from-requires c =
    let long =
    cleared_left c.args.types.now c.args.heap.now c.args.marker.now.oldest c.lowest_condemned-low.result
    c.lowest_condemned-low.ensures.below WeakLong c.args.handles.now c.requires.handles _ _ c.clear_long_from.ensures
    (λ x kept answer. search rules) in
    λ h row found kind some high κs p e a l. (
      c.requires.held,
      target_stands c.args.types.now c.args.heap.now row some
          (subst (HandlesStand c.args.types.now c.args.heap.now) (sym long)
          (cleared_stand c.args.types.now c.args.heap.now WeakLong
          (is_left_name c.args.types.now c.args.heap.now c.args.marker.now.oldest) c.args.handles.now
          c.requires.handles) h row found),
    )

pub returns : goal.returns
returns c =
    let long =
    cleared_left c.args.types.now c.args.heap.now c.args.marker.now.oldest c.lowest_condemned-low.result
    c.lowest_condemned-low.ensures.below WeakLong c.args.handles.now c.requires.handles _ _ c.clear_long_from.ensures
    (λ x kept answer. search rules) in
    cleared_left c.args.types.now c.args.heap.now c.args.marker.now.oldest c.lowest_condemned-low.result
    c.lowest_condemned-low.ensures.below Dependent c.clear_long_from.new.self
    (subst (HandlesStand c.args.types.now c.args.heap.now) (sym long)
    (cleared_stand c.args.types.now c.args.heap.now WeakLong
    (is_left_name c.args.types.now c.args.heap.now c.args.marker.now.oldest) c.args.handles.now
    c.requires.handles)) _ _ c.clear_dependent_from.ensures (λ x kept answer. search rules)
    ∙ ap (map_values (cleared Dependent (is_left_name c.args.types.now c.args.heap.now c.args.marker.now.oldest))) long
