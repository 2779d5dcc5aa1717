use Rattle.std.proofs.Common.{inl, inr, length, length-append, [], ◌∷◌, Some, None, ap, arith, refl, sym, subst}
use Rattle.clr_mark.specs.Waiting.{MarkerView}
use Rattle.clr_mark.specs.Markings.{HasGathered}
use Rattle.clr_mark.proofs.Graying.{object_word}
use Rattle.clr_mark.proofs.Gathering.{gathered_next, gathered_starts, some_is, taken_marked}
use Rattle.clr_mark.proofs.marker.Marker.gather_from_stack.Goals as goal

pub loop-obj-init : goal.loop-obj-init
loop-obj-init c = gathered_starts c.args.types.now c.args.heap.now c.args.self.now c.args.targets.now c.requires.empty

pub loop-obj-smaller : goal.loop-obj-smaller
loop-obj-smaller c =
    let stack = ap (λ (m : MarkerView). length m.stack) c.in-Some.ensures.some in
    let long = length-append c.pop_above.new.self.stack (c.in-Some.obj ∷ []) in
    omega (arith, stack, long)

pub segment_of-k-requires : goal.segment_of-k-requires
segment_of-k-requires c = object_word c.args.types.now c.args.heap.now 0 c.in-Some.obj c.requires.closed.heap
    c.requires.closed.held (taken_marked c.args.types.now c.args.heap.now c.args.self.now c.loop-obj.self
    c.pop_above.new.self c.in-Some.obj c.loop-obj.targets c.loop-obj.invariant c.in-Some.ensures.some
    c.requires.stacked).stands

pub add_targets-requires : goal.add_targets-requires
add_targets-requires c = record {
  closed = c.requires.closed;
  marked = taken_marked c.args.types.now c.args.heap.now c.args.self.now c.loop-obj.self c.pop_above.new.self
      c.in-Some.obj c.loop-obj.targets c.loop-obj.invariant c.in-Some.ensures.some c.requires.stacked;
  segment = c.segment_of-k.ensures;
}

pub loop-obj-preserved : goal.loop-obj-preserved
loop-obj-preserved c =
    gathered_next c.args.types.now c.args.heap.now c.args.self.now c.loop-obj.self c.pop_above.new.self c.in-Some.obj
    c.loop-obj.targets c.add_targets.new.targets c.loop-obj.invariant c.in-Some.ensures.some
    (taken_marked c.args.types.now c.args.heap.now c.args.self.now c.loop-obj.self c.pop_above.new.self
    c.in-Some.obj c.loop-obj.targets c.loop-obj.invariant c.in-Some.ensures.some c.requires.stacked)
    c.add_targets.ensures.kept c.add_targets.ensures.only None
    (inl (c.add_targets.ensures.all c.if-not-add_targets.false)) (λ z none. absurd cc)

pub returns-then-not-add_targets : goal.returns-then-not-add_targets
returns-then-not-add_targets c = record {
  gathered = gathered_next c.args.types.now c.args.heap.now c.args.self.now c.loop-obj.self c.pop_above.new.self
      c.in-Some.obj c.loop-obj.targets c.add_targets.new.targets c.loop-obj.invariant c.in-Some.ensures.some
      (taken_marked c.args.types.now c.args.heap.now c.args.self.now c.loop-obj.self c.pop_above.new.self c.in-Some.obj
      c.loop-obj.targets c.loop-obj.invariant c.in-Some.ensures.some c.requires.stacked) c.add_targets.ensures.kept
      c.add_targets.ensures.only (Some c.in-Some.obj) (inr refl) (some_is c.in-Some.obj);
}

pub returns : goal.returns
returns c =
    let P : MarkerView → Type 0 =
    λ m. HasGathered c.args.types.now c.args.heap.now c.args.self.now m c.loop-obj.targets None in
    record { gathered = subst P (sym c.in_default.ensures.none) c.loop-obj.invariant }
