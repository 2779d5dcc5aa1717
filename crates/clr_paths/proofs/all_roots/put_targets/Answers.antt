-- Handles are met one by one, and those that are roots are told.
use Rattle.std.proofs.Common.{◌+◌, inl, inr, ℕ, arith, subst, sym, ◌∙◌}
use Rattle.clr_paths.specs.AllRoots.{node_at, PutsRoots}
use Rattle.clr_paths.proofs.RootBlocks.{held-all, held-next, held-none, held-passed, held_below}
use Rattle.clr_paths.proofs.all_roots.put_targets.Goals.{then-is_root+in_ok-count, else-is_root}
use Rattle.clr_paths.proofs.all_roots.put_targets.Goals as goal

pub loop-number-init : goal.loop-number-init
loop-number-init c = record {
  told = held-none c.args.view.now (node_at c.args.numbers.now.places.items c.args.ways.now 0) c.args.text.now.items;
  few = omega arith;
  within = omega arith;
}

pub put_way-requires-clause-stands : goal.put_way-requires-clause-stands
put_way-requires-clause-stands c = λ some.
    let next = c.in-Some.ensures.found in
    elim (c.requires.sound.handles c.in-Some.number c.in-Some.handle next.in_use).target [
      | inl null ↦ absurd (some null)
      | inr stands ↦ stands
    ]

pub loop-number-preserved : goal.loop-number-preserved
loop-number-preserved c =
    let v = c.args.view.now in
    let a = node_at c.args.numbers.now.places.items c.args.ways.now 0 in
    let from = c.loop-number.from in
    let n = c.in-Some.number in
    let row = c.in-Some.handle in
    let next = c.in-Some.ensures.found in
    let s = c.loop-number.invariant in
    let few = s.few in
    let above = next.above in
    let below = c.in-Some.ensures.below n row next.in_use in
    let old = c.args.text.now.items in
    let now = c.loop-number.text.items in
    elim c.if-is_root.branch [
      | then-is_root+in_ok-count w ↦
          let one = w.in_ok-count.ensures.one in
          let count = w.count-is in
          record {
            told = subst (λ text. PutsRoots v a (held_below (n + 1)) c.if-is_root.count old text.items) (sym w.text-is)
                (subst (λ (k : ℕ). PutsRoots v a (held_below (n + 1)) k old w.put_way.new.text.items) (sym count)
                (held-next v a from n row next c.loop-number.count old now s.told
                (sym c.is_root.ensures ∙ w.if-is_root.true) w.in_ok-count.field-0 w.put_way.new.text.items
                w.in_ok-count.ensures.told));
            few = omega (arith, few, above, one, count);
            within = omega (arith, below);
          }
      | else-is_root w ↦
          let count = w.count-is in
          record {
            told = subst (λ text. PutsRoots v a (held_below (n + 1)) c.if-is_root.count old text.items) (sym w.text-is)
                (subst (λ (k : ℕ). PutsRoots v a (held_below (n + 1)) k old now) (sym count)
                (held-passed v a from n row next c.loop-number.count old now s.told
                (sym c.is_root.ensures ∙ w.if-is_root.false)));
            few = omega (arith, few, above, count);
            within = omega (arith, below);
          }
    ]

pub returns : goal.returns
returns c =
    held-all c.args.view.now (node_at c.args.numbers.now.places.items c.args.ways.now 0) c.loop-number.from
    c.loop-number.count c.args.text.now.items c.loop-number.text.items c.in_default.ensures.below
    c.in_default.ensures.none c.loop-number.invariant.told
