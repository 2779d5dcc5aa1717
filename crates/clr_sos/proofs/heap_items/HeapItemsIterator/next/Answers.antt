-- Where nothing is left of a segment, the next one is begun.
use Rattle.std.proofs.Common.{◌∙◌, ◌+◌, ◌-◌, ◌++◌, ap, arith, refl, sym}
use Rattle.std.specs.Prelude.{List}
use Rattle.clr_types.specs.declared.item.Item.{Item}
use Rattle.clr_heap.specs.View.{listings}
use Rattle.clr_sos.proofs.Walking.{next-ahead, none-before}
use Rattle.clr_sos.proofs.heap_items.HeapItemsIterator.next.Goals as goal

pub loop-found-init : goal.loop-found-init
loop-found-init c = record { inside = c.self.invariant; same = refl }

pub loop-found-preserved : goal.loop-found-preserved
loop-found-preserved c =
    let inside = c.loop-found.invariant.inside in
    let low = c.if-self.false in
    let rest = listings c.loop-found.self-inside.types.now c.loop-found.self-inside.heap.now
    (c.loop-found.self-inside.next + 1) (c.loop-found.self-inside.count - (c.loop-found.self-inside.next + 1)) in
    record {
      inside = record { walkable = inside.walkable; all = inside.all; some = omega (arith, low) };
      same = ap (λ (items : List Item). items ++ rest) c.walk-self-inside.ensures.items
          ∙ next-ahead c.loop-found.self-inside.types.now c.loop-found.self-inside.heap.now
          c.loop-found.self-inside.walk _ c.loop-found.self-inside.next c.loop-found.self-inside.count
          (none-before c.next-found.result c.loop-found.self-inside.walk c.next-found.new.self
          c.next-found.ensures.steps (sym c.is_some.ensures ∙ c.if-is_some.false))
          low c.loop-found.invariant.same;
    }
