-- A new runtime shows the opening state.
use Rattle.std.proofs.Common.{ap, List, Option, subst, sym, refl, ◌≡◌}
use Rattle.clr_types.specs.declared.segment.SegKind.TheVariants.{Large, Pinned}
use Rattle.clr_types.specs.Ranges.{Piece}
use Rattle.clr_heap.specs.View.{HeapView, IsHeap}
use Rattle.clr_heap.proofs.Changing.{kept_opening}
use Rattle.clr_final.specs.Queues.{Queues}
use Rattle.clr_view.specs.World.{World}
use Rattle.clr_ctx.specs.Contexts.{IsIndex, young_items}
use Rattle.clr_large.specs.Places.{IsKindIndex, kind_items}
use Rattle.clr_options.specs.Options.{options_of}
use Rattle.clr_runtime.specs.Shown.{Ahead, nothing_ahead}
use Rattle.clr_runtime.proofs.IndexKept.{first_index}
use Rattle.clr_runtime.proofs.PinnedRoom.{ready_empty}
use Rattle.clr_runtime.proofs.Opened.{IsFirst, new_shown, new_stands, none_owed, none_told}
use Rattle.clr_runtime.proofs.StepsKept.{tables-carded}
use Rattle.clr_runtime.proofs.runtime.Runtime.with_mark_stack.Goals as goal
use Rattle.clr_runtime.proofs.runtime.Runtime.with_mark_stack.Goals.{After-new-5}

-- its world
abbrev made_world : After-new-5 → World
made_world c =
    let roots = c.in-Ok-first_roots.roots in
    record {
      rows = c.in-Ok.types;
      heap = c.in-Ok-first_space.space.heap;
      locals = roots.locals.items;
      handles = roots.handles;
      entries = roots.finals.entries;
      ready = roots.finals.ready;
    }

-- nothing lies ahead
abbrev made_ahead : After-new-5 → Ahead
made_ahead c = record {
  compacts_large = c.in-Ok-first_collector.collector.compacts_large;
  background = c.new-5.result;
}

made_nothing : (c : After-new-5) → made_ahead c ≡ nothing_ahead
made_nothing c = λ j. record {
  compacts_large = c.in-Ok-first_collector.ensures.compacts_large j;
  background = c.new-5.ensures j;
}

first : (c : After-new-5) → IsFirst (made_world c) c.args.options.segment c.args.options.limit
first c =
    let roots = c.in-Ok-first_roots.ensures in
    record {
      rows = c.in-Ok.ensures;
      heap = c.in-Ok-first_space.ensures.heap;
      locals = roots.locals;
      handles = roots.handles;
      entries = ap (λ (q : Queues). q.entries) roots.finals;
      ready = ap (λ (q : Queues). q.ready) roots.finals;
    }

pub returns-clause-opens : goal.returns-clause-opens
returns-clause-opens c = new_stands (made_world c) c.new-4.result c.new-4.ensures (made_ahead c) (made_nothing c)
    (options_of c.args.options) _ c.requires.lawful (first c)

pub invariant_of-result : goal.invariant_of-result
invariant_of-result c =
    let rows = c.in-Ok.types in
    let space = c.in-Ok-first_space.space in
    let empty = c.in-Ok-first_space.ensures.heap in
    let collector = c.in-Ok-first_collector.ensures in
    let options = c.requires.lawful in
    record {
      shown = new_shown (made_world c) c.new-4.result c.new-4.ensures (made_ahead c) (made_nothing c)
          (options_of c.args.options) _ options (first c);
      heap = subst IsHeap (sym empty)
          (kept_opening c.args.options.segment c.args.options.limit options.segment_aligned options.segment_least
          options.segment_greatest options.limit_least options.limit_greatest).heap;
      tables = tables-carded space.cards c.new-4.result space.bricks rows space.heap
          (c.in-Ok-first_space.ensures.tables rows);
      owed = none_owed c.new-4.result c.new-4.ensures _;
      finalizers = none_told c.new-4.result c.new-4.ensures rows;
      index = subst (λ (i : Option (List Piece)). IsIndex rows space.heap i) (sym collector.young)
          (first_index young_items rows space.heap c.args.options.segment _ options.segment_aligned
          c.in-Ok.ensures empty refl);
      large = subst (λ (i : Option (List Piece)). IsKindIndex Large rows space.heap i) (sym c.new-2.ensures)
          (first_index (kind_items Large) rows space.heap c.args.options.segment _ options.segment_aligned
          c.in-Ok.ensures empty refl);
      pinned = subst (λ (i : Option (List Piece)). IsKindIndex Pinned rows space.heap i) (sym c.new-3.ensures)
          (first_index (kind_items Pinned) rows space.heap c.args.options.segment _ options.segment_aligned
          c.in-Ok.ensures empty refl);
      limit = ap (λ (h : HeapView). h.limit) empty;
      ready = ready_empty c.in-Ok-first_roots.roots.handles _ c.in-Ok-first_roots.ensures.handles collector.saved
          collector.spare;
    }
