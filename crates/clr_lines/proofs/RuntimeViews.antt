-- What the commands look at, from what a runtime tells of its parts.
use Rattle.std.proofs.Common.{◌≡◌, ℤ, List, refl, sym, ap, subst, ◌∙◌}
use Rattle.clr_types.specs.Types.{TypeRow}
use Rattle.clr_covers.specs.Covers.{CoverView}
use Rattle.clr_bricks.specs.Bricks.{entry_at}
use Rattle.clr_model.specs.Lawful.{IsPlaceNamed}
use Rattle.clr_model.specs.Machine.{Machine, Object}
use Rattle.clr_types.specs.Segments.{Layout}
use Rattle.clr_heap.specs.View.{frame, HeapView, IsHeap}
use Rattle.clr_view.specs.Clean.{AreClean}
use Rattle.clr_view.specs.Marks.{IsUnmarked}
use Rattle.clr_view.specs.View.{AreFreeHeads, IsHeld, layout_in, objects_in}
use Rattle.clr_generations.specs.Laws.{BrickLaw}
use Rattle.clr_generations.specs.Tables.{AreBricksOf}
use Rattle.clr_generations.proofs.ChangedObjects.{same-objects}
use Rattle.clr_generations.proofs.KeptLaws.{brick_law-kept, same-places}
use Rattle.clr_generations.proofs.KeptTables.{bounds-from}
use Rattle.clr_sos.specs.CleanStates.{IsCleanState}
use Rattle.clr_sos.specs.Views.{IsLawfulView, IsViewOf}
use Rattle.clr_sos.specs.declared.view.View.{View}

-- the parts of a view are those of a runtime that is seen as this machine
pub record IsTakenFrom (v : View) (m : Machine) : Type 0 where
  pub types : v.types.now ≡ m.types
  pub objects : m.objects ≡ objects_in m.types v.heap.now
  pub layout : m.layout ≡ layout_in m.types v.heap.now
  pub heap : IsHeap v.heap.now
  pub held : IsHeld m.types v.heap.now
  pub unmarked : IsUnmarked m.types v.heap.now
  pub free_heads : AreFreeHeads m.types v.heap.now
  pub clean : AreClean m.types v.heap.now
  pub sound : IsPlaceNamed m
  pub bricks : AreBricksOf m.layout v.bricks.now
  pub brick_law : BrickLaw m.types m.layout m.objects (entry_at v.bricks.now)
  pub locals : v.locals.now ≡ m.locals
  pub handles : v.handles.now ≡ m.handles
  pub entries : v.finals.now.entries ≡ m.entries
  pub ready : v.finals.now.ready ≡ m.ready
  pub limit : v.limit ≡ m.options.limit
  pub large : v.large ≡ m.options.large

-- free items play no part in the law of bricks
law-framed : (rows : List TypeRow) (h : HeapView) (covers : List (CoverView ℤ))
    → BrickLaw rows (layout_in rows h) (objects_in rows h) (entry_at covers)
    → BrickLaw rows (frame h) (objects_in rows h) (entry_at covers)
law-framed rows h covers =
    let objects : List Object = objects_in rows h in
    brick_law-kept rows rows (layout_in rows h) (frame h) objects objects
    (bounds-from (layout_in rows h) (frame h) refl refl refl)
    (same-places rows rows objects objects (same-objects rows objects)) (entry_at covers)

module _ (v : View) (m : Machine) (is : IsTakenFrom v m) where
  types-are : m.types ≡ v.types.now
  types-are = sym is.types

  objects-are : m.objects ≡ objects_in v.types.now v.heap.now
  objects-are = is.objects ∙ ap (λ (rows : List TypeRow). objects_in rows v.heap.now) types-are

  layout-is : m.layout ≡ layout_in v.types.now v.heap.now
  layout-is = is.layout ∙ ap (λ (rows : List TypeRow). layout_in rows v.heap.now) types-are

  pub taken_seen : IsViewOf v m
  taken_seen = record {
    types = types-are;
    objects = objects-are;
    layout = layout-is;
    locals = sym is.locals;
    handles = sym is.handles;
    entries = sym is.entries;
    ready = sym is.ready;
    limit = sym is.limit;
  }

  held-here : IsHeld v.types.now v.heap.now
  held-here = subst (λ (rows : List TypeRow). IsHeld rows v.heap.now) types-are is.held

  law-here : BrickLaw v.types.now (layout_in v.types.now v.heap.now) (objects_in v.types.now v.heap.now)
      (entry_at v.bricks.now)
  law-here =
      subst (λ (os : List Object). BrickLaw v.types.now (layout_in v.types.now v.heap.now) os (entry_at v.bricks.now))
      objects-are
      (subst (λ (l : Layout). BrickLaw v.types.now l m.objects (entry_at v.bricks.now)) layout-is
      (subst (λ (rows : List TypeRow). BrickLaw rows m.layout m.objects (entry_at v.bricks.now)) types-are
      is.brick_law))

  pub taken_lawful : IsLawfulView v
  taken_lawful = record {
    heap = is.heap;
    held = held-here;
    bricks = subst (λ (l : Layout). AreBricksOf l v.bricks.now) layout-is is.bricks;
    brick_law = law-framed v.types.now v.heap.now v.bricks.now law-here;
    machine = (m, taken_seen, is.sound);
  }

  pub taken_clean : IsCleanState v m
  taken_clean = record {
    held = held-here;
    unmarked = subst (λ (rows : List TypeRow). IsUnmarked rows v.heap.now) types-are is.unmarked;
    free_heads = subst (λ (rows : List TypeRow). AreFreeHeads rows v.heap.now) types-are is.free_heads;
    clean = subst (λ (rows : List TypeRow). AreClean rows v.heap.now) types-are is.clean;
    seen = taken_seen;
    sound = is.sound;
    large = is.large;
  }
