-- The cards and bricks of a runtime's heap, after a type was defined, and after an object was born.
use Rattle.std.proofs.Common.{◌≡◌, ◌∙◌, ℕ, ◌≤◌, List, [], ◌∷◌, ◌++◌, map, ap, sym, subst, ℤ}
use Rattle.std.specs.List.{AllByRecursion}
use Rattle.std.specs.Prelude.{OnErr, OnOk, Result, Ok, Err}
use Rattle.clr_types.specs.Types.{has_finalizer, TypeRow}
use Rattle.clr_types.specs.declared.TypeId.{TypeId}
use Rattle.clr_types.specs.declared.fault.DefineFault.{DefineFault}
use Rattle.clr_types.proofs.GrownTables.{type_row-grown}
use Rattle.clr_covers.specs.Covers.{CoverView, spans}
use Rattle.clr_bricks.specs.Bricks.{entry_at}
use Rattle.clr_heap.specs.View.{frame, heap_items, HeapView, word_of}
use Rattle.clr_model.specs.Lawful.{StepIsPresent}
use Rattle.clr_model.specs.Machine.{Machine, Options, Sums}
use Rattle.clr_view.specs.Among.{AreClosedAmong}
use Rattle.clr_view.specs.View.{HasNewborn, objects_in}
use Rattle.clr_view.specs.World.{World}
use Rattle.clr_view.proofs.TypeMore.{objects_with_type}
use Rattle.clr_collect.proofs.WorldNames.{slots_stand}
use Rattle.clr_generations.specs.Laws.{BrickLaw, NamesNoMore}
use Rattle.clr_generations.specs.Tables.{AreTablesBy}
use Rattle.clr_generations.proofs.KeptTables.{tables-born, tables-typed}
use Rattle.clr_safe.specs.Threads.{step_by, Threads}
use Rattle.clr_safe.specs.declared.begun.Begun.{Begun}
use Rattle.clr_safe.specs.declared.begun.Begun.TheVariants.{Birth, Nothing, Store}
use Rattle.clr_runtime.specs.RuntimeView.{IsShown, IsToldBy, TellsFinalizer}
use Rattle.clr_runtime.specs.Shown.{Ahead, shown}
use Rattle.clr_runtime.proofs.CollectLines.{world-seen}
use Rattle.clr_runtime.proofs.StepsKept.{stayed-born, stayed-typed, tables-told}

-- with one type more, what is begun tells the same of the types that there were
finalizers-grown : (m : Machine) (row : TypeRow) (begun : List Begun)
    → AllByRecursion (StepIsPresent m) (map step_by begun) → AllByRecursion (TellsFinalizer m.types) begun
    → AllByRecursion (TellsFinalizer (m.types ++ row ∷ [])) begun
finalizers-grown m row [] present tells = tt
finalizers-grown m row (Nothing ∷ more) present tells = (tt, finalizers-grown m row more present.1 tells.1)
finalizers-grown m row (Store object slot ∷ more) present tells =
    (tt, finalizers-grown m row more present.1 tells.1)
finalizers-grown m row (Birth type len local finalizer ∷ more) present tells = (
  tells.0 ∙ ap has_finalizer (sym (type_row-grown m.types row type.0 present.0.1)),
  finalizers-grown m row more present.1 tells.1,
)

module _ {w : World} {sums : Sums} {options : Options} {threads : Threads} {ahead : Ahead}
    (is : IsShown w sums options threads ahead) where
  -- ---- a type was defined, or none

  module _ (after : List TypeRow) (row : TypeRow) where
    pub defined_tables : (cards : List (CoverView ℕ)) (bricks : List (CoverView ℤ)) (result : Result TypeId DefineFault)
        → OnOk result (after ≡ w.rows ++ row ∷ []) → OnErr result (after ≡ w.rows)
        → AreTablesBy w.rows w.heap cards bricks (IsToldBy w.rows w.heap cards threads)
        → AreTablesBy after w.heap cards bricks (IsToldBy after w.heap cards threads)
    defined_tables cards bricks (Ok t) grown kept tables =
        subst (λ (rs : List TypeRow). AreTablesBy rs w.heap cards bricks (IsToldBy rs w.heap cards threads)) (sym grown)
        (tables-told cards threads bricks w.rows (w.rows ++ row ∷ []) w.heap w.heap
        (stayed-typed (shown w sums options threads ahead) row (objects_in (w.rows ++ row ∷ []) w.heap)
        is.sound.lawful.shapes (objects_with_type w.rows row w.heap is.held.walkable))
        (tables-typed cards bricks w.rows row w.heap is.held tables))
    defined_tables cards bricks (Err f) grown kept tables =
        subst (λ (rs : List TypeRow). AreTablesBy rs w.heap cards bricks (IsToldBy rs w.heap cards threads)) (sym kept)
        tables

    pub defined_finalizers : (result : Result TypeId DefineFault) → OnOk result (after ≡ w.rows ++ row ∷ [])
        → OnErr result (after ≡ w.rows) → AllByRecursion (TellsFinalizer w.rows) threads.begun
        → AllByRecursion (TellsFinalizer after) threads.begun
    defined_finalizers (Ok t) grown kept tells =
        subst (λ (rs : List TypeRow). AllByRecursion (TellsFinalizer rs) threads.begun) (sym grown)
        (finalizers-grown (shown w sums options threads ahead) row threads.begun is.sound.lawful.names.steps tells)
    defined_finalizers (Err f) grown kept tells =
        subst (λ (rs : List TypeRow). AllByRecursion (TellsFinalizer rs) threads.begun) (sym kept) tells

  -- ---- an object was born

  -- all that a slot names stands
  pub closed : AreClosedAmong w.rows (word_of w.heap) (heap_items w.rows w.heap)
  closed x y e = slots_stand w (shown w sums options threads ahead) (world-seen threads ahead) is.sound x y e

  -- THE BIRTH: its cards and bricks are those of the new heap
  pub birth_tables : (thread : ℕ) (new : HeapView) (t n : ℕ) (cards : List (CoverView ℕ))
      (before bricks : List (CoverView ℤ)) → HasNewborn w.rows w.heap new thread t n → spans bricks ≡ spans before
      → (w.heap.start1 ≤ w.heap.start0
      → BrickLaw w.rows (frame w.heap) (objects_in w.rows w.heap) (entry_at before)
      → BrickLaw w.rows (frame new) (objects_in w.rows new) (entry_at bricks))
      → (AreClosedAmong w.rows (word_of w.heap) (heap_items w.rows w.heap)
      → NamesNoMore w.rows (frame w.heap) (objects_in w.rows w.heap) (frame new) (objects_in w.rows new))
      → AreTablesBy w.rows w.heap cards before (IsToldBy w.rows w.heap cards threads)
      → AreTablesBy w.rows new cards bricks (IsToldBy w.rows new cards threads)
  birth_tables thread new t n cards before bricks newborn same brick_law no_more tables =
      tables-told cards threads bricks w.rows w.rows w.heap new
      (stayed-born w.rows (objects_in w.rows w.heap) (objects_in w.rows new) _ newborn.objects)
      (tables-born cards before w.rows w.heap new thread t n newborn bricks same (no_more closed)
      (brick_law is.sound.lawful.laid.layout.start1_high) tables)
