-- A new segment leaves all items, and cards and bricks are those of the heap with it.
use Rattle.std.proofs.Common.{List, subst₂, sym, ℤ}
use Rattle.clr_bricks.specs.Bricks.{entry_at}
use Rattle.clr_covers.specs.Covers.{CoverView}
use Rattle.clr_heap.specs.View.{frame, HeapView}
use Rattle.clr_view.specs.View.{objects_in}
use Rattle.clr_generations.specs.Laws.{BrickLaw}
use Rattle.clr_generations.proofs.KeptItems.{kept_clean, kept_heads, kept_objects, kept_unmarked, KeepsItems}
use Rattle.clr_large.proofs.AcquiredKind.{acquired_items, acquired_kept, acquired_layout, acquired_names}
use Rattle.clr_large.proofs.AcquiredKind.{acquired_bricks}
use Rattle.clr_large.proofs.acquiring.acquire_of_kind.Goals as goal

-- all items stay
kept : (c : goal.In_ok-acquire) → KeepsItems c.args.types.now c.args.heap.now c.acquire.new.heap
kept c =
    acquired_kept c.args.kind c.requires.old c.args.types.now c.args.heap.now c.lawful.ensures c.requires.held
    c.args.size c.acquire.new.heap
    c.in_ok-acquire.ensures.acquired c.in_ok-acquire.ensures.lawful

pub returns-clause-objects : goal.returns-clause-objects
returns-clause-objects c =
    kept_objects c.args.types.now c.args.heap.now c.acquire.new.heap c.lawful.ensures c.requires.held (kept c)

pub returns-clause-layout : goal.returns-clause-layout
returns-clause-layout c =
    acquired_layout c.args.kind c.requires.old c.args.types.now c.args.heap.now c.lawful.ensures c.requires.held
    c.args.size c.acquire.new.heap
    c.in_ok-acquire.ensures.acquired c.in_ok-acquire.ensures.lawful

pub returns-clause-items : goal.returns-clause-items
returns-clause-items c =
    acquired_items c.args.kind c.requires.old c.args.types.now c.args.heap.now c.lawful.ensures c.requires.held
    c.args.size c.acquire.new.heap
    c.in_ok-acquire.ensures.acquired c.in_ok-acquire.ensures.lawful

pub returns-clause-held : goal.returns-clause-held
returns-clause-held c = (kept c).held

pub returns-clause-unmarked : goal.returns-clause-unmarked
returns-clause-unmarked c =
    kept_unmarked c.args.types.now c.args.heap.now c.acquire.new.heap c.lawful.ensures c.requires.held (kept c)

pub returns-clause-free_heads : goal.returns-clause-free_heads
returns-clause-free_heads c =
    kept_heads c.args.types.now c.args.heap.now c.acquire.new.heap c.lawful.ensures c.requires.held (kept c)

pub returns-clause-clean : goal.returns-clause-clean
returns-clause-clean c =
    kept_clean c.args.types.now c.args.heap.now c.acquire.new.heap c.lawful.ensures c.requires.held (kept c)

pub returns-clause-brick_law : goal.returns-clause-brick_law
returns-clause-brick_law c =
    acquired_bricks c.args.kind c.requires.old c.args.types.now c.args.heap.now c.lawful.ensures c.requires.held
    c.args.size c.acquire.new.heap c.in_ok-acquire.ensures.acquired c.in_ok-acquire.ensures.lawful c.args.bricks.now
    c.acquire.new.bricks c.requires.bricks c.acquire.ensures.entries

pub returns-clause-names : goal.returns-clause-names
returns-clause-names c =
    acquired_names c.args.kind c.requires.old c.args.types.now c.args.heap.now c.lawful.ensures c.requires.held
    c.args.size c.acquire.new.heap c.in_ok-acquire.ensures.acquired c.in_ok-acquire.ensures.lawful

-- where none is acquired, heap and bricks are what they were
pub returns-in_err-acquire-clause-brick_law : goal.returns-in_err-acquire-clause-brick_law
returns-in_err-acquire-clause-brick_law c = λ law.
    subst₂ (λ (h : HeapView) (bricks : List (CoverView ℤ)). BrickLaw c.args.types.now (frame h)
    (objects_in c.args.types.now h) (entry_at bricks)) (sym c.in_err-acquire.ensures.heap)
    (sym c.in_err-acquire.ensures.same_bricks) law
