-- A new context for a thread: what is seen with it, and what still holds of the parts of a runtime.
use Rattle.std.proofs.Common.{◌≡◌, ◌∙◌, ℕ, zero, suc, ◌+◌, ◌-◌, ◌<◌, ◌≤◌, ◌&&◌, Bool, true, false, List, [], ◌∷◌}
use Rattle.std.proofs.Common.{refl, sym, ap, subst, arith, Option, Some, None, is_some, IfSome}
use Rattle.std.specs.Prelude.{slice_get}
use Rattle.std.specs.List.{AllByRecursion}
use Rattle.std.proofs.lemmas.Bool.{le-leb, lt-leb}
use Rattle.clr_types.specs.declared.segment.SegKind.TheVariants.{Large, Pinned}
use Rattle.clr_types.specs.Ranges.{IsLawfulSize, Piece}
use Rattle.clr_heap.specs.View.{HeapView, IsHeap}
use Rattle.clr_ctx.specs.Contexts.{IsIndex}
use Rattle.clr_safe.specs.Threads.{Threads}
use Rattle.clr_runtime.specs.Shown.{Ahead, shown}
use Rattle.clr_view.specs.View.{HasRefilled, layout_in, objects_in}
use Rattle.clr_view.specs.World.{World}
use Rattle.clr_view.proofs.Unmarked.{unmarked_kept}
use Rattle.clr_generations.proofs.KeptTables.{tables-refilled}
use Rattle.clr_model.specs.Allocation.{has_room, own_fits, with_layout}
use Rattle.clr_model.specs.Lawful.{IsLawful, IsPlaceNamed}
use Rattle.clr_model.specs.Lookups.{is_step, is_thread, lowest_in_step, step_of, step_or_none}
use Rattle.clr_model.specs.Machine.{Machine, no_step, Options, Sums, ThreadStep}
use Rattle.clr_model.proofs.CollectedPresent.{all_idle}
use Rattle.clr_model.proofs.ContextRefilled.{refill_lawful}
use Rattle.clr_large.specs.Places.{kind_items}
use Rattle.clr_large.proofs.KindKept.{kind_refilled}
use Rattle.clr_runtime.specs.Rooms.{HasNewContext, IsRefill, IsRefillInBudget}
use Rattle.clr_runtime.specs.RuntimeView.{IsRuntime, IsShown, seen}
use Rattle.clr_runtime.specs.declared.parts.Parts.{Parts}
use Rattle.clr_runtime.proofs.IndexKept.{index_kept}
use Rattle.clr_runtime.proofs.StepsKept.{stayed-same, tables-told}
use Rattle.clr_runtime.proofs.MarkedKept.{same_marked}

-- the numbers from 1 to 16 are threads
pub thread-known : (t : ℕ) → 0 < t → t ≤ 16 → is_thread t ≡ true
thread-known t low high = λ i. le-leb 1 t (omega arith) i && le-leb t 16 high i

-- where no thread is in mid-step, this one isn't
pub thread-idle : (s : Machine) (t : ℕ) → lowest_in_step s ≡ None → is_step (step_of s t) ≡ false
thread-idle s t none = go s.steps (t - 1) (all_idle 1 s.steps none)
  where
    go : (steps : List ThreadStep) (i : ℕ) → AllByRecursion (λ (x : ThreadStep). x ≡ no_step) steps
        → is_step (step_or_none (slice_get steps i)) ≡ false
    go [] i all = refl
    go (x ∷ xs) zero all = ap is_step all.0
    go (x ∷ xs) (suc i) all = go xs i all.1

-- ---- what is seen with a new context

module _ {w : World} {sums : Sums} {options : Options} {threads : Threads} {ahead : Ahead}
    (is : IsShown w sums options threads ahead)
    (t size : ℕ) (low : 0 < t)
    (high : t ≤ 16) (idle : is_step (step_of (shown w sums options threads ahead) t) ≡ false)
    (sized : IsLawfulSize size)
    (mid : HeapView) (refilled : HasRefilled w.rows w.heap mid t size) where
  abbrev s : Machine
  s = shown w sums options threads ahead

  abbrev relaid : Machine
  relaid = with_layout s (layout_in w.rows mid)

  relaid-shown : shown (record w { heap = mid }) sums options threads ahead ≡ relaid
  relaid-shown = λ k. record
      (shown (record w { heap = mid }) sums options threads ahead) { objects = refilled.objects k }

  relaid-lawful : IsLawful relaid × (own_fits (layout_in w.rows mid) t size ≡ true)
  relaid-lawful =
      refill_lawful s is.sound.lawful t (thread-known t low high) idle size sized
      (layout_in w.rows mid) refilled.layout

  -- it is the machine of before with that context
  pub has_context : HasNewContext (shown w sums options threads ahead)
      (shown (record w { heap = mid }) sums options threads ahead)
      t size
  has_context = record { refilled = refilled.layout; same = relaid-shown; fits = relaid-lawful.1 }

  -- and what holds of the parts still holds
  pub refill_kept : IsHeap w.heap → IsShown (record w { heap = mid }) sums options threads ahead
  refill_kept heap = record {
    locals = is.locals;
    held = refilled.held;
    unmarked = unmarked_kept w.rows w.heap heap is.held mid refilled.objects refilled.cells is.unmarked;
    free_heads = refilled.free_heads is.free_heads;
    clean = refilled.clean is.clean;
    sound = subst IsPlaceNamed (sym relaid-shown)
        (record { lawful = relaid-lawful.0; places = is.sound.places; uncounted = is.sound.uncounted });
    marked = same_marked s (shown (record w { heap = mid }) sums options threads ahead) refilled.objects refl refl
        ahead.background is.marked;
  }

-- ---- what a refill answers

-- the parts with another heap and another index of young items
abbrev pub relaid_parts : Parts → HeapView → Option (List Piece) → Parts
relaid_parts p heap index = record p {
  space = record p.space { heap = heap };
  collector = record p.collector { young = index };
}

module _ (p : Parts) (is : IsRuntime p) (t size : ℕ) (low : 0 < t) (high : t ≤ 16)
    (idle : is_step (step_of (seen p) t) ≡ false) (sized : IsLawfulSize size) (mid : HeapView)
    (index : Option (List Piece)) where
  -- A refill gives the thread a new context, or nothing has changed. What holds of a runtime holds of its parts.
  pub refill_answers : (r : Option (Unit {0}))
      → (r ≡ None → (has_room (layout_in p.types p.space.heap) size ≡ false) × (mid ≡ p.space.heap)
      × (index ≡ p.collector.young))
      → IfSome r (λ _. HasRefilled p.types p.space.heap mid t size) → IsIndex p.types mid index
      → IsRefill p (relaid_parts p mid index) t size (is_some r) × IsRuntime (relaid_parts p mid index)
  refill_answers None none some listed =
      let (full, same, kept) = none refl in
      let parts : relaid_parts p mid index ≡ p = λ k. relaid_parts p (same k) (kept k) in
      ((full, parts), subst IsRuntime (sym parts) is)
  refill_answers (Some _) none refilled listed = (
    has_context is.shown t size low high idle sized mid refilled,
    record {
      shown = refill_kept is.shown t size low high idle sized mid refilled is.heap;
      heap = refilled.heap;
      tables = tables-told p.space.cards p.safe p.space.bricks p.types p.types p.space.heap mid
          (stayed-same p.types (objects_in p.types p.space.heap) (objects_in p.types mid) refilled.objects)
          (tables-refilled p.space.cards p.space.bricks p.types p.space.heap mid t size refilled is.tables);
      owed = is.owed;
      finalizers = is.finalizers;
      index = listed;
      large = index_kept (kind_items Large) p.types p.types p.space.heap mid p.large
          (kind_refilled (seen p) is.shown.sound.lawful Large refl t size (layout_in p.types mid) refilled.layout)
          is.large;
      pinned = index_kept (kind_items Pinned) p.types p.types p.space.heap mid p.pinned
          (kind_refilled (seen p) is.shown.sound.lawful Pinned refl t size (layout_in p.types mid) refilled.layout)
          is.pinned;
      limit = refilled.limit ∙ is.limit;
      ready = is.ready;
    },
  )

-- ---- the budget

-- more than the budget has
pub over_budget : (p : Parts) (t size : ℕ) → p.options.b0 < p.sums.spent0 + size → IsRefillInBudget p p t size false
over_budget p t size over =
    (ap (λ b. b && has_room (seen p).layout size) (lt-leb (p.sums.spent0 + size) p.options.b0 over), refl)

-- a refill of what it has
pub within_budget : (p q : Parts) (t size : ℕ) (b : Bool) → p.sums.spent0 + size ≤ p.options.b0
    → IsRefill p q t size b → IsRefillInBudget p q t size b
within_budget p q t size true within made = (le-leb (p.sums.spent0 + size) p.options.b0 within, made)
within_budget p q t size false within (full, same) =
    (λ i. le-leb (p.sums.spent0 + size) p.options.b0 within i && full i, same)
