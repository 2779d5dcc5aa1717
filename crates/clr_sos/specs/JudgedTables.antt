-- What is known of the names in tables while windows go over the heap, and what is checked beside them.
use Rattle.std.specs.Prelude.{◌≡◌, ℕ, ◌<◌, ◌&&◌, ◌||◌, ◌↔◌, not, Bool, true, false, List, [], Some, None, IfSome}
use Rattle.std.specs.Prelude.{filter, nat_lt}
use Rattle.std.specs.List.{list_all}
use Rattle.std.specs.FinMap as finmap
use Rattle.std.specs.FinMap.{FinMap}
use Rattle.std.specs.Ordering.{nat_cmp}
use Rattle.clr_types.specs.Rising.{IsIn}
use Rattle.clr_types.specs.Types.{TypeRow}
use Rattle.clr_types.specs.declared.handle.Handle.{Handle}
use Rattle.clr_types.specs.declared.item.Item.{Item}
use Rattle.clr_heap.specs.View.{heap_items, word_of}
use Rattle.clr_model.specs.Lawful.{HasItsSecond}
use Rattle.clr_model.specs.Lookups.{is_thread}
use Rattle.clr_sos.specs.Faults.{addresses, is_name, lowest, references_fault}
use Rattle.clr_sos.specs.LawfulStates.{IsLawfulStep}
use Rattle.clr_sos.specs.Steps.{is_final_object, object_at, with_earlier}
use Rattle.clr_sos.specs.Windows.{in_window, is_bad_before, is_bad_in}
use Rattle.clr_sos.specs.declared.state.State.{State}
use Rattle.clr_sos.specs.declared.step.Step.{Step}
use Rattle.clr_sos.specs.declared.verify.names.Names.{Names}
use Rattle.clr_sos.specs.declared.verify.windows.Window.{Window}
use Rattle.clr_sos.specs.declared.view.View.{View}

-- no handle names what is wrong
abbrev pub NamesNone : FinMap nat_cmp Handle → (ℕ → Bool) → Type 0
NamesNone handles wrong =
    (k : ℕ) (row : Handle) → finmap.get handles k ≡ Some row → (wrong row.target ≡ false) × (wrong row.second ≡ false)

-- an object whose type has a finalizer stands at the place
abbrev pub is_final : List TypeRow → List Item → ℕ → Bool
is_final rows items place = is_final_object rows (object_at items place)

-- a place that is judged in this window, at which no object stands whose type has a finalizer
abbrev pub is_unfinal_in : List TypeRow → List Item → Window → ℕ → Bool
is_unfinal_in rows items window place = in_window window place && not (is_final rows items place)

-- one that was judged, where the windows have come to `from`, or are over
abbrev pub is_unfinal_before : List TypeRow → List Item → ℕ → Bool → ℕ → Bool
is_unfinal_before rows items from more place =
    (nat_lt place from || not more) && not (is_final rows items place)

-- no place of a list is such a one
abbrev pub are_final_in : List TypeRow → List Item → Window → List ℕ → Bool
are_final_in rows items window places = list_all (λ place. not (is_unfinal_in rows items window place)) places

abbrev pub are_final_before : List TypeRow → List Item → ℕ → Bool → List ℕ → Bool
are_final_before rows items from more places =
    list_all (λ place. not (is_unfinal_before rows items from more place)) places

-- what was found of the names of a view, where the windows have come to `from`, or are over
pub record IsJudgedBefore (v : View) (from : ℕ) (more : Bool) (names : Names) : Type 0 where
  pub low : names.low
      ≡ lowest None
      (filter (λ a. is_bad_before (heap_items v.types.now v.heap.now) from more (word_of v.heap.now a))
      (addresses v.types.now (heap_items v.types.now v.heap.now)))
  pub locals : names.locals
      ≡ list_all (λ x. not (is_bad_before (heap_items v.types.now v.heap.now) from more x)) v.locals.now
  pub handles : (names.handles ≡ true)
      ↔ NamesNone v.handles.now (is_bad_before (heap_items v.types.now v.heap.now) from more)
  pub finals : names.finals
      ≡ (are_final_before v.types.now (heap_items v.types.now v.heap.now) from more v.finals.now.entries
      && are_final_before v.types.now (heap_items v.types.now v.heap.now) from more v.finals.now.ready)

-- what was found of all names of a view
pub record AreJudged (v : View) (names : Names) : Type 0 where
  pub low : names.low ≡ references_fault v.types.now v.heap.now
  pub locals : names.locals ≡ list_all (is_name (heap_items v.types.now v.heap.now)) v.locals.now
  pub handles : (names.handles ≡ true)
      ↔ NamesNone v.handles.now (λ x. not (is_name (heap_items v.types.now v.heap.now) x))
  pub finals : names.finals
      ≡ (list_all (is_final v.types.now (heap_items v.types.now v.heap.now)) v.finals.now.entries
      && list_all (is_final v.types.now (heap_items v.types.now v.heap.now)) v.finals.now.ready)

-- What was found of the names of a view in a window and before it, where that before it is told.
pub record HasJudged (v : View) (window : Window) (old new : Names) : Type 0 where
  pub low : new.low
      ≡ lowest old.low
      (filter (λ a. is_bad_in (heap_items v.types.now v.heap.now) window (word_of v.heap.now a))
      (addresses v.types.now (heap_items v.types.now v.heap.now)))
  pub locals : new.locals
      ≡ (old.locals && list_all (λ x. not (is_bad_in (heap_items v.types.now v.heap.now) window x)) v.locals.now)
  pub handles : (new.handles ≡ true)
      ↔ ((old.handles ≡ true)
      × NamesNone v.handles.now (is_bad_in (heap_items v.types.now v.heap.now) window))
  pub finals : new.finals
      ≡ (old.finals && (are_final_in v.types.now (heap_items v.types.now v.heap.now) window v.finals.now.entries
      && are_final_in v.types.now (heap_items v.types.now v.heap.now) window v.finals.now.ready))

-- only a dependent handle whose target is an object has a second
abbrev pub AreOwned : FinMap nat_cmp Handle → Type 0
AreOwned handles = (k : ℕ) (row : Handle) → finmap.get handles k ≡ Some row → HasItsSecond row

-- each step is lawful
abbrev pub AreLawfulSteps : State → Type 0
AreLawfulSteps s =
    (e : List ℕ × Step) → IsIn e (with_earlier [] s.steps.now)
    → IsLawfulStep s.view.types.now s.view.large s.view.heap.now e

-- what is checked of a state beside its names
pub record AreLawfulOthers (s : State) : Type 0 where
  pub numbers : (k : ℕ) (row : Handle) → finmap.get s.view.handles.now k ≡ Some row → k < 65536
  pub owned : AreOwned s.view.handles.now
  pub steps : AreLawfulSteps s
  pub holder : IfSome s.holder (λ t. is_thread t ≡ true)
