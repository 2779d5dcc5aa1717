-- What lines and collections work on: types, a heap, and all that names objects from outside of it.
use Rattle.std.specs.Prelude.{◌≡◌, ℕ, ◌⊎◌, List, [], Some}
use Rattle.std.specs.FinMap as finmap
use Rattle.std.specs.FinMap.{FinMap}
use Rattle.std.specs.Ordering.{nat_cmp}
use Rattle.clr_types.specs.Types.{TypeRow}
use Rattle.clr_types.specs.declared.handle.Handle.{Handle}
use Rattle.clr_heap.specs.View.{HeapView}
use Rattle.clr_model.specs.Lawful.{HasItsSecond}
use Rattle.clr_model.specs.Machine.{Machine}
use Rattle.clr_view.specs.Memory.{IsMemoryOf}
use Rattle.clr_view.specs.SlotValues.{StandsAt}

-- types, a heap, the locals of all threads, the handles in use, the finalisation entries and the f-reachable queue
pub record World : Type 0 where
  pub rows : List TypeRow
  pub heap : HeapView
  pub locals : List ℕ
  pub handles : FinMap nat_cmp Handle
  pub entries : List ℕ
  pub ready : List ℕ

-- the world is that of this machine
pub record IsWorldOf (w : World) (m : Machine) : Type 0 where
  pub memory : IsMemoryOf w.rows w.heap m
  pub locals : m.locals ≡ w.locals
  pub handles : m.handles ≡ w.handles
  pub entries : m.entries ≡ w.entries
  pub ready : m.ready ≡ w.ready

-- a world without handles, entries and f-reachable queue
abbrev pub bare_world : List TypeRow → HeapView → List ℕ → World
bare_world rows heap locals = record {
  rows = rows;
  heap = heap;
  locals = locals;
  handles = finmap.empty;
  entries = [];
  ready = [];
}

-- null, or an object of the heap stands there
abbrev pub IsNullOrStands : List TypeRow → HeapView → ℕ → Type 0
IsNullOrStands rows h place = (place ≡ 0) ⊎ StandsAt rows h place

-- What a handle names stands in the heap, and only a dependent one with a primary names a second object.
pub record HandleStands (rows : List TypeRow) (h : HeapView) (row : Handle) : Type 0 where
  pub target : IsNullOrStands rows h row.target
  pub second : IsNullOrStands rows h row.second
  pub owned : HasItsSecond row

-- and so it is with each handle in use
abbrev pub HandlesStand : List TypeRow → HeapView → FinMap nat_cmp Handle → Type 0
HandlesStand rows h handles = (k : ℕ) (row : Handle) → finmap.get handles k ≡ Some row → HandleStands rows h row
