-- What holds of the parts of a runtime, and the machine that they show.
use Rattle.std.specs.Prelude.{◌≡◌, ℕ, ◌+◌, ◌/◌, ◌≤◌, ◌==◌, ◌&&◌, if◌then◌else◌, length, List, true, not, ◌⊎◌}
use Rattle.std.specs.List.{AllByRecursion}
use Rattle.clr_types.specs.declared.segment.SegKind.TheVariants.{Large, Pinned}
use Rattle.clr_types.specs.Rising.{IsIn}
use Rattle.clr_types.specs.Types.{form_at, has_finalizer, slot_offset, type_row, TypeRow}
use Rattle.clr_covers.specs.Covers.{CoverView}
use Rattle.clr_cards.specs.Cards.{is_card_set}
use Rattle.clr_heap.specs.View.{HeapView, IsHeap}
use Rattle.clr_survivors.specs.Moving.{IsReadyFor}
use Rattle.clr_view.specs.Clean.{AreClean}
use Rattle.clr_view.specs.Marks.{IsUnmarked}
use Rattle.clr_runtime.specs.Marked.{IsMarkedSoFar}
use Rattle.clr_runtime.specs.Shown.{Ahead, none_running, shown}
use Rattle.clr_view.specs.View.{AreFreeHeads, IsHeld, objects_in}
use Rattle.clr_view.specs.World.{World}
use Rattle.clr_model.specs.Machine.{begun_store, Machine, Object, Options, Sums, ThreadStep}
use Rattle.clr_model.specs.Lawful.{IsPlaceNamed}
use Rattle.clr_model.specs.Run as run
use Rattle.clr_ctx.specs.Contexts.{IsIndex}
use Rattle.clr_generations.specs.Tables.{AreTablesBy}
use Rattle.clr_safe.specs.Threads.{births_owed, steps_of, Threads}
use Rattle.clr_safe.specs.declared.begun.Begun.{Begun}
use Rattle.clr_safe.specs.declared.begun.Begun.TheVariants.{Birth, Nothing, Store}
use Rattle.clr_large.specs.Places.{IsKindIndex}
use Rattle.clr_options.specs.Options.{options_of}
use Rattle.clr_runtime.specs.declared.parts.Parts.{Parts}
use Rattle.clr_runtime.specs.declared.sums.Sums as code

abbrev pub sums_of : code.Sums → Sums
sums_of s = record {
  spent0 = s.spent0;
  spent_large = s.spent_large;
  promoted1 = s.promoted1;
  promoted2 = s.promoted2;
}

-- the sums after a collection of generation g that promoted so many bytes to generations 1 and 2
abbrev pub collected_sums : Sums → ℕ → ℕ → ℕ → Sums
collected_sums s g promoted1 promoted2 = record {
  spent0 = 0;
  spent_large = if g == 2 then 0 else s.spent_large;
  promoted1 = if g == 0 then s.promoted1 + promoted1 else promoted1;
  promoted2 = if g == 2 then promoted2 else s.promoted2 + promoted2;
}

-- the types, the heap, and all that names objects from outside of it
abbrev pub world_of : Parts → World
world_of r = record {
  rows = r.types;
  heap = r.space.heap;
  locals = r.roots.locals.items;
  handles = r.roots.handles;
  entries = r.roots.finals.entries;
  ready = r.roots.finals.ready;
}

-- what the next full collection is to do
abbrev pub ahead_of : Parts → Ahead
ahead_of r = record { compacts_large = r.collector.compacts_large; background = r.background }

-- what a later one is to do, after a collection of generation g
abbrev pub ahead_after : Ahead → ℕ → Ahead
ahead_after ahead g = record {
  compacts_large = ahead.compacts_large && not (g == 2);
  background = if g == 2 then none_running else ahead.background;
}

abbrev pub seen : Parts → Machine
seen r = shown (world_of r) (sums_of r.sums) (options_of r.options) r.safe (ahead_of r)

-- a runtime: the machine that it shows, how much its compactions have moved, counted with the compactions, and for how
-- many objects its mark stack has room
pub record RuntimeView : Type 0 where
  pub machine : Machine
  pub slides : ℕ
  pub stack : ℕ

abbrev pub viewed : Parts → RuntimeView
viewed r = record { machine = seen r; slides = r.collector.slides; stack = r.collector.marker.capacity }

-- its machine stands for another one
abbrev pub StandsFor : RuntimeView → Machine → Type 0
StandsFor runtime m = run.StandsFor runtime.machine m

-- What holds of the parts of a runtime. What is seen is lawful, and its objects are named by their places. Between
-- lines no object is marked, and no free item's head is. The headers and the padding of objects say nothing else. While
-- a background collection runs, its bits and its log tell what they are to tell.
pub record IsShown (w : World) (sums : Sums) (options : Options) (threads : Threads) (ahead : Ahead) : Type 0 where
  pub locals : length w.locals ≡ 1024
  pub held : IsHeld w.rows w.heap
  pub unmarked : IsUnmarked w.rows w.heap
  pub free_heads : AreFreeHeads w.rows w.heap
  pub clean : AreClean w.rows w.heap
  pub sound : IsPlaceNamed (shown w sums options threads ahead)
  pub marked : ahead.background.running ≡ true
      → IsMarkedSoFar (shown w sums options threads ahead) ahead.background

-- a thread has begun a store into the slot at this address of one of the objects
pub record IsBegunStore (rows : List TypeRow) (objects : List Object) (steps : List ThreadStep) (a : ℕ) : Type 0 where
  pub object : Object
  pub present : IsIn object objects
  pub slot : ℕ
  pub begun : IsIn (begun_store object.name slot) steps
  pub address : a ≡ object.place + slot_offset (form_at rows object.type) slot

-- the card of the address is set, or the step is still to set it
abbrev pub IsToldBy : List TypeRow → HeapView → List (CoverView ℕ) → Threads → ℕ → Type 0
IsToldBy rows h cards threads a =
    (is_card_set cards (a / 2048) ≡ true) ⊎ IsBegunStore rows (objects_in rows h) (steps_of threads) a

-- what is begun tells of an object whether its type has a finaliser
abbrev pub TellsFinalizer : List TypeRow → Begun → Type 0
TellsFinalizer rows Nothing = Unit {0}
TellsFinalizer rows (Store object slot) = Unit {0}
TellsFinalizer rows (Birth type len local finalizer) = finalizer ≡ has_finalizer (type_row rows type.0)

-- What holds of each runtime: that, its heap is lawful, its cards and bricks are those of this heap, its indexes list
-- the young, the large and the pinned free items, and segments are limited as the options say. Cards tell all
-- references to younger objects but those of begun stores. There is room for the finalisation entries of the objects
-- that are begun. No words are saved, and there is room for what a collection saves.
pub record IsRuntime (r : Parts) : Type 0 where
  pub shown : IsShown (world_of r) (sums_of r.sums) (options_of r.options) r.safe (ahead_of r)
  pub heap : IsHeap r.space.heap
  pub tables : AreTablesBy r.types r.space.heap r.space.cards r.space.bricks
      (IsToldBy r.types r.space.heap r.space.cards r.safe)
  pub owed : births_owed r.safe ≤ r.roots.finals.spare
  pub finalizers : AllByRecursion (TellsFinalizer r.types) r.safe.begun
  pub index : IsIndex r.types r.space.heap r.collector.young
  pub large : IsKindIndex Large r.types r.space.heap r.large
  pub pinned : IsKindIndex Pinned r.types r.space.heap r.pinned
  pub limit : r.space.heap.limit ≡ r.options.limit
  pub ready : IsReadyFor r.roots.handles r.collector.pins
