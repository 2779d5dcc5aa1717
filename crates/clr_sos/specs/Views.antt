-- The machine that a view shows, and what holds of a view of a lawful one.
use Rattle.std.specs.Prelude.{◌≡◌, ℕ, List}
use Rattle.clr_types.specs.Rising.{IsIn}
use Rattle.clr_types.specs.Types.{TypeRow}
use Rattle.clr_bricks.specs.Bricks.{entry_at}
use Rattle.clr_heap.specs.View.{frame, HeapView, IsHeap}
use Rattle.clr_model.specs.Lawful.{IsPlaceNamed}
use Rattle.clr_model.specs.Machine.{Machine}
use Rattle.clr_model.specs.Reach.{SlotNames}
use Rattle.clr_view.specs.SlotValues.{StandsAt}
use Rattle.clr_view.specs.View.{IsHeld, layout_in, objects_in}
use Rattle.clr_view.specs.World.{HandlesStand}
use Rattle.clr_mark.specs.Roots.{AreObjects}
use Rattle.clr_generations.specs.Laws.{BrickLaw}
use Rattle.clr_generations.specs.Tables.{AreBricksOf}
use Rattle.clr_sos.specs.declared.view.View.{View}

-- what the view shows is this machine's, each object named by its place; the machine's sums and its other options play
-- no part in what is shown
pub record IsViewOf (v : View) (m : Machine) : Type 0 where
  pub types : m.types ≡ v.types.now
  pub objects : m.objects ≡ objects_in v.types.now v.heap.now
  pub layout : m.layout ≡ layout_in v.types.now v.heap.now
  pub locals : m.locals ≡ v.locals.now
  pub handles : m.handles ≡ v.handles.now
  pub entries : m.entries ≡ v.finals.now.entries
  pub ready : m.ready ≡ v.finals.now.ready
  pub limit : m.options.limit ≡ v.limit

-- a view of a lawful machine, whose words hold its objects and whose bricks tell of them
pub record IsLawfulView (v : View) : Type 0 where
  pub heap : IsHeap v.heap.now
  pub held : IsHeld v.types.now v.heap.now
  pub bricks : AreBricksOf (frame v.heap.now) v.bricks.now
  pub brick_law : BrickLaw v.types.now (frame v.heap.now) (objects_in v.types.now v.heap.now) (entry_at v.bricks.now)
  pub machine : (m : Machine) × IsViewOf v m × IsPlaceNamed m

-- an object of the heap stands at each of the places
abbrev pub AllStand : List TypeRow → HeapView → List ℕ → Type 0
AllStand rows h places = (place : ℕ) → IsIn place places → StandsAt rows h place

-- The words of a view's heap hold its objects, and whatever is named is one of them: by slots, by locals and handles,
-- by finalisation entries and the f-reachable queue. So it is in a view of a lawful machine, and also in one of an
-- image that was loaded, which has no bricks, and whose segments may be longer than a machine's.
pub record IsShownView (v : View) : Type 0 where
  pub heap : IsHeap v.heap.now
  pub held : IsHeld v.types.now v.heap.now
  pub slots : (x y : ℕ) → SlotNames (objects_in v.types.now v.heap.now) x y → StandsAt v.types.now v.heap.now y
  pub locals : AreObjects v.types.now v.heap.now v.locals.now
  pub handles : HandlesStand v.types.now v.heap.now v.handles.now
  pub entries : AllStand v.types.now v.heap.now v.finals.now.entries
  pub ready : AllStand v.types.now v.heap.now v.finals.now.ready
