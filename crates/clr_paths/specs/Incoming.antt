-- What leads to each object, as lists of edges by numbers.
use Rattle.std.specs.Prelude.{◌≡◌, ℕ, ◌-◌, ◌<◌, ◌≤◌, List, length, get_or}
use Rattle.clr_types.specs.declared.item.Item.{Item}
use Rattle.clr_model.specs.Reach.{SecondOf, SlotNames}
use Rattle.clr_view.specs.SlotValues.{IsObjectAt}
use Rattle.clr_view.specs.View.{objects_in}
use Rattle.clr_sos.specs.Reaching.{Leads}
use Rattle.clr_sos.specs.declared.view.View.{View}
use Rattle.clr_paths.specs.Numbers.{place_of}
use Rattle.clr_paths.specs.declared.incoming.Edge.{Edge}
use Rattle.clr_paths.specs.declared.incoming.Incoming.{Incoming}

-- ---- lists of edges

abbrev pub no_edge : Edge
no_edge = record { from = 0; before = 0 }

-- edges are counted from 1, and 0 is none
abbrev pub edge_at : List Edge → ℕ → Edge
edge_at edges e = get_or edges (e - 1) no_edge

abbrev pub IsEdgeOf : List Edge → ℕ → Type 0
IsEdgeOf edges e = (0 < e) × (e ≤ length edges)

-- edge e, or one before it in its list, comes from the object with the number
pub data IsSource (edges : List Edge) (from : ℕ) : ℕ → Type 0 where
  own : (e : ℕ) → IsEdgeOf edges e → (edge_at edges e).from ≡ from → IsSource edges from e
  earlier : (e : ℕ) → IsEdgeOf edges e → IsSource edges from (edge_at edges e).before → IsSource edges from e

-- the list of one object has an edge from the other
abbrev pub HasEdge : Incoming → (from to : ℕ) → Type 0
HasEdge incoming from to = IsSource incoming.edges.items from (get_or incoming.lasts.items to 0)

-- lists of n objects: each begins at an edge or is empty, and goes on at an earlier edge
pub record AreLinked (n : ℕ) (incoming : Incoming) : Type 0 where
  pub count : length incoming.lasts.items ≡ n
  pub begin : (to : ℕ) → get_or incoming.lasts.items to 0 ≤ length incoming.edges.items
  pub falls : (e : ℕ) → IsEdgeOf incoming.edges.items e → (edge_at incoming.edges.items e).before < e
  pub numbered : (e : ℕ) → IsEdgeOf incoming.edges.items e → (edge_at incoming.edges.items e).from < n

-- ---- edges of a heap

-- a slot of the object with one number refers to the other
abbrev pub IsSlotEdge : View → List ℕ → (from to : ℕ) → Type 0
IsSlotEdge v places from to =
    SlotNames (objects_in v.types.now v.heap.now) (place_of places from) (place_of places to)

-- a dependent handle ties the object with one number to the other
abbrev pub IsTieEdge : View → List ℕ → (from to : ℕ) → Type 0
IsTieEdge v places from to = SecondOf v.handles.now (place_of places from) (place_of places to)

-- lists of a heap's edges
pub record AreEdges (v : View) (places : List ℕ) (incoming : Incoming) : Type 0 where
  pub linked : AreLinked (length places) incoming
  pub lead : (from to : ℕ) → to < length places → HasEdge incoming from to
      → Leads v (place_of places from) (place_of places to)

-- edges were added, among them whatever is to be listed
pub record HasListed (v : View) (places : List ℕ) (old new : Incoming) (Wanted : ℕ → ℕ → Type 0) : Type 0 where
  pub edges : AreEdges v places new
  pub kept : (from to : ℕ) → to < length places → HasEdge old from to → HasEdge new from to
  pub listed : (from to : ℕ) → to < length places → Wanted from to → HasEdge new from to

-- all edges of the heap are listed, and no others
pub record AreAllEdges (v : View) (places : List ℕ) (incoming : Incoming) : Type 0 where
  pub edges : AreEdges v places incoming
  pub all : (from to : ℕ) → from < length places → to < length places
      → Leads v (place_of places from) (place_of places to) → HasEdge incoming from to

-- the item is that of the object with the number
pub record HasItem (v : View) (places : List ℕ) (from : ℕ) (item : Item) : Type 0 where
  pub below : from < length places
  pub place : item.place ≡ place_of places from
  pub stands : IsObjectAt v.types.now v.heap.now item.place item
