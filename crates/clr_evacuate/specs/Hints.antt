-- What is known of older free items from earlier searches.
use Rattle.std.specs.Prelude.{ℕ, List}
use Rattle.std.specs.List.{AllByRecursion}
use Rattle.clr_types.specs.Types.{TypeRow}
use Rattle.clr_heap.specs.View.{HeapView}
use Rattle.clr_view.specs.View.{layout_in}
use Rattle.clr_evacuate.specs.Searching.{CanSearchFrom, HasNoRoomBelow}
use Rattle.clr_evacuate.specs.declared.hints.Hint.{Hint}

-- a search for the size may begin at the place, and finds what one over all older items finds
pub record IsStartFor (rows : List TypeRow) (h : HeapView) (size place : ℕ) : Type 0 where
  pub begins : CanSearchFrom rows h place
  pub none_below : HasNoRoomBelow size place (layout_in rows h)

-- each hint is such a place for its size
abbrev pub AreHints : List TypeRow → HeapView → List Hint → Type 0
AreHints rows h hints = AllByRecursion (λ (e : Hint). IsStartFor rows h e.size e.place) hints
