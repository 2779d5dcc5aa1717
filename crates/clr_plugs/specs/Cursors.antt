-- Going over the plugs of a part.
use Rattle.std.specs.Prelude.{ℕ, ◌+◌, ◌*◌, ◌/◌, ◌^◌, ◌<◌, ◌≤◌, List, ◌++◌, filter, nat_le, nat_lt, ◌&&◌}
use Rattle.clr_heap.specs.View.{HeapView, word_of}
use Rattle.clr_plugs.specs.BrickEntries.{BricksView, IsCovered}
use Rattle.clr_bricks.specs.Bricks.{entry_at}
use Rattle.clr_plugs.specs.Plans.{IsPart, PlannedPart, plug_starts, TellsBrick}

-- the plugs that are at hand, the brick that is read next, and one past the last brick
pub record CursorView : Type 0 where
  pub at_hand : List ℕ
  pub brick : ℕ
  pub past : ℕ

-- the places that lie in the bricks from one up to another
abbrev pub starts_between : ℕ → ℕ → List ℕ → List ℕ
starts_between brick past starts = filter (λ x. nat_le brick (x / 4096) && nat_lt (x / 4096) past) starts

-- what a cursor is still to give of plugs that start at these places
abbrev pub ahead : CursorView → List ℕ → List ℕ
ahead c starts = c.at_hand ++ starts_between c.brick c.past starts

-- what holds of the fields of every cursor
pub record IsCursor (offsets : List ℕ) (count at base : ℕ) : Type 0 where
  pub at_most : at ≤ count
  pub most : count ≤ 683
  pub fits : base + 65536 < 2 ^ 64

-- the entries of the bricks from one up to another tell of the plugs of the part
abbrev pub TellLeft : (ℕ → ℕ) → BricksView → PlannedPart → ℕ → ℕ → Type 0
TellLeft word bricks part brick past =
    (i : ℕ) → brick ≤ i → i < past → TellsBrick word (plug_starts part.plugs) i (entry_at bricks i)

-- the heap and the bricks tell of the plugs of some part that start in the bricks from one up to another
pub record AreLeft (h : HeapView) (bricks : BricksView) (brick past : ℕ) : Type 0 where
  pub part : PlannedPart
  pub lies : IsPart h part
  pub covered : (i : ℕ) → brick ≤ i → i < past → IsCovered bricks i
  pub tell : TellLeft (word_of h) bricks part brick past
  pub fits : past * 4096 + 65536 < 2 ^ 64
