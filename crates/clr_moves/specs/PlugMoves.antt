-- What a line over the plugs of all parts, which is what a `PlugMoves` is, is still to give.
use Rattle.std.specs.Prelude.{◌≡◌, ℕ, suc, ◌-◌, ◌<◌, ◌≤◌, true, List, [], ◌∷◌, ◌++◌, length, Option, None, Some}
use Rattle.std.specs.List.{AllByRecursion}
use Rattle.clr_types.specs.Rising.{IsIn}
use Rattle.clr_types.specs.Segments.{reserved_end}
use Rattle.clr_types.specs.Types.{TypeRow}
use Rattle.clr_heap.specs.View.{HeapView, IsHeap, segment_at, word_of}
use Rattle.clr_model.specs.Compaction.{Move}
use Rattle.clr_plugs.specs.BrickEntries.{BricksView}
use Rattle.clr_plugs.specs.Cursors.{ahead, AreLeft, CursorView, TellLeft}
use Rattle.clr_plugs.specs.Plans.{back_number, IsPart, IsTold, PlannedPart, PlannedPlug, plug_starts}
use Rattle.clr_moves.specs.Moves.{takes}
use Rattle.clr_moves.specs.declared.condemned.Condemned.{Condemned}
use Rattle.clr_moves.specs.Told.{GoesDown, IsMarkedRun, IsPartPlanned, moves_from, moves_of}

-- the segment whose part is read, the cursor over its plugs, and the plug that was read ahead: its start, 0 for none,
-- and its destination
pub record PlugMovesView : Type 0 where
  pub segment : ℕ
  pub cursor : CursorView
  pub start : ℕ
  pub to : ℕ

-- The cursor is to give these plugs of the part. Their information stands in the heap, and so do the trees of the
-- bricks that the cursor hasn't come to.
pub record CanRead (h : HeapView) (bricks : BricksView) (cursor : CursorView) (part : PlannedPart)
    (plugs : List PlannedPlug) : Type 0 where
  pub heap : IsHeap h
  pub lies : IsPart h part
  pub among : (p : PlannedPlug) → IsIn p plugs → IsIn p part.plugs
  pub left : AreLeft h bricks cursor.brick cursor.past
  pub tell : TellLeft (word_of h) bricks part cursor.brick cursor.past
  pub rest : ahead cursor (plug_starts part.plugs) ≡ plug_starts plugs
  pub told : AllByRecursion (IsTold (word_of h)) plugs
  pub down : (p : PlannedPlug) → IsIn p plugs → GoesDown p

-- the plug is at hand, and the cursor is to give these others
pub record IsRead (h : HeapView) (bricks : BricksView) (line : PlugMovesView) (part : PlannedPart) (p : PlannedPlug)
    (ps : List PlannedPlug) : Type 0 where
  pub start : line.start ≡ p.start
  pub to : line.to ≡ p.start - back_number p.distance
  pub others : CanRead h bricks line.cursor part ps

-- The first of the plugs that were left was read, and it was answered where the unused bytes before it begin; where
-- none was left, nothing is at hand.
abbrev pub HasRead : HeapView → BricksView → PlugMovesView → PlannedPart → List PlannedPlug → Option ℕ → Type 0
HasRead h bricks line part [] end = (line.start ≡ 0) × (end ≡ None)
HasRead h bricks line part (p ∷ ps) end = (end ≡ Some (p.start - p.gap)) × IsRead h bricks line part p ps

-- the plugs that are left of the part of the line's segment, of which the first was read ahead, and the last one
-- ends at `last`
pub record HasReadAhead (rows : List TypeRow) (h : HeapView) (bricks : BricksView) (line : PlugMovesView)
    (part : PlannedPart) (last : ℕ) (p : PlannedPlug) (ps : List PlannedPlug) : Type 0 where
  pub segment : part.segment ≡ line.segment
  pub given : List PlannedPlug
  pub split : part.plugs ≡ given ++ p ∷ ps
  pub read : IsRead h bricks line part p ps
  pub run : (qs : List PlannedPlug) (q : PlannedPlug) → p ∷ ps ≡ qs ++ q ∷ []
      → IsMarkedRun rows h line.segment q.start last

-- these plugs are left of the part at hand
abbrev pub IsAtHand : List TypeRow → HeapView → BricksView → PlugMovesView → PlannedPart → ℕ → List PlannedPlug → Type 0
IsAtHand rows h bricks line part last [] = line.start ≡ 0
IsAtHand rows h bricks line part last (p ∷ ps) = HasReadAhead rows h bricks line part last p ps

-- the plans of the parts of the segments from number t on stand in the heap and the bricks
abbrev pub ArePartsPlanned : List TypeRow → HeapView → BricksView → Condemned → (ℕ → PlannedPart) → (ℕ → ℕ) → ℕ → Type 0
ArePartsPlanned rows h bricks g parts lasts from =
    (t : ℕ) → from ≤ t → t < length h.segments → takes g (segment_at h t) ≡ true
    → IsPartPlanned rows h bricks g t (parts t) (lasts t)

-- The line is still to give these moves: what is left of the part at hand, and the parts of the segments above.
pub record Gives (rows : List TypeRow) (h : HeapView) (bricks : BricksView) (g : Condemned) (line : PlugMovesView)
    (vs : List Move) : Type 0 where
  pub heap : IsHeap h
  pub part : PlannedPart
  pub last : ℕ
  pub left : List PlannedPlug
  pub parts : ℕ → PlannedPart
  pub lasts : ℕ → ℕ
  pub within : line.segment < length h.segments
  pub at_hand : IsAtHand rows h bricks line part last left
  pub above : ArePartsPlanned rows h bricks g parts lasts (suc line.segment)
  pub moves : vs ≡ moves_of left last
      ++ moves_from h g parts lasts (suc line.segment) (length h.segments - suc line.segment)

-- the line comes to a segment, and is to give the moves of the parts from this segment on
pub record CanEnter (rows : List TypeRow) (h : HeapView) (bricks : BricksView) (g : Condemned) (line : PlugMovesView)
    (vs : List Move) : Type 0 where
  pub heap : IsHeap h
  pub parts : ℕ → PlannedPart
  pub lasts : ℕ → ℕ
  pub within : line.segment < length h.segments
  pub each : ArePartsPlanned rows h bricks g parts lasts line.segment
  pub moves : vs ≡ moves_from h g parts lasts line.segment (length h.segments - line.segment)

-- a line gives its first move, of a plug that starts in the line's segment, and then the others
pub record HasGiven (rows : List TypeRow) (h : HeapView) (bricks : BricksView) (g : Condemned) (line : PlugMovesView)
    (vs : List Move) (v : Move) : Type 0 where
  pub rest : List Move
  pub first : vs ≡ v ∷ rest
  pub within : v.start < reserved_end (segment_at h line.segment)
  pub gives : Gives rows h bricks g line rest
