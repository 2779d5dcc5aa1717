-- The moves that the plans of all parts tell, by what stands in the heap and the bricks.
use Rattle.std.specs.Prelude.{◌≡◌, ℕ, zero, suc, ◌+◌, ◌-◌, ◌^◌, ◌<◌, ◌≤◌, ◌⊎◌, None, pos, negsuc, true, false, List, []}
use Rattle.std.specs.Prelude.{◌∷◌, ◌++◌, length, if◌then◌else◌}
use Rattle.clr_types.specs.Rising.{IsIn}
use Rattle.clr_types.specs.Types.{TypeRow}
use Rattle.clr_types.specs.declared.item.Item.{Item}
use Rattle.clr_heap.specs.Memories.{memory_index}
use Rattle.clr_heap.specs.Parts.{hole_from}
use Rattle.clr_heap.specs.View.{CanWalk, HeapView, holes_of, items_between, last_of, segment_at, sight, word_of}
use Rattle.clr_model.specs.Compaction.{Move}
use Rattle.clr_view.specs.Marks.{has_mark}
use Rattle.clr_plugs.specs.BrickEntries.{BricksView}
use Rattle.clr_plugs.specs.Plans.{back_number, IsPlanned, PlannedPart, PlannedPlug}
use Rattle.clr_moves.specs.Moves.{part_of, takes}
use Rattle.clr_moves.specs.declared.condemned.Condemned.{Condemned}

-- where the plug before these ends: where the unused bytes before the first of them begin, and at `last` where there
-- is none
abbrev pub end_before : List PlannedPlug → ℕ → ℕ
end_before [] last = last
end_before (q ∷ qs) last = q.start - q.gap

-- the moves of a part's plugs, of which the last one ends at `last`
abbrev pub moves_of : List PlannedPlug → ℕ → List Move
moves_of [] last = []
moves_of (p ∷ ps) last =
    record { start = p.start; size = end_before ps last - p.start; to = p.start - back_number p.distance }
    ∷ moves_of ps last

-- the moves of the part of one segment, where it has one
abbrev pub moves_at : HeapView → Condemned → (ℕ → PlannedPart) → (ℕ → ℕ) → ℕ → List Move
moves_at h g parts lasts t = if takes g (segment_at h t) then moves_of (parts t).plugs (lasts t) else []

-- the moves of the parts of n segments from number t on
abbrev pub moves_from : HeapView → Condemned → (ℕ → PlannedPart) → (ℕ → ℕ) → ℕ → ℕ → List Move
moves_from h g parts lasts t zero = []
moves_from h g parts lasts t (suc n) = moves_at h g parts lasts t ++ moves_from h g parts lasts (suc t) n

-- The marked items of segment t from a place on end at `last`. No hole stands in the segment, and its words are its
-- own.
pub record IsMarkedRun (rows : List TypeRow) (h : HeapView) (t from last : ℕ) : Type 0 where
  pub walk : CanWalk (sight rows h t) h.memories from (last_of h t)
  pub index : (b : ℕ) → from ≤ b + 8 → b + 8 < last_of h t → memory_index h.memories b ≡ t
  pub none : (q : ℕ) → hole_from (holes_of h t) q ≡ None
  pub high : last_of h t ≤ 2 ^ 62
  pub run : CanWalk (sight rows h t) h.memories from last
  pub ends : last ≤ last_of h t
  pub marked : (i : Item) → IsIn i (items_between (sight rows h t) from last)
      → has_mark (word_of h i.place) ≡ true
  pub stops : (last ≡ last_of h t) ⊎ (has_mark (word_of h last) ≡ false)

-- no plug goes up, and none below place 0
abbrev pub GoesDown : PlannedPlug → Type 0
GoesDown p = (p.distance ≡ pos 0) ⊎ ((n : ℕ) × (p.distance ≡ negsuc n) × (n + 1 ≤ p.start))

-- the plan of one part stands in the heap and the bricks: no plug goes up, and the marks tell where the last one ends
pub record IsPartPlanned (rows : List TypeRow) (h : HeapView) (bricks : BricksView) (g : Condemned) (t : ℕ)
    (part : PlannedPart) (last : ℕ) : Type 0 where
  pub planned : IsPlanned h bricks part
  pub segment : part.segment ≡ t
  pub low : part.low ≡ part_of h g t
  pub high : part.high ≡ last_of h t
  pub down : (p : PlannedPlug) → IsIn p part.plugs → GoesDown p
  pub run : (ps : List PlannedPlug) (p : PlannedPlug) → part.plugs ≡ ps ++ p ∷ [] → IsMarkedRun rows h t p.start last

-- The plans of all parts stand in the heap and the bricks, and they tell these moves.
pub record TellMoves (rows : List TypeRow) (h : HeapView) (bricks : BricksView) (g : Condemned) (vs : List Move)
    : Type 0 where
  pub parts : ℕ → PlannedPart
  pub lasts : ℕ → ℕ
  pub each : (t : ℕ) → t < length h.segments → takes g (segment_at h t) ≡ true
      → IsPartPlanned rows h bricks g t (parts t) (lasts t)
  pub moves : vs ≡ moves_from h g parts lasts 0 (length h.segments)
