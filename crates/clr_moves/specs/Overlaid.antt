-- What stands between a plan and its compaction: the heap holds information of plugs, and a queue saves what lay
-- under it. `view` is the heap with all its words, as it was or as relocation has made it.
use Rattle.std.specs.Prelude.{◌≡◌, ℕ, ◌+◌, ◌%◌, ◌<◌, ◌≤◌, ◌⊎◌, Bool, true, List, length, IsSome}
use Rattle.clr_types.specs.Segments.{Layout}
use Rattle.clr_types.specs.Types.{TypeRow}
use Rattle.clr_heap.specs.View.{first_of, HeapView, IsHeap, no_rests, SameShape, segment_at, word_of}
use Rattle.clr_model.specs.Compaction.{IsCompacted, Move}
use Rattle.clr_model.specs.Lawful.{IsLaid}
use Rattle.clr_model.specs.Machine.{Machine}
use Rattle.clr_model.specs.Slide.{IsLargeSlid}
use Rattle.clr_model.specs.Sweep.{Survivor, survivors}
use Rattle.clr_view.specs.Memory.{IsMemoryOf, TestsMarks}
use Rattle.clr_view.specs.View.{IsHeld}
use Rattle.clr_plugs.specs.BrickEntries.{BricksView}
use Rattle.clr_plugs.specs.Info.{IsInfoWord}
use Rattle.clr_pinq.specs.Queue.{logical, queue_word}
use Rattle.clr_pinq.specs.declared.entry.PinEntry.{PinEntry}
use Rattle.clr_moves.specs.Moves.{age_of, AreInLine, AreMoves, IsInPart, IsInPlug, move_at, part_of, plug_stop}
use Rattle.clr_moves.specs.Moves.{room_end, takes}
use Rattle.clr_moves.specs.declared.condemned.Condemned.{Condemned}
use Rattle.clr_moves.specs.declared.condemned.Condemned.TheVariants.{Generations, LargeSegments}
use Rattle.clr_moves.specs.Told.{TellMoves}

-- ---- words

-- The word at b belongs to no part: it is one of another segment, or stands below the part, but not before the
-- segment's first place, where no cell stands.
abbrev pub IsOutside : HeapView → Condemned → ℕ → Type 0
IsOutside h g b =
    (t : ℕ) → t < length h.segments → takes g (segment_at h t) ≡ true
    → (b + 8 < (segment_at h t).base)
    ⊎ (((first_of h t ≤ b + 8) × (b + 8 < part_of h g t)) ⊎ (room_end h t ≤ b + 8))

-- the word at b belongs to a cell of plug k
pub record IsPlugWord (vs : List Move) (k b : ℕ) : Type 0 where
  pub within : k < length vs
  pub low : (move_at vs k).start ≤ b + 8
  pub high : b + 8 < plug_stop (move_at vs k)

-- The heap and what is saved hold the words of `view` that count: those of the cells of all plugs, and those outside of
-- the parts. What is saved lies before the start of a plug or before its end, and what stands under the information of
-- a plug and counts is saved.
pub record IsOverlaid (view h : HeapView) (entries : List PinEntry) (g : Condemned) (vs : List Move) : Type 0 where
  pub heap : IsHeap view
  pub moves : AreMoves view g vs
  pub line : AreInLine vs
  pub starts : (k : ℕ) → k < length vs → (t : ℕ) × IsInPart view g t (move_at vs k).start
  pub shape : SameShape view h
  pub cells : (k b : ℕ) → b % 8 ≡ 0 → IsPlugWord vs k b → logical entries (word_of h) b ≡ word_of view b
  pub outside : (b : ℕ) → b % 8 ≡ 0 → IsOutside view g b → logical entries (word_of h) b ≡ word_of view b
  pub saved : (b : ℕ) → b % 8 ≡ 0 → IsSome (queue_word entries b)
      → (k : ℕ) × (k < length vs)
      × (IsInfoWord (move_at vs k).start b ⊎ IsInfoWord (plug_stop (move_at vs k)) b)
  pub hidden : (k b : ℕ) → k < length vs → b % 8 ≡ 0 → IsInfoWord (move_at vs k).start b
      → IsSome (queue_word entries b)
      ⊎ (((j : ℕ) → IsPlugWord vs j b → ⊥) × (IsOutside view g b → ⊥))

-- the place is in no part, or in a plug
abbrev pub MayGo : HeapView → Condemned → List Move → ℕ → Type 0
MayGo h g vs place = ((t : ℕ) → IsInPart h g t place → ⊥) ⊎ ((k : ℕ) × IsInPlug vs k place)

-- ---- the compaction of a machine

-- the layout that compacts these parts
abbrev pub IsLaidBy : Condemned → Layout → List Survivor → List Move → Layout → Type 0
IsLaidBy (Generations g) layout kept vs after = IsCompacted layout g kept vs after
IsLaidBy LargeSegments layout kept vs after = IsLargeSlid layout kept vs after

-- these moves and the layout `after` are the compaction of a machine whose memory the heap is, and in which of the
-- objects of the parts' generations the marked ones are kept
pub record IsCompactionOf (rows : List TypeRow) (h : HeapView) (g : Condemned) (vs : List Move) (m : Machine)
    (kept : ℕ → Bool) (after : Layout) : Type 0 where
  pub memory : IsMemoryOf rows h m
  pub laid : IsLaid m
  pub tests : TestsMarks rows h (age_of g) kept
  pub compacted : IsLaidBy g m.layout (survivors m (age_of g) kept) vs after

-- The heap holds the plan of a compaction of `view` by these moves, after which generations 1 and 0 begin at these
-- places: its words and the saved ones are those of `view`, and plugs and bricks tell the moves.
pub record HoldsPlan (rows : List TypeRow) (view h : HeapView) (bricks : BricksView) (entries : List PinEntry)
    (g : Condemned) (vs : List Move) (start1 start0 : ℕ) : Type 0 where
  pub overlaid : IsOverlaid view h entries g vs
  pub told : TellMoves rows h bricks g vs
  pub held : IsHeld rows view
  pub no_contexts : view.rests ≡ no_rests
  pub machine : Machine
  pub kept : ℕ → Bool
  pub after : Layout
  pub compaction : IsCompactionOf rows view g vs machine kept after
  pub start1_is : after.start1 ≡ start1
  pub start0_is : after.start0 ≡ start0
