-- A part of a segment whose plugs are placed and written, one after the other.
use Rattle.std.specs.Prelude.{◌≡◌, ◌⊎◌, ℕ, suc, ◌+◌, ◌-◌, ◌*◌, ◌/◌, ◌%◌, ◌<◌, ◌≤◌, List, [], ◌∷◌, ◌++◌, length, map}
use Rattle.std.specs.Prelude.{if◌then◌else◌, Bool, ◌&&◌, ◌==◌, not}
use Rattle.clr_types.specs.Rising.{IsIn}
use Rattle.clr_types.specs.Types.{TypeRow}
use Rattle.clr_heap.specs.View.{first_of, HeapView, IsHeap, last_of, word_of}
use Rattle.clr_model.specs.Compaction.{Move, Plug, plug_end}
use Rattle.clr_bricks.specs.Bricks.{entry_at}
use Rattle.clr_pinq.specs.Queue.{last_end}
use Rattle.clr_plugs.specs.BrickEntries.{IsCovered}
use Rattle.clr_plugs.specs.Planning.{IsWriting}
use Rattle.clr_plugs.specs.Plans.{IsBrickOf, IsPlanned, PlannedPart, PlannedPlug, plug_starts}
use Rattle.clr_plan.specs.Parts.{Around, CanPlan, HasPlacedPart}
use Rattle.clr_plan.specs.Scans.{plugs_between}
use Rattle.clr_plan.specs.States.{PlanState, Progress, Stretch, stretch, Written}
use Rattle.clr_plan.specs.Writes.{AreSavedAt, distance_of, HasWritten, opened}
use Rattle.clr_plan.specs.declared.pointer.Pointer.{Pointer}

-- ---- what is written for plugs with these moves

-- the information of the plugs: before the first of them what is live ends at `below`
abbrev pub planned_plugs : ℕ → List Plug → List Move → List PlannedPlug
planned_plugs below [] vs = []
planned_plugs below (p ∷ ps) [] = []
planned_plugs below (p ∷ ps) (v ∷ vs) = record {
  start = p.start;
  gap = p.start - below;
  distance =
      distance_of p.start v.to;
} ∷ planned_plugs (plug_end p) ps vs

-- where the last of the plugs ends
abbrev pub end_behind : ℕ → List Plug → ℕ
end_behind below [] = below
end_behind below (p ∷ ps) = end_behind (plug_end p) ps

-- those of them whose information stands in bytes that no live cell has, after the others
abbrev pub opened_by : List ℕ → ℕ → ℕ → List Plug → List ℕ
opened_by free first below [] = free
opened_by free first below (p ∷ ps) = opened_by (opened free first below p.start) first (plug_end p) ps

-- whether an entry is pushed for a plug that isn't pinned, where the last entry ends at `last`
abbrev pub is_to_push : ℕ → ℕ → ℕ → ℕ → Bool
is_to_push last first below a = (a == below) && (not (a == first) && not (a == last))

-- how many entries are pushed for the plugs
abbrev pub pushes_for : ℕ → ℕ → ℕ → List Plug → ℕ
pushes_for last first below [] = 0
pushes_for last first below (p ∷ ps) =
    if p.pinned then suc (pushes_for (plug_end p) first (plug_end p) ps) else (if is_to_push last first below p.start
    then suc (pushes_for p.start first (plug_end p) ps) else pushes_for last first (plug_end p) ps)

-- where the last entry ends then
abbrev pub last_pushed_for : ℕ → ℕ → ℕ → List Plug → ℕ
last_pushed_for last first below [] = last
last_pushed_for last first below (p ∷ ps) =
    if p.pinned then last_pushed_for (plug_end p) first (plug_end p) ps else (if is_to_push last first below p.start
    then last_pushed_for p.start first (plug_end p) ps else last_pushed_for last first (plug_end p) ps)

-- ---- the words of a part

-- The part of segment k is being written, up to its plugs that end at `below`, and the plan of the heap `old` goes on
-- there.
pub record IsLaying (old : HeapView) (now : Written) (starts free : List ℕ) (part : PlannedPart) (k below : ℕ) : Type
    0 where
  pub heap : IsHeap now.heap
  pub words : HasWritten old now.heap now.queue.entries starts free below
  pub writing : IsWriting now.heap now.bricks part now.writer
  pub segment : part.segment ≡ k
  pub low : part.low ≤ below
  pub behind : (x : ℕ) → IsIn x (plug_starts part.plugs) → x + 24 ≤ below
  pub among : (x : ℕ) → IsIn x (plug_starts part.plugs) → IsIn x starts
  pub brick : now.writer.builder.brick * 4096 ≤ below

-- the plugs of a stretch
abbrev pub plugs_on : List TypeRow → HeapView → Stretch → List Plug
plugs_on rows h s = plugs_between rows h s.segment s.low s.high

-- the stretch can be planned and written
pub record CanLay (w : Around) (rows : List TypeRow) (old : HeapView) (now : Progress) (starts free : List ℕ)
    (part : PlannedPart) (s : Stretch) : Type 0 where
  pub plan : CanPlan w rows old now.made.queue.entries now.at s.segment s.low s.high
  pub laying : IsLaying old now.made starts free part s.segment now.below
  pub start : now.below ≤ s.low
  pub high : s.high ≤ part.high
  pub spare : pushes_for (last_end 0 now.made.queue.entries) (first_of old s.segment) now.below (plugs_on rows old s)
      + 1 ≤ now.made.queue.spare

-- The plugs are placed, and their information stands before them.
pub record HasLaid (w : Around) (rows : List TypeRow) (old : HeapView) (before after : Progress) (starts free : List ℕ)
    (part : PlannedPart) (s : Stretch) : Type 0 where
  pub planned : HasPlacedPart w rows old after.made.queue.entries before.at s.segment s.low s.high after.at
  pub laying : IsLaying old after.made (starts ++ map (λ q. q.start) (plugs_on rows old s))
      (opened_by free (first_of old s.segment) before.below (plugs_on rows old s))
      (record part { plugs = part.plugs ++ planned_plugs before.below (plugs_on rows old s) planned.moves }) s.segment
      after.below
  pub ends : after.below ≡ end_behind before.below (plugs_on rows old s)
  pub within : before.below ≤ s.high → after.below ≤ s.high
  pub spare : before.made.queue.spare ≤ after.made.queue.spare + pushes_for (last_end 0 before.made.queue.entries)
      (first_of old s.segment) before.below (plugs_on rows old s)
  pub count : before.made.queue.spare + length before.made.queue.entries ≡ after.made.queue.spare
      + length after.made.queue.entries
  pub last : last_end 0 after.made.queue.entries ≡ last_pushed_for (last_end 0 before.made.queue.entries)
      (first_of old s.segment) before.below (plugs_on rows old s)
  pub saved : (ps : List Plug) → AreSavedAt before.made.queue.entries ps → AreSavedAt after.made.queue.entries
      (ps ++ plugs_on rows old s)
  pub outside : (b : ℕ) → b % 8 ≡ 0 → b + 32 < part.low → word_of after.made.heap b ≡ word_of before.made.heap b
  pub entries : (i : ℕ) → (i < before.made.writer.builder.brick) ⊎ (s.high ≤ i * 4096) → entry_at after.made.bricks i
      ≡ entry_at before.made.bricks i

-- ---- a whole segment

-- the part that a whole segment is
abbrev pub segment_part : HeapView → ℕ → List PlannedPlug → PlannedPart
segment_part h k plugs = record { segment = k; low = first_of h k; high = last_of h k; plugs = plugs }

-- a whole segment, as a stretch
abbrev pub all_of : HeapView → ℕ → Stretch
all_of h k = stretch k (first_of h k) (last_of h k)

-- segment k can be planned and written, when what is written so far ends at `below`
pub record CanLaySegment (w : Around) (rows : List TypeRow) (old : HeapView) (now : PlanState) (at : Pointer)
    (starts free : List ℕ) (k below : ℕ) : Type 0 where
  pub plan : CanPlan w rows old now.queue.entries at k (first_of old k) (last_of old k)
  pub words : HasWritten old now.heap now.queue.entries starts free below
  pub behind : below + 24 ≤ first_of old k
  pub ends : first_of old k ≤ last_of old k
  pub covered : (brick : ℕ) → IsBrickOf (segment_part old k []) brick → IsCovered now.bricks brick
  pub covered_below : IsCovered now.bricks (first_of old k / 4096 - 1)
  pub spare : pushes_for (last_end 0 now.queue.entries) (first_of old k) (first_of old k)
      (plugs_on rows old (all_of old k)) + 1 ≤ now.queue.spare

-- The segment's plugs are placed, and heap and bricks hold its plan.
pub record HasLaidSegment (w : Around) (rows : List TypeRow) (old : HeapView) (before after : PlanState)
    (from : Pointer) (starts free : List ℕ) (k : ℕ) (to : Pointer) : Type 0 where
  pub planned : HasPlacedPart w rows old after.queue.entries from k (first_of old k) (last_of old k) to
  pub plan : IsPlanned after.heap after.bricks
      (segment_part old k (planned_plugs (first_of old k) (plugs_on rows old (all_of old k)) planned.moves))
  pub words : HasWritten old after.heap after.queue.entries
      (starts ++ map (λ q. q.start) (plugs_on rows old (all_of old k)))
      (opened_by free (first_of old k) (first_of old k) (plugs_on rows old (all_of old k)))
      (end_behind (first_of old k) (plugs_on rows old (all_of old k)))
  pub spare : before.queue.spare ≤ after.queue.spare + pushes_for (last_end 0 before.queue.entries) (first_of old k)
      (first_of old k) (plugs_on rows old (all_of old k))
  pub count : before.queue.spare + length before.queue.entries ≡ after.queue.spare + length after.queue.entries
  pub last : last_end 0 after.queue.entries ≡ last_pushed_for (last_end 0 before.queue.entries) (first_of old k)
      (first_of old k) (plugs_on rows old (all_of old k))
  pub saved : (ps : List Plug) → AreSavedAt before.queue.entries ps → AreSavedAt after.queue.entries
      (ps ++ plugs_on rows old (all_of old k))
  pub outside : (b : ℕ) → b % 8 ≡ 0 → b + 32 < first_of old k → word_of after.heap b ≡ word_of before.heap b
  pub entries : (i : ℕ) → (i + 1 < first_of old k / 4096) ⊎ (last_of old k ≤ i * 4096) → entry_at after.bricks i
      ≡ entry_at before.bricks i
