-- The nearest plug at a place or below it.
use Rattle.std.specs.Prelude.{◌≡◌, ℕ, ◌+◌, ◌-◌, ◌*◌, ◌/◌, ◌^◌, ◌<◌, ◌≤◌, ◌⊎◌, List, [], ◌∷◌, length, nat_le}
use Rattle.std.specs.Prelude.{if◌then◌else◌}
use Rattle.clr_types.specs.Rising.{IsIn}
use Rattle.clr_types.specs.Rising.{IsRisingBy}
use Rattle.clr_heap.specs.Memories.{HasWord, memory_index}
use Rattle.clr_heap.specs.View.{HeapView, word_of}
use Rattle.clr_plugs.specs.BrickEntries.{BricksView}
use Rattle.clr_plugs.specs.Trees.{IsBrickTree, IsWithinDigits, starts_in}
use Rattle.clr_plugs.specs.Plans.{IsBrickOf, IsPlanned, past_bricks, PlannedPart, PlannedPlug, plug_starts}
use Rattle.clr_plugs.specs.declared.search.NearestPlug.{NearestPlug}

-- the last of the places, which rise, that isn't above a, and `other` where there is none
abbrev pub nearest : List ℕ → ℕ → ℕ → ℕ
nearest [] a other = other
nearest (x ∷ xs) a other = if nat_le x a then nearest xs a x else other

-- none of the plugs starts at the place or below it
abbrev pub NoneStarts : List PlannedPlug → ℕ → Type 0
NoneStarts plugs a = (p : PlannedPlug) → IsIn p plugs → a < p.start

-- of these places none lies above a and below `stop`
abbrev pub NoneBetween : List ℕ → ℕ → ℕ → Type 0
NoneBetween starts a stop = (x : ℕ) → IsIn x starts → a < x → stop ≤ x

-- `stop` lies in the brick or at its end, and above a place of the brick
abbrev pub IsStopIn : ℕ → ℕ → ℕ → Type 0
IsStopIn brick a stop = (stop ≤ brick * 4096 + 4096) × (a < brick * 4096 + 4096 → a < stop)

-- What was found is the plug with the greatest start at the place or below it, and where the next plug of the place's
-- brick starts, or the brick's end.
pub record IsNearestPlug (plugs : List PlannedPlug) (a : ℕ) (found : NearestPlug) : Type 0 where
  pub plug : PlannedPlug
  pub among : IsIn plug plugs
  pub start : found.start ≡ plug.start
  pub distance : found.distance ≡ plug.distance
  pub not_above : plug.start ≤ a
  pub greatest : (other : PlannedPlug) → IsIn other plugs → other.start ≤ a → other.start ≤ plug.start
  pub alone : NoneBetween (plug_starts plugs) a found.stop
  pub stop : IsStopIn (a / 4096) a found.stop

-- the heap and the bricks hold some plan of a part that has the place
pub record IsInPlan (h : HeapView) (bricks : BricksView) (a : ℕ) : Type 0 where
  pub part : PlannedPart
  pub low : part.low ≤ a
  pub high : a < part.high
  pub planned : IsPlanned h bricks part

-- how many entries at most lead on where one doesn't lead to the nearest tree: none in a part of a small segment
abbrev pub further_entries : PlannedPart → ℕ
further_entries part = (past_bricks part - part.low / 4096) / 32767

-- from `before` on there were at most 4 steps for entries, twice as many more as lead on, and for the trees of two
-- bricks at most as many as their plugs have binary digits
pub record AreFewSteps (part : PlannedPart) (before after : ℕ) : Type 0 where
  pub brick1 : ℕ
  pub brick2 : ℕ
  pub digits1 : ℕ
  pub digits2 : ℕ
  pub within1 : IsWithinDigits digits1 (length (starts_in brick1 (plug_starts part.plugs)))
  pub within2 : IsWithinDigits digits2 (length (starts_in brick2 (plug_starts part.plugs)))
  pub count : after ≤ before + (4 + 2 * further_entries part) + digits1 + digits2

-- the same of the search that begins with the entry of one brick
pub record AreFewStepsFrom (part : PlannedPart) (before after : ℕ) : Type 0 where
  pub brick : ℕ
  pub digits : ℕ
  pub within : IsWithinDigits digits (length (starts_in brick (plug_starts part.plugs)))
  pub count : after ≤ before + (2 + further_entries part) + digits

-- the search can begin with the entry of the brick
pub record CanFindFrom (h : HeapView) (bricks : BricksView) (k brick : ℕ) : Type 0 where
  pub part : PlannedPart
  pub planned : IsPlanned h bricks part
  pub segment : k ≡ part.segment
  pub near : IsBrickOf part brick

-- What the entry of a brick leads to, for a place that isn't below the brick: a start, or 0.
pub data IsFoundFrom (starts : List ℕ) (brick a found : ℕ) : Type 0 where
  nothing : found ≡ 0 → ((x : ℕ) → IsIn x starts → x / 4096 ≡ brick → a < x)
      → ((brick + 1) * 4096 ≤ a → (x : ℕ) → IsIn x starts → brick < x / 4096) → IsFoundFrom starts brick a found
  start : IsIn found starts → found ≤ a → ((x : ℕ) → IsIn x starts → x / 4096 ≤ brick → x ≤ a → x ≤ found)
      → IsFoundFrom starts brick a found

-- the words before the plug lie in segment k
pub record HasPlugWords (h : HeapView) (k plug : ℕ) : Type 0 where
  pub above : 32 ≤ plug
  pub distance : HasWord h.memories (plug - 24)
  pub children : HasWord h.memories (plug - 16)
  pub distance_in : k ≡ memory_index h.memories (plug - 24)
  pub children_in : k ≡ memory_index h.memories (plug - 16)

-- From this root hangs a tree of plugs of the brick whose words lie in segment k.
pub record CanFindIn (h : HeapView) (k brick from : ℕ) : Type 0 where
  pub starts : List ℕ
  pub tree : IsBrickTree (word_of h) brick from starts
  pub rising : IsRisingBy (λ x. x) starts
  pub inside : (x : ℕ) → IsIn x starts → (brick * 4096 ≤ x) × (x < brick * 4096 + 4096)
  pub words : (x : ℕ) → IsIn x starts → HasPlugWords h k x
  pub fits : brick * 4096 + 4096 < 2 ^ 64

-- What the search of both bricks gives: the greatest start at the place or below it, and 0 where there is none.
pub data IsGreatestStart (starts : List ℕ) (a found : ℕ) : Type 0 where
  no_start : found ≡ 0 → ((x : ℕ) → IsIn x starts → a < x) → IsGreatestStart starts a found
  some_start : IsIn found starts → found ≤ a → ((x : ℕ) → IsIn x starts → x ≤ a → x ≤ found)
      → IsGreatestStart starts a found

-- From the brick on, from which a search began at `before` steps, it has come to the brick `at` in `now` steps: it is
-- still there, or back entries have led it down to the brick of the nearest plug, or on the way there.
pub data HasCome (starts : List ℕ) (brick at before now : ℕ) : Type 0 where
  still : at ≡ brick → now ≡ before → HasCome starts brick at before now
  led : (last reads : ℕ) → IsIn last starts → last / 4096 ≤ at → at < brick
      → ((x : ℕ) → IsIn x starts → x / 4096 ≤ brick → x ≤ last) → now ≡ before + reads
      → reads * 32767 ≤ brick - at + 32766 → (at ≡ last / 4096) ⊎ (reads * 32767 ≤ brick - at)
      → HasCome starts brick at before now

-- so it is by each plan that the heap holds of a part with the brick
abbrev pub HasComeByAll : HeapView → BricksView → ℕ → ℕ → ℕ → ℕ → Type 0
HasComeByAll h bricks brick at before now =
    (part : PlannedPart) → IsPlanned h bricks part → IsBrickOf part brick
    → HasCome (plug_starts part.plugs) brick at before now
