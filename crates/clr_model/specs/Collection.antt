-- One collection: what stays, what becomes of handles and queues, and where everything stands afterwards.
use Rattle.std.specs.Prelude.{◌≡◌, ℕ, ◌+◌, ◌-◌, ◌*◌, List, [], ◌∷◌, ◌++◌, map, if◌then◌else◌, ◌==◌, nat_lt, Bool, true}
use Rattle.std.specs.Prelude.{false, ◌&&◌, ◌||◌, not, filter, sum_by, count_by, MatchBool, Option, None, Some}
use Rattle.std.specs.List.{list_any}
use Rattle.clr_types.specs.declared.handle.Kind.{Kind}
use Rattle.clr_types.specs.declared.handle.Kind.TheVariants.{Strong, Pinned, Weak, WeakLong, Dependent}
use Rattle.clr_types.specs.Rising.{Tests}
use Rattle.clr_model.specs.declared.How.{How}
use Rattle.clr_model.specs.declared.How.TheVariants.{Decide, Compact, Sweep, Fit}
use Rattle.clr_model.specs.declared.Collected.{Collected}
use Rattle.clr_types.specs.declared.handle.Handle.{Handle}
use Rattle.clr_model.specs.Machine.{Object, Sums, Marking, Machine}
use Rattle.clr_model.specs.Lookups.{object_size}
use Rattle.clr_types.specs.Maps.{map_values}
use Rattle.clr_model.specs.Reach.{StartOf, StartOfBackground, IsAlive, Kept, woken, is_suppressed}
use Rattle.clr_model.specs.Sweep.{Survivor, survivors, is_condemned, part_start, taking_part, swept_small, swept_others}
use Rattle.clr_model.specs.Compaction.{Move, moved_by, IsCompacted}
use Rattle.clr_model.specs.Fitting.{IsFitted}
use Rattle.clr_model.specs.Slide.{SlidesLarge}
use Rattle.clr_model.specs.Updates.{all_given_up}
use Rattle.clr_types.specs.declared.segment.SegKind.TheVariants.{Ephemeral, Large}
use Rattle.clr_types.specs.declared.segment.SegInfo.{SegInfo}
use Rattle.clr_types.specs.Segments.{Layout, generation, same_kind, is_small_or_ephemeral, segments_of, stands_in}

-- ---- how

-- the generation that an allocation of a small object collects
abbrev pub generation_to_collect : Machine → ℕ
generation_to_collect m =
    if nat_lt m.options.b1 m.sums.promoted1 then (if nat_lt m.options.b2 m.sums.promoted2 then 2 else 1) else 0

-- the bytes of the condemned parts of the small heap
abbrev pub extent : Layout → ℕ → ℕ
extent layout g = sum_by (λ s. s.end - part_start layout g s) (taking_part is_small_or_ephemeral g layout)

abbrev pub is_in_small_heap : Layout → ℕ → Bool
is_in_small_heap layout place = list_any (λ s. is_small_or_ephemeral s.kind && stands_in s place) layout.segments

-- the bytes of what stays in them
abbrev pub kept_bytes : Layout → List Survivor → ℕ
kept_bytes layout kept = sum_by (λ k. k.size) (filter (λ k. is_in_small_heap layout k.place) kept)

-- where a line gives no kind, a collection compacts if enough of those bytes are free
abbrev pub decides_to_compact : Machine → ℕ → List Survivor → Bool
decides_to_compact m g kept = nat_lt (m.options.compact * extent m.layout g)
    ((extent m.layout g - kept_bytes m.layout kept) * 100)

abbrev pub compacts : How → Bool → Bool
compacts Decide decision = decision
compacts Compact decision = true
compacts Sweep decision = false
compacts Fit decision = true

abbrev pub is_fit : How → Bool
is_fit Fit = true
is_fit Decide = false
is_fit Compact = false
is_fit Sweep = false

-- ---- handles and queues

abbrev pub kept_or_null : (ℕ → Bool) → ℕ → ℕ
kept_or_null test name = if test name then name else 0

abbrev pub row_of_kind : (ℕ → Bool) → (ℕ → Bool) → Kind → Handle → Handle
row_of_kind first kept Strong row = row
row_of_kind first kept Pinned row = row
row_of_kind first kept Weak row = record row { target = kept_or_null first row.target }
row_of_kind first kept WeakLong row = record row { target = kept_or_null kept row.target }
row_of_kind first kept Dependent row = if kept row.target then row else record row { target = 0; second = 0 }

-- a short weak handle loses what is outside the first set, a long one what is outside the kept set, and a dependent one
-- both parts where its primary is outside that
abbrev pub row_after : (ℕ → Bool) → (ℕ → Bool) → Handle → Handle
row_after first kept row = row_of_kind first kept row.kind row

-- an entry goes, unwoken: its object is outside the first set and suppressed
abbrev pub is_dropped : Machine → (ℕ → Bool) → ℕ → Bool
is_dropped m first name = list_any (λ e. e == name) m.entries && (not (first name) && is_suppressed m name)

-- ---- the state

abbrev pub object_after : Machine → (ℕ → Bool) → List Move → Object → Object
object_after m first moves o = record o {
  place = moved_by moves o.place;
  suppressed = o.suppressed && not (is_dropped m first o.name);
}

abbrev pub objects_after : Machine → (ℕ → Bool) → (ℕ → Bool) → List Move → List Object
objects_after m first kept moves = map (object_after m first moves) (filter (λ o. kept o.name) m.objects)

-- the bytes of what stayed and went from one generation to the next older one
abbrev pub bytes_promoted : Machine → Layout → (ℕ → Bool) → List Move → ℕ → ℕ
bytes_promoted m new kept moves g =
    sum_by (object_size m.types) (filter
    (λ o. kept o.name && ((generation m.layout o.place == g) && (generation new (moved_by moves o.place) == g + 1)))
    m.objects)

abbrev pub sums_after : Machine → ℕ → ℕ → ℕ → Sums
sums_after m g promoted1 promoted2 = record {
  spent0 = 0;
  spent_large = if g == 2 then 0 else m.sums.spent_large;
  promoted1 = if g == 0 then m.sums.promoted1 + promoted1 else promoted1;
  promoted2 = if g == 2 then promoted2 else m.sums.promoted2 + promoted2;
}

abbrev pub base_of_first : List SegInfo → ℕ
base_of_first [] = 0
base_of_first (s ∷ ss) = s.base

-- after a full collection a segment stays where an object stands in it, and so do the ephemeral one and the first large
-- one
abbrev pub is_retained : Layout → List Object → SegInfo → Bool
is_retained layout objects s =
    list_any (λ o. stands_in s o.place) objects
    || (same_kind Ephemeral s.kind || (s.base == base_of_first (segments_of Large layout)))

abbrev pub released : Layout → List Object → Layout
released layout objects = record layout { segments = filter (is_retained layout objects) layout.segments }

-- ---- the layout

-- the small heap, compacted or swept
abbrev pub IsSmallLaid : Bool → Layout → ℕ → List Survivor → List Move → Layout → Type 0
IsSmallLaid compacting layout g kept moves new =
    MatchBool compacting (IsCompacted layout g kept moves new) ((moves ≡ []) × (new ≡ swept_small layout g kept))

-- so, or fitted
abbrev pub IsSmallLaidBy : How → Bool → Layout → ℕ → List Survivor → List Move → Layout → Type 0
IsSmallLaidBy how compacting layout g kept moves new =
    MatchBool (is_fit how) (IsFitted layout kept moves new) (IsSmallLaid compacting layout g kept moves new)

-- ---- the collection

-- a full collection ends a background collection that runs
abbrev pub marking_after : Bool → Option Marking → Option Marking
marking_after full None = None
marking_after full (Some marking) = if full then None else Some marking

-- What a collection does to a machine whose contexts are given up, from this start, with these tests for what stays,
-- before the large heap is slid and segments are released.
pub record IsCollected (m : Machine) (g : ℕ) (how : How) (last_pause : Bool) (start : ℕ
    → Type 0) (answer : Collected) (new : Machine) : Type 0 where
  pub first : ℕ → Bool
  pub kept : ℕ → Bool
  pub first_is : Tests first (IsAlive m start)
  pub kept_is : Tests kept (Kept m start first)
  pub survive : List Survivor
  pub survive_are : survive ≡ survivors m g kept
  pub small : Layout
  pub moves : List Move
  pub small_laid : IsSmallLaidBy how (compacts how (decides_to_compact m g survive)) m.layout g survive moves small
  pub laid : Layout
  pub large_laid : laid ≡ (if g == 2 then swept_others small 2 survive else small)
  pub answered :
      answer
      ≡ record {
        generation = g;
        compacted = compacts how (decides_to_compact m g survive);
        fitted = is_fit how;
        background = last_pause;
        kept = count_by (λ o. is_condemned m g o && kept o.name) m.objects;
        freed = count_by (λ o. is_condemned m g o && not (kept o.name)) m.objects;
        promoted1 = bytes_promoted m laid kept moves 0;
        promoted2 = bytes_promoted m laid kept moves 1;
      }
  pub state :
      new
      ≡ record m {
        objects = objects_after m first kept moves;
        handles = map_values (row_after first kept) m.handles;
        entries = filter first m.entries;
        ready = m.ready ++ woken m first;
        layout = laid;
        sums = sums_after m g answer.promoted1 answer.promoted2;
        background = marking_after (g == 2) m.background;
      }

-- ---- what follows on it

-- the large heap slides, or all stays
abbrev pub SlidesIf : Bool → Machine → Machine → Type 0
SlidesIf slides m new = MatchBool slides ((moves : List Move) × SlidesLarge m moves new) (new ≡ m)

-- a full collection releases segments at its end
abbrev pub ended : ℕ → Machine → Machine
ended g m = record m { layout = if g == 2 then released m.layout m.objects else m.layout }

-- the machine when every context is given up, with which a collection begins
abbrev pub begun : Machine → Machine
begun m = record m { layout = all_given_up m.layout }

-- A blocking collection of generation g: first every context is given up. A full one that finds the flag set slides the
-- large heap and takes the flag away.
pub record Collects (m : Machine) (g : ℕ) (how : How) (answer : Collected) (new : Machine) : Type 0 where
  pub collected : Machine
  pub slid : Machine
  pub collects : IsCollected (begun m) g how false (StartOf (begun m) g) answer collected
  pub slides : SlidesIf (m.compacts_large && (g == 2)) collected slid
  pub ends : new ≡ record (ended g slid) { compacts_large = m.compacts_large && not (g == 2) }

-- The last pause of a background collection: a sweep of generation 2 that starts from what was marked, too, and leaves
-- the flag.
pub record EndsBackground (m : Machine) (marking : Marking) (answer : Collected) (new : Machine) : Type 0 where
  pub collected : Machine
  pub collects : IsCollected (begun m) 2 Sweep true (StartOfBackground (begun m) marking) answer collected
  pub ends : new ≡ ended 2 collected
