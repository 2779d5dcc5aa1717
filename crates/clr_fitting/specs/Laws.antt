-- Laws on fittings. Each is the contract of a function that does nothing.
use Rattle.std.specs.Prelude.{◌≡◌, ℕ, ◌+◌, ◌<◌, ◌≤◌, ◌&&◌, not, Bool, true, false, None, List, [], ◌∷◌, ◌++◌, map}
use Rattle.std.specs.Prelude.{count_by, filter, sum_by}
use Rattle.std.specs.List.{AllByRecursion}
use Rattle.clr_types.specs.Maps.{map_values}
use Rattle.clr_types.specs.Ranges.{Piece, piece_end, IsLawfulSize}
use Rattle.clr_types.specs.Rising.{IsIn, Tests}
use Rattle.clr_types.specs.Segments.{Layout, rest_pieces}
use Rattle.clr_types.proofs.Shuffles.{IsShuffled}
use Rattle.clr_types.specs.declared.handle.Handle.{Handle}
use Rattle.clr_model.specs.declared.How.TheVariants.{Fit}
use Rattle.clr_model.specs.declared.Collected.{Collected}
use Rattle.clr_model.specs.Machine.{Machine, Object}
use Rattle.clr_model.specs.Reach.{IsAlive, Kept, StartOf, woken}
use Rattle.clr_model.specs.Sweep.{is_condemned, survivors}
use Rattle.clr_model.specs.Compaction.{IsCompacted, Move, moved_by, Plug}
use Rattle.clr_model.specs.Fitting.{fit, IsFitted, lowest_item, older_items, taken_from, unfitted}
use Rattle.clr_model.specs.Collection.{begun, bytes_promoted, Collects, objects_after, row_after}
use Rattle.clr_model.specs.Collection.{sums_after}
use Rattle.clr_model.specs.Lawful.{IsLaid, IsLawful, IsNullOrPresent}
use Rattle.clr_model.specs.Lookups.{handle_rows, object_piece}
use Rattle.clr_fitting.specs.Items.{fit_by_item}
use Rattle.clr_fitting.specs.Steps.{copied, copied_layout, fit_in, fitted, fitted_by, fitted_bytes, finds_room}
use Rattle.clr_fitting.specs.Steps.{IsAlike, IsFitMove, IsFittedObject, IsFittedSeen, IsSeenAs}

-- ---- the first step

-- a fit leaves the memory as lawful, whatever is kept
abbrev pub FitLaidLaw : Type 0
FitLaidLaw = (m : Machine) (kept : ℕ → Bool) → IsLaid m → rest_pieces m.layout.rests ≡ [] → IsLaid (fitted m kept)

-- what finds room is a kept object of generation 1 that isn't pinned, and goes to generation 2
abbrev pub FittedObjectLaw : Type 0
FittedObjectLaw =
    (m : Machine) (kept : ℕ → Bool) → IsLaid m → rest_pieces m.layout.rests ≡ [] → (o : Object) → IsIn o m.objects
    → finds_room m kept o ≡ true → IsFittedObject m kept o

-- each move of a fit takes a plug from above the first boundary to below it
abbrev pub FitMovesLaw : Type 0
FitMovesLaw =
    (m : Machine) (kept : ℕ → Bool) → IsLaid m → rest_pieces m.layout.rests ≡ [] → (v : Move)
    → IsIn v (fit_in m kept).moves → IsFitMove m.layout v

-- so what stands below it stays, null included
abbrev pub BelowStaysLaw : Type 0
BelowStaysLaw =
    (m : Machine) (kept : ℕ → Bool) → IsLaid m → rest_pieces m.layout.rests ≡ [] → (place : ℕ)
    → place < m.layout.start1 → moved_by (fit_in m kept).moves place ≡ place

-- a fit takes no two objects to one place
abbrev pub FitApartLaw : Type 0
FitApartLaw =
    (m : Machine) (kept : ℕ → Bool) → IsLaid m → rest_pieces m.layout.rests ≡ [] → (o p : Object) → IsIn o m.objects
    → IsIn p m.objects → moved_by (fit_in m kept).moves o.place ≡ moved_by (fit_in m kept).moves p.place
    → o.place ≡ p.place

-- a fit leaves the others to be compacted
abbrev pub LeftSurvivorsLaw : Type 0
LeftSurvivorsLaw =
    (m : Machine) (kept : ℕ → Bool) → IsLaid m → rest_pieces m.layout.rests ≡ []
    → survivors (fitted m kept) 1 kept ≡ unfitted (fit_in m kept) (survivors m 1 kept)

-- the bytes of what finds room are those of the moves that take it
abbrev pub FittedBytesLaw : Type 0
FittedBytesLaw =
    (m : Machine) (kept : ℕ → Bool) → IsLaid m → rest_pieces m.layout.rests ≡ []
    → sum_by (λ v. v.size) (fit_in m kept).moves ≡ fitted_bytes m kept

-- Where a fit copies what finds room, and leaves it where it was, too, the memory is as lawful.
abbrev pub CopiedLaidLaw : Type 0
CopiedLaidLaw = (m : Machine) (kept : ℕ → Bool) → IsLaid m → rest_pieces m.layout.rests ≡ [] → IsLaid (copied m kept)

-- and a compaction of generation 1 doesn't tell that from a fit that moves it
abbrev pub CopiedAlikeLaw : Type 0
CopiedAlikeLaw =
    (m : Machine) (kept : ℕ → Bool) → IsLaid m → rest_pieces m.layout.rests ≡ []
    → IsAlike (fitted m kept).layout (copied_layout m kept)

-- ---- both steps

-- these moves and this layout compact generation 1 of a machine that keeps what the test passes
abbrev pub Compacts : Machine → (ℕ → Bool) → List Move → Layout → Type 0
Compacts m kept moves new = IsCompacted m.layout 1 (survivors m 1 kept) moves new

-- a fit, and a usual compaction of generation 1 of what it leaves, are a fitting
abbrev pub TwoStepsLaw : Type 0
TwoStepsLaw =
    (m : Machine) (kept : ℕ → Bool) → IsLaid m → rest_pieces m.layout.rests ≡ []
    → (others : List Move) (new : Layout) → Compacts (fitted m kept) kept others new
    → IsFitted m.layout (survivors m 1 kept) ((fit_in m kept).moves ++ others) new

-- also where, between the two steps, objects get other names, such as their new places
abbrev pub TwoStepsSeenLaw : Type 0
TwoStepsSeenLaw =
    (m : Machine) (kept : ℕ → Bool) → IsLaid m → rest_pieces m.layout.rests ≡ []
    → (seen : Machine) (left : ℕ → Bool) → IsSeenAs (fitted m kept) kept seen left
    → (others : List Move) (new : Layout) → Compacts seen left others new
    → IsFitted m.layout (survivors m 1 kept) ((fit_in m kept).moves ++ others) new

-- Where objects are named by their places, before the first step and after it, this is so.
abbrev pub FittedSeenLaw : Type 0
FittedSeenLaw =
    (m : Machine) (kept : ℕ → Bool) → IsLaid m → rest_pieces m.layout.rests ≡ []
    → AllByRecursion (λ (o : Object). o.name ≡ o.place) m.objects
    → AllByRecursion (λ (row : Handle). IsNullOrPresent m row.target) (handle_rows m)
    → (seen : Machine) (left : ℕ → Bool) (s : IsFittedSeen m kept seen)
    → ((o : Object) → IsIn o m.objects → left (moved_by (fit_in m kept).moves o.place) ≡ kept o.name)
    → ((o : Object) → IsIn o s.more → left o.name ≡ false)
    → IsSeenAs (fitted m kept) kept seen left

-- an object goes where the fit takes it, and from there where the compaction does
abbrev pub GoesTwiceLaw : Type 0
GoesTwiceLaw =
    (m : Machine) (kept : ℕ → Bool) → IsLaid m → rest_pieces m.layout.rests ≡ []
    → (others : List Move) (new : Layout) → Compacts (fitted m kept) kept others new
    → (o : Object) → IsIn o m.objects
    → moved_by ((fit_in m kept).moves ++ others) o.place ≡ moved_by others (moved_by (fit_in m kept).moves o.place)

-- The bytes that went to generation 1 are those that the compaction takes there, and to generation 2 went what it takes
-- there and what found room.
pub record IsPromotedTwice (m : Machine) (kept : ℕ → Bool) (others : List Move) (new : Layout) : Type 0 where
  pub to1 : bytes_promoted m new kept ((fit_in m kept).moves ++ others) 0
      ≡ bytes_promoted (fitted m kept) new kept others 0
  pub to2 : bytes_promoted m new kept ((fit_in m kept).moves ++ others) 1
      ≡ bytes_promoted (fitted m kept) new kept others 1 + fitted_bytes m kept

abbrev pub PromotedLaw : Type 0
PromotedLaw =
    (m : Machine) (kept : ℕ → Bool) → IsLaid m → rest_pieces m.layout.rests ≡ []
    → (others : List Move) (new : Layout) → Compacts (fitted m kept) kept others new
    → IsPromotedTwice m kept others new

-- what lies where is lawful whatever objects are called
abbrev pub LaidSeenLaw : Type 0
LaidSeenLaw =
    (m seen : Machine) (shown : Object → Object) → IsLaid m → seen.types ≡ m.types → seen.layout ≡ m.layout
    → IsShuffled (map shown m.objects) seen.objects
    → ((o : Object) → object_piece m.types (shown o) ≡ object_piece m.types o) → IsLaid seen

-- what is promoted doesn't depend on names
abbrev pub PromotedSeenLaw : Type 0
PromotedSeenLaw =
    (m : Machine) (kept : ℕ → Bool) (seen : Machine) (left : ℕ → Bool) → IsSeenAs m kept seen left
    → (moves : List Move) (new : Layout) (g : ℕ)
    → bytes_promoted seen new left moves g ≡ bytes_promoted m new kept moves g

-- ---- the collection

-- what the two steps answer together in a machine whose contexts are given up
abbrev pub two_steps_answer : Machine → (ℕ → Bool) → List Move → Layout → Collected
two_steps_answer m kept others new = record {
  generation = 1;
  compacted = true;
  fitted = true;
  background = false;
  kept = count_by (λ o. is_condemned m 1 o && kept o.name) m.objects;
  freed = count_by (λ o. is_condemned m 1 o && not (kept o.name)) m.objects;
  promoted1 = bytes_promoted (fitted m kept) new kept others 0;
  promoted2 = bytes_promoted (fitted m kept) new kept others 1 + fitted_bytes m kept;
}

-- and what they leave
abbrev pub two_steps_leave : Machine → (ℕ → Bool) → (ℕ → Bool) → List Move → Layout → Machine
two_steps_leave m first kept others new =
    let answer = two_steps_answer m kept others new in
    record m {
      objects = objects_after m first kept ((fit_in m kept).moves ++ others);
      handles = map_values (row_after first kept) m.handles;
      entries = filter first m.entries;
      ready = m.ready ++ woken m first;
      layout = new;
      sums = sums_after m 1 answer.promoted1 answer.promoted2;
    }

-- Where a collection of generation 1 keeps this, a fit and a usual compaction of what it leaves are a fitting
-- collection.
abbrev pub TwoStepsCollectLaw : Type 0
TwoStepsCollectLaw =
    (m : Machine) (first kept : ℕ → Bool) → IsLawful m
    → Tests first (IsAlive (begun m) (StartOf (begun m) 1)) → Tests kept (Kept (begun m) (StartOf (begun m) 1) first)
    → (others : List Move) (new : Layout) → Compacts (fitted (begun m) kept) kept others new
    → Collects m 1 Fit (two_steps_answer (begun m) kept others new)
    (two_steps_leave (begun m) first kept others new)

-- ---- how a fit goes

-- a fit of some plugs, and then of others in the items that it leaves, is a fit of both
abbrev pub FitAppendLaw : Type 0
FitAppendLaw =
    (ps qs : List Plug) (items : List Piece)
    → ((fit (ps ++ qs) items).moves ≡ (fit ps items).moves ++ (fit qs (fit ps items).left).moves)
    × ((fit (ps ++ qs) items).left ≡ (fit qs (fit ps items).left).left)

-- a size that fits in no item doesn't fit later, when a plug was put into one
abbrev pub NoRoomLaterLaw : Type 0
NoRoomLaterLaw =
    (size place taken : ℕ) (items : List Piece) → 24 ≤ taken → lowest_item size items ≡ None
    → lowest_item size (taken_from place taken items) ≡ None

-- a search may begin behind items in which the size doesn't fit
abbrev pub LowestBehindLaw : Type 0
LowestBehindLaw =
    (size : ℕ) (below above : List Piece) → lowest_item size below ≡ None
    → lowest_item size (below ++ above) ≡ lowest_item size above

-- Moves that land below where others start can be made before them: a place goes with the first, and then with the
-- others.
abbrev pub MovesInTurnLaw : Type 0
MovesInTurnLaw =
    (bound : ℕ) (vs ws : List Move) → ((v : Move) → IsIn v vs → v.to + v.size ≤ bound)
    → ((w : Move) → IsIn w ws → bound ≤ w.start) → (x : ℕ) → moved_by (vs ++ ws) x ≡ moved_by ws (moved_by vs x)

-- a plug that goes as one goes where its parts do, one behind the other
abbrev pub TwoPartsLaw : Type 0
TwoPartsLaw =
    (start a b to : ℕ) (vs : List Move) (x : ℕ)
    → moved_by (record { start = start; size = a + b; to = to } ∷ vs) x
    ≡ moved_by (record { start = start; size = a; to = to }
    ∷ record { start = start + a; size = b; to = to + a } ∷ vs) x

-- items by rising place, lawful and apart
abbrev pub AreItems : List Piece → Type 0
AreItems [] = Unit {0}
AreItems (i ∷ is) = IsLawfulSize i.size × AllByRecursion (λ (j : Piece). piece_end i ≤ j.place) is × AreItems is

-- the older items of a lawful memory are so
abbrev pub OlderItemsLaw : Type 0
OlderItemsLaw = (m : Machine) → IsLaid m → AreItems (older_items m.layout)

-- and what a fit leaves of items is
abbrev pub LeftItemsLaw : Type 0
LeftItemsLaw =
    (ps : List Plug) (items : List Piece) → AreItems items → AllByRecursion (λ (p : Plug). IsLawfulSize p.size) ps
    → AreItems (fit ps items).left

-- after some plugs the older items are what these left
abbrev pub PartLeftLaw : Type 0
PartLeftLaw =
    (m : Machine) → IsLaid m → rest_pieces m.layout.rests ≡ [] → (kept : ℕ → Bool) (ps : List Plug)
    → AllByRecursion (λ (p : Plug). IsLawfulSize p.size) ps
    → older_items (fitted_by m kept (fit ps (older_items m.layout))).layout ≡ (fit ps (older_items m.layout)).left

-- what is taken at once from the front of an item can be taken in two steps, as object by object
abbrev pub TakenTwiceLaw : Type 0
TakenTwiceLaw =
    (place a b : ℕ) (items : List Piece) → AreItems items → 0 < a → 0 < b → (i : Piece) → IsIn i items
    → i.place ≡ place → a + b ≤ i.size
    → taken_from (place + a) b (taken_from place a items) ≡ taken_from place (a + b) items

-- Item by item go the same plugs to the same places as plug by plug, in another order, and the same is left of the
-- items.
abbrev pub ItemByItemLaw : Type 0
ItemByItemLaw =
    (ps : List Plug) (items : List Piece) → AllByRecursion (λ (p : Plug). 24 ≤ p.size) ps → AreItems items
    → IsShuffled (fit_by_item items ps).moves (fit ps items).moves × ((fit_by_item items ps).left ≡ (fit ps items).left)
