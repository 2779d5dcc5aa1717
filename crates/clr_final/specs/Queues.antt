-- The finalisation queue: the entries, the places that wait for their finaliser, and what a collection does to both.
use Rattle.std.specs.Prelude.{◌≡◌, ℕ, ◌+◌, ◌-◌, ◌<◌, ◌≤◌, List, [], ◌∷◌, ◌++◌, length, drop, min, slice_index}
use Rattle.std.specs.Prelude.{EachIndex, Bool, true, false, nat_lt, MatchBool, if◌then◌else◌}
use Rattle.std.specs.List.{AllZip}
use Rattle.clr_final.specs.declared.verdict.Verdict.{Verdict}
use Rattle.clr_final.specs.declared.verdict.Verdict.TheVariants.{Alive, Woken, Dropped}
use Rattle.clr_final.specs.Places.{PlaceList}

-- the entries in order, the f-reachable places in order, and for how many more entries there is room
pub record Queues : Type 0 where
  pub entries : List ℕ
  pub ready : List ℕ
  pub spare : ℕ

-- the queue in two lists, of which the first so many f-reachable places are taken already
abbrev pub queues : PlaceList → PlaceList → ℕ → Queues
queues entries ready taken = record {
  entries = entries.items;
  ready = drop taken ready.items;
  spare = min (entries.capacity - length entries.items) (ready.capacity - (length ready.items + length entries.items));
}

-- each entry has room among the f-reachable places
pub record AreQueues (entries ready : PlaceList) (taken : ℕ) : Type 0 where
  pub taken_few : taken ≤ length ready.items
  pub room : length ready.items + length entries.items ≤ ready.capacity

-- the verdict on a place: what lies below `low` is alive, and of each other place an answer tells
abbrev pub IsJudged : (ℕ → Verdict → Type 0) → ℕ → ℕ → Verdict → Type 0
IsJudged answers low place verdict = MatchBool (nat_lt place low) (verdict ≡ Alive) (answers place verdict)

abbrev pub is_alive : Verdict → Bool
is_alive Alive = true
is_alive Woken = false
is_alive Dropped = false

abbrev pub is_woken : Verdict → Bool
is_woken Alive = false
is_woken Woken = true
is_woken Dropped = false

-- the places with such a verdict, in order
abbrev pub with_verdict : (Verdict → Bool) → List ℕ → List Verdict → List ℕ
with_verdict is [] verdicts = []
with_verdict is (p ∷ ps) [] = []
with_verdict is (p ∷ ps) (v ∷ vs) = if is v then p ∷ with_verdict is ps vs else with_verdict is ps vs

-- There is a verdict on each place: those that are alive stay, the woken ones are put behind the f-reachable places,
-- and the others are gone.
pub record ArePlacesJudged (answers : ℕ → Verdict → Type 0) (low : ℕ) (old new ready ready' : List ℕ) : Type 0 where
  pub verdicts : List Verdict
  pub judged : AllZip (IsJudged answers low) old verdicts
  pub alive : new ≡ with_verdict is_alive old verdicts
  pub woken : ready' ≡ ready ++ with_verdict is_woken old verdicts

-- so it is with the entries, and there isn't less room for more, nor more room in all
pub record HasJudged (answers : ℕ → Verdict → Type 0) (low : ℕ) (old new : Queues) : Type 0 where
  pub places : ArePlacesJudged answers low old.entries new.entries old.ready new.ready
  pub spare : old.spare ≤ new.spare
  pub none_added : new.spare + length new.entries ≤ old.spare + length old.entries

-- where a place has moved: what lies below `low` stays, and of each other place an answer tells
abbrev pub IsMoved : (ℕ → ℕ → Type 0) → ℕ → ℕ → ℕ → Type 0
IsMoved answers low place moved = MatchBool (nat_lt place low) (moved ≡ place) (answers place moved)

-- the places from this index on and below that one have moved, and the others are as before
pub record IsMovedBetween (answers : ℕ → ℕ → Type 0) (low : ℕ) (old new : List ℕ) (from to : ℕ) : Type 0 where
  pub same_length : length new ≡ length old
  pub moved : (i : ℕ) → from ≤ i → i < to → IsMoved answers low (slice_index old i) (slice_index new i)
  pub before : (i : ℕ) → i < from → slice_index new i ≡ slice_index old i
  pub behind : (i : ℕ) → to ≤ i → slice_index new i ≡ slice_index old i

-- each entry and each f-reachable place follows its object
pub record HaveMoved (answers : ℕ → ℕ → Type 0) (low : ℕ) (old new : Queues) : Type 0 where
  pub entries : AllZip (IsMoved answers low) old.entries new.entries
  pub ready : AllZip (IsMoved answers low) old.ready new.ready
  pub spare : new.spare ≡ old.spare

-- the last of some places, from an index on before which all lie below `low`
pub record HasAllFrom (low : ℕ) (places rest : List ℕ) : Type 0 where
  pub first : ℕ
  pub rest_is : rest ≡ drop first places
  pub below : (i : ℕ) → i < first → slice_index places i < low

-- this may be asked of each of these places from `low` on
abbrev pub MayAsk : ℕ → List ℕ → (ℕ → Type 0) → Type 0
MayAsk low places P = EachIndex places (λ i. low ≤ slice_index places i → P (slice_index places i))
