-- What a search from the roots has found.
use Rattle.std.specs.Prelude.{◌≡◌, ◌≢◌, ℕ, ◌-◌, ◌*◌, ◌/◌, ◌<◌, ◌≤◌, ◌⊎◌, Bool, true, List, [], length, get_or}
use Rattle.std.specs.Prelude.{IsTrue, ◌==◌, Some, slice_get, suc}
use Rattle.std.specs.List.{All, Contains, list_any}
use Rattle.std.specs.List.Sorted.{IsNonDecreasingBy}
use Rattle.std.specs.FinMap as finmap
use Rattle.std.specs.FinMap.{FinMap}
use Rattle.std.specs.Ordering.{nat_cmp}
use Rattle.clr_types.specs.Kinds.{is_root_kind}
use Rattle.clr_types.specs.Rising.{IsIn}
use Rattle.clr_types.specs.declared.handle.Handle.{Handle as Row}
use Rattle.clr_types.specs.declared.item.Item.{Item}
use Rattle.clr_heap.specs.Memories.{memory_index}
use Rattle.clr_heap.specs.View.{HeapView, segment_at}
use Rattle.clr_model.specs.Reach.{HeldBy, SecondOf, SlotNames}
use Rattle.clr_view.specs.SlotValues.{IsObjectAt, StandsAt}
use Rattle.clr_view.specs.View.{objects_in}
use Rattle.clr_view.specs.World.{HandlesStand}
use Rattle.clr_mark.specs.Marks.{IsClosed}
use Rattle.clr_mark.specs.Roots.{AreObjects}
use Rattle.clr_mark.specs.Ties.{Joins}
use Rattle.clr_sos.specs.Bits.{has_bit}
use Rattle.clr_sos.specs.declared.reach.FoundObject.{FoundObject}
use Rattle.clr_sos.specs.declared.reach.Origin.{Origin}
use Rattle.clr_sos.specs.declared.reach.Origin.TheVariants.{Local, Handle, Ready, Through}
use Rattle.clr_sos.specs.declared.reach.ties.Tie.{Tie}
use Rattle.clr_sos.specs.declared.view.View.{View}

-- ---- what a view shows

-- a slot of x names y, or a dependent handle ties y to x
abbrev pub Leads : View → ℕ → ℕ → Type 0
Leads v x y = Joins v.types.now v.heap.now v.handles.now x y

-- what locals name, what strong and pinned handles hold, and the f-reachable queue
abbrev pub IsRootOf : View → ℕ → Type 0
IsRootOf v x = (0 < x) × ((IsIn x v.locals.now ⊎ HeldBy v.handles.now x) ⊎ IsIn x v.finals.now.ready)

-- an object of the view's heap
abbrev pub IsObjectOf : View → ℕ → Type 0
IsObjectOf v x = StandsAt v.types.now v.heap.now x

-- whatever is named is an object
pub record IsSound (v : View) : Type 0 where
  pub closed : IsClosed v.types.now v.heap.now
  pub handles : HandlesStand v.types.now v.heap.now v.handles.now
  pub locals : AreObjects v.types.now v.heap.now v.locals.now
  pub ready : AreObjects v.types.now v.heap.now v.finals.now.ready

-- ---- marks beside the heap

-- the number of the word at an address in its segment, from the segment's base on
abbrev pub word_number : HeapView → ℕ → ℕ
word_number h x = (x - (segment_at h (memory_index h.memories x)).base) / 8

-- whether the word has its bit in the set of its segment
abbrev pub is_seen : HeapView → List (List ℕ) → ℕ → Bool
is_seen h seen x = has_bit (get_or seen (memory_index h.memories x) []) (word_number h x)

-- the set of a segment has room for the words of its used range
abbrev pub HasRoomAt : HeapView → List (List ℕ) → ℕ → Type 0
HasRoomAt h seen k =
    ((segment_at h k).end - (segment_at h k).base) / 8 ≤ 64 * length (get_or seen k [])

-- there is a set for each segment, with room for the words of its used range
pub record HasRoom (h : HeapView) (seen : List (List ℕ)) : Type 0 where
  pub count : length seen ≡ length h.segments
  pub room : (k : ℕ) → k < length h.segments → HasRoomAt h seen k

-- ---- what was found

-- each object that was found is an entry; this one stands for none
abbrev pub no_entry : FoundObject
no_entry = record { place = 0; origin = Local 0 }

abbrev pub entry_of : List FoundObject → ℕ → FoundObject
entry_of es i = get_or es i no_entry

-- the place of an entry
abbrev pub place_at : List FoundObject → ℕ → ℕ
place_at es i = (entry_of es i).place

-- the place is that of an entry
pub record IsListed (es : List FoundObject) (x : ℕ) : Type 0 where
  pub index : ℕ
  pub below : index < length es
  pub is : place_at es index ≡ x

abbrev pub is_listed : List FoundObject → ℕ → Bool
is_listed es x = list_any (λ e. e.place == x) es

-- the item is that of entry i
pub record IsItemOf (v : View) (es : List FoundObject) (i : ℕ) (item : Item) : Type 0 where
  pub below : i < length es
  pub place : item.place ≡ place_at es i
  pub stands : IsObjectAt v.types.now v.heap.now item.place item

-- handle h is strong or pinned, and names the place
pub record IsHandleRoot (v : View) (h place : ℕ) : Type 0 where
  pub row : Row
  pub in_use : finmap.get v.handles.now h ≡ Some row
  pub holds : IsTrue (is_root_kind row.kind)
  pub target : row.target ≡ place

-- what led to the place: a root, or one of the first n entries
abbrev pub IsOrigin : View → List FoundObject → ℕ → ℕ → Origin → Type 0
IsOrigin v es n place (Local i) = slice_get v.locals.now i ≡ Some place
IsOrigin v es n place (Handle h) = IsHandleRoot v h place
IsOrigin v es n place (Ready i) = slice_get v.finals.now.ready i ≡ Some place
IsOrigin v es n place (Through q) = (q < n) × Leads v (place_at es q) place

-- entry i is an object, by a root or by an entry before it
pub record IsEntry (v : View) (es : List FoundObject) (i : ℕ) : Type 0 where
  pub stands : IsObjectOf v (place_at es i)
  pub origin : IsOrigin v es i (place_at es i) (entry_of es i).origin

-- THE LAW OF A SEARCH: the entries are objects, each once, and have their bits, and each came from a root or by an
-- entry before it
pub record IsSearch (v : View) (seen : List (List ℕ)) (es : List FoundObject) : Type 0 where
  pub room : HasRoom v.heap.now seen
  pub listed : (x : ℕ) → IsObjectOf v x → is_seen v.heap.now seen x ≡ true → IsListed es x
  pub marked : (x : ℕ) → IsListed es x → is_seen v.heap.now seen x ≡ true
  pub sound : (i : ℕ) → i < length es → IsEntry v es i
  pub distinct : (i j : ℕ) → i < j → j < length es → place_at es i ≢ place_at es j

-- entries were added at the end
pub record HasGrown (old new : List FoundObject) : Type 0 where
  pub longer : length old ≤ length new
  pub same : (i : ℕ) → i < length old → entry_of new i ≡ entry_of old i

-- what led to each entry that was added is of this sort
abbrev pub AllCameBy : List FoundObject → (Origin → Type 0) → List FoundObject → Type 0
AllCameBy old By new = (j : ℕ) → length old ≤ j → j < length new → By (entry_of new j).origin

-- each entry that was added has this origin
abbrev pub AllCame : List FoundObject → Origin → List FoundObject → Type 0
AllCame old o new = AllCameBy old (λ (x : Origin). x ≡ o) new

-- 1 more than the index of the entry that led to an entry, or 0 for a root
abbrev pub via_of : Origin → ℕ
via_of (Local i) = 0
via_of (Handle h) = 0
via_of (Ready i) = 0
via_of (Through q) = suc q

-- that number of entry i
abbrev pub via_at : List FoundObject → ℕ → ℕ
via_at es i = via_of (entry_of es i).origin

-- whatever the places of the first n entries lead to was found
abbrev pub IsFollowed : View → List FoundObject → ℕ → Type 0
IsFollowed v es n = (i y : ℕ) → i < n → i < length es → Leads v (place_at es i) y → IsListed es y

-- entries were added, among them whatever is to be found
pub record HasAdded (v : View) (old : List FoundObject) (seen : List (List ℕ)) (new : List FoundObject)
    (Wanted : ℕ → Type 0) : Type 0 where
  pub search : IsSearch v seen new
  pub grown : HasGrown old new
  pub added : (x : ℕ) → Wanted x → IsListed new x

-- entries were added, among them whatever the slots of entry i name
abbrev pub HasFollowed : View → List FoundObject → ℕ → List (List ℕ) → List FoundObject → Type 0
HasFollowed v old i seen new =
    HasAdded v old seen new (SlotNames (objects_in v.types.now v.heap.now) (place_at old i))

-- ---- dependent handles

-- each tie is a dependent handle's, and each such handle has a tie
pub record ListsTies (handles : FinMap nat_cmp Row) (ties : List Tie) : Type 0 where
  pub only : All (λ (t : Tie). SecondOf handles t.primary t.second) ties
  pub all : (x y : ℕ) → SecondOf handles x y → Contains ties (record { primary = x; second = y })

-- and they stand by rising places of the primaries
pub record AreTies (handles : FinMap nat_cmp Row) (ties : List Tie) : Type 0 where
  pub listed : ListsTies handles ties
  pub rise : IsNonDecreasingBy (λ (t : Tie). t.primary) ties
