-- What a step of the marker does.
use Rattle.std.specs.Prelude.{◌≡◌, ℕ, ◌+◌, ◌/◌, ◌%◌, ◌<◌, ◌^◌, ◌⊎◌, Bool, true, ◌&&◌, not, IsTrue, List, filter, length}
use Rattle.std.specs.Prelude.{map, slice_get, Some}
use Rattle.clr_types.specs.Rising.{IsIn}
use Rattle.clr_types.specs.Types.{TypeRow}
use Rattle.clr_heap.specs.View.{HeapView, word_of}
use Rattle.clr_model.specs.Background.{Scans, ScansUpTo, taken}
use Rattle.clr_model.specs.Machine.{ref, Object, Machine, Marking}
use Rattle.clr_view.specs.SlotValues.{StandsAt}
use Rattle.clr_background.specs.Log.{slot_address}
use Rattle.clr_mark.specs.Markings.{references_at}
use Rattle.clr_bgmark.specs.Shades.{BackgroundView, ShadeView, blackened, met_all, is_covered, is_logged, is_marked}
use Rattle.clr_bgmark.specs.Shades.{is_scanned, is_taken}

-- what the slots of an object name is followed, and it becomes black
abbrev pub followed : List TypeRow → HeapView → BackgroundView → ℕ → BackgroundView
followed rows h v obj = blackened (met_all (word_of h) v obj (references_at rows h obj)) obj

-- ---- the colours as lists of names

abbrev pub is_white_place : List ShadeView → ℕ → Bool
is_white_place ss a = is_taken ss a && (not (is_marked ss a) && not (is_scanned ss a))

abbrev pub is_gray_place : List ShadeView → ℕ → Bool
is_gray_place ss a = is_marked ss a && not (is_scanned ss a)

-- the places of a heap's objects that a test passes
abbrev pub places_where : (ℕ → Bool) → List Object → List ℕ
places_where test objects = filter test (map (λ (o : Object). o.name) objects)

-- the objects of each colour, by rising place
abbrev pub marking_in : List Object → List ShadeView → Marking
marking_in objects ss = record {
  white = places_where (is_white_place ss) objects;
  gray = places_where (is_gray_place ss) objects;
  black = places_where (is_scanned ss) objects;
}

-- each place that was taken, marked or scanned is that of an object
pub record AreObjects (rows : List TypeRow) (h : HeapView) (ss : List ShadeView) : Type 0 where
  pub taken : (a : ℕ) → a % 8 ≡ 0 → is_taken ss a ≡ true → StandsAt rows h a
  pub marked : (a : ℕ) → a % 8 ≡ 0 → is_marked ss a ≡ true → StandsAt rows h a
  pub scanned : (a : ℕ) → a % 8 ≡ 0 → is_scanned ss a ≡ true → StandsAt rows h a
  pub black : (a : ℕ) → a % 8 ≡ 0 → is_scanned ss a ≡ true → is_marked ss a ≡ true

-- a background collection knows how many of these objects are gray
abbrev pub IsCounted : List Object → BackgroundView → Type 0
IsCounted objects v = v.gray ≡ length (marking_in objects v.shades).gray

-- so many gray objects were scanned, one after the other, in every machine of these objects
abbrev pub HasScanned : List Object → ℕ → List ShadeView → ℕ → List ShadeView → Type 0
HasScanned objects n old count new =
    (m : Machine) → m.objects ≡ objects → ScansUpTo m n (marking_in objects old) count (marking_in objects new)

-- one gray object was scanned
abbrev pub HasScannedOne : List Object → List ShadeView → List ShadeView → Type 0
HasScannedOne objects old new =
    (m : Machine) → m.objects ≡ objects → Scans m (marking_in objects old) (marking_in objects new)

-- the object at a place was taken
abbrev pub IsTakenAt : List ShadeView → ℕ → Type 0
IsTakenAt ss x = (x % 8 ≡ 0) × ((is_taken ss x ≡ true) ⊎ (is_marked ss x ≡ true))

-- all references of what was taken lie in the segments
abbrev pub HaveWholeObjects : List TypeRow → HeapView → List ShadeView → Type 0
HaveWholeObjects rows h ss =
    (x offset : ℕ) → IsTakenAt ss x → IsIn offset (references_at rows h x) → is_covered ss (x + offset) ≡ true

-- ---- the log

-- a slot of an object that became black names what wasn't taken, and lies on the card of the address
pub record IsReadAt (m : Machine) (old new : Marking) (a : ℕ) : Type 0 where
  pub object : Object
  pub present : IsIn object m.objects
  pub black : IsIn object.name new.black
  pub was_not : IsIn object.name old.black → ⊥
  pub slot : ℕ
  pub name : ℕ
  pub holds : slice_get object.slots slot ≡ Some (ref name)
  pub not_null : 0 < name
  pub untaken : IsIn name (taken old) → ⊥
  pub card : slot_address m object slot / 2048 ≡ a / 2048

-- what becomes of the log where objects become black: the cards are logged of which such a slot is read, and no others
pub record LogsRead (m : Machine) (old new : Marking) (was_logged is_logged : ℕ → Bool) : Type 0 where
  pub stays : (a : ℕ) → IsTrue (was_logged a) → IsTrue (is_logged a)
  pub read : (a : ℕ) → IsReadAt m old new a → IsTrue (is_logged a)
  pub only : (a : ℕ) → IsTrue (is_logged a) → IsTrue (was_logged a) ⊎ IsReadAt m old new a

-- so it is in every machine of these types and objects
abbrev pub HasLogged : List TypeRow → List Object → List ShadeView → List ShadeView → Type 0
HasLogged rows objects old new =
    (m : Machine) → m.types ≡ rows → m.objects ≡ objects
    → LogsRead m (marking_in objects old) (marking_in objects new) (is_logged old) (is_logged new)
