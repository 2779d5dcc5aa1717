-- The birth of an object at a place: what it makes of the machine, and what is then seen.
use Rattle.std.proofs.Common.{◌≡◌, ℕ, ◌+◌, ◌≤◌, List, [], ◌∷◌, ◌++◌, map, refl, Bool, true, false, if◌then◌else◌}
use Rattle.std.proofs.Common.{slice_set, is_some}
use Rattle.std.specs.List.{AllByRecursion}
use Rattle.clr_types.specs.Rising.{sorted_by}
use Rattle.clr_types.specs.Ranges.{Piece, by_place}
use Rattle.clr_types.specs.Types.{type_row, form_at, has_finalizer, is_array, size_of}
use Rattle.clr_types.specs.Segments.{Layout, generation, reserved_sum, rest_pieces}
use Rattle.clr_types.specs.LawfulLayout.{IsLawfulLayout}
use Rattle.clr_model.specs.Machine.{Object, Sums, Machine}
use Rattle.clr_model.specs.Lookups.{local_index, object_piece}
use Rattle.clr_model.specs.Updates.{empty_slots, with_entry, born_at}
use Rattle.clr_model.specs.Allocation.{with_layout}
use Rattle.clr_model.specs.Step.{with_entry_of}
use Rattle.clr_model.specs.Lawful.{SuitsItsSegment, HasItsRoom, AllFrom}
use Rattle.clr_model.proofs.SplitPieces.{FillSegments}

-- the size of an object of this type and length
abbrev pub born_size : Machine → ℕ → ℕ → ℕ
born_size m type len = size_of (form_at m.types type) len

-- the object that is born at the place, under a name
abbrev pub born_object : Machine → ℕ → ℕ → ℕ → ℕ → Object
born_object m name place type len =
    record {
      name = name;
      place = place;
      type = type;
      len = len;
      slots = empty_slots (form_at m.types type) len;
      suppressed = false;
    }

-- the objects with the new one
abbrev pub born_objects : Machine → ℕ → ℕ → ℕ → List Object
born_objects m place type len = m.objects ++ (born_object m (m.born + 1) place type len ∷ [])

-- the finalisation entries with this object of this type, which is among them where the type has a finaliser
abbrev pub born_entries : Machine → ℕ → ℕ → List ℕ
born_entries m type name = if has_finalizer (type_row m.types type) then m.entries ++ (name ∷ []) else m.entries

-- the machine with one object more in a new layout, under these sums, by its parts
abbrev pub placed_in : Machine → Layout → Sums → ℕ → ℕ → ℕ → ℕ → ℕ → Machine
placed_in m layout sums t local place type len = record m {
  born = m.born + 1;
  objects = born_objects m place type len;
  locals = slice_set m.locals (local_index t local) (m.born + 1);
  layout = layout;
  sums = sums;
}

-- the machine after the birth
abbrev pub with_birth : Machine → Layout → Sums → ℕ → ℕ → ℕ → ℕ → ℕ → Machine
with_birth m layout sums t local place type len =
    record (placed_in m layout sums t local place type len) { entries = born_entries m type (m.born + 1) }

-- What is seen after the birth: the new object, named by its place, stands among the others by rising place.
abbrev pub seen_birth : Machine → Layout → Sums → ℕ → ℕ → ℕ → ℕ → ℕ → Machine
seen_birth seen layout sums t local place type len = record seen {
  objects = sorted_by (λ o. o.name) (seen.objects ++ (born_object seen place place type len ∷ []));
  locals = slice_set seen.locals (local_index t local) place;
  entries = born_entries seen type place;
  layout = layout;
  sums = sums;
}

-- An object of this type and length may be.
pub record IsBirth (m : Machine) (type len : ℕ) : Type 0 where
  pub typed : is_some (type_row m.types type) ≡ true
  pub class : is_array (form_at m.types type) ≡ false → len ≡ 0
  pub most : born_size m type len ≤ 1073741824

-- what fills memory with the object in the layout, in no order
abbrev pub birth_pieces : Machine → Layout → ℕ → ℕ → ℕ → List Piece
birth_pieces m layout place type len =
    (map (object_piece m.types) (born_objects m place type len) ++ layout.free) ++ rest_pieces layout.rests

-- The layout has the place for the object: with it the pieces fill the segments, and all else is as lawful as before.
pub record IsBirthplace (m : Machine) (layout : Layout) (place type len : ℕ) : Type 0 where
  pub lawful : IsLawfulLayout layout
  pub fills : FillSegments layout (by_place (birth_pieces m layout place type len))
  pub young : AllByRecursion (λ (p : Piece). generation layout p.place ≡ 0) (rest_pieces layout.rests)
  pub suited : AllByRecursion (SuitsItsSegment (with_layout m layout)) (born_objects m place type len)
  pub limit : reserved_sum layout ≤ m.options.limit
  pub rooms : AllFrom (HasItsRoom (with_layout m layout)) 1 m.steps
  pub ages : (x : ℕ) → generation layout x ≡ generation m.layout x

-- the machine after the birth, by whether the type has a finaliser: as the line makes it, and by its parts
abbrev born_by : Machine → Layout → (Sums → Sums) → ℕ → ℕ → ℕ → ℕ → ℕ → Bool → Machine
born_by m layout spend t local place type len finalizer =
    let born = born_at (with_layout m layout) t local place type len in
    let w : Machine = if finalizer then with_entry born (m.born + 1) else born in
    record w { sums = spend w.sums }

abbrev parts_by : Machine → Layout → (Sums → Sums) → ℕ → ℕ → ℕ → ℕ → ℕ → Bool → Machine
parts_by m layout spend t local place type len finalizer =
    record (placed_in m layout (spend m.sums) t local place type len) {
      entries = if finalizer then m.entries ++ ((m.born + 1) ∷ []) else m.entries;
    }

-- the birth gives the machine these parts
pub with_birth-is : (m : Machine) (layout : Layout) (spend : Sums → Sums) (t local place type len : ℕ)
    → (let w = with_entry_of (born_at (with_layout m layout) t local place type len) type (m.born + 1) in
    record w { sums = spend w.sums }) ≡ with_birth m layout (spend m.sums) t local place type len
with_birth-is m layout spend t local place type len = go (has_finalizer (type_row m.types type))
  where
    go : (b : Bool)
        → born_by m layout spend t local place type len b ≡ parts_by m layout spend t local place type len b
    go true = refl
    go false = refl
