-- Which items `dumpheap` shows, its types told by number.
use Rattle.std.specs.Prelude.{◌≡◌, ℕ, ◌<◌, List, nat_le, nat_lt, Bool, true, if◌then◌else◌, ◌&&◌, ◌||◌, not, ◌==◌, Option, Some, None, is_some}
use Rattle.std.specs.List.{list_all}
use Rattle.clr_types.specs.Rising.{IsIn}
use Rattle.clr_types.specs.Types.{TypeRow, number_with_free}
use Rattle.clr_types.specs.declared.item.Item.{Item}
use Rattle.clr_types.specs.declared.TypeId.{TypeId}
use Rattle.clr_model.specs.Checks.{has_mt, list_of}
use Rattle.clr_model.specs.Instructions.{DumpOptions}
use Rattle.clr_model.specs.Sos.{passes_life}
use Rattle.clr_sos.specs.declared.places.Places.{Places}
use Rattle.clr_sos.specs.declared.places.Region.{Region}
use Rattle.clr_sos.specs.declared.wanted.Wanted.{Wanted}

-- a type has the name that is asked for, if one is
abbrev pub all_named : List TypeRow → Option (List ℕ) → Bool
all_named rows name = list_all (λ n. is_some (number_with_free rows n)) (list_of name)

-- no type has the method table word or the name that is asked for
abbrev pub is_unknown : List TypeRow → DumpOptions → Bool
is_unknown rows o = not (list_all (has_mt rows) (list_of o.mt)) || not (all_named rows o.name)

-- the item is of the type that is asked for, if one is
abbrev pub is_chosen : Option TypeId → Item → Bool
is_chosen None i = true
is_chosen (Some t) i = t.0 == i.type_id.0

-- the place is one of a stretch, or outside of it
abbrev pub has_place : Places → ℕ → Bool
has_place s place =
    if s.outside then not (nat_le s.low place && nat_lt place s.high) else nat_le s.low place && nat_lt place s.high

-- the place is anywhere, or among those of both stretches
abbrev pub is_in_region : Region → ℕ → Bool
is_in_region r place = r.anywhere || (has_place r.in_generation place && has_place r.in_segment place)

-- the item is of a type and a size that are asked for, and stands where it is asked for
abbrev pub is_fitting : Wanted → Item → Bool
is_fitting w i = ((is_chosen w.by_mt i && is_chosen w.by_name i) && (nat_le w.least i.size && nat_le i.size w.greatest))
    && is_in_region w.region i.place

-- the item is to be shown; `live` says which places hold objects that the roots reach
abbrev pub is_wanted : Wanted → (ℕ → Bool) → Item → Bool
is_wanted w live i =
    ((passes_life w.life live i && (is_chosen w.by_mt i && is_chosen w.by_name i))
    && (nat_le w.least i.size && nat_le i.size w.greatest))
    && is_in_region w.region i.place

-- ---- what is answered of places

-- of an object's place no answer is possible but the test's
abbrev pub AnswersAt : (ℕ → Bool → Type 0) → (ℕ → Bool) → Item → Type 0
AnswersAt answers test i = 0 < i.type_id.0 → (answer : Bool) → answers i.place answer → answer ≡ test i.place

-- so it is for each item of a list
abbrev pub AnswersFor : (ℕ → Bool → Type 0) → (ℕ → Bool) → List Item → Type 0
AnswersFor answers test items = (i : Item) → IsIn i items → AnswersAt answers test i

-- this may be asked of the place of each object of a list
abbrev pub MayAskOf : (ℕ → Type 0) → List Item → Type 0
MayAskOf P items = (i : Item) → IsIn i items → 0 < i.type_id.0 → P i.place
