-- What is told of the roots that reach an object.
use Rattle.std.specs.Prelude.{◌≡◌, ℕ, ◌+◌, ◌/◌, ◌%◌, ◌<◌, ◌⊎◌, List, [], ◌∷◌, length, codes, decimal}
use Rattle.clr_nums.specs.Numbers.{hex16}
use Rattle.clr_types.specs.Types.{name_of}
use Rattle.clr_view.specs.View.{objects_in}
use Rattle.clr_model.specs.Lookups.{object_at}
use Rattle.clr_model.specs.Machine.{Machine}
use Rattle.clr_model.specs.Reach.{Live}
use Rattle.clr_model.specs.Sos.{IsRootText, line, type_of_place}
use Rattle.clr_sos.specs.Reaching.{entry_of, place_at}
use Rattle.clr_sos.specs.declared.reach.FoundObject.{FoundObject}
use Rattle.clr_sos.specs.declared.reach.Origin.{Origin}
use Rattle.clr_sos.specs.declared.reach.Origin.TheVariants.{Local, Handle, Ready, Through}
use Rattle.clr_sos.specs.declared.view.View.{View}

-- a shortest chain from a root to the object, or `none` where the roots don't reach it
abbrev pub TellsRoot : Machine → ℕ → List ℕ → Type 0
TellsRoot m a text = IsRootText m a text ⊎ ((Live m a → ⊥) × (text ≡ line (codes "none" ∷ [])))

-- the line of a root
abbrev pub origin_line : Origin → List ℕ
origin_line (Local i) = line (codes "root" ∷ (116 ∷ decimal (i / 64 + 1)) ∷ (108 ∷ decimal (i % 64)) ∷ [])
origin_line (Handle h) = line (codes "root" ∷ (104 ∷ decimal h) ∷ [])
origin_line (Ready i) = line (codes "root" ∷ codes "ready" ∷ decimal i ∷ [])
origin_line (Through i) = []

-- the line of the object with a place
abbrev pub place_line : View → ℕ → List ℕ
place_line v place = line (hex16 place
    ∷ name_of v.types.now (type_of_place (object_at (objects_in v.types.now v.heap.now) place)) ∷ [])

-- it is a root, and not another object
abbrev pub IsRootOrigin : Origin → Type 0
IsRootOrigin (Local i) = Unit {0}
IsRootOrigin (Handle h) = Unit {0}
IsRootOrigin (Ready i) = Unit {0}
IsRootOrigin (Through i) = ⊥

-- it is a local
abbrev pub IsLocalOrigin : Origin → Type 0
IsLocalOrigin (Local i) = Unit {0}
IsLocalOrigin (Handle h) = ⊥
IsLocalOrigin (Ready i) = ⊥
IsLocalOrigin (Through i) = ⊥

-- what led to entry n stands before it
abbrev pub IsBefore : ℕ → Origin → Type 0
IsBefore n (Local i) = Unit {0}
IsBefore n (Handle h) = Unit {0}
IsBefore n (Ready i) = Unit {0}
IsBefore n (Through q) = q < n

abbrev pub AreBehind : List FoundObject → Type 0
AreBehind es = (i : ℕ) → i < length es → IsBefore i (entry_of es i).origin

-- Entry i leads over the places to the entry with the last: each place is that of an entry which was found through the
-- one before it.
pub data IsTrail (es : List FoundObject) (last : ℕ) : ℕ → List ℕ → Type 0 where
  ends : (i : ℕ) → i < length es → place_at es i ≡ last → IsTrail es last i (place_at es i ∷ [])
  leads : (q i : ℕ) (places : List ℕ) → q < i → (entry_of es i).origin ≡ Through q → IsTrail es last i places
      → IsTrail es last q (place_at es q ∷ places)
