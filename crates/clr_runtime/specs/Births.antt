-- The checks of a line that makes an object.
use Rattle.std.specs.Prelude.{◌≡◌, ℕ, ◌<◌, ◌≤◌, List, Bool, true, false, Option, Some, None, is_some, is_none}
use Rattle.std.specs.Prelude.{unwrap_or, length, Result, Ok, Err, if◌then◌else◌}
use Rattle.clr_types.specs.Types.{TypeRow, form_at, has_finalizer, is_array, number_of, size_of, type_row}
use Rattle.clr_types.specs.declared.TypeId.{TypeId}
use Rattle.clr_model.specs.declared.Refusal.{Refusal}
use Rattle.clr_model.specs.declared.Refusal.TheVariants.{UnknownType, BadShape, NoSlot, TooBig}
use Rattle.clr_model.specs.Instructions.{new_object}
use Rattle.clr_model.specs.Run.{Follows}
use Rattle.clr_runtime.specs.Outcomes.{place_outcome}
use Rattle.clr_runtime.specs.RuntimeView.{seen}
use Rattle.clr_runtime.specs.declared.births.Request.{Request}
use Rattle.clr_runtime.specs.declared.parts.Parts.{Parts}

-- the type of a name that a script defined
abbrev pub IsDefined : List TypeRow → List ℕ → Option TypeId → Type 0
IsDefined rows name None = number_of rows name ≡ None
IsDefined rows name (Some t) = (number_of rows name ≡ Some t.0) × (0 < t.0) × (t.0 ≤ length rows)

-- the type of this name, where it is known
abbrev pub IsKnown : List TypeRow → List ℕ → Option TypeId → Type 0
IsKnown rows name None = Unit {0}
IsKnown rows name (Some t) = IsDefined rows name (Some t)

-- a class is made without a length, and an array with one
abbrev pub suits : List TypeRow → ℕ → Option ℕ → Bool
suits rows t len = if is_array (form_at rows t) then is_some len else is_none len

abbrev pub measure_of : List TypeRow → ℕ → Option ℕ → ℕ
measure_of rows t len = size_of (form_at rows t) (unwrap_or len 0)

-- the name is that of a type, which may be made with this length
pub record IsSuited (rows : List TypeRow) (name : List ℕ) (len : Option ℕ) (type : ℕ) : Type 0 where
  pub known : number_of rows name ≡ Some type
  pub suited : suits rows type len ≡ true

-- What is asked for: an object of this type and length, which a line may make. It has so many bytes, and wants an entry
-- or none.
pub record IsMeasured (rows : List TypeRow) (k : ℕ) (name : List ℕ) (len : Option ℕ) (request : Request) : Type 0 where
  pub suited : IsSuited rows name len request.type_id.0
  pub local : k < 64
  pub len_is : request.len ≡ unwrap_or len 0
  pub size_is : request.size ≡ measure_of rows request.type_id.0 len
  pub most : request.size ≤ 1073741824
  pub entry : request.finalizer ≡ has_finalizer (type_row rows request.type_id.0)

-- The first of the checks that fails, or what is asked for.
abbrev pub Measured : List TypeRow → ℕ → List ℕ → Option ℕ → Result Request Refusal → Type 0
Measured rows local name len (Ok request) = IsMeasured rows local name len request
Measured rows local name len (Err UnknownType) = number_of rows name ≡ None
Measured rows local name len (Err BadShape) = (t : ℕ) × (number_of rows name ≡ Some t) × (suits rows t len ≡ false)
Measured rows local name len (Err NoSlot) = (t : ℕ) × IsSuited rows name len t × (64 ≤ local)
Measured rows local name len (Err TooBig) =
    (t : ℕ) × IsSuited rows name len t × (local < 64) × (1073741824 < measure_of rows t len)
Measured rows local name len (Err _) = ⊥

-- a line asks for it by some name
abbrev pub IsAsked : List TypeRow → ℕ → Request → Type 0
IsAsked rows local request = (name : List ℕ) × (len : Option ℕ) × IsMeasured rows local name len request

-- each line that asks for it is followed so
abbrev pub FollowsAsked : Parts → Parts → ℕ → ℕ → Request → Result ℕ Refusal → Type 0
FollowsAsked old new t local request result =
    (name : List ℕ) (len : Option ℕ) → IsMeasured old.types local name len request
    → Follows (seen old) (new_object t local name len) (place_outcome result) (seen new)
