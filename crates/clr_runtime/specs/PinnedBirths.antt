-- The checks of a line that makes a pinned object.
use Rattle.std.specs.Prelude.{◌≡◌, ℕ, ◌<◌, ◌≤◌, List, true, false, Some, None, Result, Ok, Err}
use Rattle.clr_types.specs.Types.{TypeRow, form_at, is_array, is_array_with_references, number_of, size_of}
use Rattle.clr_model.specs.declared.Refusal.{Refusal}
use Rattle.clr_model.specs.declared.Refusal.TheVariants.{UnknownType, BadShape, HasReferences, NoSlot, TooBig}
use Rattle.clr_model.specs.Instructions.{new_pinned}
use Rattle.clr_model.specs.Run.{Follows}
use Rattle.clr_runtime.specs.Outcomes.{place_outcome}
use Rattle.clr_runtime.specs.RuntimeView.{seen}
use Rattle.clr_runtime.specs.declared.births.Request.{Request}
use Rattle.clr_runtime.specs.declared.parts.Parts.{Parts}

-- the name is that of an array without references
pub record IsPinnableType (rows : List TypeRow) (name : List ℕ) (type : ℕ) : Type 0 where
  pub known : number_of rows name ≡ Some type
  pub array : is_array (form_at rows type) ≡ true
  pub plain : is_array_with_references (form_at rows type) ≡ false

-- What is asked for: an array of this type and length, which a line may make. It has so many bytes, and no entry.
pub record IsMeasuredPinned (rows : List TypeRow) (k : ℕ) (name : List ℕ) (len : ℕ) (request : Request) : Type 0 where
  pub suited : IsPinnableType rows name request.type_id.0
  pub local : k < 64
  pub len_is : request.len ≡ len
  pub size_is : request.size ≡ size_of (form_at rows request.type_id.0) len
  pub most : request.size ≤ 1073741824
  pub entry : request.finalizer ≡ false

-- The first of the checks that fails, or what is asked for.
abbrev pub MeasuredPinned : List TypeRow → ℕ → List ℕ → ℕ → Result Request Refusal → Type 0
MeasuredPinned rows local name len (Ok request) = IsMeasuredPinned rows local name len request
MeasuredPinned rows local name len (Err UnknownType) = number_of rows name ≡ None
MeasuredPinned rows local name len (Err BadShape) =
    (t : ℕ) × (number_of rows name ≡ Some t) × (is_array (form_at rows t) ≡ false)
MeasuredPinned rows local name len (Err HasReferences) =
    (t : ℕ) × (number_of rows name ≡ Some t) × (is_array (form_at rows t) ≡ true)
    × (is_array_with_references (form_at rows t) ≡ true)
MeasuredPinned rows local name len (Err NoSlot) = (t : ℕ) × IsPinnableType rows name t × (64 ≤ local)
MeasuredPinned rows local name len (Err TooBig) =
    (t : ℕ) × IsPinnableType rows name t × (local < 64) × (1073741824 < size_of (form_at rows t) len)
MeasuredPinned rows local name len (Err _) = ⊥

-- a line asks for it by some name
abbrev pub IsAskedPinned : List TypeRow → ℕ → Request → Type 0
IsAskedPinned rows local request = (name : List ℕ) × (len : ℕ) × IsMeasuredPinned rows local name len request

-- each line that asks for it is followed so
abbrev pub FollowsAskedPinned : Parts → Parts → ℕ → ℕ → Request → Result ℕ Refusal → Type 0
FollowsAskedPinned old new t local request result =
    (name : List ℕ) (len : ℕ) → IsMeasuredPinned old.types local name len request
    → Follows (seen old) (new_pinned t local name len) (place_outcome result) (seen new)
