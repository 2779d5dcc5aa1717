-- Laws on images: that bytes are read in one way, and which versions there are.
use Rattle.std.specs.Prelude.{◌≡◌, ℕ, List, false}
use Rattle.clr_model.specs.Machine.{Machine}
use Rattle.clr_format.specs.Images.{HasFault, is_first, IsImage, Parts}
use Rattle.clr_format.specs.Saved.{image_bytes, migrated}

-- bytes are an image in one way at most
abbrev pub OneImageLaw : Type 0
OneImageLaw = (bytes : List ℕ) (p q : Parts) → IsImage bytes p → IsImage bytes q → p ≡ q

-- bytes that are an image have no fault
abbrev pub NoFaultLaw : Type 0
NoFaultLaw = (bytes : List ℕ) (p : Parts) (o : ℕ) → IsImage bytes p → HasFault bytes o → ⊥

-- the image of a machine is of the second version
abbrev pub SavedVersionLaw : Type 0
SavedVersionLaw = (m : Machine) → is_first (image_bytes m) ≡ false

-- an image, or what stands for it in the second version
abbrev pub in_second : List ℕ → List ℕ
in_second bytes = migrated (is_first bytes) bytes

-- what is migrated is of the second version, and stays where it is migrated again
abbrev pub MigratedStaysLaw : Type 0
MigratedStaysLaw =
    (bytes : List ℕ) → (is_first (in_second bytes) ≡ false) × (in_second (in_second bytes) ≡ in_second bytes)
