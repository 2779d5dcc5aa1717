-- All parts of an image, as the program keeps them.
use Rattle.std.specs.Prelude.{◌≡◌, ℕ, List, Result, Ok, Err}
use Rattle.clr_fields.specs.Fields.{Found, fault, found}
use Rattle.clr_fields.specs.declared.fault.LoadFault.{LoadFault}
use Rattle.clr_fields.specs.declared.fault.LoadFault.TheVariants.{At, NoMemory}
use Rattle.clr_load.specs.Bodies.{IsBody}
use Rattle.clr_format.specs.Images as images
use Rattle.clr_load.specs.ReadTables.{rest_of}
use Rattle.clr_load.specs.declared.parts.Kept.{Kept}

-- what is kept stands for these parts
pub record IsParts (bytes : List ℕ) (kept : Kept) (p : images.Parts) : Type 0 where
  pub head : kept.head ≡ p.head
  pub types : kept.types ≡ p.types
  pub body : IsBody bytes p.types kept.body p.body
  pub rest : rest_of kept.rest ≡ p.rest

-- the answer stands for what is there, or is its fault
abbrev pub Keeps : {A B : Type 0} → (B → A → Type 0) → Found A → Result B LoadFault → ℕ → Type 0
Keeps {A = A} R there (Ok x) next = (value : A) × (there ≡ found value next) × R x value
Keeps R there (Err (At o)) next = there ≡ fault o
Keeps R there (Err NoMemory) next = Unit {0}

-- the first pass over all bytes
abbrev pub ReadsParts : List ℕ → Result Kept LoadFault → Type 0
ReadsParts bytes (Ok kept) = (p : images.Parts) × (next : ℕ) × (images.fields_of bytes ≡ found p next)
    × IsParts bytes kept p
ReadsParts bytes (Err (At o)) = images.fields_of bytes ≡ fault o
ReadsParts bytes (Err NoMemory) = Unit {0}
