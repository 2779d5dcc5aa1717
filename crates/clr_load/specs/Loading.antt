-- What loading answers.
use Rattle.std.specs.Prelude.{ℕ, List, Result, Ok, Err}
use Rattle.clr_fields.specs.declared.fault.LoadFault.{LoadFault}
use Rattle.clr_fields.specs.declared.fault.LoadFault.TheVariants.{At, NoMemory}
use Rattle.clr_format.specs.Images.{HasFault, IsImage, Parts}
use Rattle.clr_load.specs.Shown.{ShowsParts}
use Rattle.clr_load.specs.declared.image.Image.{Image}

-- the bytes are an image, and what was loaded shows its parts; or they aren't, and the offset of their first fault is
-- told; without memory nothing is
abbrev pub IsLoaded : List ℕ → Result Image LoadFault → Type 0
IsLoaded bytes (Ok image) = (parts : Parts) × IsImage bytes parts × ShowsParts image parts
IsLoaded bytes (Err (At o)) = HasFault bytes o
IsLoaded bytes (Err NoMemory) = Unit {0}
