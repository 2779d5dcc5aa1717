-- An image that was loaded, and what stands of it.
use Rattle.std.specs.Prelude.{◌≡◌, ℕ, ◌<◌, ◌≤◌, length, List, slice_index}
use Rattle.std.specs.List.{AllByRecursion}
use Rattle.clr_types.specs.Table.{HasDistinctNames, IsLawfulRow}
use Rattle.clr_format.specs.Images.{IsImage, Parts}
use Rattle.clr_load.specs.Shown.{ShowsParts}
use Rattle.clr_load.specs.Sound.{IsSound}
use Rattle.clr_load.specs.declared.image.Image.{Image}
use Rattle.clr_opened.specs.Opened.{Budgets, opened, options_with}
use Rattle.clr_runtime.specs.Standings.{CanGoOn, standing_machine}
use Rattle.clr_runtime.specs.declared.standing.Standing.{Standing}

-- what was loaded of these bytes, which are an image with these parts, beside what holds of all bytes and of all types
pub record IsRead (bytes : List ℕ) (image : Image) (p : Parts) : Type 0 where
  pub is : IsImage bytes p
  pub fits : (j : ℕ) → slice_index bytes j < 256
  pub types : AllByRecursion IsLawfulRow image.types
  pub few : length image.types ≤ 1000
  pub distinct : HasDistinctNames image.types
  pub shows : ShowsParts image p
  pub sound : IsSound image

-- a runtime goes on from it, and shows the machine that the image says
pub record StandsAs (s : Standing) (p : Parts) (b : Budgets) : Type 0 where
  pub goes_on : CanGoOn s (options_with p b)
  pub machine : standing_machine s (options_with p b) ≡ opened p b
