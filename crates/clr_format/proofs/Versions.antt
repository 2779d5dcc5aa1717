-- What bytes are read as, and the versions of images that are made.
use Rattle.std.proofs.Common.{◌≡◌, ℕ, List, Bool, true, false, refl, sym, ◌∙◌, ap}
use Rattle.clr_fields.specs.Fields.{fault, found}
use Rattle.clr_format.specs.Images.{is_first}
use Rattle.clr_format.specs.Laws.{in_second, MigratedStaysLaw, NoFaultLaw, OneImageLaw, SavedVersionLaw}
use Rattle.clr_format.specs.Saved.{image_bytes, migrated}

pub one_image : OneImageLaw
one_image bytes p q one two = let same : found p _ ≡ found q _ = sym one.is ∙ two.is in cc

pub no_fault : NoFaultLaw
no_fault bytes p o is bad = let clash : found p _ ≡ fault o = sym is.is ∙ bad.is in absurd cc

pub saved_second : SavedVersionLaw
unfolding is_first image_bytes
saved_second m = refl

-- behind the magic of the second version
migrated_second : (bytes : List ℕ) → is_first (migrated true bytes) ≡ false
unfolding is_first migrated
migrated_second bytes = refl

second_stays : (bytes : List ℕ) → migrated false bytes ≡ bytes
unfolding migrated
second_stays bytes = refl

pub migrated_stays : MigratedStaysLaw
migrated_stays bytes = let second = is_second (is_first bytes) refl in (second, stays second)
  where
    is_second : (first : Bool) → is_first bytes ≡ first → is_first (in_second bytes) ≡ false
    is_second true is = ap (λ (b : Bool). is_first (migrated b bytes)) is ∙ migrated_second bytes
    is_second false is =
        ap (λ (b : Bool). is_first (migrated b bytes)) is ∙ ap is_first (second_stays bytes) ∙ is

    stays : is_first (in_second bytes) ≡ false → in_second (in_second bytes) ≡ in_second bytes
    stays second = ap (λ (b : Bool). migrated b (in_second bytes)) second ∙ second_stays (in_second bytes)
