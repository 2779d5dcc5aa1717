-- Segments that hold objects of one kind.
use Rattle.std.proofs.Common.{◌≡◌, ap, Bool, if◌then◌else◌, refl, true}
use Rattle.clr_types.specs.Segments.{is_small_or_ephemeral, same_kind}
use Rattle.clr_types.specs.declared.segment.SegKind.{SegKind}
use Rattle.clr_types.specs.declared.segment.SegKind.TheVariants.{Ephemeral, Large, Pinned, Small}
use Rattle.clr_plan.specs.Stages.{hold_alike}

pub alike-self : (a : SegKind) → hold_alike a a ≡ true
alike-self Small = refl
alike-self Ephemeral = refl
alike-self Large = refl
alike-self Pinned = refl

-- as small ones hold them
pub alike-small : (a b : SegKind) → is_small_or_ephemeral a ≡ true → hold_alike a b ≡ is_small_or_ephemeral b
alike-small a b small = ap (λ (c : Bool). if c then is_small_or_ephemeral b else same_kind a b) small

-- as large ones do
pub alike-large : (a b : SegKind) → same_kind Large a ≡ true → hold_alike a b ≡ same_kind Large b
alike-large Small b large = absurd cc
alike-large Ephemeral b large = absurd cc
alike-large Large b large = refl
alike-large Pinned b large = absurd cc
