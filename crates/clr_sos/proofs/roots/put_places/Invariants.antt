use Rattle.std.proofs.Common.{◌≡◌, ◌++◌, take}
use Rattle.std.specs.List.{flat_map}
use Rattle.clr_sos.specs.RootTexts.{place_line}
use Rattle.clr_sos.proofs.roots.put_places.Given as goal

abbrev pub invariant-loop-place : goal.invariant-loop-place
invariant-loop-place l =
    l.text.items ≡ l.initial.text.items ++ flat_map (place_line l.view) (take l.place-index l.places)
