-- A state without contexts has none to give up.
use Rattle.std.proofs.Common.{◌≡◌, ℕ, ◌++◌, ◌∷◌, [], List, None, Option, Some, append-nil, refl, ap, ◌∙◌}
use Rattle.std.specs.Prelude.{length, replicate}
use Rattle.clr_types.specs.Ranges.{by_place, Piece}
use Rattle.clr_types.specs.Segments.{rest_pieces}
use Rattle.clr_types.proofs.ChangedLists.{rising-sorted, sorted_by-done}
use Rattle.clr_shown.specs.Laws.{NothingGivenUpLaw}

-- where nothing is left of contexts, no thread has one
none-left : (rests : List (Option Piece)) → rest_pieces rests ≡ [] → replicate (length rests) None ≡ rests
none-left [] none = refl
none-left (None ∷ rests) none = ap (λ (os : List (Option Piece)). None ∷ os) (none-left rests none)
none-left (Some p ∷ rests) none = absurd cc

-- where nothing is left of contexts, giving up all leaves the state as it is
pub nothing-given : NothingGivenUpLaw
nothing-given m laid none =
    let place : Piece → ℕ = λ p. p.place in
    let layout = laid.layout in
    let free : by_place (m.layout.free ++ rest_pieces m.layout.rests) ≡ m.layout.free =
    ap (λ (ps : List Piece). by_place (m.layout.free ++ ps)) none ∙ ap by_place (append-nil m.layout.free)
    ∙ sorted_by-done place m.layout.free (rising-sorted place m.layout.free layout.free_rise) in
    λ i. record m { layout = record m.layout { free = free i; rests = none-left m.layout.rests none i } }
