-- How far the highest end of a reservation rises over a line.
use Rattle.std.proofs.Common.{◌≡◌, ℕ, ◌+◌, ◌≤◌, ◌^◌, List, ap, arith}
use Rattle.clr_model.specs.Machine.{Machine}
use Rattle.clr_model.specs.Lawful.{IsLawful, IsPlaceNamed}
use Rattle.clr_model.specs.Outcomes.{Outcome}
use Rattle.clr_lines.specs.Lines.{Step, too_long, no_syntax, obeyed, FollowsLine}
use Rattle.clr_model.proofs.SeenStands.{sound_stands}
use Rattle.clr_model.proofs.TopGrowsByLine.{line_reserves}

-- what stays reserves nothing
stayed : (m new : Machine) → new ≡ m → new.layout.top ≤ m.layout.top + 2 ^ 30
stayed m new stays = let same = ap (λ (s : Machine). s.layout.top) stays in omega (arith, same)

-- so a line of bytes reserves little
step_reserves_little : (m : Machine) (bytes : List ℕ) (outcome : Outcome) (new : Machine) → IsLawful m
    → Step m bytes outcome new → new.layout.top ≤ m.layout.top + 2 ^ 30
step_reserves_little m bytes outcome new lawful (too_long long is stays) = stayed m new stays
step_reserves_little m bytes outcome new lawful (no_syntax short none is stays) = stayed m new stays
step_reserves_little m bytes outcome new lawful (obeyed i r obeys) = line_reserves m i outcome new lawful obeys

-- and so it can be seen
pub top_grows : (old new : Machine) (bytes : List ℕ) (outcome : Outcome) → IsPlaceNamed old
    → FollowsLine old bytes outcome new → new.layout.top ≤ old.layout.top + 2 ^ 30
unfolding FollowsLine
top_grows old new bytes outcome sound follows =
    let (m, stands) = sound_stands old sound in
    let (next, step, shown) = follows m stands in
    let before : m.layout.top ≡ old.layout.top = ap (λ (s : Machine). s.layout.top) stands.seen_is in
    let after : next.layout.top ≡ new.layout.top = ap (λ (s : Machine). s.layout.top) shown.seen_is in
    let grown = step_reserves_little m bytes outcome next stands.lawful.lawful step in
    omega (arith, before, after, grown)
