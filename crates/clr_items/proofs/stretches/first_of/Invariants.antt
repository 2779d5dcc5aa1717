use Rattle.std.proofs.Common.{◌≡◌, find, drop}
use Rattle.clr_types.specs.Ranges.{fits}
use Rattle.clr_items.proofs.stretches.first_of.Given as goal

abbrev pub invariant-loop-item : goal.invariant-loop-item
invariant-loop-item l = find (λ p. fits l.size p.size) (drop l.item-index l.items)
    ≡ find (λ p. fits l.size p.size) l.items
