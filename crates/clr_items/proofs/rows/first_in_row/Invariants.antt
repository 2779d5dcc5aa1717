use Rattle.std.proofs.Common.{◌≡◌, find, drop}
use Rattle.clr_types.specs.Ranges.{fits}
use Rattle.clr_items.specs.Stretches.{all_of}
use Rattle.clr_items.proofs.rows.first_in_row.Given as goal

abbrev pub invariant-loop-stretch : goal.invariant-loop-stretch
invariant-loop-stretch l = find (λ p. fits l.size p.size) (all_of (drop l.stretch-index l.row))
    ≡ find (λ p. fits l.size p.size) (all_of l.row)
