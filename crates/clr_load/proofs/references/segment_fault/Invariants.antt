-- No reference before a place is bad.
use Rattle.std.proofs.Common.{◌≡◌, ◌-◌, ◌%◌, ◌≤◌, List}
use Rattle.clr_types.specs.Segments.{first_place}
use Rattle.clr_types.specs.declared.item.Item.{Item}
use Rattle.clr_load.specs.FoundItems.{AreThere, IsLeft}
use Rattle.clr_load.proofs.references.segment_fault.Given as goal

abbrev pub invariant-loop-place : goal.invariant-loop-place
invariant-loop-place l = record {
  aligned : l.place % 8 ≡ 0;
  low : first_place l.scan.info ≤ l.place;
  high : l.place ≤ l.scan.info.end;
  left : (here : List Item) (r : AreThere l.scan here) → IsLeft l.scan r.rules l.starts here l.place;
}

abbrev pub decreases-loop-place : goal.decreases-loop-place
decreases-loop-place l = l.scan.info.end - l.place
