use Rattle.std.proofs.Common.{◌≡◌, ℕ, ◌-◌, ◌<◌, ◌≤◌, None}
use Rattle.clr_heap.specs.ObjectKinds.{IsObjectKind}
use Rattle.clr_heap.specs.Parts.{hole_from}
use Rattle.clr_heap.specs.View.{CanWalk, first_of, holes_of, items_between, last_of, listing, sight}
use Rattle.clr_bgmark.specs.FirstParts.{IsTold}
use Rattle.clr_bgmark.specs.Pauses.{taken_in}
use Rattle.clr_bgmark.specs.Shades.{IsShade}
use Rattle.clr_bgmark.proofs.FirstTaken.{shape}
use Rattle.clr_bgmark.proofs.ToldParts.{with_stop}
use Rattle.clr_bgmark.proofs.first_pause.take_items.Given as goal

abbrev pub invariant-loop-place : goal.invariant-loop-place
invariant-loop-place l = record {
  walk : CanWalk (sight l.types l.heap l.k) l.heap.memories l.place (last_of l.heap l.k);
  low : first_of l.heap l.k ≤ l.place;
  shape : shape l.shade ≡ shape l.initial.shade;
  taken : taken_in l.heap l.shade (items_between (sight l.types l.heap l.k) l.place (last_of l.heap l.k))
      ≡ taken_in l.heap l.initial.shade (listing l.types l.heap l.k);
  clear : (q : ℕ) → l.place ≤ q → q < l.next_hole → hole_from (holes_of l.heap l.k) q ≡ None;
  known : IsObjectKind l.types l.known;
  lawful : IsShade l.shade;
  told : IsTold l.types l.heap l.shade (with_stop l.part l.place);
}

abbrev pub decreases-loop-place : goal.decreases-loop-place
decreases-loop-place l = last_of l.heap l.k - l.place
