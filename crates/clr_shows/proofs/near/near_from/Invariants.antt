use Rattle.std.proofs.Common.{◌≡◌, ℕ, ◌-◌, ◌<◌, ◌≤◌, is_some, None, true}
use Rattle.clr_heap.specs.ObjectKinds.{IsObjectKind}
use Rattle.clr_heap.specs.Parts.{hole_from}
use Rattle.clr_heap.specs.View.{CanWalk, first_of, holes_of, items_between, sight}
use Rattle.clr_shows.specs.Near.{near_in}
use Rattle.clr_shows.proofs.NearItems.{joined}
use Rattle.clr_shows.proofs.near.near_from.Given as goal

abbrev pub invariant-loop-place : goal.invariant-loop-place
invariant-loop-place l = record {
  walk : CanWalk (sight l.types l.heap l.k) l.heap.memories l.place l.end;
  near : near_in (items_between (sight l.types l.heap l.k) l.start l.end) l.a
      ≡ joined l.near (items_between (sight l.types l.heap l.k) l.place l.end) l.a;
  after : l.near.after ≡ None;
  past : is_some l.near.at ≡ true → l.a < l.place;
  clear : (q : ℕ) → l.place ≤ q → q < l.next_hole → hole_from (holes_of l.heap l.k) q ≡ None;
  known : IsObjectKind l.types l.known;
  low : first_of l.heap l.k ≤ l.place;
}

abbrev pub decreases-loop-place : goal.decreases-loop-place
decreases-loop-place l = l.end - l.place
