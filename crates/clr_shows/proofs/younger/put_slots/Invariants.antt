use Rattle.std.proofs.Common.{◌≡◌, ◌≤◌, ◌++◌, length}
use Rattle.std.specs.List.{flat_map}
use Rattle.clr_model.specs.Looks.{younger_line}
use Rattle.clr_model.specs.Machine.{Machine}
use Rattle.clr_sos.specs.Views.{IsViewOf}
use Rattle.clr_shows.specs.Younger.{object_of}
use Rattle.clr_shows.proofs.YoungerSlots.{younger_below}
use Rattle.clr_shows.proofs.younger.put_slots.Given as goal

abbrev pub invariant-loop-i : goal.invariant-loop-i
invariant-loop-i l = record {
  text : (m : Machine) → IsViewOf l.view m → l.text.items ≡ l.initial.text.items
      ++ flat_map (younger_line m (object_of l.view l.item)) (younger_below m (object_of l.view l.item) l.i);
  count : (m : Machine) → IsViewOf l.view m → l.count ≡ length (younger_below m (object_of l.view l.item) l.i);
  few : l.count ≤ l.i;
}
