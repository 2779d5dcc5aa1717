use Rattle.std.proofs.Common.{◌≡◌, ◌≤◌, ◌++◌, length}
use Rattle.std.specs.List.{flat_map}
use Rattle.clr_model.specs.Looks.{younger_slots}
use Rattle.clr_model.specs.Machine.{Machine}
use Rattle.clr_model.specs.Sos.{bytes_in}
use Rattle.clr_sos.specs.Views.{IsViewOf}
use Rattle.clr_shows.specs.Younger.{objects_of, younger_lines}
use Rattle.clr_shows.proofs.younger.ephrefs.Given as goal

abbrev pub invariant-loop-item : goal.invariant-loop-item
invariant-loop-item l = record {
  walked : l.yielded ++ l.item-iterator ≡ l.initial.item-iterator;
  text : (m : Machine) → IsViewOf l.view m → l.text.items ≡ younger_lines m (objects_of l.view l.yielded);
  count : (m : Machine) → IsViewOf l.view m
      → l.count ≡ length (flat_map (younger_slots m) (objects_of l.view l.yielded));
  few : l.count ≤ bytes_in l.yielded;
}
