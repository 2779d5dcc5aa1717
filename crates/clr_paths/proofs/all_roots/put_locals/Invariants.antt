use Rattle.std.proofs.Common.{◌≤◌, take}
use Rattle.std.specs.List.{enumerate_from, flat_map}
use Rattle.clr_model.specs.Looks.{local_root_at}
use Rattle.clr_paths.specs.AllRoots.{node_at, PutsRoots}
use Rattle.clr_paths.proofs.all_roots.put_locals.Given as goal

abbrev pub invariant-loop-i : goal.invariant-loop-i
invariant-loop-i l = record {
  told : PutsRoots l.view (node_at l.numbers.places.items l.ways 0)
      (λ m. flat_map local_root_at (take l.i (enumerate_from 0 m.locals))) l.count l.initial.text.items l.text.items;
  few : l.count ≤ l.i;
}
