-- Finite maps from numbers, with each value changed.
use Rattle.std.specs.Prelude.{map}
use Rattle.std.specs.Ordering.{nat_cmp}
use Rattle.std.specs.FinMap as finmap

-- the map with each value changed
abbrev pub map_values : {X Y : Type 0} → (X → Y) → finmap.FinMap nat_cmp X → finmap.FinMap nat_cmp Y
map_values f m = finmap.from_sorted (map (λ e. (e.0, f e.1)) (finmap.entries m))
