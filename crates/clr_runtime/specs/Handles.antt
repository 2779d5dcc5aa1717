-- What a line that makes a handle takes from the locals.
use Rattle.std.specs.Prelude.{ℕ, List, Option, Some, None, slice_index}
use Rattle.clr_model.specs.Lookups.{local_index}

-- what a local of a thread holds, and null where none is named
abbrev pub held_in : List ℕ → ℕ → Option ℕ → ℕ
held_in locals t None = 0
held_in locals t (Some k) = slice_index locals (local_index t k)
