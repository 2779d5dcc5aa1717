-- A place for a large object within the budget.
use Rattle.std.specs.Prelude.{◌+◌, ◌&&◌, ℕ, Bool, nat_le}
use Rattle.clr_types.specs.declared.segment.SegKind.TheVariants.{Large}
use Rattle.clr_model.specs.Allocation.{has_room_in}
use Rattle.clr_model.specs.Machine.{Machine}

-- there is a place for the size within the budget of large objects
abbrev pub has_place_in_budget : Machine → ℕ → Bool
has_place_in_budget m size =
    nat_le (m.sums.spent_large + size) m.options.bl && has_room_in Large m.layout size
