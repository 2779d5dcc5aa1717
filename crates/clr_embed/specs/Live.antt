-- What a full collection leaves.
use Rattle.clr_types.specs.Rising.{IsIn}
use Rattle.clr_model.specs.Machine.{Machine, Object}
use Rattle.clr_model.specs.Reach.{Live}

-- Each object that is there is reached from the roots: from what locals name, what strong and pinned handles hold, and
-- the queue of objects that wait for their finaliser.
abbrev pub IsAllLive : Machine → Type 0
IsAllLive m = (o : Object) → IsIn o m.objects → Live m o.name
