use Rattle.clr_fitting.proofs.FitLists.{no_room_later}
use Rattle.clr_fitting.proofs.laws.what_finds_no_room_finds_none_later.Goals as goal

pub returns : goal.returns
returns c = no_room_later
