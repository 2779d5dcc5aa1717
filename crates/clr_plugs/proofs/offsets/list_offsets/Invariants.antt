use Rattle.std.proofs.Common.{◌*◌, take, ◌≤◌}
use Rattle.clr_plugs.specs.Offsets.{AreListed}
use Rattle.clr_plugs.proofs.offsets.list_offsets.Given as goal

abbrev pub invariant-loop-w : goal.invariant-loop-w
invariant-loop-w l = record {
  listed : AreListed l.words (64 * l.w) (take l.count l.into);
  most : l.count ≤ 683;
}
