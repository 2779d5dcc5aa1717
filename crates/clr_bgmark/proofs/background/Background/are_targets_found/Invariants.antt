use Rattle.std.proofs.Common.{◌≡◌, ℕ, ◌-◌, ◌<◌, ◌≤◌, Some}
use Rattle.std.specs.FinMap as finmap
use Rattle.clr_types.specs.declared.handle.Handle.{Handle}
use Rattle.clr_bgmark.specs.Closing.{IsNullOrFound}
use Rattle.clr_bgmark.proofs.background.Background.are_targets_found.Given as goal

abbrev pub invariant-loop-h : goal.invariant-loop-h
invariant-loop-h l = record {
  found : (k : ℕ) (row : Handle) → k < l.from → finmap.get l.handles k ≡ Some row
      → IsNullOrFound l.self.shades row.target × IsNullOrFound l.self.shades row.second;
  most : l.from ≤ 65536;
}

abbrev pub decreases-loop-h : goal.decreases-loop-h
decreases-loop-h l = 65536 - l.from
