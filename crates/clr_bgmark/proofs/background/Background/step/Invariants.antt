use Rattle.std.proofs.Common.{◌≡◌, ◌-◌, ◌≤◌, map}
use Rattle.clr_view.specs.View.{objects_in}
use Rattle.clr_mark.specs.Kinds.{IsRunKind}
use Rattle.clr_bgmark.specs.Closing.{without_colours}
use Rattle.clr_bgmark.specs.Shades.{rest_of}
use Rattle.clr_bgmark.specs.Scanning.{AreObjects, HasLogged, HasScanned, HaveWholeObjects, IsCounted}
use Rattle.clr_bgmark.proofs.background.Background.step.Given as goal

abbrev pub invariant-loop-scanned : goal.invariant-loop-scanned
invariant-loop-scanned l = record {
  low : l.scanned ≤ l.n;
  known : IsRunKind l.types l.known;
  rest : rest_of l.self ≡ rest_of l.initial.self;
  taken : map without_colours l.self.shades ≡ map without_colours l.initial.self.shades;
  objects : AreObjects l.types l.heap l.self.shades;
  counted : IsCounted (objects_in l.types l.heap) l.self;
  whole : HaveWholeObjects l.types l.heap l.self.shades;
  log : HasLogged l.types (objects_in l.types l.heap) l.initial.self.shades l.self.shades;
  scans : HasScanned (objects_in l.types l.heap) l.scanned l.initial.self.shades l.scanned l.self.shades;
}

abbrev pub decreases-loop-scanned : goal.decreases-loop-scanned
decreases-loop-scanned l = l.n - l.scanned
