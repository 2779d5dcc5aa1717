use Rattle.clr_mark.specs.Kinds.{IsRunKind}
use Rattle.clr_bgmark.specs.Closing.{HasFollowedBlack, HasFoundMore, IsAtWork}
use Rattle.clr_bgmark.proofs.ScanEnds.{left_over}
use Rattle.clr_bgmark.proofs.background.Background.scan_all.Given as goal

abbrev pub invariant-loop-known : goal.invariant-loop-known
invariant-loop-known l = record {
  known : IsRunKind l.types l.known;
  work : IsAtWork l.types l.heap l.self;
  more : HasFoundMore l.types l.heap (λ y. ⊥) l.initial.self l.self;
  black : HasFollowedBlack l.types l.heap l.self.shades;
}

abbrev pub decreases-loop-known : goal.decreases-loop-known
decreases-loop-known l = left_over l.types l.heap l.self.shades
